-- What is read fits: its numbers are of the profile, its lists are not empty, and it has no more levels than allowed.
use Rattle.std.proofs.Common.{◌≡◌, ℕ, zero, suc, ◌<◌, ◌≤◌, ◌+◌, ◌^◌, true, false, List, [], ◌∷◌, ◌++◌, length, drop, Option, Some, None, pos, neg_ℤ, arith}
use Rattle.std.proofs.lemmas.List.{length-append}
use Rattle.std.proofs.lemmas.Bool.Decides.{nat_tests}
use Rattle.std.specs.Prelude.{IfSome, ◌&&◌, nat_lt, nat_le}
use Rattle.std.specs.List.{AllByRecursion}
use Rattle.asn_limits.specs.Limits.{highest_number}
use Rattle.asn_notation.specs.declared.token.Word.{Word}
use Rattle.asn_notation.specs.declared.token.Word.TheVariants as words
use Rattle.asn_notation.specs.declared.token.Sign.TheVariants as signs
use Rattle.asn_notation.specs.declared.notation.ListSize.TheVariants as list_size
use Rattle.asn_notation.specs.declared.notation.Constraint.TheVariants as constraint
use Rattle.asn_notation.specs.declared.notation.StringKind.{StringKind}
use Rattle.asn_notation.specs.declared.notation.StringKind.TheVariants as string_kind
use Rattle.asn_notation.specs.Token.{Token, identifier, name, word, out_of_profile, number, negative, too_large, sign, illegal}
use Rattle.asn_notation.specs.Tree as t
use Rattle.asn_notation.specs.Tree.{Tree, Components, More, Item, Need, Part, Branch, Assignment, components_of, more_of, alternatives_of, more_alternatives_of}
use Rattle.asn_notation.specs.Reading.{Read, ◌>>=◌, begins_sign, begins_word, after_sign, after_word, identifier_at, number_at, int_at, mark_at, high_at, limits_at, range_after_paren, range_at, size_end_at, size_at, size_after_paren, size_con_at, list_size_at, constraint_at, goes_on, others, all_others, addition_list, marked_list, item_number_at, item_at, named_default_at, default_at, need_at, component_at, body_at, sequence_at, alternative_at, choice_at, enumerated_at, text_at, type_after_word, type_at}
use Rattle.asn_notation.specs.ModuleReading.{name_at, assignment_at, more_assignments}
use Rattle.asn_notation.specs.Fitting.{IsInt, AreLimits, IsSizeEnd, IsSize, IsListSize, IsConstraint, IsItem, IsDefault, IsNeed, IsTree, AreComponents, AreMore, HasAlternative, AreAlternatives, AreMoreAlternatives}
use Rattle.asn_notation.proofs.Sound.{Is, none, now, bind, test, weaker}

-- nothing is said of a step
anything : {A : Type 0} (r : Option A) → Is r (λ x. Unit {0})
anything None = none _
anything (Some x) = now _ x tt

small_is : (n : ℕ) → nat_lt n (highest_number + 1) ≡ true → n < highest_number + 1
small_is n e = grind (arith, nat_tests)

negative_is : (n : ℕ) → (nat_lt 0 n && nat_le n (2 ^ 63)) ≡ true → IsInt (neg_ℤ (pos n))
negative_is zero e = omega arith
negative_is (suc n) e = least n e
  where
    least : (n : ℕ) → (nat_lt 0 (suc n) && nat_le (suc n) (2 ^ 63)) ≡ true → n < 2 ^ 63
    least n e = grind (arith, nat_tests)

int_fits : (ts : List Token) → Is (int_at ts) (λ p. IsInt p.0)
unfolding int_at
int_fits [] = none _
int_fits (identifier x ∷ ts) = none _
int_fits (name x ∷ ts) = none _
int_fits (word w ∷ ts) = none _
int_fits (out_of_profile ∷ ts) = none _
int_fits (number n ∷ ts) = test _ (nat_lt n (highest_number + 1)) (Some (pos n, ts)) None (λ e. now _ _ (small_is n e)) (λ big. none _)
int_fits (negative n ∷ ts) = test _ (nat_lt 0 n && nat_le n (2 ^ 63)) (Some (neg_ℤ (pos n), ts)) None (λ e. now _ _ (negative_is n e)) (λ big. none _)
int_fits (too_large ∷ ts) = none _
int_fits (sign s ∷ ts) = none _
int_fits (illegal ∷ ts) = none _

number_fits : (ts : List Token) → Is (number_at ts) (λ p. p.0 < highest_number + 1)
unfolding number_at
number_fits [] = none _
number_fits (identifier x ∷ ts) = none _
number_fits (name x ∷ ts) = none _
number_fits (word w ∷ ts) = none _
number_fits (out_of_profile ∷ ts) = none _
number_fits (number n ∷ ts) = test _ (nat_lt n (highest_number + 1)) (Some (n, ts)) None (λ e. now _ _ (small_is n e)) (λ big. none _)
number_fits (negative n ∷ ts) = none _
number_fits (too_large ∷ ts) = none _
number_fits (sign s ∷ ts) = none _
number_fits (illegal ∷ ts) = none _

high_fits : (ts : List Token) → Is (high_at ts) (λ p. IfSome p.0 IsInt)
unfolding high_at
high_fits ts = test _ (begins_word words.Max ts) _ _ (λ max. now _ _ tt) (λ other. bind _ _ _ _ (int_fits ts) (λ z h. now _ _ h))

limits_fit : (ts : List Token) → Is (limits_at ts) (λ p. AreLimits p.0)
unfolding limits_at
limits_fit ts =
    test _ (begins_word words.Min ts) _ _
    (λ min. bind _ _ _ _ (anything (after_sign signs.UpTo (drop 1 ts))) (λ rest any. bind _ _ _ _ (high_fits rest) (λ high h. now _ _ (tt, h))))
    (λ other. bind _ _ _ _ (int_fits ts) (λ low l. test _ (begins_sign signs.UpTo low.1) _ _ (λ up. bind _ _ _ _ (high_fits (drop 1 low.1)) (λ high h. now _ _ (l, h))) (λ one. now _ _ l)))

range_after_paren_fits : (ts : List Token) → Is (range_after_paren ts) (λ p. AreLimits p.0.limits)
unfolding range_after_paren
range_after_paren_fits ts =
    bind _ _ _ _ (limits_fit ts) (λ limits h.
    bind _ _ _ _ (anything (mark_at limits.1)) (λ mark any.
    bind _ _ _ _ (anything (after_sign signs.RightParen mark.1)) (λ rest any. now _ _ h)))

range_fits : (ts : List Token) → Is (range_at ts) (λ p. IfSome p.0 (λ r. AreLimits r.limits))
unfolding range_at
range_fits ts = test _ (begins_sign signs.LeftParen ts) _ _ (λ left. bind _ _ _ _ (range_after_paren_fits (drop 1 ts)) (λ r h. now _ _ h)) (λ other. now _ _ tt)

size_end_fits : (ts : List Token) → Is (size_end_at ts) (λ p. IsSizeEnd p.0)
unfolding size_end_at
size_end_fits ts = test _ (begins_sign signs.UpTo ts) _ _ (λ up. test _ (begins_word words.Max (drop 1 ts)) _ _ (λ max. now _ _ tt) (λ other. bind _ _ _ _ (number_fits (drop 1 ts)) (λ n h. now _ _ h))) (λ other. now _ _ tt)

size_fits : (ts : List Token) → Is (size_at ts) (λ p. IsSize p.0)
unfolding size_at
size_fits ts =
    bind _ _ _ _ (anything (after_word words.Size ts)) (λ a any.
    bind _ _ _ _ (anything (after_sign signs.LeftParen a)) (λ b any.
    bind _ _ _ _ (number_fits b) (λ low l.
    bind _ _ _ _ (size_end_fits low.1) (λ high h.
    bind _ _ _ _ (anything (mark_at high.1)) (λ mark any.
    bind _ _ _ _ (anything (after_sign signs.RightParen mark.1)) (λ rest any. now _ _ (l, h)))))))

size_after_paren_fits : (ts : List Token) → Is (size_after_paren ts) (λ p. IsSize p.0)
unfolding size_after_paren
size_after_paren_fits ts = bind _ _ _ _ (size_fits ts) (λ size h. bind _ _ _ _ (anything (after_sign signs.RightParen size.1)) (λ rest any. now _ _ h))

size_con_fits : (ts : List Token) → Is (size_con_at ts) (λ p. IfSome p.0 IsSize)
unfolding size_con_at
size_con_fits ts = test _ (begins_sign signs.LeftParen ts) _ _ (λ left. bind _ _ _ _ (size_after_paren_fits (drop 1 ts)) (λ s h. now _ _ h)) (λ other. now _ _ tt)

list_size_fits : (ts : List Token) → Is (list_size_at ts) (λ p. IsListSize p.0)
unfolding list_size_at
list_size_fits ts =
    test _ (begins_sign signs.LeftParen ts) _ _ (λ left. bind _ _ _ _ (size_after_paren_fits (drop 1 ts)) (λ s h. now _ _ h))
    (λ other. test _ (begins_word words.Size ts) (size_at ts >>= (λ s. Some (list_size.Bare s.0, s.1))) (Some (list_size.Any, ts)) (λ size. bind _ _ _ _ (size_fits ts) (λ s h. now _ _ h)) (λ any. now _ _ tt))

constraint_fits : (ts : List Token) → Is (constraint_at ts) (λ p. IsConstraint p.0)
unfolding constraint_at
constraint_fits ts =
    test _ (begins_sign signs.LeftParen ts) _ _
    (λ left. test _ (begins_word words.Size (drop 1 ts)) (size_after_paren (drop 1 ts) >>= (λ s. Some (constraint.Size s.0, s.1))) (range_after_paren (drop 1 ts) >>= (λ r. Some (constraint.Range r.0, r.1)))
    (λ size. bind _ _ _ _ (size_after_paren_fits (drop 1 ts)) (λ s h. now _ _ h)) (λ range. bind _ _ _ _ (range_after_paren_fits (drop 1 ts)) (λ r h. now _ _ h)))
    (λ other. now _ _ tt)

-- ---- lists

all_push : {A : Type 0} (P : A → Type 0) (xs : List A) (x : A) → AllByRecursion P xs → P x → AllByRecursion P (xs ++ x ∷ [])
all_push P [] x all h = (h, tt)
all_push P (y ∷ ys) x all h = (all.0, all_push P ys x all.1 h)

-- a list is no shorter than what was found before
longer : {A : Type 0} (xs ys : List A) (x : A) (all : List A) → all ≡ (x ∷ xs) ++ ys → 0 < length all
longer xs ys x all e = rw e (omega arith)

module _ {A : Type 0} (one : Read A) (P : A → Type 0) (fits : (ts : List Token) → Is (one ts) (λ p. P p.0)) where
  others_fit : (n : ℕ) (found : List A) (ts : List Token) → AllByRecursion P found → Is (others one n found ts) (λ p. AllByRecursion P p.0 × (length found ≤ length p.0))
  unfolding others
  others_fit zero found ts all = none _
  others_fit (suc n) found ts all =
      test _ (goes_on ts) _ _
      (λ on. bind _ _ _ _ (fits (drop 1 ts)) (λ x h. weaker _ _ _ (others_fit n (found ++ x.0 ∷ []) x.1 (all_push P found x.0 all h)) (λ p q. (q.0, shorter found x.0 p.0 q.1))))
      (λ stop. now _ _ (all, omega arith))
    where
      shorter : (found : List A) (x : A) (all : List A) → length (found ++ x ∷ []) ≤ length all → length found ≤ length all
      shorter found x all h = omega (arith, h, length-append found (x ∷ []))

  additions_fit : (ts : List Token) → Is (addition_list one ts) (λ p. IfSome p.0 (AllByRecursion P))
  unfolding addition_list all_others
  additions_fit ts =
      test _ (begins_sign signs.Comma ts) _ _
      (λ comma. bind _ _ _ _ (anything (after_sign signs.Dots (drop 1 ts))) (λ dots any.
      bind _ _ _ _ (others_fit (suc (length dots)) [] dots tt) (λ found h.
      bind _ _ _ _ (anything (after_sign signs.RightBrace found.1)) (λ rest any. now _ _ h.0))))
      (λ other. bind _ _ _ _ (anything (after_sign signs.RightBrace ts)) (λ rest any. now _ _ tt))

  marked_fit : (ts : List Token) → Is (marked_list one ts) (λ p. (0 < length p.0.0) × AllByRecursion P p.0.0 × IfSome p.0.1 (AllByRecursion P))
  unfolding marked_list all_others
  marked_fit ts =
      bind _ _ _ _ (fits ts) (λ first h.
      bind _ _ _ _ (others_fit (suc (length first.1)) (first.0 ∷ []) first.1 (h, tt)) (λ root r.
      bind _ _ _ _ (additions_fit root.1) (λ more m. now _ _ (omega (arith, r.1), r.0, m))))

-- ---- items and components

item_number_fits : (ts : List Token) → Is (item_number_at ts) (λ p. IfSome p.0 IsInt)
unfolding item_number_at
item_number_fits ts =
    test _ (begins_sign signs.LeftParen ts) _ _ (λ left. bind _ _ _ _ (int_fits (drop 1 ts)) (λ z h. bind _ _ _ _ (anything (after_sign signs.RightParen z.1)) (λ rest any. now _ _ h))) (λ other. now _ _ tt)

item_fits : (ts : List Token) → Is (item_at ts) (λ p. IsItem p.0)
unfolding item_at
item_fits ts = bind _ _ _ _ (anything (identifier_at ts)) (λ n any. bind _ _ _ _ (item_number_fits n.1) (λ z h. now _ _ h))

named_default_fits : (ts : List Token) → Is (named_default_at ts) (λ p. IsDefault p.0)
unfolding named_default_at
named_default_fits [] = none _
named_default_fits (identifier x ∷ ts) = now _ _ tt
named_default_fits (name x ∷ ts) = none _
named_default_fits (word w ∷ ts) = none _
named_default_fits (out_of_profile ∷ ts) = none _
named_default_fits (number n ∷ ts) = bind _ _ (int_at (number n ∷ ts)) (λ z. Some (t.number z.0, z.1)) (int_fits (number n ∷ ts)) (λ z h. now _ _ h)
named_default_fits (negative n ∷ ts) = bind _ _ (int_at (negative n ∷ ts)) (λ z. Some (t.number z.0, z.1)) (int_fits (negative n ∷ ts)) (λ z h. now _ _ h)
named_default_fits (too_large ∷ ts) = none _
named_default_fits (sign s ∷ ts) = none _
named_default_fits (illegal ∷ ts) = none _

default_fits : (ts : List Token) → Is (default_at ts) (λ p. IsDefault p.0)
unfolding default_at
default_fits ts = test _ (begins_word words.True ts) _ _ (λ yes. now _ _ tt) (λ other. test _ (begins_word words.False ts) (Some (t.truth false, drop 1 ts)) (named_default_at ts) (λ no. now _ _ tt) (λ more. named_default_fits ts))

need_fits : (ts : List Token) → Is (need_at ts) (λ p. IsNeed p.0)
unfolding need_at
need_fits ts =
    test _ (begins_word words.Optional ts) _ _ (λ optional. now _ _ tt)
    (λ other. test _ (begins_word words.Default ts) (default_at (drop 1 ts) >>= (λ d. Some (t.default d.0, d.1))) (Some (t.must, ts)) (λ default. bind _ _ _ _ (default_fits (drop 1 ts)) (λ d h. now _ _ h)) (λ must. now _ _ tt))

-- ---- types

abbrev IsPart : ℕ → Part → Type 0
IsPart levels p = IsTree p.tree levels × IsNeed p.need

parts_fit : (levels : ℕ) (ps : List Part) → AllByRecursion (IsPart levels) ps → AreComponents (components_of ps) levels
unfolding IsTree
parts_fit levels [] all = tt
parts_fit levels (p ∷ ps) all = (all.0.0, all.0.1, parts_fit levels ps all.1)

more_fits : (levels : ℕ) (o : Option (List Part)) → IfSome o (AllByRecursion (IsPart levels)) → AreMore (more_of o) levels
unfolding IsTree
more_fits levels None all = tt
more_fits levels (Some ps) all = parts_fit levels ps all

some_alternative : (bs : List Branch) → 0 < length bs → HasAlternative (alternatives_of bs)
some_alternative [] some = omega arith
some_alternative (b ∷ bs) some = tt

branches_fit : (levels : ℕ) (bs : List Branch) → AllByRecursion (λ b. IsTree b.tree levels) bs → AreAlternatives (alternatives_of bs) levels
unfolding IsTree
branches_fit levels [] all = tt
branches_fit levels (b ∷ bs) all = (all.0, branches_fit levels bs all.1)

more_branches_fit : (levels : ℕ) (o : Option (List Branch)) → IfSome o (AllByRecursion (λ b. IsTree b.tree levels)) → AreMoreAlternatives (more_alternatives_of o) levels
unfolding IsTree
more_branches_fit levels None all = tt
more_branches_fit levels (Some bs) all = branches_fit levels bs all

module _ (levels : ℕ) (type_at : Read Tree) (type_fits : (ts : List Token) → Is (type_at ts) (λ p. IsTree p.0 levels)) where
  component_fits : (ts : List Token) → Is (component_at type_at ts) (λ p. IsPart levels p.0)
  unfolding component_at
  component_fits ts =
      bind _ _ _ _ (anything (identifier_at ts)) (λ n any.
      bind _ _ _ _ (type_fits n.1) (λ inner h.
      bind _ _ _ _ (need_fits inner.1) (λ need d. now _ _ (h, d))))

  body_fits : (ts : List Token) → Is (body_at type_at ts) (λ p. IsTree p.0 (suc levels))
  unfolding body_at all_others IsTree
  body_fits ts =
      test _ (begins_sign signs.RightBrace ts) _ _ (λ brace. now _ _ (tt, tt))
      (λ other. test _ (begins_sign signs.Dots ts) _ (marked_list (component_at type_at) ts >>= (λ l. Some (t.sequence (components_of l.0.0) (more_of l.0.1), l.1)))
      (λ dots. bind _ _ _ _ (others_fit (component_at type_at) (IsPart levels) component_fits (suc (length (drop 1 ts))) [] (drop 1 ts) tt) (λ found h.
      bind _ _ _ _ (anything (after_sign signs.RightBrace found.1)) (λ rest any. now _ _ (tt, parts_fit levels found.0 h.0))))
      (λ root. bind _ _ _ _ (marked_fit (component_at type_at) (IsPart levels) component_fits ts) (λ l h. now _ _ (parts_fit levels l.0.0 h.1, more_fits levels l.0.1 h.2))))

  sequence_fits : (ts : List Token) → Is (sequence_at type_at ts) (λ p. IsTree p.0 (suc levels))
  unfolding sequence_at IsTree
  sequence_fits ts =
      test _ (begins_sign signs.LeftBrace ts) _ _ (λ brace. body_fits (drop 1 ts))
      (λ other. bind _ _ _ _ (list_size_fits ts) (λ size s.
      bind _ _ _ _ (anything (after_word words.Of size.1)) (λ of any.
      bind _ _ _ _ (type_fits of) (λ element e. now _ _ (s, e)))))

  alternative_fits : (ts : List Token) → Is (alternative_at type_at ts) (λ p. IsTree p.0.tree levels)
  unfolding alternative_at
  alternative_fits ts =
      bind _ _ _ _ (anything (identifier_at ts)) (λ n any.
      bind _ _ _ _ (type_fits n.1) (λ inner h. now _ _ h))

  choice_fits : (ts : List Token) → Is (choice_at type_at ts) (λ p. IsTree p.0 (suc levels))
  unfolding choice_at IsTree
  choice_fits ts =
      bind _ _ _ _ (anything (after_sign signs.LeftBrace ts)) (λ alternatives any.
      bind _ _ _ _ (marked_fit (alternative_at type_at) (λ b. IsTree b.tree levels) alternative_fits alternatives) (λ l h.
      now _ _ (some_alternative l.0.0 h.0, branches_fit levels l.0.0 h.1, more_branches_fit levels l.0.1 h.2)))

  text_fits : (kind : StringKind) (ts : List Token) → Is (text_at kind ts) (λ p. IsTree p.0 (suc levels))
  unfolding text_at IsTree
  text_fits kind ts = bind _ _ _ _ (size_con_fits ts) (λ s h. now _ _ h)

  word_type_fits : (w : Word) (ts : List Token) → Is (type_after_word type_at w ts) (λ p. IsTree p.0 (suc levels))
  unfolding type_after_word enumerated_at IsTree
  word_type_fits words.Automatic ts = none _
  word_type_fits words.Begin ts = none _
  word_type_fits words.Bit ts = bind _ _ _ _ (anything (after_word words.String ts)) (λ rest any. text_fits string_kind.Bits rest)
  word_type_fits words.Boolean ts = now _ _ tt
  word_type_fits words.Choice ts = choice_fits ts
  word_type_fits words.Default ts = none _
  word_type_fits words.Definitions ts = none _
  word_type_fits words.End ts = none _
  word_type_fits words.Enumerated ts = bind _ _ _ _ (anything (after_sign signs.LeftBrace ts)) (λ items any. bind _ _ _ _ (marked_fit item_at IsItem item_fits items) (λ l h. now _ _ h))
  word_type_fits words.False ts = none _
  word_type_fits words.Ia5String ts = text_fits string_kind.Ia5 ts
  word_type_fits words.Integer ts = bind _ _ _ _ (range_fits ts) (λ r h. now _ _ h)
  word_type_fits words.Max ts = none _
  word_type_fits words.Min ts = none _
  word_type_fits words.Null ts = now _ _ tt
  word_type_fits words.NumericString ts = text_fits string_kind.Numeric ts
  word_type_fits words.Octet ts = bind _ _ _ _ (anything (after_word words.String ts)) (λ rest any. text_fits string_kind.Octets rest)
  word_type_fits words.Of ts = none _
  word_type_fits words.Optional ts = none _
  word_type_fits words.Sequence ts = sequence_fits ts
  word_type_fits words.Size ts = none _
  word_type_fits words.String ts = none _
  word_type_fits words.Tags ts = none _
  word_type_fits words.True ts = none _
  word_type_fits words.Utf8String ts = now _ _ tt
  word_type_fits words.VisibleString ts = text_fits string_kind.Visible ts

pub type_fits : (levels : ℕ) (ts : List Token) → Is (type_at levels ts) (λ p. IsTree p.0 levels)
unfolding type_at IsTree
type_fits zero ts = none _
type_fits (suc levels) [] = none _
type_fits (suc levels) (identifier x ∷ ts) = none _
type_fits (suc levels) (name x ∷ ts) = bind _ _ (constraint_at ts) (λ c. Some (t.reference x c.0, c.1)) (constraint_fits ts) (λ c h. now _ _ h)
type_fits (suc levels) (word w ∷ ts) = word_type_fits levels (type_at levels) (type_fits levels) w ts
type_fits (suc levels) (out_of_profile ∷ ts) = none _
type_fits (suc levels) (number n ∷ ts) = none _
type_fits (suc levels) (negative n ∷ ts) = none _
type_fits (suc levels) (too_large ∷ ts) = none _
type_fits (suc levels) (sign s ∷ ts) = none _
type_fits (suc levels) (illegal ∷ ts) = none _

-- ---- a module

assignment_fits : (levels : ℕ) (ts : List Token) → Is (assignment_at levels ts) (λ p. IsTree p.0.tree levels)
unfolding assignment_at
assignment_fits levels ts =
    bind _ _ _ _ (anything (name_at ts)) (λ n any.
    bind _ _ _ _ (anything (after_sign signs.Becomes n.1)) (λ rest any.
    bind _ _ _ _ (type_fits levels rest) (λ ty h. now _ _ h)))

pub assignments_fit : (levels n : ℕ) (found : List Assignment) (ts : List Token) → AllByRecursion (λ a. IsTree a.tree levels) found
    → Is (more_assignments levels n found ts) (λ p. AllByRecursion (λ a. IsTree a.tree levels) p.0)
unfolding more_assignments
assignments_fit levels zero found ts all = none _
assignments_fit levels (suc n) found ts all =
    test _ (begins_word words.End ts) _ _
    (λ stop. now _ _ all)
    (λ more. bind _ _ _ _ (assignment_fits levels ts) (λ a h. assignments_fit levels n (found ++ a.0 ∷ []) a.1 (all_push (λ a. IsTree a.tree levels) found a.0 all h)))
