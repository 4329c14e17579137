-- What is read is written so: for each production, what it takes is what its tree is written as.
use Rattle.std.proofs.Common.{◌≡◌, ℕ, zero, suc, ◌<◌, ◌+◌, ◌^◌, Bool, true, false, not, cond, List, [], ◌∷◌, ◌++◌, length, drop, Option, Some, None, pos, neg_ℤ, refl, sym, ap, ◌∙◌, append_assoc, arith}
use Rattle.std.proofs.lemmas.List.{append-nil}
use Rattle.std.specs.Prelude.{IfSome, ◌&&◌, nat_lt, nat_le}
use denote.Enum.Bare.{same_true}
use Rattle.asn_limits.specs.Limits.{highest_number}
use Rattle.asn_notation.specs.contracts.token.Word as word_type
use Rattle.asn_notation.specs.contracts.token.Sign as sign_type
use Rattle.asn_notation.specs.declared.token.Word.{Word}
use Rattle.asn_notation.specs.declared.token.Sign.{Sign}
use Rattle.asn_notation.specs.declared.token.Word.TheVariants as words
use Rattle.asn_notation.specs.declared.token.Sign.TheVariants as signs
use Rattle.asn_notation.specs.declared.notation.ListSize.TheVariants as list_size
use Rattle.asn_notation.specs.declared.notation.Constraint.TheVariants as constraint
use Rattle.std.proofs.lemmas.Bool.Decides.{nat_tests}
use Rattle.asn_notation.specs.Token.{Token, identifier, name, word, out_of_profile, number, negative, too_large, sign, illegal}
use Rattle.asn_notation.specs.Tree as t
use Rattle.asn_notation.specs.Tree.{Tree, Item, Need, Part, Branch, Assignment, components_of, more_of, alternatives_of, more_alternatives_of}
use Rattle.asn_notation.specs.Reading.{Read, ◌>>=◌, begins_sign, begins_word, after_sign, after_word, identifier_at, number_at, int_at, mark_at, high_at, limits_at, range_after_paren, range_at, size_end_at, size_at, size_after_paren, size_con_at, list_size_at, constraint_at, goes_on, others, all_others, addition_list, marked_list, item_number_at, item_at, named_default_at, default_at, need_at}
use Rattle.asn_notation.specs.Grammar as g

-- ---- a fact of what is read

-- r has no value, or one of which P holds
pub record Is {A : Type 0} (r : Option A) (P : A → Type 0) : Type 0 where
  pub holds : IfSome r P

pub none : {A : Type 0} (P : A → Type 0) → Is {A = A} None P
none P = record { holds = tt }

pub now : {A : Type 0} (P : A → Type 0) (x : A) → P x → Is (Some x) P
now P x h = record { holds = h }

-- first one step, and then another
pub bind : {A B : Type 0} (P : A → Type 0) (Q : B → Type 0) (r : Option A) (f : A → Option B) → Is r P → ((x : A) → P x → Is (f x) Q) → Is (r >>= f) Q
bind P Q None f p q = none Q
bind P Q (Some x) f p q = q x p.holds

pub test : {B : Type 0} (Q : B → Type 0) (b : Bool) (x y : Option B) → (b ≡ true → Is x Q) → (b ≡ false → Is y Q) → Is (cond b x y) Q
test Q true x y t f = t refl
test Q false x y t f = f refl

pub weaker : {B : Type 0} (P Q : B → Type 0) (r : Option B) → Is r P → ((x : B) → P x → Q x) → Is r Q
weaker P Q None p f = none Q
weaker P Q (Some x) p f = now Q x (f x p.holds)

-- what a reader takes from the start is what is written for its value
abbrev pub Takes : {A : Type 0} → (A → List Token) → List Token → Option (A × List Token) → Type 0
Takes written ts r = Is r (λ p. ts ≡ written p.0 ++ p.1)

pub put : (one : Token) (x y : List Token) → x ≡ y → one ∷ x ≡ one ∷ y
put one x y e = ap (λ (z : List Token). one ∷ z) e

pub join : (w x y : List Token) → x ≡ y → w ++ x ≡ w ++ y
join w x y e = ap (λ (z : List Token). w ++ z) e

-- ---- single tokens

pub begins_sign_is : (s : Sign) (ts : List Token) → begins_sign s ts ≡ true → ts ≡ sign s ∷ drop 1 ts
unfolding begins_sign
begins_sign_is s [] e = absurd cc
begins_sign_is s (identifier x ∷ ts) e = absurd cc
begins_sign_is s (name x ∷ ts) e = absurd cc
begins_sign_is s (word w ∷ ts) e = absurd cc
begins_sign_is s (out_of_profile ∷ ts) e = absurd cc
begins_sign_is s (number n ∷ ts) e = absurd cc
begins_sign_is s (negative n ∷ ts) e = absurd cc
begins_sign_is s (too_large ∷ ts) e = absurd cc
begins_sign_is s (sign u ∷ ts) e = ap (λ (v : Sign). sign v ∷ ts) (same_true sign_type.the_type tt u s e)
begins_sign_is s (illegal ∷ ts) e = absurd cc

pub begins_word_is : (w : Word) (ts : List Token) → begins_word w ts ≡ true → ts ≡ word w ∷ drop 1 ts
unfolding begins_word
begins_word_is w [] e = absurd cc
begins_word_is w (identifier x ∷ ts) e = absurd cc
begins_word_is w (name x ∷ ts) e = absurd cc
begins_word_is w (word v ∷ ts) e = ap (λ (u : Word). word u ∷ ts) (same_true word_type.the_type tt v w e)
begins_word_is w (out_of_profile ∷ ts) e = absurd cc
begins_word_is w (number n ∷ ts) e = absurd cc
begins_word_is w (negative n ∷ ts) e = absurd cc
begins_word_is w (too_large ∷ ts) e = absurd cc
begins_word_is w (sign u ∷ ts) e = absurd cc
begins_word_is w (illegal ∷ ts) e = absurd cc

pub after_sign_takes : (s : Sign) (ts : List Token) → Is (after_sign s ts) (λ rest. ts ≡ sign s ∷ rest)
unfolding after_sign
after_sign_takes s ts = test _ _ _ _ (λ e. now _ _ (begins_sign_is s ts e)) (λ e. none _)

pub after_word_takes : (w : Word) (ts : List Token) → Is (after_word w ts) (λ rest. ts ≡ word w ∷ rest)
unfolding after_word
after_word_takes w ts = test _ _ _ _ (λ e. now _ _ (begins_word_is w ts e)) (λ e. none _)

neg_written : (n : ℕ) → 0 < n → g.int (neg_ℤ (pos n)) ≡ negative n ∷ []
neg_written zero some = absurd (omega arith)
neg_written (suc n) some = refl

both_true : (a b : Bool) → (a && b) ≡ true → (a ≡ true) × (b ≡ true)
both_true true b e = (refl, e)
both_true false b e = absurd cc

above : (n : ℕ) → nat_lt 0 n ≡ true → 0 < n
above n e = grind (arith, nat_tests)

pub int_takes : (ts : List Token) → Takes g.int ts (int_at ts)
unfolding int_at
int_takes [] = none _
int_takes (identifier x ∷ ts) = none _
int_takes (name x ∷ ts) = none _
int_takes (word w ∷ ts) = none _
int_takes (out_of_profile ∷ ts) = none _
int_takes (number n ∷ ts) = test _ (nat_lt n (highest_number + 1)) (Some (pos n, ts)) None (λ small. now _ _ refl) (λ big. none _)
int_takes (negative n ∷ ts) =
    test _ (nat_lt 0 n && nat_le n (2 ^ 63)) (Some (neg_ℤ (pos n), ts)) None
    (λ fits. let some : 0 < n = above n (both_true (nat_lt 0 n) (nat_le n (2 ^ 63)) fits).0 in now _ _ (rw (neg_written n some) refl)) (λ big. none _)
int_takes (too_large ∷ ts) = none _
int_takes (sign s ∷ ts) = none _
int_takes (illegal ∷ ts) = none _

pub number_takes : (ts : List Token) → Takes (λ n. number n ∷ []) ts (number_at ts)
unfolding number_at
number_takes [] = none _
number_takes (identifier x ∷ ts) = none _
number_takes (name x ∷ ts) = none _
number_takes (word w ∷ ts) = none _
number_takes (out_of_profile ∷ ts) = none _
number_takes (number n ∷ ts) = test _ _ _ _ (λ small. now _ _ refl) (λ big. none _)
number_takes (negative n ∷ ts) = none _
number_takes (too_large ∷ ts) = none _
number_takes (sign s ∷ ts) = none _
number_takes (illegal ∷ ts) = none _

pub identifier_takes : (ts : List Token) → Takes (λ s. identifier s ∷ []) ts (identifier_at ts)
unfolding identifier_at
identifier_takes [] = none _
identifier_takes (identifier x ∷ ts) = now _ _ refl
identifier_takes (name x ∷ ts) = none _
identifier_takes (word w ∷ ts) = none _
identifier_takes (out_of_profile ∷ ts) = none _
identifier_takes (number n ∷ ts) = none _
identifier_takes (negative n ∷ ts) = none _
identifier_takes (too_large ∷ ts) = none _
identifier_takes (sign s ∷ ts) = none _
identifier_takes (illegal ∷ ts) = none _

-- ---- ranges

pub mark_takes : (ts : List Token) → Takes g.mark ts (mark_at ts)
unfolding mark_at
mark_takes ts =
    test _ _ _ _
    (λ comma. bind _ _ _ _ (after_sign_takes signs.Dots (drop 1 ts)) (λ rest dots. now _ _ (begins_sign_is signs.Comma ts comma ∙ put g.comma _ _ dots)))
    (λ other. now _ _ refl)

pub high_takes : (ts : List Token) → Takes g.high_end ts (high_at ts)
unfolding high_at
high_takes ts =
    test _ _ _ _ (λ max. now _ _ (begins_word_is words.Max ts max))
    (λ other. bind _ _ _ _ (int_takes ts) (λ z e. now _ _ e))

pub limits_take : (ts : List Token) → Takes g.limits ts (limits_at ts)
unfolding limits_at
limits_take ts =
    test _ _ _ _
    (λ min. bind _ _ _ _ (after_sign_takes signs.UpTo (drop 1 ts)) (λ rest up.
    bind _ _ _ _ (high_takes rest) (λ high e.
    now _ _ (begins_word_is words.Min ts min ∙ put (word words.Min) _ _ (up ∙ put g.up_to _ _ e)))))
    (λ other. bind _ _ _ _ (int_takes ts) (λ low front.
    test _ _ _ _
    (λ up. bind _ _ _ _ (high_takes (drop 1 low.1)) (λ high e.
    now _ _ (front ∙ join (g.int low.0) _ _ (begins_sign_is signs.UpTo low.1 up ∙ put g.up_to _ _ e) ∙ sym (append_assoc (g.int low.0) (g.up_to ∷ g.high_end high.0) high.1))))
    (λ one. now _ _ front)))

pub range_after_paren_takes : (ts : List Token) → Is (range_after_paren ts) (λ p. g.left ∷ ts ≡ g.range p.0 ++ p.1)
unfolding range_after_paren
range_after_paren_takes ts =
    bind _ _ _ _ (limits_take ts) (λ limits a.
    bind _ _ _ _ (mark_takes limits.1) (λ mark b.
    bind _ _ _ _ (after_sign_takes signs.RightParen mark.1) (λ rest d.
    now _ _ (put g.left _ _ (a ∙ join (g.limits limits.0) _ _ (b ∙ join (g.mark mark.0) _ _ d) ∙ simp append_assoc)))))

pub range_takes : (ts : List Token) → Takes (g.maybe g.range) ts (range_at ts)
unfolding range_at
range_takes ts =
    test _ _ _ _
    (λ left. bind _ _ _ _ (range_after_paren_takes (drop 1 ts)) (λ r e. now _ _ (begins_sign_is signs.LeftParen ts left ∙ e)))
    (λ other. now _ _ refl)

-- ---- sizes

drop_two : (ts : List Token) → drop 1 (drop 1 ts) ≡ drop 2 ts
drop_two [] = refl
drop_two (a ∷ []) = refl
drop_two (a ∷ b ∷ ts) = refl

pub size_end_takes : (ts : List Token) → Takes g.size_end ts (size_end_at ts)
unfolding size_end_at
size_end_takes ts =
    test _ _ _ _
    (λ up. test _ _ _ _
    (λ max. now _ _ (begins_sign_is signs.UpTo ts up ∙ put g.up_to _ _ (begins_word_is words.Max (drop 1 ts) max ∙ put (word words.Max) _ _ (drop_two ts))))
    (λ other. bind _ _ _ _ (number_takes (drop 1 ts)) (λ n e. now _ _ (begins_sign_is signs.UpTo ts up ∙ put g.up_to _ _ e))))
    (λ other. now _ _ refl)

pub size_takes : (ts : List Token) → Takes g.size ts (size_at ts)
unfolding size_at
size_takes ts =
    bind _ _ _ _ (after_word_takes words.Size ts) (λ a ea.
    bind _ _ _ _ (after_sign_takes signs.LeftParen a) (λ b eb.
    bind _ _ _ _ (number_takes b) (λ low el.
    bind _ _ _ _ (size_end_takes low.1) (λ high eh.
    bind _ _ _ _ (mark_takes high.1) (λ mark em.
    bind _ _ _ _ (after_sign_takes signs.RightParen mark.1) (λ rest er.
    now _ _ (ea ∙ put (word words.Size) _ _ (eb ∙ put g.left _ _ (el ∙ put (number low.0) _ _ (
    eh ∙ join (g.size_end high.0) _ _ (em ∙ join (g.mark mark.0) _ _ er) ∙ simp append_assoc))))))))))

pub size_after_paren_takes : (ts : List Token) → Is (size_after_paren ts) (λ p. g.left ∷ ts ≡ g.size_con p.0 ++ p.1)
unfolding size_after_paren
size_after_paren_takes ts =
    bind _ _ _ _ (size_takes ts) (λ size e.
    bind _ _ _ _ (after_sign_takes signs.RightParen size.1) (λ rest er.
    now _ _ (put g.left _ _ (e ∙ join (g.size size.0) _ _ er ∙ sym (append_assoc (g.size size.0) (g.right ∷ []) rest)))))

pub size_con_takes : (ts : List Token) → Takes (g.maybe g.size_con) ts (size_con_at ts)
unfolding size_con_at
size_con_takes ts =
    test _ _ _ _
    (λ left. bind _ _ _ _ (size_after_paren_takes (drop 1 ts)) (λ s e. now _ _ (begins_sign_is signs.LeftParen ts left ∙ e)))
    (λ other. now _ _ refl)

pub list_size_takes : (ts : List Token) → Takes g.list_sized ts (list_size_at ts)
unfolding list_size_at
list_size_takes ts =
    test _ _ _ _
    (λ left. bind _ _ _ _ (size_after_paren_takes (drop 1 ts)) (λ s e. now _ _ (begins_sign_is signs.LeftParen ts left ∙ e)))
    (λ other. test _ (begins_word words.Size ts) (size_at ts >>= (λ s. Some (list_size.Bare s.0, s.1))) (Some (list_size.Any, ts)) (λ size. bind _ _ _ _ (size_takes ts) (λ s e. now _ _ e)) (λ any. now _ _ refl))

pub constraint_takes : (ts : List Token) → Takes g.constrained ts (constraint_at ts)
unfolding constraint_at
constraint_takes ts =
    test _ _ _ _
    (λ left. test _ (begins_word words.Size (drop 1 ts)) (size_after_paren (drop 1 ts) >>= (λ s. Some (constraint.Size s.0, s.1))) (range_after_paren (drop 1 ts) >>= (λ r. Some (constraint.Range r.0, r.1)))
    (λ size. bind _ _ _ _ (size_after_paren_takes (drop 1 ts)) (λ s e. now _ _ (begins_sign_is signs.LeftParen ts left ∙ e)))
    (λ range. bind _ _ _ _ (range_after_paren_takes (drop 1 ts)) (λ r e. now _ _ (begins_sign_is signs.LeftParen ts left ∙ e))))
    (λ other. now _ _ refl)

-- ---- lists

goes_on_is : (ts : List Token) → goes_on ts ≡ true → begins_sign signs.Comma ts ≡ true
goes_on_is ts e = (both_true (begins_sign signs.Comma ts) (not (begins_sign signs.Dots (drop 1 ts))) e).0

module _ {A : Type 0} (one : Read A) (written : A → List Token) (takes : (ts : List Token) → Takes written ts (one ts)) where
  pub others_take : (n : ℕ) (found : List A) (ts : List Token) → Is (others one n found ts) (λ p. (new : List A) × (p.0 ≡ found ++ new) × (ts ≡ g.each_after_comma written new ++ p.1))
  unfolding others
  others_take zero found ts = none _
  others_take (suc n) found ts =
      test _ _ _ _
      (λ on. bind _ _ _ _ (takes (drop 1 ts)) (λ x front.
      weaker _ _ _ (others_take n (found ++ x.0 ∷ []) x.1) (λ p h.
      let (new, all, rest) = h in (
        x.0 ∷ new,
        all ∙ append_assoc found (x.0 ∷ []) new,
        begins_sign_is signs.Comma ts (goes_on_is ts on) ∙ put g.comma _ _ (front ∙ join (written x.0) _ _ rest ∙ sym (append_assoc (written x.0) (g.each_after_comma written new) p.1)),
      ))))
      (λ stop. now _ _ ([], sym (append-nil found), refl))

  -- "..." and additions, or nothing, and the closing brace
  pub additions_take : (ts : List Token) → Is (addition_list one ts) (λ p. ts ≡ g.additions written p.0 ++ g.close_brace ∷ p.1)
  unfolding addition_list all_others
  additions_take ts =
      test _ _ _ _
      (λ comma. bind _ _ _ _ (after_sign_takes signs.Dots (drop 1 ts)) (λ dots ed.
      bind _ _ _ _ (others_take (suc (length dots)) [] dots) (λ found h.
      bind _ _ _ _ (after_sign_takes signs.RightBrace found.1) (λ rest er.
      let (new, all, front) = h in
      now _ _ (begins_sign_is signs.Comma ts comma ∙ put g.comma _ _ (ed ∙ put g.dots _ _ (front ∙ join (g.each_after_comma written new) _ _ er ∙ ap (λ (xs : List A). g.each_after_comma written xs ++ g.close_brace ∷ rest) (sym all))))))))
      (λ other. bind _ _ _ _ (after_sign_takes signs.RightBrace ts) (λ rest er. now _ _ er))

  pub marked_takes : (ts : List Token) → Is (marked_list one ts) (λ p. (0 < length p.0.0) × (ts ≡ (g.with_commas written p.0.0 ++ g.additions written p.0.1) ++ g.close_brace ∷ p.1))
  unfolding marked_list all_others
  marked_takes ts =
      bind _ _ _ _ (takes ts) (λ first ef.
      bind _ _ _ _ (others_take (suc (length first.1)) (first.0 ∷ []) first.1) (λ root h.
      bind _ _ _ _ (additions_take root.1) (λ more em.
      let (new, all, front) = h in
      let whole = ef ∙ join (written first.0) _ _ (front ∙ join (g.each_after_comma written new) _ _ em) ∙ regroup (written first.0) (g.each_after_comma written new) (g.additions written more.0) (g.close_brace ∷ more.1) in
      now _ _ (rw all (omega arith), whole ∙ ap (λ (xs : List A). (g.with_commas written xs ++ g.additions written more.0) ++ g.close_brace ∷ more.1) (sym all)))))
    where
      regroup : (a b c d : List Token) → a ++ (b ++ (c ++ d)) ≡ ((a ++ b) ++ c) ++ d
      regroup a b c d = simp append_assoc

-- ---- items and components

-- ["(" Int ")"]
item_number_takes : (ts : List Token) → Takes (g.maybe (λ z. g.left ∷ g.int z ++ g.right ∷ [])) ts (item_number_at ts)
unfolding item_number_at
item_number_takes ts =
    test _ _ _ _
    (λ left. bind _ _ _ _ (int_takes (drop 1 ts)) (λ z ez.
    bind _ _ _ _ (after_sign_takes signs.RightParen z.1) (λ rest er.
    now _ _ (begins_sign_is signs.LeftParen ts left ∙ put g.left _ _ (ez ∙ join (g.int z.0) _ _ er ∙ sym (append_assoc (g.int z.0) (g.right ∷ []) rest))))))
    (λ other. now _ _ refl)

pub item_takes : (ts : List Token) → Takes g.item ts (item_at ts)
unfolding item_at
item_takes ts =
    bind _ _ _ _ (identifier_takes ts) (λ n en.
    bind _ _ _ _ (item_number_takes n.1) (λ z ez.
    now _ _ (en ∙ put (identifier n.0) _ _ ez)))

named_default_takes : (ts : List Token) → Takes g.default ts (named_default_at ts)
unfolding named_default_at
named_default_takes [] = none _
named_default_takes (identifier x ∷ ts) = now _ _ refl
named_default_takes (name x ∷ ts) = none _
named_default_takes (word w ∷ ts) = none _
named_default_takes (out_of_profile ∷ ts) = none _
named_default_takes (number n ∷ ts) = bind _ _ (int_at (number n ∷ ts)) (λ z. Some (t.number z.0, z.1)) (int_takes (number n ∷ ts)) (λ z e. now _ _ e)
named_default_takes (negative n ∷ ts) = bind _ _ (int_at (negative n ∷ ts)) (λ z. Some (t.number z.0, z.1)) (int_takes (negative n ∷ ts)) (λ z e. now _ _ e)
named_default_takes (too_large ∷ ts) = none _
named_default_takes (sign s ∷ ts) = none _
named_default_takes (illegal ∷ ts) = none _

default_takes : (ts : List Token) → Takes g.default ts (default_at ts)
unfolding default_at
default_takes ts =
    test _ _ _ _ (λ yes. now _ _ (begins_word_is words.True ts yes))
    (λ other. test _ (begins_word words.False ts) (Some (t.truth false, drop 1 ts)) (named_default_at ts) (λ no. now _ _ (begins_word_is words.False ts no)) (λ more. named_default_takes ts))

pub need_takes : (ts : List Token) → Takes g.need ts (need_at ts)
unfolding need_at
need_takes ts =
    test _ _ _ _ (λ optional. now _ _ (begins_word_is words.Optional ts optional))
    (λ other. test _ (begins_word words.Default ts) (default_at (drop 1 ts) >>= (λ d. Some (t.default d.0, d.1))) (Some (t.must, ts))
    (λ default. bind _ _ _ _ (default_takes (drop 1 ts)) (λ d e. now _ _ (begins_word_is words.Default ts default ∙ put (word words.Default) _ _ e)))
    (λ must. now _ _ refl))

-- a component, as one of a list
abbrev pub part : Part → List Token
part p = identifier p.name ∷ g.written p.tree ++ g.need p.need

pub following_parts : (ps : List Part) → g.following_components (components_of ps) ≡ g.each_after_comma part ps
unfolding g.written
following_parts [] = refl
following_parts (p ∷ ps) = put g.comma _ _ (join (part p) _ _ (following_parts ps))

-- the components of a Body, as its lists
pub body_parts : (root : List Part) (more : Option (List Part)) → 0 < length root
    → g.components (components_of root) ++ g.separator (components_of root) (more_of more) ++ g.extension (more_of more) ≡ g.with_commas part root ++ g.additions part more
unfolding g.written
body_parts [] more some = absurd (omega arith)
body_parts (p ∷ ps) None some = append-nil _ ∙ append-nil _ ∙ join (part p) _ _ (following_parts ps) ∙ sym (append-nil _)
body_parts (p ∷ ps) (Some more) some =
    append_assoc (part p ++ g.following_components (components_of ps)) (g.comma ∷ []) (g.dots ∷ g.following_components (components_of more)) ∙ ap (λ (x : List Token). x ++ g.comma ∷ g.dots ∷ g.following_components (components_of more)) (join (part p) _ _ (following_parts ps))
    ∙ join (g.with_commas part (p ∷ ps)) _ _ (put g.comma _ _ (put g.dots _ _ (following_parts more)))

-- an alternative, as one of a list
abbrev pub branch : Branch → List Token
branch b = identifier b.name ∷ g.written b.tree

following_branches : (bs : List Branch) → g.following_alternatives (alternatives_of bs) ≡ g.each_after_comma branch bs
unfolding g.written
following_branches [] = refl
following_branches (b ∷ bs) = put g.comma _ _ (join (branch b) _ _ (following_branches bs))

root_branches : (bs : List Branch) → g.alternatives (alternatives_of bs) ≡ g.with_commas branch bs
unfolding g.written
root_branches [] = refl
root_branches (b ∷ bs) = join (branch b) _ _ (following_branches bs)

more_branches : (more : Option (List Branch)) → g.more_alternatives (more_alternatives_of more) ≡ g.additions branch more
unfolding g.written
more_branches None = refl
more_branches (Some bs) = put g.comma _ _ (put g.dots _ _ (following_branches bs))

-- the alternatives of a CHOICE, as its lists
pub choice_branches : (root : List Branch) (more : Option (List Branch))
    → g.alternatives (alternatives_of root) ++ g.more_alternatives (more_alternatives_of more) ≡ g.with_commas branch root ++ g.additions branch more
choice_branches root more = rw (root_branches root, more_branches more) refl
