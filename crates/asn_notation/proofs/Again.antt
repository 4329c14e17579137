-- What is written is read again: for each production, its reader takes what a tree is written as, and leaves what follows.
use Rattle.std.proofs.Common.{◌≡◌, ℕ, zero, suc, ◌<◌, ◌≤◌, ◌+◌, ◌^◌, Bool, true, false, List, [], ◌∷◌, ◌++◌, length, Option, Some, None, ℤ, pos, refl, sym, ap, ◌∙◌, append_assoc, arith}
use Rattle.std.proofs.lemmas.List.{append-nil, length-append}
use Rattle.std.proofs.lemmas.Bool.Decides.{nat_tests}
use Rattle.std.specs.Prelude.{IfSome, ◌&&◌, negsuc, nat_lt, nat_le}
use Rattle.std.specs.List.{AllByRecursion}
use Rattle.asn_limits.specs.Limits.{highest_number}
use Rattle.asn_notation.specs.declared.token.Word.TheVariants as words
use Rattle.asn_notation.specs.declared.token.Sign.TheVariants as signs
use Rattle.asn_notation.specs.declared.notation.Limits.{Limits}
use Rattle.asn_notation.specs.declared.notation.Limits.TheVariants.{One, Between}
use Rattle.asn_notation.specs.declared.notation.RangeNotation.{RangeNotation}
use Rattle.asn_notation.specs.declared.notation.SizeNotation.{SizeNotation}
use Rattle.asn_notation.specs.declared.notation.SizeEnd.{SizeEnd}
use Rattle.asn_notation.specs.declared.notation.SizeEnd.TheVariants.{Same, To, ToMax}
use Rattle.asn_notation.specs.declared.notation.ListSize.{ListSize}
use Rattle.asn_notation.specs.declared.notation.ListSize.TheVariants as list_size
use Rattle.asn_notation.specs.declared.notation.Constraint.{Constraint}
use Rattle.asn_notation.specs.declared.notation.Constraint.TheVariants as constraint
use Rattle.asn_notation.specs.Token.{Token, word, number}
use Rattle.asn_notation.specs.Tree as t
use Rattle.asn_notation.specs.Tree.{Tree, Components, More, Item, Default, Need, Part, components_of, more_of}
use Rattle.asn_notation.specs.Reading.{Read, begins_sign, begins_word, after_sign, after_word, identifier_at, number_at, int_at, mark_at, high_at, limits_at, range_after_paren, range_at, size_end_at, size_at, size_after_paren, size_con_at, list_size_at, constraint_at, goes_on, others, all_others, addition_list, marked_list, item_number_at, item_at, named_default_at, default_at, need_at}
use Rattle.asn_notation.specs.Grammar as g
use Rattle.asn_notation.specs.Fitting.{IsInt, AreLimits, IsSizeEnd, IsSize, IsListSize, IsConstraint, IsItem, IsDefault, IsNeed}

below : (n : ℕ) → n < highest_number + 1 → nat_lt n (highest_number + 1) ≡ true
below n h = grind (arith, nat_tests)

below_suc : (n : ℕ) → n < 2 ^ 63 → (nat_lt 0 (suc n) && nat_le (suc n) (2 ^ 63)) ≡ true
below_suc n h = grind (arith, nat_tests)

pub int_again : (z : ℤ) (rest : List Token) → IsInt z → int_at (g.int z ++ rest) ≡ Some (z, rest)
unfolding int_at
int_again (pos n) rest h = rw (below n h) refl
int_again (negsuc n) rest h = rw (below_suc n h) refl

pub number_again : (n : ℕ) (rest : List Token) → n < highest_number + 1 → number_at (number n ∷ rest) ≡ Some (n, rest)
unfolding number_at
number_again n rest h = rw (below n h) refl

-- an Int begins with no word
no_word : (z : ℤ) (rest : List Token) → (begins_word words.Min (g.int z ++ rest) ≡ false) × (begins_word words.Max (g.int z ++ rest) ≡ false) × (begins_word words.True (g.int z ++ rest) ≡ false) × (begins_word words.False (g.int z ++ rest) ≡ false) × (begins_word words.Size (g.int z ++ rest) ≡ false)
unfolding begins_word
no_word (pos n) rest = (refl, refl, refl, refl, refl)
no_word (negsuc n) rest = (refl, refl, refl, refl, refl)

-- ["," "..."] before a parenthesis
pub mark_again : (b : Bool) (rest : List Token) → mark_at (g.mark b ++ g.right ∷ rest) ≡ Some (b, g.right ∷ rest)
unfolding mark_at begins_sign after_sign
mark_again true rest = refl
mark_again false rest = refl

no_up_to : (b : Bool) (rest : List Token) → begins_sign signs.UpTo (g.mark b ++ g.right ∷ rest) ≡ false
unfolding begins_sign
no_up_to true rest = refl
no_up_to false rest = refl

pub high_again : (high : Option ℤ) (rest : List Token) → IfSome high IsInt → high_at (g.high_end high ++ rest) ≡ Some (high, rest)
unfolding high_at begins_word
high_again None rest h = refl
high_again (Some z) rest h = high_int z rest h
  where
    high_int : (z : ℤ) (rest : List Token) → IsInt z → high_at (g.int z ++ rest) ≡ Some (Some z, rest)
    high_int (pos n) rest h = rw (int_again (pos n) rest h) refl
    high_int (negsuc n) rest h = rw (int_again (negsuc n) rest h) refl

pub limits_again : (l : Limits) (rest : List Token) → AreLimits l → begins_sign signs.UpTo rest ≡ false → limits_at (g.limits l ++ rest) ≡ Some (l, rest)
unfolding limits_at begins_word begins_sign after_sign
limits_again (One z) rest h stop = rw ((no_word z rest).0, int_again z rest h, stop) refl
limits_again (Between None high) rest h stop = rw (high_again high rest h.1) refl
limits_again (Between (Some z) high) rest h stop =
    ap limits_at (append_assoc (g.int z) (g.up_to ∷ g.high_end high) rest)
    ∙ rw ((no_word z (g.up_to ∷ g.high_end high ++ rest)).0, int_again z (g.up_to ∷ g.high_end high ++ rest) h.0, high_again high rest h.1) refl

pub range_after_paren_again : (r : RangeNotation) (rest : List Token) → AreLimits r.limits → range_after_paren ((g.limits r.limits ++ g.mark r.marked) ++ g.right ∷ rest) ≡ Some (r, rest)
unfolding range_after_paren after_sign begins_sign
range_after_paren_again r rest h =
    ap range_after_paren (append_assoc (g.limits r.limits) (g.mark r.marked) (g.right ∷ rest))
    ∙ rw (limits_again r.limits (g.mark r.marked ++ g.right ∷ rest) h (no_up_to r.marked rest), mark_again r.marked rest) refl

-- ---- sizes

pub size_end_again : (e : SizeEnd) (rest : List Token) → IsSizeEnd e → begins_sign signs.UpTo rest ≡ false → size_end_at (g.size_end e ++ rest) ≡ Some (e, rest)
unfolding size_end_at begins_sign begins_word
size_end_again Same rest h stop = rw stop refl
size_end_again (To n) rest h stop = rw (number_again n rest h) refl
size_end_again ToMax rest h stop = refl

regroup : (a b rest : List Token) → ((a ++ b) ++ g.right ∷ []) ++ rest ≡ a ++ (b ++ g.right ∷ rest)
regroup a b rest = append_assoc (a ++ b) (g.right ∷ []) rest ∙ append_assoc a b (g.right ∷ rest)

pub size_again : (s : SizeNotation) (rest : List Token) → IsSize s → size_at (g.size s ++ rest) ≡ Some (s, rest)
unfolding size_at after_word after_sign begins_sign begins_word
size_again s rest h =
    ap (λ (x : List Token). size_at (word words.Size ∷ g.left ∷ number s.low ∷ x)) (regroup (g.size_end s.high) (g.mark s.marked) rest)
    ∙ rw (number_again s.low (g.size_end s.high ++ (g.mark s.marked ++ g.right ∷ rest)) h.0, size_end_again s.high (g.mark s.marked ++ g.right ∷ rest) h.1 (no_up_to s.marked rest), mark_again s.marked rest) refl

pub size_after_paren_again : (s : SizeNotation) (rest : List Token) → IsSize s → size_after_paren ((g.size s ++ g.right ∷ []) ++ rest) ≡ Some (s, rest)
unfolding size_after_paren after_sign begins_sign
size_after_paren_again s rest h = ap size_after_paren (append_assoc (g.size s) (g.right ∷ []) rest) ∙ rw (size_again s (g.right ∷ rest) h) refl

pub size_con_again : (o : Option SizeNotation) (rest : List Token) → IfSome o IsSize → begins_sign signs.LeftParen rest ≡ false → size_con_at (g.maybe g.size_con o ++ rest) ≡ Some (o, rest)
unfolding size_con_at begins_sign
size_con_again None rest h stop = rw stop refl
size_con_again (Some s) rest h stop = rw (size_after_paren_again s rest h) refl

closed_range : (r : RangeNotation) (rest : List Token) → AreLimits r.limits → range_after_paren (((g.limits r.limits ++ g.mark r.marked) ++ g.right ∷ []) ++ rest) ≡ Some (r, rest)
closed_range r rest h = ap range_after_paren (append_assoc (g.limits r.limits ++ g.mark r.marked) (g.right ∷ []) rest) ∙ range_after_paren_again r rest h

pub range_again : (o : Option RangeNotation) (rest : List Token) → IfSome o (λ r. AreLimits r.limits) → begins_sign signs.LeftParen rest ≡ false → range_at (g.maybe g.range o ++ rest) ≡ Some (o, rest)
unfolding range_at begins_sign
range_again None rest h stop = rw stop refl
range_again (Some r) rest h stop = rw (closed_range r rest h) refl

no_size : (l : Limits) (rest : List Token) → begins_word words.Size (g.limits l ++ rest) ≡ false
unfolding begins_word
no_size (One z) rest = (no_word z rest).4
no_size (Between None high) rest = refl
no_size (Between (Some z) high) rest = ap (begins_word words.Size) (append_assoc (g.int z) (g.up_to ∷ g.high_end high) rest) ∙ (no_word z (g.up_to ∷ g.high_end high ++ rest)).4

no_size_range : (r : RangeNotation) (rest : List Token) → begins_word words.Size (((g.limits r.limits ++ g.mark r.marked) ++ g.right ∷ []) ++ rest) ≡ false
no_size_range r rest = ap (begins_word words.Size) (regroup (g.limits r.limits) (g.mark r.marked) rest) ∙ no_size r.limits (g.mark r.marked ++ g.right ∷ rest)

begins_size : (s : SizeNotation) (rest : List Token) → begins_word words.Size ((g.size s ++ g.right ∷ []) ++ rest) ≡ true
unfolding begins_word
begins_size s rest = refl

pub constraint_again : (c : Constraint) (rest : List Token) → IsConstraint c → begins_sign signs.LeftParen rest ≡ false → constraint_at (g.constrained c ++ rest) ≡ Some (c, rest)
unfolding constraint_at begins_sign
constraint_again constraint.None rest h stop = rw stop refl
constraint_again (constraint.Range r) rest h stop = rw (no_size_range r rest, closed_range r rest h) refl
constraint_again (constraint.Size s) rest h stop = rw (begins_size s rest, size_after_paren_again s rest h) refl

pub list_size_again : (l : ListSize) (rest : List Token) → IsListSize l → list_size_at (g.list_sized l ++ word words.Of ∷ rest) ≡ Some (l, word words.Of ∷ rest)
unfolding list_size_at begins_sign begins_word
list_size_again list_size.Any rest h = refl
list_size_again (list_size.Bare s) rest h = rw (size_again s (word words.Of ∷ rest) h) refl
list_size_again (list_size.Bracketed s) rest h = rw (size_after_paren_again s (word words.Of ∷ rest) h) refl

-- ---- lists

module _ {A : Type 0} (one : Read A) (written : A → List Token) (Ends : List Token → Type 0)
    (ends_comma : (rest : List Token) → Ends (g.comma ∷ rest)) (ends_close : (rest : List Token) → Ends (g.close_brace ∷ rest)) where
  -- x is read again before what may follow it, and does not begin with "..."
  abbrev pub IsAgain : A → Type 0
  IsAgain x = (rest : List Token) → Ends rest → (one (written x ++ rest) ≡ Some (x, rest)) × (begins_sign signs.Dots (written x ++ rest) ≡ false)

  ends_after : (xs : List A) (rest : List Token) → Ends rest → Ends (g.each_after_comma written xs ++ rest)
  ends_after [] rest ends = ends
  ends_after (x ∷ xs) rest ends = ends_comma _

  pub others_again : (xs : List A) (n : ℕ) (found : List A) (rest : List Token) → AllByRecursion IsAgain xs → goes_on rest ≡ false → Ends rest → length xs < n
      → others one n found (g.each_after_comma written xs ++ rest) ≡ Some (found ++ xs, rest)
  unfolding others begins_sign
  others_again xs zero found rest all stop ends enough = absurd (omega arith)
  others_again [] (suc n) found rest all stop ends enough = rw stop (ap (λ (f : List A). Some (f, rest)) (sym (append-nil found)))
  others_again (x ∷ xs) (suc n) found rest all stop ends enough =
      let tail : List Token = g.each_after_comma written xs ++ rest in
      let read = all.0 tail (ends_after xs rest ends) in
      ap (λ (ts : List Token). others one (suc n) found (g.comma ∷ ts)) (append_assoc (written x) (g.each_after_comma written xs) rest)
      ∙ rw (read.1, read.0) (others_again xs n (found ++ x ∷ []) rest all.1 stop ends (omega arith) ∙ ap (λ (f : List A). Some (f, rest)) (append_assoc found (x ∷ []) xs))

  length_after : (xs : List A) (rest : List Token) → length xs ≤ length (g.each_after_comma written xs ++ rest)
  length_after [] rest = omega arith
  length_after (x ∷ xs) rest =
      let inner = length_after xs rest in
      let e = append_assoc (written x) (g.each_after_comma written xs) rest in
      let l = length-append (written x) (g.each_after_comma written xs ++ rest) in
      omega (arith, inner, ap length e, l)

  pub all_others_again : (xs found : List A) (rest : List Token) → AllByRecursion IsAgain xs → goes_on rest ≡ false → Ends rest → all_others one found (g.each_after_comma written xs ++ rest) ≡ Some (found ++ xs, rest)
  unfolding all_others
  all_others_again xs found rest all stop ends = let l = length_after xs rest in others_again xs (suc (length (g.each_after_comma written xs ++ rest))) found rest all stop ends (omega arith)

  pub close_stops : (rest : List Token) → goes_on (g.close_brace ∷ rest) ≡ false
  unfolding begins_sign
  close_stops rest = refl

  pub additions_again : (more : Option (List A)) (rest : List Token) → IfSome more (AllByRecursion IsAgain) → addition_list one (g.additions written more ++ g.close_brace ∷ rest) ≡ Some (more, rest)
  unfolding addition_list begins_sign after_sign
  additions_again None rest all = refl
  additions_again (Some xs) rest all = rw (all_others_again xs [] (g.close_brace ∷ rest) all (close_stops rest) (ends_close rest)) refl

  tail_ends : (more : Option (List A)) (rest : List Token) → Ends (g.additions written more ++ g.close_brace ∷ rest)
  tail_ends None rest = ends_close rest
  tail_ends (Some xs) rest = ends_comma _

  tail_stops : (more : Option (List A)) (rest : List Token) → goes_on (g.additions written more ++ g.close_brace ∷ rest) ≡ false
  unfolding begins_sign
  tail_stops None rest = refl
  tail_stops (Some xs) rest = refl

  pub marked_again : (xs : List A) (more : Option (List A)) (rest : List Token) → 0 < length xs → AllByRecursion IsAgain xs → IfSome more (AllByRecursion IsAgain)
      → marked_list one ((g.with_commas written xs ++ g.additions written more) ++ g.close_brace ∷ rest) ≡ Some ((xs, more), rest)
  unfolding marked_list
  marked_again [] more rest some all also = absurd (omega arith)
  marked_again (x ∷ xs) more rest some all also =
      let tail : List Token = g.additions written more ++ g.close_brace ∷ rest in
      let read = all.0 (g.each_after_comma written xs ++ tail) (ends_after xs tail (tail_ends more rest)) in
      ap (marked_list one) (append_assoc (written x ++ g.each_after_comma written xs) (g.additions written more) (g.close_brace ∷ rest) ∙ append_assoc (written x) (g.each_after_comma written xs) tail)
      ∙ rw (read.0, all_others_again xs (x ∷ []) tail all.1 (tail_stops more rest) (tail_ends more rest), additions_again more rest also) refl

-- ---- items and components

pub item_number_again : (o : Option ℤ) (rest : List Token) → IfSome o IsInt → begins_sign signs.LeftParen rest ≡ false → item_number_at (g.maybe (λ z. g.left ∷ g.int z ++ g.right ∷ []) o ++ rest) ≡ Some (o, rest)
unfolding item_number_at begins_sign after_sign
item_number_again None rest h stop = rw stop refl
item_number_again (Some z) rest h stop =
    ap (λ (ts : List Token). item_number_at (g.left ∷ ts)) (append_assoc (g.int z) (g.right ∷ []) rest) ∙ rw (int_again z (g.right ∷ rest) h) refl

pub item_again : (i : Item) (rest : List Token) → IsItem i → begins_sign signs.LeftParen rest ≡ false → item_at (g.item i ++ rest) ≡ Some (i, rest)
unfolding item_at identifier_at
item_again i rest h stop = rw (item_number_again i.number rest h stop) refl

-- what may follow a component
pub record EndsComponent (rest : List Token) : Type 0 where
  pub paren : begins_sign signs.LeftParen rest ≡ false
  pub optional : begins_word words.Optional rest ≡ false
  pub default : begins_word words.Default rest ≡ false

default_again : (d : Default) (rest : List Token) → IsDefault d → default_at (g.default d ++ rest) ≡ Some (d, rest)
unfolding default_at named_default_at begins_word
default_again (t.truth true) rest h = refl
default_again (t.truth false) rest h = refl
default_again (t.number (pos n)) rest h = rw (int_again (pos n) rest h) refl
default_again (t.number (negsuc n)) rest h = rw (int_again (negsuc n) rest h) refl
default_again (t.item s) rest h = refl

pub need_again : (nd : Need) (rest : List Token) → IsNeed nd → EndsComponent rest → need_at (g.need nd ++ rest) ≡ Some (nd, rest)
unfolding need_at begins_word
need_again t.must rest h ends = rw (ends.optional, ends.default) refl
need_again t.optional rest h ends = refl
need_again (t.default d) rest h ends = rw (default_again d rest h) refl

pub need_paren : (nd : Need) (rest : List Token) → EndsComponent rest → begins_sign signs.LeftParen (g.need nd ++ rest) ≡ false
unfolding begins_sign
need_paren t.must rest ends = ends.paren
need_paren t.optional rest ends = refl
need_paren (t.default d) rest ends = refl
