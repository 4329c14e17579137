-- Bounds and sizes as they are printed: they mean the same again, fit the grammar, and have a text.
use Rattle.std.proofs.Common.{◌≡◌, ◌<◌, ◌+◌, ◌^◌, ℕ, suc, ℤ, pos, negsuc, Bool, true, false, cond, List, [], ◌∷◌, ◌++◌, Option, Some, None, refl, ap, arith}
use Rattle.std.proofs.lemmas.Bool.Decides.{nat_tests}
use Rattle.std.specs.Prelude.{◌||◌, nat_lt, is_some, IfSome}
use Rattle.std.specs.List.{AllByRecursion}
use Rattle.asn_values.specs.Fits.{highest_number}
use Rattle.asn_values.specs.Shape as s
use Rattle.asn_values.specs.Shape.{Shape, Range, SizeRange, Alphabet}
use Rattle.asn_values.specs.Profile.{is_outside, large_size, is_large}
use Rattle.asn_values.proofs.Parts.{left_false, right_false}
use Rattle.asn_notation.specs.declared.notation.SizeNotation.{SizeNotation}
use Rattle.asn_notation.specs.declared.notation.StringKind.{StringKind}
use Rattle.asn_notation.specs.Token.{Token}
use Rattle.asn_notation.specs.Tree as t
use Rattle.asn_notation.specs.Tree.{Tree}
use Rattle.asn_notation.specs.Grammar as g
use Rattle.asn_notation.specs.Fitting.{IsInt, AreLimits, IsSizeEnd, IsSize, IsListSize}
use Rattle.asn_notation.specs.Printed.{IsPrintable}
use Rattle.asn_module.specs.Bounds.{any_size, size_meant, size_bound}
use Rattle.asn_module.specs.Meaning.{Meant, meant, string_shape}
use Rattle.asn_module.specs.Printing.{range_printed, size_end_printed, size_printed, bracketed, kind_printed}

-- each token has a text
abbrev pub AreWords : List Token → Type 0
AreWords ts = AllByRecursion IsPrintable ts

pub words_append : (xs ys : List Token) → AreWords xs → AreWords ys → AreWords (xs ++ ys)
words_append [] ys hx hy = hy
words_append (x ∷ xs) ys hx hy = (hx.0, words_append xs ys hx.1 hy)

-- the tree stands for the type
pub record Means (look : List ℕ → Option Meant) (tree : Tree) (shape : Shape) : Type 0 where
  pub constraint : Option Bool
  pub is : meant look tree ≡ Some (record { shape = shape; constraint = constraint })

-- ---- numbers

high_enough : (n : ℕ) → nat_lt highest_number n ≡ false → n < highest_number + 1
high_enough n e = grind (arith, nat_tests)

low_enough : (n : ℕ) → nat_lt 9223372036854775807 n ≡ false → n < 2 ^ 63
low_enough n e = grind (arith, nat_tests)

pub is_int : (z : ℤ) → is_outside (Some z) ≡ false → IsInt z
is_int (pos n) e = high_enough n e
is_int (negsuc n) e = low_enough n (left_false (nat_lt 9223372036854775807 n) false e)

pub int_words : (z : ℤ) → IsInt z → AreWords (g.int z)
int_words (pos n) h = (wider n h, tt)
  where
    wider : (n : ℕ) → n < highest_number + 1 → n < 2 ^ 64
    wider n h = omega arith
int_words (negsuc n) h = ((omega arith, wider n h), tt)
  where
    wider : (n : ℕ) → n < 2 ^ 63 → suc n < 2 ^ 64
    wider n h = omega arith

-- ---- INTEGER

pub integer_means : (look : List ℕ → Option Meant) (b : Range) → Means look (t.integer (range_printed b)) (s.integer b)
unfolding meant
integer_means look b = by_bounds b.low b.high b.extensible
  where
    by_bounds : (low high : Option ℤ) (ext : Bool) → Means look (t.integer (range_printed (record { low = low; high = high; extensible = ext }))) (s.integer (record { low = low; high = high; extensible = ext }))
    by_bounds None None false = record { constraint = None; is = refl }
    by_bounds None None true = record { constraint = Some true; is = refl }
    by_bounds None (Some z) ext = record { constraint = Some ext; is = refl }
    by_bounds (Some y) high ext = record { constraint = Some ext; is = refl }

end_fits : (o : Option ℤ) → is_outside o ≡ false → IfSome o IsInt
end_fits None e = tt
end_fits (Some z) e = is_int z e

pub if_printed : {A : Type 0} (b : Bool) (x : A) (P : A → Type 0) → P x → IfSome (cond b (Some x) None) P
if_printed true x P h = h
if_printed false x P h = tt

pub range_fits : (b : Range) → (is_outside b.low || is_outside b.high) ≡ false → IfSome (range_printed b) (λ r. AreLimits r.limits)
range_fits b e =
    if_printed ((is_some b.low || is_some b.high) || b.extensible) _ (λ r. AreLimits r.limits)
    (end_fits b.low (left_false (is_outside b.low) (is_outside b.high) e), end_fits b.high (right_false (is_outside b.low) (is_outside b.high) e))

low_words : (o : Option ℤ) → is_outside o ≡ false → AreWords (g.low_end o)
low_words None e = (tt, tt)
low_words (Some z) e = int_words z (is_int z e)

high_words : (o : Option ℤ) → is_outside o ≡ false → AreWords (g.high_end o)
high_words None e = (tt, tt)
high_words (Some z) e = int_words z (is_int z e)

mark_words : (b : Bool) → AreWords (g.mark b)
mark_words true = (tt, (tt, tt))
mark_words false = tt

if_words : {A : Type 0} (b : Bool) (x : A) (f : A → List Token) → AreWords (f x) → AreWords (g.maybe f (cond b (Some x) None))
if_words true x f h = h
if_words false x f h = tt

pub range_words : (b : Range) → (is_outside b.low || is_outside b.high) ≡ false → AreWords (g.maybe g.range (range_printed b))
range_words b e =
    let low = low_words b.low (left_false (is_outside b.low) (is_outside b.high) e) in
    let high = high_words b.high (right_false (is_outside b.low) (is_outside b.high) e) in
    let ends = words_append (g.low_end b.low) (g.up_to ∷ g.high_end b.high) low (tt, high) in
    let inner = words_append (g.low_end b.low ++ g.up_to ∷ g.high_end b.high) (g.mark b.extensible) ends (mark_words b.extensible) in
    if_words ((is_some b.low || is_some b.high) || b.extensible) _ g.range (tt, words_append ((g.low_end b.low ++ g.up_to ∷ g.high_end b.high) ++ g.mark b.extensible) (g.right ∷ []) inner (tt, tt))

-- ---- sizes

-- what is printed of a size means it
abbrev pub Again : SizeRange → Option SizeNotation → Type 0
Again b None = b ≡ any_size
Again b (Some x) = size_meant x ≡ b

same_bound : (n : ℕ) → nat_lt 268435455 n ≡ false → size_bound n ≡ n
same_bound n e = rw e refl

same_size : (low : ℕ) (high : Option ℕ) (ext : Bool) → (nat_lt 268435455 low || is_large high) ≡ false
    → size_meant (record { low = low; high = size_end_printed high; marked = ext }) ≡ record { low = low; high = high; extensible = ext }
same_size low None ext e = rw (left_false (nat_lt 268435455 low) false e) refl
same_size low (Some n) ext e = rw (left_false (nat_lt 268435455 low) (nat_lt 268435455 n) e, right_false (nat_lt 268435455 low) (nat_lt 268435455 n) e) refl

is_zero : (n : ℕ) → nat_lt 0 n ≡ false → n ≡ 0
is_zero n e = grind (arith, nat_tests)

pub size_again : (b : SizeRange) → large_size (Some b) ≡ false → Again b (size_printed b)
size_again b e = by_parts b.low b.high b.extensible (nat_lt 0 b.low) refl (same_size b.low b.high b.extensible e)
  where
    by_parts : (low : ℕ) (high : Option ℕ) (ext some : Bool) → nat_lt 0 low ≡ some → size_meant (record { low = low; high = size_end_printed high; marked = ext }) ≡ record { low = low; high = high; extensible = ext }
        → Again (record { low = low; high = high; extensible = ext }) (cond ((some || is_some high) || ext) (Some (record { low = low; high = size_end_printed high; marked = ext })) None)
    by_parts low high ext true e h = h
    by_parts low (Some n) ext false e h = h
    by_parts low None true false e h = h
    by_parts low None false false e h = ap (λ (n : ℕ). record { low = n; high = None; extensible = false }) (is_zero low e)

string_means : (look : List ℕ → Option Meant) (kind : StringKind) (b : SizeRange) (o : Option SizeNotation) → Again b o → Means look (t.text kind o) (string_shape kind b)
unfolding meant
string_means look kind b None e = record { constraint = None; is = rw e refl }
string_means look kind b (Some x) e = record { constraint = Some x.marked; is = rw e refl }

pub text_means : (look : List ℕ → Option Meant) (kind : StringKind) (b : SizeRange) → large_size (Some b) ≡ false → Means look (t.text kind (size_printed b)) (string_shape kind b)
text_means look kind b e = string_means look kind b (size_printed b) (size_again b e)

list_means : (look : List ℕ → Option Meant) (b : SizeRange) (o : Option SizeNotation) (tree : Tree) (shape : Shape) → Again b o → Means look tree shape → Means look (t.sequence_of (bracketed o) tree) (s.sequence_of shape b)
unfolding meant
list_means look b None tree shape e m = record { constraint = None; is = rw (m.is, e) refl }
list_means look b (Some x) tree shape e m = record { constraint = Some x.marked; is = rw (m.is, e) refl }

pub sequence_of_means : (look : List ℕ → Option Meant) (b : SizeRange) (tree : Tree) (shape : Shape) → large_size (Some b) ≡ false → Means look tree shape → Means look (t.sequence_of (bracketed (size_printed b)) tree) (s.sequence_of shape b)
sequence_of_means look b tree shape e m = list_means look b (size_printed b) tree shape (size_again b e) m

few : (n : ℕ) → nat_lt 268435455 n ≡ false → n < highest_number + 1
few n e = grind (arith, nat_tests)

few_words : (n : ℕ) → nat_lt 268435455 n ≡ false → n < 2 ^ 64
few_words n e = grind (arith, nat_tests)

size_end_fits : (o : Option ℕ) → is_large o ≡ false → IsSizeEnd (size_end_printed o)
size_end_fits None e = tt
size_end_fits (Some n) e = few n e

pub size_fits : (b : SizeRange) → large_size (Some b) ≡ false → IfSome (size_printed b) IsSize
size_fits b e =
    if_printed ((nat_lt 0 b.low || is_some b.high) || b.extensible) _ IsSize
    (few b.low (left_false (nat_lt 268435455 b.low) (is_large b.high) e), size_end_fits b.high (right_false (nat_lt 268435455 b.low) (is_large b.high) e))

bracketed_fits : (o : Option SizeNotation) → IfSome o IsSize → IsListSize (bracketed o)
bracketed_fits None h = tt
bracketed_fits (Some x) h = h

pub list_size_fits : (b : SizeRange) → large_size (Some b) ≡ false → IsListSize (bracketed (size_printed b))
list_size_fits b e = bracketed_fits (size_printed b) (size_fits b e)

size_end_words : (o : Option ℕ) → is_large o ≡ false → AreWords (g.size_end (size_end_printed o))
size_end_words None e = (tt, (tt, tt))
size_end_words (Some n) e = (tt, (few_words n e, tt))

pub size_words : (b : SizeRange) → large_size (Some b) ≡ false → AreWords (g.maybe g.size_con (size_printed b))
size_words b e =
    let high = size_end_words b.high (right_false (nat_lt 268435455 b.low) (is_large b.high) e) in
    let ends = words_append (g.size_end (size_end_printed b.high)) (g.mark b.extensible) high (mark_words b.extensible) in
    let inner = words_append (g.size_end (size_end_printed b.high) ++ g.mark b.extensible) (g.right ∷ []) ends (tt, tt) in
    let x : SizeNotation = record { low = b.low; high = size_end_printed b.high; marked = b.extensible } in
    let size : AreWords (g.size x) = (tt, (tt, (few_words b.low (left_false (nat_lt 268435455 b.low) (is_large b.high) e), inner))) in
    if_words ((nat_lt 0 b.low || is_some b.high) || b.extensible) x g.size_con (tt, words_append (g.size x) (g.right ∷ []) size (tt, tt))

bracketed_words : (o : Option SizeNotation) → AreWords (g.maybe g.size_con o) → AreWords (g.list_sized (bracketed o))
bracketed_words None h = tt
bracketed_words (Some x) h = h

pub list_size_words : (b : SizeRange) → large_size (Some b) ≡ false → AreWords (g.list_sized (bracketed (size_printed b)))
list_size_words b e = bracketed_words (size_printed b) (size_words b e)

pub kind_again : (k : Alphabet) (b : SizeRange) → string_shape (kind_printed k) b ≡ s.restricted k b
kind_again s.ia5 b = refl
kind_again s.numeric b = refl
kind_again s.visible b = refl
