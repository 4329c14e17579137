-- Where the counting of presence bits stands, and which entry is next.
use Rattle.std.proofs.Common.{◌≡◌, ◌⊎◌, ◌≤◌, ◌<◌, ◌+◌, ◌*◌, ◌^◌, ℕ, suc, Bool, true, false, List, [], ◌∷◌, ◌++◌, length, map, drop, get_or, Option, Some, None, inl, inr, refl, sym, ◌∙◌, ap, arith, append_assoc}
use Rattle.std.proofs.lemmas.List.{append-nil, at_drop_more, length-map}
use Rattle.std.proofs.Math.Nat.{pow-succ'}
use Rattle.std.proofs.Math.Pow.{pow_mono}
use Rattle.asn_values.specs.Datum.{Datum}
use Rattle.asn_values.specs.Shape.{Demand, must, optional, default, demands}
use Rattle.asn_values.specs.Parts.{IsGoodDemand, AreOfProfile}
use Rattle.asn_values.specs.View.{Part, fields_of, part_of_field}
use Rattle.asn_values.specs.declared.types.Field.{Field}
use Rattle.asn_bits.specs.Numbers.{bits}
use Rattle.asn_bits.specs.Sink.{bit_of}
use Rattle.asn_bits.proofs.Prefixes.{bit_below}
use Rattle.asn_bits.proofs.Splits.{digits-join}
use Rattle.asn_source.specs.Parts.{first_entry}
use Rattle.asn_rules.specs.Components.{has_presence_bit, is_spelled, presence}

-- the next item of a list and those after it, seen as something else
pub next_seen : {A B : Type 0} (f : A → B) (xs : List A) (i : ℕ) (x : A) → i < length xs → x ≡ get_or xs i x
    → map f (drop i xs) ≡ f x ∷ map f (drop (i + 1) xs)
next_seen f xs i x h e = at_drop_more (map f) xs i x h ∙ ap (λ y. f y ∷ map f (drop (i + 1) xs)) (sym e)

-- the components that are left, with their entries
pub record Left (parts : List Part) (entries : List (Option Datum)) : Type 0 where
  pub of_profile : AreOfProfile (fields_of parts)
  pub each : length parts ≡ length entries

pub left_good : {p : Part} {parts : List Part} {e : Option Datum} {entries : List (Option Datum)}
    → Left (p ∷ parts) (e ∷ entries) → IsGoodDemand p.demand p.shape
left_good h = h.of_profile.1

pub left_more : {p : Part} {parts : List Part} {e : Option Datum} {entries : List (Option Datum)}
    → Left (p ∷ parts) (e ∷ entries) → Left parts entries
left_more h = record { of_profile = h.of_profile.2; each = omega (arith, h.each) }

-- the entry of the next component, and those after it
pub next_left : {p : Part} {parts : List Part} {entries others : List (Option Datum)} {e : Option Datum}
    → Left (p ∷ parts) entries → e ≡ first_entry entries → others ≡ drop 1 entries → entries ≡ e ∷ others
next_left {entries = []} h first rest = absurd (omega (arith, h.each))
next_left {entries = x ∷ es} h first rest = rw (first, rest) refl

-- there are as many entries as components
pub left_ends : (parts : List Part) (entries : List (Option Datum)) → Left parts entries → (parts ≡ []) ⊎ (entries ≡ [])
    → (parts ≡ []) × (entries ≡ [])
left_ends [] [] h e = (refl, refl)
left_ends [] (x ∷ entries) h e = absurd (omega (arith, h.each))
left_ends (p ∷ parts) [] h e = absurd (omega (arith, h.each))
left_ends (p ∷ parts) (x ∷ entries) h (inl e) = absurd (cc)
left_ends (p ∷ parts) (x ∷ entries) h (inr e) = absurd (cc)

-- ---- the presence bitmap

-- this many bits of the bitmap are known, and those of the components that are left follow
pub record Bitmap (all left : List Part) (entries rest : List (Option Datum)) (count bitmap : ℕ) : Type 0 where
  pub components : Left left rest
  pub few : count + length left ≤ length all
  pub within : bitmap < 2 ^ count
  pub known : bits count bitmap ++ presence (demands (fields_of left)) rest ≡ presence (demands (fields_of all)) entries

pub bitmap_starts : (all : List Part) (entries : List (Option Datum)) → Left all entries
    → Bitmap all all entries entries 0 0
bitmap_starts all entries h = record { components = h; few = omega arith; within = omega arith; known = refl }

one_bit : (b : Bool) → bits 1 (bit_of b) ≡ bit_of b ∷ []
one_bit true = refl
one_bit false = refl

-- one bit more
bits_more : (count bitmap : ℕ) (b : Bool)
    → bits (count + 1) (2 * bitmap + bit_of b) ≡ bits count bitmap ++ bit_of b ∷ []
bits_more count bitmap b =
    ap (λ (n : ℕ). bits (count + 1) n) (omega arith)
    ∙ sym (digits-join 2 (omega arith) count 1 bitmap (bit_of b) (omega (arith, bit_below b)))
    ∙ ap (λ l. bits count bitmap ++ l) (one_bit b)

pub bitmap_passes : {all left : List Part} {p : Part} {entries rest : List (Option Datum)} {e : Option Datum}
    {count bitmap : ℕ}
    → Bitmap all (p ∷ left) entries (e ∷ rest) count bitmap → has_presence_bit p.demand ≡ false
    → Bitmap all left entries rest count bitmap
bitmap_passes {left = left} {p = p} {entries = entries} {rest = rest} {e = e} {count = count} {bitmap = bitmap} h n = record {
  components = left_more h.components;
  few = omega (arith, h.few);
  within = h.within;
  known = ap (λ l. bits count bitmap ++ l) (sym (none p.demand n)) ∙ h.known;
}
  where
    none : (d : Demand) → has_presence_bit d ≡ false
        → presence (d ∷ demands (fields_of left)) (e ∷ rest) ≡ presence (demands (fields_of left)) rest
    none must k = refl
    none optional k = absurd (cc)
    none (default x) k = absurd (cc)

pub bitmap_more : {all left : List Part} {p : Part} {entries rest : List (Option Datum)} {e : Option Datum}
    {count bitmap next : ℕ}
    → Bitmap all (p ∷ left) entries (e ∷ rest) count bitmap → has_presence_bit p.demand ≡ true
    → next ≡ bit_of (is_spelled p.demand e)
    → Bitmap all left entries rest (count + 1) (2 * bitmap + next)
bitmap_more {left = left} {p = p} {entries = entries} {rest = rest} {e = e} {count = count} {bitmap = bitmap} {next = next} h n is = record {
  components = left_more h.components;
  few = omega (arith, h.few);
  within = omega (arith, h.within, pow-succ' 2 count, is, bit_below (is_spelled p.demand e), ap (λ (k : ℕ). 2 ^ k) (plus_one count));
  known =
      ap (λ (x : ℕ). bits (count + 1) (2 * bitmap + x) ++ presence (demands (fields_of left)) rest) is
      ∙ ap (λ l. l ++ presence (demands (fields_of left)) rest) (bits_more count bitmap (is_spelled p.demand e))
      ∙ append_assoc (bits count bitmap) (bit_of (is_spelled p.demand e) ∷ []) (presence (demands (fields_of left)) rest)
      ∙ ap (λ l. bits count bitmap ++ l) (sym (some p.demand n))
      ∙ h.known;
}
  where
    plus_one : (k : ℕ) → k + 1 ≡ suc k
    plus_one k = omega arith

    some : (d : Demand) → has_presence_bit d ≡ true
        → presence (d ∷ demands (fields_of left)) (e ∷ rest)
        ≡ bit_of (is_spelled d e) ∷ presence (demands (fields_of left)) rest
    some must k = absurd (cc)
    some optional k = refl
    some (default x) k = refl

pub bitmap_ends : {all left : List Part} {entries rest : List (Option Datum)} {count bitmap : ℕ}
    → Bitmap all left entries rest count bitmap
    → (left ≡ []) ⊎ (rest ≡ []) → bits count bitmap ≡ presence (demands (fields_of all)) entries
bitmap_ends {all} {left} {entries} {rest} {count} {bitmap} h e =
    let none = left_ends left rest h.components e in
    sym (append-nil (bits count bitmap))
    ∙ ap (λ l. bits count bitmap ++ presence (demands (fields_of l)) rest) (sym none.0)
    ∙ h.known

-- ---- the bitmap in a word

-- it has at most 64 bits, with one for each component that is left
pub bits_so_far : (fields : List Field) {left : List Part} {entries rest : List (Option Datum)} {count bitmap : ℕ}
    → Bitmap (map part_of_field fields) left entries rest count bitmap → length fields ≤ 64 → count + length left ≤ 64
bits_so_far fields h few = omega (arith, h.few, few, length-map fields part_of_field)

-- and where a component is left, one more bit has room
pub room_for_bit : (count bitmap bit left : ℕ) → bitmap < 2 ^ count → count + suc left ≤ 64 → bit < 2 → 2 * bitmap + bit < 2 ^ 64
room_for_bit count bitmap bit left h few b =
    let short : count ≤ 63 = omega (arith, few) in
    doubled bitmap bit (2 ^ count) (2 ^ 63) h (pow_mono short) b
  where
    doubled : (x b m n : ℕ) → x < m → m ≤ n → b < 2 → 2 * x + b < 2 * n
    doubled x b m n h l k = omega (arith, h, l, k)
