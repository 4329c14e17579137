-- The extension additions of a SEQUENCE in PER, where one is present, are put together from their count, their
-- presence bits and the open fields of those that are present.
use Rattle.std.proofs.Common.{◌≡◌, ◌≤◌, ◌<◌, ◌+◌, ◌-◌, ◌/◌, ◌%◌, ◌^◌, ℕ, zero, suc, Bool, true, false, List, [], ◌∷◌, ◌++◌, length, Option, Some, None, refl, sym, ap, subst, ◌∙◌, arith, append_assoc}
use Rattle.std.proofs.lemmas.Bool.{true≢false}
use Rattle.std.proofs.Math.Nat.{one-le-pow}
use Rattle.asn_values.specs.Datum.{Datum}
use Rattle.asn_values.specs.Shape.{Shape, must, optional, default, Fields, no_fields, field, demands}
use Rattle.asn_values.specs.Fits.{Fits, FitsEach, FitsDemand}
use Rattle.asn_values.specs.Profile.{InProfile}
use Rattle.asn_values.specs.Parts.{AreOfProfile}
use Rattle.asn_bits.specs.Numbers.{bits}
use Rattle.asn_bits.proofs.Octets.{length-digits}
use Rattle.asn_rules.specs.Chunks.{Chunk, ones}
use Rattle.asn_rules.specs.Components.{presence, if_spelled, any_present}
use Rattle.asn_rules.specs.Languages.{Then, Map}
use Rattle.asn_bits.specs.Sets.{AreDigits, weighted}
use Rattle.asn_rules.specs.General.{after_first}
use Rattle.asn_rules.specs.Forks.{Same}
use Rattle.asn_rules.specs.Spellings.{SpelledBy}
use Rattle.asn_rules.proofs.Live.Chunks.{ones-append}
use Rattle.asn_bits.proofs.Weights.{bits_are, bits_only}
use Rattle.asn_rules.proofs.Law.Entries.{each_length, presence_bits}
use Rattle.asn_rules.proofs.Languages.Spellings.{same_after, same_then, same_map, set_spelled, then_spelled, map_spelled}
use Rattle.asn_per.specs.Per.{per, per_open, an_open_field, small_length}
pub use Rattle.asn_per.specs.Additions.{AreOptional}
use Rattle.asn_per.specs.Kinds.{OpenValues, OpenListed, SomePresent, Additions}
use Rattle.asn_per.proofs.Encodings.Bits.{digits_bits}
use Rattle.asn_per.proofs.Types.OpenFieldLanguages.{open_values_spelled}

-- ---- the open fields

-- an addition that is present
open_entry_spelled : (t : Shape) → InProfile t → Same (Map Some (OpenValues t)) (SpelledBy (FitsDemand (Fits t) must) (λ e. if_spelled optional e (λ v. an_open_field (per t v))))
open_entry_spelled t good = same_after (same_map (open_values_spelled t good)) (map_spelled (λ v h. (h, refl)) back)
  where
    back : (e : Option Datum) → FitsDemand (Fits t) must e → (v : Datum) × Fits t v × (e ≡ Some v)
    back (Some v) h = (v, h, refl)
    back None h = absurd h

-- entries that fit, and have these presence bits
abbrev pub FitBits : Fields → List ℕ → List (Option Datum) → Type 0
FitBits fs bs es = FitsEach fs es × (presence (demands fs) es ≡ bs)

-- the additions that are present by the bits are those of the entries with these presence bits
pub open_listed_spelled : (fs : Fields) (bs : List ℕ) → AreOfProfile fs → AreOptional fs → AreDigits 2 bs → length bs ≡ length (demands fs) → Same (OpenListed fs bs) (SpelledBy (FitBits fs bs) (per_open fs))
open_listed_spelled no_fields [] good o d l = record {
  to = λ v cs h. record { fits = subst (FitBits no_fields []) (sym h.same) (tt, refl); same = h.empty };
  from = λ v cs h. record { same = is v h.fits.0; empty = h.same };
}
  where
    is : (v : List (Option Datum)) → FitsEach no_fields v → v ≡ []
    is [] h = refl
    is (e ∷ es) h = absurd h
open_listed_spelled no_fields (b ∷ bs) good o d l = absurd (omega arith)
open_listed_spelled (field name demand t fs) [] good o d l = absurd (omega arith)
open_listed_spelled (field name optional t fs) (zero ∷ bs) good o d l = same_after (same_map (open_listed_spelled fs bs good.2 o d.1 (omega arith))) (map_spelled (λ es h. (((tt, h.0), ap (λ (r : List ℕ). 0 ∷ r) h.1), refl)) back)
  where
    back : (v : List (Option Datum)) → FitBits (field name optional t fs) (0 ∷ bs) v → (es : List (Option Datum)) × FitBits fs bs es × (v ≡ None ∷ es)
    back [] h = absurd h.0
    back (None ∷ es) h = (es, (h.0.1, let e : 0 ∷ presence (demands fs) es ≡ 0 ∷ bs = h.1 in cc), refl)
    back (Some x ∷ es) h = absurd (let e : 1 ∷ presence (demands fs) es ≡ 0 ∷ bs = h.1 in zero_one (cc))
      where
        zero_one : ◌≡◌ {A = ℕ} 0 1 → ⊥
        zero_one h = omega arith
open_listed_spelled (field name optional t fs) (suc b ∷ bs) good o d l =
    same_after (same_map (same_after (same_then (open_entry_spelled t good.0) (λ _. open_listed_spelled fs bs good.2 o d.1 (omega arith))) then_spelled)) (map_spelled there back)
  where
    first : suc b ≡ 1
    first = omega (arith, d.0)

    there : (p : Option Datum × List (Option Datum)) → FitsDemand (Fits t) must p.0 × FitBits fs bs p.1
        → FitBits (field name optional t fs) (suc b ∷ bs) (p.0 ∷ p.1) × (if_spelled optional p.0 (λ v. an_open_field (per t v)) ++ per_open fs p.1 ≡ per_open (field name optional t fs) (p.0 ∷ p.1))
    there (Some x, es) h = (((h.0, h.1.0), cc (first, h.1.1)), refl)
    there (None, es) h = absurd h.0

    back : (v : List (Option Datum)) → FitBits (field name optional t fs) (suc b ∷ bs) v → (p : Option Datum × List (Option Datum)) × (FitsDemand (Fits t) must p.0 × FitBits fs bs p.1) × (v ≡ p.0 ∷ p.1)
    back [] h = absurd h.0
    back (Some x ∷ es) h = ((Some x, es), (h.0.0, (h.0.1, let e : 1 ∷ presence (demands fs) es ≡ suc b ∷ bs = h.1 in cc)), refl)
    back (None ∷ es) h = absurd (let e : 0 ∷ presence (demands fs) es ≡ suc b ∷ bs = h.1 in let f : 0 ≡ suc b = cc in omega arith)
open_listed_spelled (field name must t fs) (b ∷ bs) good o d l = absurd (true≢false (sym o))
open_listed_spelled (field name (default e) t fs) (b ∷ bs) good o d l = absurd (true≢false (sym o))

-- ---- the presence bits

-- each addition has a presence bit
presence_length : (fs : Fields) (es : List (Option Datum)) → AreOptional fs → FitsEach fs es → length (presence (demands fs) es) ≡ length (demands fs)
presence_length no_fields es o h = refl
presence_length (field name optional t fs) [] o h = absurd h
presence_length (field name optional t fs) (e ∷ es) o h = ap suc (presence_length fs es o h.1)
presence_length (field name must t fs) es o h = absurd (true≢false (sym o))
presence_length (field name (default d) t fs) es o h = absurd (true≢false (sym o))

-- as a number they are 0 where none is present
none_is_zero : (fs : Fields) (es : List (Option Datum)) → AreOptional fs → FitsEach fs es → any_present es ≡ false → weighted 2 (presence (demands fs) es) ≡ 0
none_is_zero no_fields [] o h n = refl
none_is_zero no_fields (e ∷ es) o h n = absurd h
none_is_zero (field name optional t fs) [] o h n = absurd h
none_is_zero (field name optional t fs) (None ∷ es) o h n = omega (arith, none_is_zero fs es o h.1 n)
none_is_zero (field name optional t fs) (Some x ∷ es) o h n = absurd (true≢false n)
none_is_zero (field name must t fs) es o h n = absurd (true≢false (sym o))
none_is_zero (field name (default d) t fs) es o h n = absurd (true≢false (sym o))

-- and else above 0
some_above_zero : (fs : Fields) (es : List (Option Datum)) → AreOptional fs → FitsEach fs es → any_present es ≡ true → 0 < weighted 2 (presence (demands fs) es)
some_above_zero no_fields [] o h n = absurd (true≢false (sym n))
some_above_zero no_fields (e ∷ es) o h n = absurd h
some_above_zero (field name optional t fs) [] o h n = absurd h
some_above_zero (field name optional t fs) (None ∷ es) o h n = omega (arith, some_above_zero fs es o h.1 n)
some_above_zero (field name optional t fs) (Some x ∷ es) o h n = omega (arith, one-le-pow (length (presence (demands fs) es)) 2 (omega arith))
some_above_zero (field name must t fs) es o h n = absurd (true≢false (sym o))
some_above_zero (field name (default d) t fs) es o h n = absurd (true≢false (sym o))

-- where one is present, there is one
pub some_there : (es : List (Option Datum)) → any_present es ≡ true → 1 ≤ length es
some_there [] h = absurd (true≢false (sym h))
some_there (e ∷ es) h = omega arith

-- how many there are, up to 64, in 0 and 6 bits
pub count_bits : (n k : ℕ) → n ≤ 64 → k + 1 ≡ n → bits 7 k ≡ small_length n
count_bits n k few h =
    let front : (k / 2 ^ 6) % 2 ≡ 0 = omega (arith, few) in
    let less : k ≡ n - 1 = omega arith in
    ap (λ (d : ℕ). d ∷ bits 6 k) front ∙ ap (λ (i : ℕ). 0 ∷ bits 6 i) less

-- entries of which one is present
abbrev pub FitSome : Fields → List (Option Datum) → Type 0
FitSome fs es = FitsEach fs es × (any_present es ≡ true)

module _ (fs : Fields) (good : AreOfProfile fs) (o : AreOptional fs) where
  -- where the presence bits are not all 0, one is present
  pub some_by_bits : (b : ℕ) (es : List (Option Datum)) → (0 < b) × (b < 2 ^ length (demands fs)) → FitBits fs (bits (length (demands fs)) b) es → FitSome fs es
  some_by_bits b es h f = (f.0, go (any_present es) refl)
    where
      number : weighted 2 (presence (demands fs) es) ≡ b
      number = ap (weighted 2) f.1 ∙ (bits_are (length (demands fs)) b h.1).sum

      go : (p : Bool) → any_present es ≡ p → any_present es ≡ true
      go true e = e
      go false e = absurd (let zero_here = none_is_zero fs es o f.0 e in omega (arith, number, zero_here, h.0))

  -- and where one is present, they are the bits of such a number
  pub bits_of_some : (es : List (Option Datum)) → FitSome fs es → (b : ℕ) × ((0 < b) × (b < 2 ^ length (demands fs))) × FitBits fs (bits (length (demands fs)) b) es
  bits_of_some es h =
      let n = length (demands fs) in
      let b = weighted 2 (presence (demands fs) es) in
      let w = bits_only n b (presence (demands fs) es) (record { digits = presence_bits (demands fs) es; count = presence_length fs es o h.0; sum = refl }) in
      (b, (some_above_zero fs es o h.0 h.1, w.0), (h.0, w.1))

  -- presence bits, and the open fields after them
  bits_spelled : Same (Map after_first (Then (SomePresent (length (demands fs))) (λ b. OpenListed fs (bits (length (demands fs)) b)))) (SpelledBy (FitSome fs) (λ es. ones (presence (demands fs) es) ++ per_open fs es))
  bits_spelled =
      same_after (same_map (same_after (same_then (set_spelled n (λ b. (0 < b) × (b < 2 ^ n)) (λ b h. h.1)) (λ b. open_listed_spelled fs (bits n b) good o (digits_bits n b) (length-digits 2 n b))) then_spelled)) (map_spelled there back)
    where
      n : ℕ
      n = length (demands fs)

      there : (p : ℕ × List (Option Datum)) → ((0 < p.0) × (p.0 < 2 ^ n)) × FitBits fs (bits n p.0) p.1 → FitSome fs p.1 × (ones (bits n p.0) ++ per_open fs p.1 ≡ ones (presence (demands fs) p.1) ++ per_open fs p.1)
      there p h = (some_by_bits p.0 p.1 h.0 h.1, ap (λ (l : List ℕ). ones l ++ per_open fs p.1) (sym h.1.1))

      back : (es : List (Option Datum)) → FitSome fs es → (p : ℕ × List (Option Datum)) × (((0 < p.0) × (p.0 < 2 ^ n)) × FitBits fs (bits n p.0) p.1) × (es ≡ p.1)
      back es h = (let w = bits_of_some es h in ((w.0, es), (w.1, w.2), refl))

  -- the additions, as the definition spells them
  pub additions_spelled : length (demands fs) ≤ 64 → Same (Additions fs) (SpelledBy (FitSome fs) (λ es. ones (small_length (length (demands fs)) ++ presence (demands fs) es) ++ per_open fs es))
  additions_spelled few = same_after (same_map (same_after (same_then (set_spelled 7 (λ k. k + 1 ≡ n) (λ k h. omega (arith, few))) (λ k. bits_spelled)) then_spelled)) (map_spelled there back)
    where
      n : ℕ
      n = length (demands fs)

      there : (p : ℕ × List (Option Datum)) → (p.0 + 1 ≡ n) × FitSome fs p.1
          → FitSome fs p.1 × (ones (bits 7 p.0) ++ (ones (presence (demands fs) p.1) ++ per_open fs p.1) ≡ ones (small_length n ++ presence (demands fs) p.1) ++ per_open fs p.1)
      there p h =
          let bitmap = presence (demands fs) p.1 in
          (h.1, ap (λ (l : List ℕ). ones l ++ (ones bitmap ++ per_open fs p.1)) (count_bits n p.0 few h.0) ∙ sym (append_assoc (ones (small_length n)) (ones bitmap) (per_open fs p.1)) ∙ ap (λ (l : List Chunk). l ++ per_open fs p.1) (sym (ones-append (small_length n) bitmap)))

      back : (es : List (Option Datum)) → FitSome fs es → (p : ℕ × List (Option Datum)) × ((p.0 + 1 ≡ n) × FitSome fs p.1) × (es ≡ p.1)
      back es h = ((n - 1, es), (omega (arith, some_there es h.1, each_length fs es h.0), h), refl)
