-- The components of a SEQUENCE under their presence bits: two lists of spellings are one or part, and there is one.
use Rattle.std.proofs.Common.{◌≡◌, ◌≢◌, ℕ, zero, suc, Bool, true, false, List, [], ◌∷◌, length, Option, Some, None, refl, arith}
use Rattle.asn_values.specs.Datum.{Datum}
use Rattle.asn_values.specs.Shape.{Shape, boolean, null, integer, enumerated, bit_string, octet_string, restricted, utf8_string, sequence, sequence_of, choice, must, optional, default, Fields, no_fields, field}
use Rattle.asn_values.specs.Fits.{Fits}
use Rattle.asn_values.specs.Profile.{InProfile, EmptyRange, good_default, somewhere, empty_range}
use Rattle.asn_values.specs.Parts.{AreOfProfile}
use Rattle.asn_values.proofs.Parts.{left_false}
use Rattle.asn_values.proofs.Defaults.{defaults_are_judged}
use Rattle.asn_rules.specs.Chunks.{Chunk}
use Rattle.asn_rules.specs.Components.{is_default}
use Rattle.asn_rules.specs.Parted.{SpellingsPart}
use Rattle.asn_rules.specs.Languages.{Lawful, Inhabited, Map, prepended}
use Rattle.asn_rules.specs.Listed.{IsOther, Spelt, Before, Listed, bitmap_length}
use Rattle.asn_rules.proofs.Law.Entries.{default_is}
use Rattle.asn_rules.proofs.Law.SomeValue.{a_value}
use Rattle.asn_rules.proofs.Languages.Spellings.{spelled_lawful, spelled_inhabited}
use Rattle.asn_rules.proofs.Languages.Parts.{map_lawful, map_inhabited, nothing_lawful, nothing_inhabited}
use Rattle.asn_rules.proofs.Languages.Then.{then_lawful, then_inhabited}

-- ---- one component

-- a type of the profile has no empty range of its own
pub no_empty_range : (s : Shape) → somewhere empty_range s ≡ false → empty_range s ≡ false
no_empty_range (sequence root more) h = left_false _ _ h
no_empty_range (sequence_of s z) h = left_false _ _ h
no_empty_range (choice root more) h = left_false _ _ h
no_empty_range boolean h = h
no_empty_range null h = h
no_empty_range (integer b) h = h
no_empty_range (enumerated root more) h = h
no_empty_range (bit_string z) h = h
no_empty_range (octet_string z) h = h
no_empty_range (restricted k z) h = h
no_empty_range utf8_string h = h

-- of a type of the profile, a good DEFAULT has another value beside it
pub another : (t : Shape) (d : Datum) → InProfile t → good_default t d ≡ true → (v : Datum) × Fits t v × IsOther (Some d) v
another t d p g =
    let may = (defaults_are_judged t d (no_empty_range t (p EmptyRange))).0 g in
    (may.2.0, may.2.1, other d may.2.0 may.2.2)
  where
    other : (x y : Datum) → x ≢ y → is_default x y ≡ false
    other x y n = go (is_default x y) refl
      where
        go : (b : Bool) → is_default x y ≡ b → b ≡ false
        go true e = absurd (n (default_is x y e))
        go false e = refl

module _ (code : Shape → Datum → List Chunk) (part : SpellingsPart code) where
  pub spelt_lawful : (e : Option Datum) (t : Shape) → InProfile t → Lawful (Spelt code e t)
  spelt_lawful e t p = spelled_lawful (λ v w a b. part t v w p a.0 b.0)

  none_here : Lawful (λ (es : List (Option Datum)) (cs : List Chunk). ⊥)
  none_here = record { law = λ v w x y a b. absurd a }

  some_same : (v w : Datum) → Some v ≡ Some w → v ≡ w
  some_same v w e = cc

  prepended_same : (p q : Option Datum × List (Option Datum)) → prepended p ≡ prepended q → p ≡ q
  prepended_same p q e = let f : p.0 ≡ q.0 = cc in let g : p.1 ≡ q.1 = cc in λ i. (f i, g i)

  before_lawful : {L : Datum → List Chunk → Type 0} {M : List (Option Datum) → List Chunk → Type 0} → Lawful L → Lawful M → Lawful (Before L M)
  before_lawful l m = map_lawful prepended_same (then_lawful (map_lawful some_same l) (λ _. m))

  entry_lawful : (e : Option Datum) {M : List (Option Datum) → List Chunk → Type 0} → Lawful M → Lawful (Map (λ es. e ∷ es) M)
  entry_lawful e m = map_lawful (λ es gs h. cc) m

  -- two lists of spellings are one, of the same entries, or they part
  pub listed_lawful : (fs : Fields) (bits : List ℕ) → AreOfProfile fs → Lawful (Listed code fs bits)
  listed_lawful no_fields bits h = nothing_lawful []
  listed_lawful (field name must t fs) bits h = before_lawful (spelt_lawful None t h.0) (listed_lawful fs bits h.2)
  listed_lawful (field name optional t fs) [] h = none_here
  listed_lawful (field name optional t fs) (zero ∷ bits) h = entry_lawful None (listed_lawful fs bits h.2)
  listed_lawful (field name optional t fs) (suc b ∷ bits) h = before_lawful (spelt_lawful None t h.0) (listed_lawful fs bits h.2)
  listed_lawful (field name (default d) t fs) [] h = none_here
  listed_lawful (field name (default d) t fs) (zero ∷ bits) h = entry_lawful (Some d) (listed_lawful fs bits h.2)
  listed_lawful (field name (default d) t fs) (suc b ∷ bits) h = before_lawful (spelt_lawful (Some d) t h.0) (listed_lawful fs bits h.2)

module _ (code : Shape → Datum → List Chunk) where
  pub spelt_inhabited : (t : Shape) → InProfile t → Inhabited (Spelt code None t)
  spelt_inhabited t p = let v = a_value t p in spelled_inhabited v.0 (v.1, tt)

  pub other_inhabited : (t : Shape) (d : Datum) → InProfile t → good_default t d ≡ true → Inhabited (Spelt code (Some d) t)
  other_inhabited t d p g = let v = another t d p g in spelled_inhabited v.0 (v.1, v.2)

  before_inhabited : {L : Datum → List Chunk → Type 0} {M : List (Option Datum) → List Chunk → Type 0} → Inhabited L → Inhabited M → Inhabited (Before L M)
  before_inhabited l m = map_inhabited (then_inhabited (map_inhabited l) (record { follow = λ a x h. m }))

  -- components have entries, whatever their presence bits are
  pub listed_inhabited : (fs : Fields) (bits : List ℕ) → AreOfProfile fs → length bits ≡ bitmap_length fs → Inhabited (Listed code fs bits)
  listed_inhabited no_fields bits h l = nothing_inhabited []
  listed_inhabited (field name must t fs) bits h l = before_inhabited (spelt_inhabited t h.0) (listed_inhabited fs bits h.2 l)
  listed_inhabited (field name optional t fs) [] h l = absurd (omega arith)
  listed_inhabited (field name optional t fs) (zero ∷ bits) h l = map_inhabited (listed_inhabited fs bits h.2 (omega arith))
  listed_inhabited (field name optional t fs) (suc b ∷ bits) h l = before_inhabited (spelt_inhabited t h.0) (listed_inhabited fs bits h.2 (omega arith))
  listed_inhabited (field name (default d) t fs) [] h l = absurd (omega arith)
  listed_inhabited (field name (default d) t fs) (zero ∷ bits) h l = map_inhabited (listed_inhabited fs bits h.2 (omega arith))
  listed_inhabited (field name (default d) t fs) (suc b ∷ bits) h l = before_inhabited (other_inhabited t d h.0 h.1) (listed_inhabited fs bits h.2 (omega arith))
