-- The components of a SEQUENCE under their presence bits are as their definition spells them.
use Rattle.std.proofs.Common.{◌≡◌, ℕ, zero, suc, Bool, true, false, not, ◌&&◌, List, [], ◌∷◌, ◌++◌, length, Option, Some, None, refl, sym, ap, ◌∙◌, arith}
use Rattle.std.proofs.lemmas.Bool.{true≢false, eq-eqb}
use Rattle.std.proofs.lemmas.Int.{ints}
use Rattle.std.specs.Int.RustNames.{int_le}
use Rattle.asn_values.specs.Datum.{Datum, truth, number, item}
use Rattle.asn_values.specs.Shape.{Shape, boolean, integer, enumerated, closed_labels, Demand, must, optional, default, demands, Fields, no_fields, field}
use Rattle.asn_values.specs.Fits.{Fits, FitsEach}
use Rattle.asn_values.specs.Profile.{InProfile, EmptyRange, good_default}
use Rattle.asn_values.specs.Parts.{AreOfProfile}
use Rattle.asn_values.proofs.Defaults.{defaults_are_judged}
use Rattle.asn_bits.proofs.Above.{test_of_le}
use Rattle.asn_rules.specs.Chunks.{Chunk}
use Rattle.asn_rules.specs.Components.{bit_of, is_default, is_spelled, presence}
use Rattle.asn_bits.specs.Sets.{AreBits}
use Rattle.asn_rules.specs.Listed.{IsOther, Spelt, Before, Listed, each_of, bitmap_length}
use Rattle.asn_rules.proofs.Law.Entries.{default_is}
use Rattle.asn_rules.proofs.Components.Listed.{no_empty_range}

-- a good DEFAULT is itself
good_self : (t : Shape) (d : Datum) → good_default t d ≡ true → is_default d d ≡ true
good_self boolean (truth true) h = refl
good_self boolean (truth false) h = refl
good_self (integer b) (number z) h = both (int_le z z) (test_of_le z z (omega (arith, ints)))
  where
    both : (a : Bool) → a ≡ true → (a && a) ≡ true
    both true e = refl
    both false e = absurd (cc)
good_self (enumerated root closed_labels) (item p) h = eq-eqb p p refl
good_self t d h = absurd (true≢false (sym h))

-- and a value of its type
pub good_fits : (t : Shape) (d : Datum) → InProfile t → good_default t d ≡ true → Fits t d
good_fits t d p g = ((defaults_are_judged t d (no_empty_range t (p EmptyRange))).0 g).1

module _ (code : Shape → Datum → List Chunk) where
  -- what the presence bits and the chunks tell of the entries
  pub record IsListing (fs : Fields) (bits : List ℕ) (es : List (Option Datum)) (cs : List Chunk) : Type 0 where
    pub fits : FitsEach fs es
    pub bitmap : presence (demands fs) es ≡ bits
    pub chunks : cs ≡ each_of code fs es

  -- a component that is spelt, and those after it
  spelt_first : (name : List ℕ) (demand : Demand) (t : Shape) (fs : Fields) (left_out : Option Datum) (bits all : List ℕ)
      → ((v : Datum) → IsOther left_out v → is_spelled demand (Some v) ≡ true)
      → ((v : Datum) (es : List (Option Datum)) → is_spelled demand (Some v) ≡ true → presence (demands fs) es ≡ bits → presence (demands (field name demand t fs)) (Some v ∷ es) ≡ all)
      → ((es : List (Option Datum)) (cs : List Chunk) → Listed code fs bits es cs → IsListing fs bits es cs)
      → (es : List (Option Datum)) (cs : List Chunk) → Before (Spelt code left_out t) (Listed code fs bits) es cs → IsListing (field name demand t fs) all es cs
  spelt_first name demand t fs left_out bits all spelt front more es cs k =
      let rest = k.source.1 in
      let w = more rest k.spelt.second k.spelt.follows in
      let v = k.spelt.spelt.source in
      let s : is_spelled demand (Some v) ≡ true = spelt v k.spelt.spelt.spelt.fits.1 in
      let here : es ≡ Some v ∷ rest = k.seen ∙ ap (λ x. x ∷ rest) k.spelt.spelt.seen in
      let whole : cs ≡ each_of code (field name demand t fs) (Some v ∷ rest) =
      k.spelt.whole ∙ ap (λ (l : List Chunk). l ++ k.spelt.second) k.spelt.spelt.spelt.same ∙ ap (λ (l : List Chunk). code t v ++ l) w.chunks
      ∙ sym (ap (λ (b : Bool). (elim b [ true ↦ code t v | false ↦ [] ]) ++ each_of code fs rest) s) in
      rw here (record { fits = (k.spelt.spelt.spelt.fits.0, w.fits); bitmap = front v rest s w.bitmap; chunks = whole })

  -- what is listed under presence bits are entries that have these bits, and their spellings
  pub listed_is : (fs : Fields) (bits : List ℕ) → AreOfProfile fs → AreBits bits → length bits ≡ bitmap_length fs → (es : List (Option Datum)) (cs : List Chunk) → Listed code fs bits es cs → IsListing fs bits es cs
  listed_is no_fields [] h b l es cs k = rw (k.same, k.empty) (record { fits = tt; bitmap = refl; chunks = refl })
  listed_is no_fields (x ∷ bits) h b l es cs k = absurd (omega arith)
  listed_is (field name must t fs) bits h b l es cs k = spelt_first name must t fs None bits bits (λ v o. refl) (λ v gs s e. e) (listed_is fs bits h.2 b l) es cs k
  listed_is (field name optional t fs) [] h b l es cs k = absurd k
  listed_is (field name optional t fs) (zero ∷ bits) h b l es cs k =
      let w = listed_is fs bits h.2 b.1 (omega arith) k.source cs k.spelt in
      rw k.seen (record { fits = (tt, w.fits); bitmap = ap (λ (r : List ℕ). 0 ∷ r) w.bitmap; chunks = w.chunks })
  listed_is (field name optional t fs) (suc zero ∷ bits) h b l es cs k = spelt_first name optional t fs None bits (1 ∷ bits) (λ v o. refl) (λ v gs s e. ap (λ (r : List ℕ). 1 ∷ r) e) (listed_is fs bits h.2 b.1 (omega arith)) es cs k
  listed_is (field name optional t fs) (suc (suc x) ∷ bits) h b l es cs k = absurd (omega (arith, b.0))
  listed_is (field name (default d) t fs) [] h b l es cs k = absurd k
  listed_is (field name (default d) t fs) (zero ∷ bits) h b l es cs k =
      let w = listed_is fs bits h.2 b.1 (omega arith) k.source cs k.spelt in
      let s : is_default d d ≡ true = good_self t d h.1 in
      rw k.seen (record {
        fits = (good_fits t d h.0 h.1, w.fits);
        bitmap = ap (λ (x : Bool). bit_of (not x) ∷ presence (demands fs) k.source) s ∙ ap (λ (r : List ℕ). 0 ∷ r) w.bitmap;
        chunks = w.chunks ∙ sym (ap (λ (x : Bool). (elim (not x) [ true ↦ code t d | false ↦ [] ]) ++ each_of code fs k.source) s);
      })
  listed_is (field name (default d) t fs) (suc zero ∷ bits) h b l es cs k =
      spelt_first name (default d) t fs (Some d) bits (1 ∷ bits) (λ v o. ap not o) (λ v gs s e. ap (λ (x : Bool). bit_of x ∷ presence (demands fs) gs) s ∙ ap (λ (r : List ℕ). 1 ∷ r) e) (listed_is fs bits h.2 b.1 (omega arith)) es cs k
  listed_is (field name (default d) t fs) (suc (suc x) ∷ bits) h b l es cs k = absurd (omega (arith, b.0))

  -- a component that is spelt, before those that are listed
  before_listed : (name : List ℕ) (t : Shape) (fs : Fields) (left_out : Option Datum) (v : Datum) (bits : List ℕ) (es : List (Option Datum)) (cs : List Chunk) → Fits t v → IsOther left_out v → Listed code fs bits es cs
      → Before (Spelt code left_out t) (Listed code fs bits) (Some v ∷ es) (code t v ++ cs)
  before_listed name t fs left_out v bits es cs f o k = record {
    source = (Some v, es);
    spelt = record { first = code t v; second = cs; spelt = record { source = v; spelt = record { fits = (f, o); same = refl }; seen = refl }; follows = k; whole = refl };
    seen = refl;
  }

  -- entries that fit are listed under their presence bits
  pub is_listed : (fs : Fields) (es : List (Option Datum)) → FitsEach fs es → Listed code fs (presence (demands fs) es) es (each_of code fs es)
  is_listed no_fields [] h = record { same = refl; empty = refl }
  is_listed no_fields (e ∷ es) h = absurd h
  is_listed (field name demand t fs) [] h = absurd h
  is_listed (field name must t fs) (Some v ∷ es) h = before_listed name t fs None v (presence (demands fs) es) es (each_of code fs es) h.0 tt (is_listed fs es h.1)
  is_listed (field name must t fs) (None ∷ es) h = absurd h.0
  is_listed (field name optional t fs) (Some v ∷ es) h = before_listed name t fs None v (presence (demands fs) es) es (each_of code fs es) h.0 tt (is_listed fs es h.1)
  is_listed (field name optional t fs) (None ∷ es) h = record { source = es; spelt = is_listed fs es h.1; seen = refl }
  is_listed (field name (default d) t fs) (None ∷ es) h = absurd h.0
  is_listed (field name (default d) t fs) (Some v ∷ es) h = by (is_default d v) refl (is_listed fs es h.1)
    where
      by : (b : Bool) → is_default d v ≡ b → Listed code fs (presence (demands fs) es) es (each_of code fs es) → Listed code (field name (default d) t fs) (bit_of (not b) ∷ presence (demands fs) es) (Some v ∷ es) ((elim (not b) [ true ↦ code t v | false ↦ [] ]) ++ each_of code fs es)
      by true e k = record { source = es; spelt = k; seen = ap (λ (x : Datum). Some x ∷ es) (sym (default_is d v e)) }
      by false e k = before_listed name t fs (Some d) v (presence (demands fs) es) es (each_of code fs es) h.0 e k
