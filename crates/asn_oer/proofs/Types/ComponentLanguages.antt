-- The components of a SEQUENCE in OER under their presence bits, and its additions under their bitmap, are as their
-- definitions spell them.
use Rattle.std.proofs.Common.{◌≡◌, ◌<◌, ℕ, zero, suc, true, List, [], ◌∷◌, ◌++◌, length, Option, Some, None, refl, sym, ap, ◌∙◌, subst, arith}
use Rattle.std.proofs.lemmas.Bool.{true≢false}
use Rattle.std.specs.List.{list_all}
use Rattle.asn_values.specs.Datum.{Datum}
use Rattle.asn_values.specs.Shape.{Shape, must, optional, default, demands, Fields, no_fields, field}
use Rattle.asn_values.specs.Fits.{Fits, FitsEach}
use Rattle.asn_values.specs.Profile.{InProfile, is_optional}
use Rattle.asn_values.specs.Parts.{AreOfProfile}
use Rattle.asn_rules.specs.Chunks.{Chunk}
use Rattle.asn_rules.specs.Components.{if_spelled, presence}
use Rattle.asn_rules.specs.Languages.{Map, prepended}
use Rattle.asn_bits.specs.Sets.{AreBits}
use Rattle.asn_rules.specs.Forks.{Same}
use Rattle.asn_rules.specs.Listed.{Before, Listed, each_of, bitmap_length}
use Rattle.asn_rules.specs.Spellings.{SpelledBy}
use Rattle.asn_rules.proofs.Components.ListedEach.{listed_is, is_listed}
use Rattle.asn_rules.proofs.Languages.Spellings.{same_after, same_then, same_map, same_spelled, map_spelled, nothing_spelled, then_spelled}
use Rattle.asn_oer.specs.Oer.{oer, oer_each, oer_open, an_open_field}
use Rattle.asn_oer.specs.Constructed.{InOpenField}
use Rattle.asn_oer.specs.Sequences.{OpenListed}
use Rattle.asn_oer.proofs.Types.OpenTypes.{open_language}

-- ---- a component that is spelt, and those after it

-- the entry is there, with such a value
abbrev OnEntry : (Datum → Type 0) → Option Datum → Type 0
OnEntry P None = ⊥
OnEntry P (Some d) = P d

-- its spelling
abbrev entry_code : (Datum → List Chunk) → Option Datum → List Chunk
entry_code f None = []
entry_code f (Some d) = f d

-- an entry that is there is spelt as its value
entry_spelled : (P : Datum → Type 0) (f : Datum → List Chunk) → Same (Map Some (SpelledBy P f)) (SpelledBy (OnEntry P) (entry_code f))
entry_spelled P f = map_spelled (λ d h. (h, refl)) back
  where
    back : (e : Option Datum) → OnEntry P e → (d : Datum) × P d × (e ≡ Some d)
    back (Some d) h = (d, h, refl)
    back None h = absurd h

-- the spellings of a first component and of the others are those of all, where each list with both fits, and none else
before_spelled : {L : Datum → List Chunk → Type 0} {M : List (Option Datum) → List Chunk → Type 0} (P : Datum → Type 0) (f : Datum → List Chunk) (Q G : List (Option Datum) → Type 0) (g code : List (Option Datum) → List Chunk)
    → Same L (SpelledBy P f) → Same M (SpelledBy Q g) → ((d : Datum) (es : List (Option Datum)) → P d → Q es → G (Some d ∷ es) × (f d ++ g es ≡ code (Some d ∷ es)))
    → ((es : List (Option Datum)) → G es → (d : Datum) × (rest : List (Option Datum)) × P d × Q rest × (es ≡ Some d ∷ rest)) → Same (Before L M) (SpelledBy G code)
before_spelled {L} {M} P f Q G g code l m there back = same_after (same_map (same_after (same_then (same_after (same_map l) (entry_spelled P f)) (λ _. m)) then_spelled)) (map_spelled (λ p h. to p.0 p.1 h.0 h.1) from)
  where
    to : (e : Option Datum) (es : List (Option Datum)) → OnEntry P e → Q es → G (e ∷ es) × (entry_code f e ++ g es ≡ code (e ∷ es))
    to (Some d) es h q = there d es h q
    to None es h q = absurd h

    from : (es : List (Option Datum)) → G es → (p : Option Datum × List (Option Datum)) × (OnEntry P p.0 × Q p.1) × (es ≡ prepended p)
    from es h = (let w = back es h in ((Some w.0, w.1), (w.2, w.3), w.4))

-- ---- the components

-- the entries fit, and these are their presence bits
abbrev pub Under : Fields → List ℕ → List (Option Datum) → Type 0
Under fs bits es = FitsEach fs es × (presence (demands fs) es ≡ bits)

-- the definition, which is the same for all rules
each_is : (fs : Fields) (es : List (Option Datum)) → each_of oer fs es ≡ oer_each fs es
each_is no_fields es = refl
each_is (field name demand t fs) [] = refl
each_is (field name demand t fs) (e ∷ es) = ap (λ (l : List Chunk). if_spelled demand e (λ d. oer t d) ++ l) (each_is fs es)

-- the components of a SEQUENCE under their presence bits
pub listed_language : (fs : Fields) (bits : List ℕ) → AreOfProfile fs → AreBits bits → length bits ≡ bitmap_length fs → Same (Listed oer fs bits) (SpelledBy (Under fs bits) (oer_each fs))
listed_language fs bits h b l = record {
  to = λ es cs k. (let w = listed_is oer fs bits h b l es cs k in record { fits = (w.fits, w.bitmap); same = w.chunks ∙ each_is fs es });
  from = λ es cs k. back es cs k.fits.0 k.fits.1 k.same;
}
  where
    back : (es : List (Option Datum)) (cs : List Chunk) → FitsEach fs es → presence (demands fs) es ≡ bits → cs ≡ oer_each fs es → Listed oer fs bits es cs
    back es cs f e s = subst (λ (r : List ℕ). Listed oer fs r es cs) e (subst (λ (l : List Chunk). Listed oer fs (presence (demands fs) es) es l) (each_is fs es ∙ sym s) (is_listed oer fs es f))

-- ---- the additions

-- the first of two bits
first_bit : (a b : ℕ) (x y : List ℕ) → a ∷ x ≡ b ∷ y → a ≡ b
first_bit a b x y e = cc

-- the others
other_bits : (a b : ℕ) (x y : List ℕ) → a ∷ x ≡ b ∷ y → x ≡ y
other_bits a b x y e = cc

-- a bit that is not 0 is 1
bit_one : (b : ℕ) → suc b < 2 → 1 ≡ suc b
bit_one b h = omega arith

module _ (name : List ℕ) (t : Shape) (fs : Fields) (bits : List ℕ) (rest : Same (OpenListed fs bits) (SpelledBy (Under fs bits) (oer_open fs))) where
  -- an addition that is there, and those after it
  there_spelled : (b : ℕ) → suc b < 2 → InProfile t → Same (Before (InOpenField t) (OpenListed fs bits)) (SpelledBy (Under (field name optional t fs) (suc b ∷ bits)) (oer_open (field name optional t fs)))
  there_spelled b small good = before_spelled (Fits t) (λ v. an_open_field (oer t v)) (Under fs bits) (Under (field name optional t fs) (suc b ∷ bits)) (oer_open fs) (oer_open (field name optional t fs)) (open_language t good) rest there back
    where
      there : (d : Datum) (es : List (Option Datum)) → Fits t d → Under fs bits es → Under (field name optional t fs) (suc b ∷ bits) (Some d ∷ es) × (an_open_field (oer t d) ++ oer_open fs es ≡ oer_open (field name optional t fs) (Some d ∷ es))
      there d es h q = (((h, q.0), ap (λ (l : List ℕ). 1 ∷ l) q.1 ∙ ap (λ (i : ℕ). i ∷ bits) (bit_one b small)), refl)

      back : (es : List (Option Datum)) → Under (field name optional t fs) (suc b ∷ bits) es → (d : Datum) × (r : List (Option Datum)) × Fits t d × Under fs bits r × (es ≡ Some d ∷ r)
      back [] h = absurd h.0
      back (None ∷ es) h = absurd (let e = first_bit 0 (suc b) (presence (demands fs) es) bits h.1 in omega arith)
      back (Some d ∷ es) h = (d, es, h.0.0, (h.0.1, other_bits 1 (suc b) (presence (demands fs) es) bits h.1), refl)

  -- an addition that is absent, and those after it
  absent_spelled : Same (Map (λ es. None ∷ es) (OpenListed fs bits)) (SpelledBy (Under (field name optional t fs) (zero ∷ bits)) (oer_open (field name optional t fs)))
  absent_spelled = same_after (same_map rest) (map_spelled (λ es q. ((((tt, q.0), ap (λ (l : List ℕ). 0 ∷ l) q.1)), refl)) back)
    where
      back : (es : List (Option Datum)) → Under (field name optional t fs) (zero ∷ bits) es → (r : List (Option Datum)) × Under fs bits r × (es ≡ None ∷ r)
      back [] h = absurd h.0
      back (None ∷ es) h = (es, (h.0.1, other_bits 0 0 (presence (demands fs) es) bits h.1), refl)
      back (Some d ∷ es) h = absurd (let e = first_bit 1 0 (presence (demands fs) es) bits h.1 in omega arith)

-- the additions, all of them OPTIONAL, under the bits of their bitmap
pub open_listed_language : (fs : Fields) (bits : List ℕ) → AreOfProfile fs → list_all is_optional (demands fs) ≡ true → AreBits bits → length bits ≡ length (demands fs) → Same (OpenListed fs bits) (SpelledBy (Under fs bits) (oer_open fs))
open_listed_language no_fields [] h o b l = same_after (nothing_spelled []) (same_spelled there back (λ es e. refl))
  where
    there : (es : List (Option Datum)) → es ≡ [] → Under no_fields [] es
    there es e = subst (Under no_fields []) (sym e) (tt, refl)

    back : (es : List (Option Datum)) → Under no_fields [] es → es ≡ []
    back [] h = refl
    back (e ∷ es) h = absurd h.0
open_listed_language no_fields (x ∷ bits) h o b l = absurd (omega arith)
open_listed_language (field name must t fs) bits h o b l = absurd (true≢false (sym o))
open_listed_language (field name (default d) t fs) bits h o b l = absurd (true≢false (sym o))
open_listed_language (field name optional t fs) [] h o b l = absurd (omega arith)
open_listed_language (field name optional t fs) (zero ∷ bits) h o b l = absent_spelled name t fs bits (open_listed_language fs bits h.2 o b.1 (omega arith))
open_listed_language (field name optional t fs) (suc x ∷ bits) h o b l = there_spelled name t fs bits (open_listed_language fs bits h.2 o b.1 (omega arith)) x b.0 h.0
