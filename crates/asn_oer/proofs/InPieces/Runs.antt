-- Octets that a piece has whole, many at once.
use Rattle.std.proofs.Common.{◌≡◌, ◌<◌, ◌^◌, ℕ, List, [], ◌∷◌, ◌++◌, IsTrue, length, take, drop, append-nil, refl, sym, ap, subst, ◌∙◌, arith}
use Rattle.std.proofs.Math.Seq.{drop-append_seam, take-append_seam}
use Rattle.asn_values.specs.Fits.{is_of_kind}
use Rattle.asn_values.specs.Shape.{Alphabet}
use Rattle.asn_bits.specs.Moves.{Taken}
use Rattle.asn_bits.specs.Numbers.{bits, packed}
use Rattle.asn_rules.specs.Fields.{OneOctet}
use Rattle.asn_rules.specs.OctetReading.{AtOctet}
use Rattle.asn_rules.specs.OctetStrings.{Character}
use Rattle.asn_rules.proofs.Octets.Characters.{AreCharacters, row_front, text_spells}
use Rattle.asn_rules.proofs.Octets.OctetReading.{row_taken, row_whole}
use Rattle.asn_oer.specs.SingleItems.{TakesOctets}

-- without those that were there
alone : (n : ℕ) (us r old new : List ℕ) → (t : Taken n us r old new) → Taken n us r [] t.octets
alone n us r old new t = record { octets = t.octets; added = refl; count = t.count; each = t.each; taken = t.taken }

-- octets that a cursor takes
pub octets_taken : (n : ℕ) (us r old new : List ℕ) → Taken n us r old new → TakesOctets OneOctet n old new us r
octets_taken n us r old new t = record { row = t.octets; same = t.added; spelt = row_taken n us r t.octets (alone n us r old new t) }

-- whole octets are left
pub octets_whole : (n : ℕ) (us r old new : List ℕ) → AtOctet us → Taken n us r old new → AtOctet r
octets_whole n us r old new a t = row_whole n us r t.octets a (alone n us r old new t)

-- the octet in front
pub first_taken : (o : ℕ) (us r old new : List ℕ) → o < 2 ^ 8 → us ≡ bits 8 o ++ drop 8 us → r ≡ drop 8 us → new ≡ old ++ o ∷ [] → Taken 1 us r old new
first_taken o us r old new l e d s = record {
  octets = o ∷ [];
  added = s;
  count = refl;
  each = (omega (arith, l), tt);
  taken = e ∙ ap (λ (xs : List ℕ). xs ++ drop 8 us) (sym (append-nil (bits 8 o))) ∙ ap (λ (xs : List ℕ). (bits 8 o ++ []) ++ xs) (sym d);
}

-- octets of which each is a character
pub characters_taken : (k : Alphabet) (n : ℕ) (us r old new : List ℕ) → TakesOctets OneOctet n old new us r → AreCharacters k (drop (length old) new) → TakesOctets (Character k) n old new us r
characters_taken k n us r old new h good =
    let w = row_front n h.row (packed us) (packed r) h.spelt in
    let e : drop (length old) new ≡ h.row = ap (λ (xs : List ℕ). drop (length old) xs) h.same ∙ drop-append_seam old h.row in
    record { row = h.row; same = h.same; spelt = text_spells k n h.row (packed us) (packed r) w.0 w.1 (subst (AreCharacters k) e good) }

-- a character in front
pub character_taken : (k : Alphabet) (o : ℕ) (us r old new : List ℕ) → Taken 1 us r old new → new ≡ old ++ o ∷ [] → IsTrue (is_of_kind k o) → TakesOctets (Character k) 1 old new us r
character_taken k o us r old new t s h =
    let e : drop (length old) new ≡ o ∷ [] = ap (λ (xs : List ℕ). drop (length old) xs) s ∙ drop-append_seam old (o ∷ []) in
    characters_taken k 1 us r old new (octets_taken 1 us r old new t) (subst (AreCharacters k) (sym e) (h, tt))

-- those that were there before
pub before_taken : (n : ℕ) (us r old new : List ℕ) → TakesOctets OneOctet n old new us r → take (length old) new ≡ old
before_taken n us r old new h = ap (λ (xs : List ℕ). take (length old) xs) h.same ∙ take-append_seam old h.row
