-- Sealed fields that are octets under their general length, in PER, or after their length, in OER: a length that
-- is not well spelt is refused inside it, and a content that is none at the last unit of its field.
use Rattle.std.proofs.Common.{◌≡◌, ℕ, ◌<◌, List, [], ◌∷◌, ◌++◌, map, length, take, drop, refl, sym, ap, ◌∙◌, arith}
use Rattle.std.proofs.lemmas.List.{length-map, drop-map}
use Rattle.std.specs.List.{AllByRecursion}
use Rattle.asn_values.specs.Fits.{max_len}
use Rattle.asn_bits.specs.Numbers.{bits, octet_count}
use Rattle.asn_bits.specs.Lengths.{Length, lengths, joined, with_lengths, general, general_octets, octet_length}
use Rattle.asn_bits.proofs.GeneralLengths.{take-map}
use Rattle.asn_rules.specs.Chunks.{Kind, open_field, utf8_field, Chunk, one, ones, field_units}
use Rattle.asn_rules.specs.Live.{Fielding, IsContent}
use Rattle.asn_rules.specs.Languages.{Spells, Short, Refused, Lawful, Inhabited, Sealed, SomeContent}
use Rattle.asn_bits.specs.Sets.{Between}
use Rattle.asn_rules.specs.Forks.{Same}
use Rattle.asn_rules.specs.General.{General}
use Rattle.asn_rules.specs.Frames.{Frame}
use Rattle.asn_rules.specs.Fields.{Octet, OctetsAfterLength}
use Rattle.asn_rules.specs.Spellings.{SpelledBy}
use Rattle.asn_rules.proofs.Live.Chunks.{FieldsPart, ones-append}
use Rattle.asn_rules.proofs.Languages.Forks.{same_flip, same_spells, same_short, same_refused, same_lawful}
use Rattle.asn_bits.proofs.Unions.{set_meets}
use Rattle.asn_rules.proofs.Numbers.Sets.{set_lawful, set_inhabited}
use Rattle.asn_rules.proofs.Languages.Spellings.{same_after, same_spelled, set_spelled, plain_spelled}
use Rattle.asn_rules.proofs.Numbers.Fragments.{same_general, general_spelled}
use Rattle.asn_rules.proofs.Numbers.OctetLengths.{octets_after_length}
use Rattle.asn_bits.proofs.Octets.{octet_count_below}
use Rattle.asn_rules.proofs.Sealed.Frames.{frame_short, frame_refused, frame_spells, frame_refused_content}

-- ---- octets

-- octets are one or part
pub octet_lawful : Lawful Octet
octet_lawful = set_lawful 2 8 (λ n. n < 256)

-- there is an octet
pub octet_inhabited : Inhabited Octet
octet_inhabited = set_inhabited (set_meets 2 8 {S = λ n. n < 256} 0 (omega arith) (omega arith))

-- an octet, as the definition has it
pub octet_spelled : Same Octet (SpelledBy (λ n. n < 256) (λ n. ones (bits 8 n)))
octet_spelled = set_spelled 8 (λ n. n < 256) (λ n h. omega (arith, h))

-- ---- plain units under their general length

-- plain units one after the other
pub joined_ones : (items : List (List ℕ)) → joined (map ones items) ≡ ones (joined items)
joined_ones [] = refl
joined_ones (x ∷ xs) = ap (λ (l : List Chunk). ones x ++ l) (joined_ones xs) ∙ sym (ones-append x (joined xs))

-- a view that changes no unit
same_map : (us : List ℕ) → map (λ u. u) us ≡ us
same_map [] = refl
same_map (u ∷ us) = ap (λ (t : List ℕ). u ∷ t) (same_map us)

-- plain units under lengths
pub lengths_ones : (ls : List Length) (items : List (List ℕ)) → with_lengths one ls (map ones items) ≡ ones (with_lengths (λ u. u) ls items)
lengths_ones [] items = refl
lengths_ones (l ∷ ls) items =
    let front : joined (take l.items (map ones items)) ≡ ones (joined (take l.items items)) = ap joined (take-map ones l.items items) ∙ joined_ones (take l.items items) in
    let back : with_lengths one ls (drop l.items (map ones items)) ≡ ones (with_lengths (λ u. u) ls (drop l.items items)) = ap (with_lengths one ls) (drop-map ones l.items items) ∙ lengths_ones ls (drop l.items items) in
    let rest = joined (take l.items items) in
    let more = with_lengths (λ u. u) ls (drop l.items items) in
    ap (λ (t : List Chunk). ones l.bits ++ (t ++ with_lengths one ls (drop l.items (map ones items)))) front
    ∙ ap (λ (t : List Chunk). ones l.bits ++ (ones rest ++ t)) back
    ∙ ap (λ (t : List Chunk). ones l.bits ++ t) (sym (ones-append rest more))
    ∙ ap (λ (us : List ℕ). ones us ++ ones (rest ++ more)) (sym (same_map l.bits))
    ∙ sym (ones-append (map (λ u. u) l.bits) (rest ++ more))

-- octets as items
octets_items : (c : List ℕ) → map (λ o. ones (bits 8 o)) c ≡ map ones (map (λ o. map (λ u. u) (bits 8 o)) c)
octets_items [] = refl
octets_items (o ∷ c) = ap (λ (l : List Chunk). l ∷ map (λ o. ones (bits 8 o)) c) (ap ones (sym (same_map (bits 8 o)))) ∙ ap (λ l. ones (map (λ u. u) (bits 8 o)) ∷ l) (octets_items c)

-- octets under their general length are plain units
octets_ones : (c : List ℕ) → general one (map (λ o. ones (bits 8 o)) c) ≡ ones (general_octets (λ u. u) c)
octets_ones c =
    let items = map (λ o. map (λ u. u) (bits 8 o)) c in
    ap (general one) (octets_items c) ∙ ap (λ (n : ℕ). with_lengths one (lengths n) (map ones items)) (length-map items ones) ∙ lengths_ones (lengths (length items)) items

-- octets under their general length, as the definition spells them
pub octets_spelled : (S : ℕ → Type 0) → Same (General Octet S) (SpelledBy (λ c. S (length c) × AllByRecursion (λ o. o < 256) c) (λ c. ones (general_octets (λ u. u) c)))
octets_spelled S = same_after (same_general octet_spelled S) (same_after (general_spelled (λ n. n < 256) (λ n. ones (bits 8 n)) (same_lawful octet_spelled octet_lawful) S) (same_spelled (λ c h. h) (λ c h. h) (λ c h. octets_ones c)))

-- ---- sealed fields whose contents stand under their general length

-- a sealed field, as the definition has it
field_spelled : (R : Fielding) (k : Kind) → Same (Frame R k) (SpelledBy (IsContent R k) (λ c. ones (field_units R.spelled k c)))
field_spelled R k = plain_spelled (λ c us h. (h.contents, h.same)) (λ c h. record { contents = h; same = refl })

-- a field is what is spelt so, of the lengths that it may have
frame_by : (R : Fielding) (k : Kind) (S : ℕ → Type 0) (L : List ℕ → List Chunk → Type 0) (code : List ℕ → List ℕ) → Same L (SpelledBy (λ c. S (length c) × AllByRecursion (λ o. o < 256) c) (λ c. ones (code c))) → ((c : List ℕ) → field_units R.spelled k c ≡ code c) → ((c : List ℕ) → S (length c) × AllByRecursion (λ o. o < 256) c → IsContent R k c) → ((c : List ℕ) → IsContent R k c → S (length c) × AllByRecursion (λ o. o < 256) c) → Same L (Frame R k)
frame_by R k S L code e is to from = same_after e (same_after (same_spelled to from (λ c h. ap ones (sym (is c)))) (same_flip (field_spelled R k)))

-- an open field is octets of a length from the shortest to the longest of its kind
pub open_frame : (R : Fielding) → ((c : List ℕ) → R.spelled c ≡ general_octets (λ u. u) c) → Same (General Octet (Between (R.shortest open_field) max_len)) (Frame R open_field)
open_frame R is = frame_by R open_field (Between (R.shortest open_field) max_len) (General Octet (Between (R.shortest open_field) max_len)) (general_octets (λ u. u)) (octets_spelled (Between (R.shortest open_field) max_len)) is (λ c h. (h.0.0, h.0.1, h.1)) (λ c h. ((h.0, h.1), h.2))

-- and so is a UTF8String
pub utf8_frame : (R : Fielding) → ((c : List ℕ) → R.spelled c ≡ general_octets (λ u. u) c) → Same (General Octet (Between (R.shortest utf8_field) max_len)) (Frame R utf8_field)
utf8_frame R is = frame_by R utf8_field (Between (R.shortest utf8_field) max_len) (General Octet (Between (R.shortest utf8_field) max_len)) (general_octets (λ u. u)) (octets_spelled (Between (R.shortest utf8_field) max_len)) is (λ c h. (h.0.0, h.0.1, h.1)) (λ c h. ((h.0, h.1), h.2))

-- the longest content has a length of few octets
few_octets : (low n : ℕ) → Between low max_len n → octet_count n < 128
few_octets low n h = (let l = octet_count_below n 4 (omega arith) (omega (arith, h.1)) in omega arith)

-- in OER an open field is octets after their length
pub open_octets : (R : Fielding) → ((c : List ℕ) → R.spelled c ≡ octet_length (length c) ++ c) → Same (OctetsAfterLength (Between (R.shortest open_field) max_len)) (Frame R open_field)
open_octets R is =
    let S = Between (R.shortest open_field) max_len in
    frame_by R open_field S (OctetsAfterLength S) (λ c. octet_length (length c) ++ c) (octets_after_length S (few_octets (R.shortest open_field))) is (λ c h. (h.0.0, h.0.1, h.1)) (λ c h. ((h.0, h.1), h.2))

-- and so is a UTF8String
pub utf8_octets : (R : Fielding) → ((c : List ℕ) → R.spelled c ≡ octet_length (length c) ++ c) → Same (OctetsAfterLength (Between (R.shortest utf8_field) max_len)) (Frame R utf8_field)
utf8_octets R is =
    let S = Between (R.shortest utf8_field) max_len in
    frame_by R utf8_field S (OctetsAfterLength S) (λ c. octet_length (length c) ++ c) (octets_after_length S (few_octets (R.shortest utf8_field))) is (λ c h. (h.0.0, h.0.1, h.1)) (λ c h. ((h.0, h.1), h.2))

-- ---- the answers for what a field is spelt as, as those for the field

-- the octets want more
pub field_short : {A : Type 0} {R : Fielding} {k : Kind} {D : A → List ℕ → Type 0} {L : List ℕ → List Chunk → Type 0} {us : List ℕ} → FieldsPart R → SomeContent D → Same (L) (Frame R k) → Short R (L) us → Short R (Sealed k D) us
field_short ok i e h = frame_short ok i (same_short e h)

-- the octets are refused inside a length
pub field_refused : {A : Type 0} {R : Fielding} {k : Kind} {D : A → List ℕ → Type 0} {L : List ℕ → List Chunk → Type 0} {us : List ℕ} {n : ℕ} → FieldsPart R → SomeContent D → Same (L) (Frame R k) → Refused R (L) us n → Refused R (Sealed k D) us n
field_refused ok i e h = frame_refused ok i (same_refused e h)

-- the octets have been read, and their content is one that may stand there
pub field_spells : {A : Type 0} {R : Fielding} {k : Kind} {D : A → List ℕ → Type 0} {L : List ℕ → List Chunk → Type 0} {a : A} {c us r : List ℕ} → Same (L) (Frame R k) → Spells R (L) c us r → D a c → Spells R (Sealed k D) a us r
field_spells e h d = frame_spells (same_spells e h) d

-- the content is none, whatever it was read as
pub field_refused_content : {A : Type 0} {R : Fielding} {k : Kind} {D : A → List ℕ → Type 0} {L : List ℕ → List Chunk → Type 0} {c us r : List ℕ} → FieldsPart R → SomeContent D → Same (L) (Frame R k) → Spells R (L) c us r → ((a : A) → D a c → ⊥) → Refused R (Sealed k D) us (length r)
field_refused_content ok i e h never = frame_refused_content ok i (same_spells e h) never
