-- SEQUENCE in OER is a preamble, the components under its presence bits, and the additions under its extension bit.
use Rattle.std.proofs.Common.{◌≡◌, ◌≤◌, ◌<◌, ◌+◌, ◌*◌, ◌/◌, ◌%◌, ◌^◌, ℕ, zero, suc, Bool, true, false, List, [], ◌∷◌, ◌++◌, length, take, drop, Option, Some, None, refl, sym, ap, ◌∙◌, subst, arith, append_assoc}
use Rattle.std.proofs.lemmas.Nat.{div-mul-add}
use Rattle.std.proofs.lemmas.List.{take-append-drop}
use Rattle.std.proofs.Math.Nat.{mul-le-mul_right, div-add-mod', pow-succ'}
use Rattle.std.proofs.Math.Seq.{take-append_seam, drop-append_seam}
use Rattle.asn_values.specs.Datum.{Datum, components, component_list, components_of}
use Rattle.asn_values.specs.Shape.{must, optional, default, demands, sequence, Fields, no_fields, field, MoreFields, closed, marked, is_marked}
use Rattle.asn_values.specs.Fits.{Fits, FitsEach, FitsMore}
use Rattle.asn_values.specs.Profile.{InProfile}
use Rattle.asn_values.proofs.Parts.{components_of_profile}
use Rattle.asn_bits.specs.Numbers.{bits}
use Rattle.asn_bits.proofs.Octets.{length-digits}
use Rattle.asn_bits.proofs.Splits.{digits_above}
use Rattle.asn_rules.specs.Chunks.{Chunk, ones}
use Rattle.asn_rules.specs.Components.{bit_of, any_present, presence, extension_bit}
use Rattle.asn_rules.specs.Languages.{Then}
use Rattle.asn_bits.specs.Sets.{weighted, IsBits}
use Rattle.asn_rules.specs.Forks.{Same}
use Rattle.asn_rules.specs.Listed.{Listed, bitmap_length}
use Rattle.asn_rules.specs.Spellings.{SpelledBy}
use Rattle.asn_bits.proofs.Weights.{bits_only, are_digits}
use Rattle.asn_rules.proofs.Law.Entries.{each_length, presence_bits, same_components}
use Rattle.asn_rules.proofs.Languages.Spellings.{same_after, same_then, same_map, map_spelled, then_spelled}
use Rattle.asn_rules.specs.Filled.{filled_bits}
use Rattle.asn_oer.specs.Oer.{oer, oer_each, oer_additions}
use Rattle.asn_oer.specs.Constructed.{Values}
use Rattle.asn_oer.specs.Preambles.{extension_count, extending_count}
use Rattle.asn_oer.specs.Sequences.{Additions, sequence_told, Sequences}
use Rattle.asn_oer.proofs.Types.ComponentLanguages.{Under, listed_language}
use Rattle.asn_oer.proofs.Types.AdditionLanguages.{is_extended, AdditionsFit, additions_language}
use Rattle.asn_oer.proofs.Types.FilledLanguages.{filled_language}

-- components of a list are that list
list_of_components : (es : List (Option Datum)) → component_list (components_of es) ≡ es
list_of_components [] = refl
list_of_components (None ∷ es) = ap (λ (l : List (Option Datum)). None ∷ l) (list_of_components es)
list_of_components (Some d ∷ es) = ap (λ (l : List (Option Datum)). Some d ∷ l) (list_of_components es)

-- as many presence bits as components that may be absent
pub length-presence_bits : (fs : Fields) (es : List (Option Datum)) → FitsEach fs es → length (presence (demands fs) es) ≡ bitmap_length fs
length-presence_bits no_fields es f = refl
length-presence_bits (field name demand t fs) [] f = absurd f
length-presence_bits (field name must t fs) (e ∷ es) f = length-presence_bits fs es f.1
length-presence_bits (field name optional t fs) (e ∷ es) f = ap suc (length-presence_bits fs es f.1)
length-presence_bits (field name (default d) t fs) (e ∷ es) f = ap suc (length-presence_bits fs es f.1)

-- ---- the extension bit

-- a bit says what it is the bit of
bit_told : (t : Bool) → t ≡ is_extended (bit_of t)
bit_told true = refl
bit_told false = refl

-- and the other way round
told_bit : (t : Bool) (q : ℕ) → q < 2 → t ≡ is_extended q → q % 2 ≡ bit_of t
told_bit t zero h e = sym (ap bit_of e)
told_bit t (suc zero) h e = sym (ap bit_of e)
told_bit t (suc (suc q)) h e = absurd (omega arith)

-- the preamble of n bits and an extension bit
quotient_bit : (p m : ℕ) → m < 2 ^ suc p → m / 2 ^ p < 2
quotient_bit p m h =
    let q = m / 2 ^ p in
    let again : q * 2 ^ p + m % 2 ^ p ≡ m = div-add-mod' m (2 ^ p) in
    let power : 2 ^ suc p ≡ 2 * 2 ^ p = pow-succ' 2 p in
    small q (2 ^ p) (omega arith)
  where
    small : (q a : ℕ) → q * a < 2 * a → q < 2
    small zero a h = omega arith
    small (suc zero) a h = omega arith
    small (suc (suc q)) a h = (let l : 2 * a ≤ (suc (suc q)) * a = mul-le-mul_right a (omega arith) in absurd (omega arith))

-- the preamble is not above its bits
limit_fits : (more : MoreFields) (p m : ℕ) → m < 2 ^ (extending_count more + p) → m < 2 ^ (extension_count more + p)
limit_fits closed p m h = h
limit_fits (marked no_fields) p m h =
    let e : 2 ^ (1 + p) ≡ 2 * 2 ^ p = ap (λ (i : ℕ). 2 ^ i) (omega arith) ∙ pow-succ' 2 p in
    let f : 2 ^ (0 + p) ≡ 2 ^ p = ap (λ (i : ℕ). 2 ^ i) (omega arith) in
    omega arith
limit_fits (marked (field name demand t fs)) p m h = h

-- the bits of the preamble are the extension bit, where there is one, and the presence bits
front_is : (more : MoreFields) (p m : ℕ) (gs : List (Option Datum)) → m < 2 ^ (extension_count more + p) → any_present gs ≡ is_extended (m / 2 ^ p) → bits (extension_count more + p) m ≡ extension_bit (is_marked more) (any_present gs) ++ bits p m
front_is closed p m gs h a = ap (λ (i : ℕ). bits i m) (omega arith)
front_is (marked fs) p m gs h a =
    let e : 1 + p ≡ suc p = omega arith in
    let small : m / 2 ^ p < 2 = quotient_bit p m (subst (λ (i : ℕ). m < 2 ^ i) e h) in
    ap (λ (i : ℕ). bits i m) e ∙ ap (λ (i : ℕ). i ∷ bits p m) (told_bit (any_present gs) (m / 2 ^ p) small a)

-- an extension bit before presence bits that stand for w is within the preamble
within : (more : MoreFields) (p w : ℕ) (gs : List (Option Datum)) → w < 2 ^ p → FitsMore more gs → bit_of (any_present gs) * 2 ^ p + w < 2 ^ (extending_count more + p)
within closed p w [] h f = (let e : 2 ^ (0 + p) ≡ 2 ^ p = ap (λ (i : ℕ). 2 ^ i) (omega arith) in omega arith)
within closed p w (g ∷ gs) h f = absurd f
within (marked no_fields) p w [] h f = (let e : 2 ^ (0 + p) ≡ 2 ^ p = ap (λ (i : ℕ). 2 ^ i) (omega arith) in omega arith)
within (marked no_fields) p w (g ∷ gs) h f = absurd f
within (marked (field name demand t fs)) p w gs h f = go (any_present gs)
  where
    go : (b : Bool) → bit_of b * 2 ^ p + w < 2 ^ (1 + p)
    go b =
        let e : 2 ^ (1 + p) ≡ 2 * 2 ^ p = ap (λ (i : ℕ). 2 ^ i) (omega arith) ∙ pow-succ' 2 p in
        by b e
      where
        by : (b : Bool) → 2 ^ (1 + p) ≡ 2 * 2 ^ p → bit_of b * 2 ^ p + w < 2 ^ (1 + p)
        by true e = omega arith
        by false e = omega arith

-- ---- the whole

module _ (root : Fields) (more : MoreFields) (h : InProfile (sequence root more)) where
  -- how many presence bits there are
  abbrev presences : ℕ
  presences = bitmap_length root

  -- the components and additions after a preamble
  abbrev After : ℕ → List (Option Datum) × List (Option Datum) → Type 0
  After m q = Under root (bits presences m) q.0 × AdditionsFit more (m / 2 ^ presences) q.1

  -- what stands after the preamble
  after_language : (m : ℕ) → Same (Then (Listed oer root (bits presences m)) (λ _. Additions more (m / 2 ^ presences))) (SpelledBy (After m) (λ q. oer_each root q.0 ++ oer_additions more q.1))
  after_language m =
      same_after
      (same_then (listed_language root (bits presences m) (components_of_profile root more h) (are_digits 2 presences m (omega arith)) (length-digits 2 presences m)) (λ _. additions_language root more h (m / 2 ^ presences)))
      then_spelled

  -- the entries of a value, and its spelling by them
  abbrev EntriesFit : List (Option Datum) → Type 0
  EntriesFit es = FitsEach root (take (length (demands root)) es) × FitsMore more (drop (length (demands root)) es)

  -- how the components and additions are spelt
  abbrev entries_code : List (Option Datum) → List (Option Datum) → List Chunk
  entries_code root_entries added_entries = ones (filled_bits (extension_bit (is_marked more) (any_present added_entries) ++ presence (demands root) root_entries)) ++ oer_each root root_entries ++ oer_additions more added_entries

  -- the same of all entries
  abbrev whole_code : List (Option Datum) → List Chunk
  whole_code es = entries_code (take (length (demands root)) es) (drop (length (demands root)) es)

  -- a preamble and what stands after it are a value's
  there : (m : ℕ) (es gs : List (Option Datum)) → m < 2 ^ (extending_count more + presences) → Under root (bits presences m) es → AdditionsFit more (m / 2 ^ presences) gs
      → EntriesFit (component_list (components_of (es ++ gs))) × (ones (filled_bits (bits (extension_count more + presences) m)) ++ (oer_each root es ++ oer_additions more gs) ≡ whole_code (component_list (components_of (es ++ gs))))
  there m es gs l u a =
      let n : length es ≡ length (demands root) = each_length root es u.0 in
      let first : take (length (demands root)) (es ++ gs) ≡ es = ap (λ (i : ℕ). take i (es ++ gs)) (sym n) ∙ take-append_seam es gs in
      let second : drop (length (demands root)) (es ++ gs) ≡ gs = ap (λ (i : ℕ). drop i (es ++ gs)) (sym n) ∙ drop-append_seam es gs in
      let front : bits (extension_count more + presences) m ≡ extension_bit (is_marked more) (any_present gs) ++ presence (demands root) es =
      front_is more presences m gs (limit_fits more presences m l) a.1 ∙ ap (λ (b : List ℕ). extension_bit (is_marked more) (any_present gs) ++ b) (sym u.1) in
      let code : ones (filled_bits (bits (extension_count more + presences) m)) ++ (oer_each root es ++ oer_additions more gs) ≡ entries_code es gs =
      sym (append_assoc (ones (filled_bits (bits (extension_count more + presences) m))) (oer_each root es) (oer_additions more gs)) ∙ ap (λ (b : List ℕ). ones (filled_bits b) ++ oer_each root es ++ oer_additions more gs) front in
      let all : es ++ gs ≡ component_list (components_of (es ++ gs)) = sym (list_of_components (es ++ gs)) in
      let fits : EntriesFit (es ++ gs) = (subst (FitsEach root) (sym first) u.0, subst (FitsMore more) (sym second) a.0) in
      let whole : entries_code es gs ≡ whole_code (es ++ gs) = ap (λ (x : List (Option Datum)). entries_code x gs) (sym first) ∙ ap (λ (x : List (Option Datum)). entries_code (take (length (demands root)) (es ++ gs)) x) (sym second) in
      (subst EntriesFit all fits, code ∙ whole ∙ ap whole_code all)

  -- and each value has them
  back : (es gs : List (Option Datum)) → FitsEach root es → FitsMore more gs → (m : ℕ) × (m < 2 ^ (extending_count more + presences)) × Under root (bits presences m) es × AdditionsFit more (m / 2 ^ presences) gs
  back es gs f g =
      let l = presence (demands root) es in
      let w = weighted 2 l in
      let b = bit_of (any_present gs) in
      let is : IsBits presences w l = record { digits = presence_bits (demands root) es; count = length-presence_bits root es f; sum = refl } in
      let o = bits_only presences w l is in
      let m = b * 2 ^ presences + w in
      let quotient : m / 2 ^ presences ≡ b = div-mul-add b (2 ^ presences) w o.0 in (
        m,
        within more presences w gs o.0 g,
        (f, o.1 ∙ sym (digits_above 2 (omega arith) presences b w)),
        (g, bit_told (any_present gs) ∙ ap is_extended (sym quotient)),
      )

  -- SEQUENCE
  pub sequence_language : Same (Sequences root more) (Values (sequence root more))
  sequence_language =
      same_after
      (same_map (same_after (same_then (filled_language (extension_count more + presences) (λ m. m < 2 ^ (extending_count more + presences)) (limit_fits more presences)) after_language) then_spelled))
      (map_spelled (λ p f. there p.0 p.1.0 p.1.1 f.0 f.1.0 f.1.1) from)
    where
      from : (v : Datum) → Fits (sequence root more) v → (p : ℕ × (List (Option Datum) × List (Option Datum))) × ((p.0 < 2 ^ (extending_count more + presences)) × After p.0 p.1) × (v ≡ sequence_told p)
      from (components cs) f =
          let k = length (demands root) in
          let es = take k (component_list cs) in
          let gs = drop k (component_list cs) in
          let w = back es gs f.0 f.1 in
          let same : component_list cs ≡ component_list (components_of (es ++ gs)) = sym (take-append-drop k (component_list cs)) ∙ sym (list_of_components (es ++ gs)) in
          ((w.0, (es, gs)), (w.1, (w.2, w.3)), same_components cs (components_of (es ++ gs)) same)
      from _ f = absurd f
