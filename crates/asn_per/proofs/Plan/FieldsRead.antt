-- The index of a CHOICE and the count of a SEQUENCE OF, by the bits that tell it.
use Rattle.std.proofs.Common.{◌≡◌, ◌<◌, ◌+◌, ◌-◌, ◌++◌, ◌∷◌, inl, ℕ, suc, Bool, true, false, is_some, List, Option, Some, refl, sym, ap, subst, ◌∙◌, arith}
use Rattle.std.proofs.lemmas.Bool.{lt-ltb}
use Rattle.asn_values.specs.Shape.{SizeRange}
use Rattle.asn_bits.specs.Numbers.{bits, width}
use Rattle.asn_bits.specs.Sink.{bit_of}
use Rattle.asn_bits.proofs.Unions.{set_spelt}
use Rattle.asn_bits.proofs.Widths.{width_fits}
use Rattle.asn_rules.specs.Chunks.{ones}
use Rattle.asn_rules.specs.Languages.{Spells}
use Rattle.asn_rules.proofs.Languages.Parts.{contents-ones, plain_spells, map_spells}
use Rattle.asn_rules.proofs.Live.Flat.{flat-ones}
use Rattle.asn_walk.specs.Ahead.{items}
use Rattle.asn_walk.specs.Coding.{IndexOf}
use Rattle.asn_plan.specs.Fields.{IsTold, IsIndexInBits, IsCountInBits, BeginsList}
use Rattle.asn_plan.specs.declared.field.BitField.{BitField}
use Rattle.asn_plan.proofs.FieldBits.{index_within}
use Rattle.asn_per.specs.Indexes.{index_bits}
use Rattle.asn_per.specs.ListsAhead.{StartForm, RootStart, Start}
use Rattle.asn_per.specs.Per.{per_fields, constrained, spelled}
use Rattle.asn_per.specs.Rules.{per_ruling}
use Rattle.asn_per.specs.Walk.{per_coding}
use Rattle.asn_per.proofs.Read.ListsAhead.{mark_zero}
use Rattle.asn_per.proofs.Write.IndexBits.{root_index_bits}

-- ---- CHOICE

-- the bits of the index, after an extension bit 0
index_first : (root : ℕ) (more : Option ℕ) (n : ℕ) (us vs : List ℕ) → n < root → us ≡ bits (bit_of (is_some more) + width root) n ++ vs
    → Spells per_fields (IndexOf per_coding root more) (inl n) us vs
unfolding per_coding
index_first root more n us vs inside e =
    let code = index_bits root (is_some more) (inl n) in
    let same : code ≡ bits (bit_of (is_some more) + width root) n = root_index_bits root n inside (is_some more) (bit_of (is_some more)) refl in
    record {
      chunks = ones code;
      spelt = record { fits = index_within root more n inside; same = refl };
      contents = contents-ones per_fields code;
      split = e ∙ ap (λ (l : List ℕ). l ++ vs) (sym (flat-ones spelled code ∙ same));
    }

pub index_in_bits : (f : BitField) (root : ℕ) (more : Option ℕ) → IsIndexInBits f root more → (n : ℕ) (us vs : List ℕ) → IsTold f n us vs
    → Spells per_fields (IndexOf per_coding root more) (inl n) us vs
index_in_bits f root more is n us vs h =
    let same : f.first + h.above ≡ n = omega (arith, is.first, is.low, h.is) in
    let inside : n < root = omega (arith, is.low, h.is, h.few, is.most) in
    index_first root more n us vs inside (h.split ∙ ap (λ (m : ℕ). bits f.bits m ++ vs) same ∙ ap (λ (k : ℕ). bits k n ++ vs) is.bits)

-- ---- SEQUENCE OF

-- the bits of a count between two bounds, after an extension bit 0
root_count : (low high k : ℕ) (vs : List ℕ) → high < 65536 → k < suc (high - low)
    → Spells per_fields (RootStart low (Some high)) (items (low + k)) (constrained (suc (high - low)) k ++ vs) vs
root_count low high k vs few inside =
    let values = suc (high - low) in
    let told = set_spelt 2 (width values) {S = λ n. n < values} k inside (width_fits values k inside) in
    let read : Spells per_fields (StartForm true low high) (items (low + k)) (constrained values k ++ vs) vs = map_spells {f = items} (map_spells {f = λ n. low + n} (plain_spells per_fields k (bits (width values) k) vs told)) in
    subst (λ (b : Bool). Spells per_fields (StartForm b low high) (items (low + k)) (constrained values k ++ vs) vs) (sym (lt-ltb high 65536 few)) read

start_first : (low high k : ℕ) (m : Bool) (us vs : List ℕ) → high < 65536 → k < suc (high - low)
    → us ≡ bits (bit_of m + width (suc (high - low))) k ++ vs
    → Spells per_fields (Start (record { low = low; high = Some high; extensible = m })) (items (low + k)) us vs
start_first low high k false us vs few inside e =
    let values = suc (high - low) in
    let front : us ≡ constrained values k ++ vs = e ∙ ap (λ (l : List ℕ). l ++ vs) (sym (root_index_bits values k inside false (bit_of false) refl)) in
    subst (λ (l : List ℕ). Spells per_fields (RootStart low (Some high)) (items (low + k)) l vs) (sym front) (root_count low high k vs few inside)
start_first low high k true us vs few inside e =
    let values = suc (high - low) in
    let front : us ≡ 0 ∷ (constrained values k ++ vs) = e ∙ ap (λ (l : List ℕ). l ++ vs) (sym (root_index_bits values k inside true (bit_of true) refl)) in
    (mark_zero low (Some high) true us (constrained values k ++ vs) refl front).done (items (low + k)) vs (root_count low high k vs few inside)

pub count_in_bits : (f : BitField) (s : SizeRange) → IsCountInBits f s → (n : ℕ) (us vs : List ℕ) → IsTold f n us vs → BeginsList per_coding s n us vs
unfolding per_coding per_ruling
count_in_bits f s is n us vs h =
    let high = f.low + f.most in
    let values : suc f.most ≡ suc (high - s.low) = omega (arith, is.low) in
    let same : f.first + h.above ≡ h.above = omega (arith, is.first) in
    let sum : s.low + h.above ≡ n = omega (arith, is.low, h.is) in
    let inside : h.above < suc (high - s.low) = omega (arith, h.few, is.low) in
    let wide : f.bits ≡ bit_of s.extensible + width (suc (high - s.low)) = is.bits ∙ ap (λ (k : ℕ). bit_of s.extensible + width k) values in
    let split = h.split ∙ ap (λ (k : ℕ). bits f.bits k ++ vs) same ∙ ap (λ (k : ℕ). bits k h.above ++ vs) wide in
    let sized : Option ℕ → SizeRange = λ o. record { low = s.low; high = o; extensible = s.extensible } in
    let read = start_first s.low high h.above s.extensible us vs is.few inside split in
    record {
      ahead = items n;
      between = vs;
      start = subst (λ (o : Option ℕ). Spells per_fields (Start (sized o)) (items n) us vs) (sym is.high) (subst (λ (k : ℕ). Spells per_fields (Start (sized (Some high))) (items k) us vs) sum read);
      next = record { advances = (refl, refl, refl) };
    }
