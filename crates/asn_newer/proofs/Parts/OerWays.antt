-- In OER a presence bitmap of any count of additions, and an item that may be unknown, are told by their octets.
use Rattle.std.proofs.Common.{◌≡◌, ◌≢◌, ◌+◌, ◌^◌, ◌<◌, ◌≤◌, ℕ, zero, suc, ℤ, true, IsTrue, List, [], ◌∷◌, ◌++◌, length, sym, ap, subst, ◌∙◌, arith}
use Rattle.std.proofs.lemmas.Bool.{true≢false}
use Rattle.std.specs.List.{AllByRecursion}
use Rattle.std.specs.Int.RustNames.{int_lt}
use Rattle.asn_values.specs.Datum.{Datum, item}
use Rattle.asn_values.specs.Shape.{SizeRange, enumerated, Label, marked_labels}
use Rattle.asn_values.specs.Fits.{Fits}
use Rattle.asn_values.specs.Profile.{InProfile}
use Rattle.asn_bits.specs.Numbers.{bits, padding}
use Rattle.asn_bits.proofs.Codes.{IsCode}
use Rattle.asn_bits.proofs.Digits.{digits_code}
use Rattle.asn_bits.proofs.FilledBits.{filled_up_once}
use Rattle.asn_bits.proofs.Octets.{length-digits}
use Rattle.asn_bits.proofs.Weights.{are_digits}
use Rattle.asn_rules.specs.Chunks.{Chunk, open_field, flat}
use Rattle.asn_rules.specs.Components.{number_at}
use Rattle.asn_rules.specs.Reading.{AllSealed}
use Rattle.asn_rules.proofs.Live.Flat.{flat-ones}
use Rattle.asn_rules.proofs.Live.Fronts.{sealed-ones, sealed-append}
use Rattle.asn_walk.specs.Ahead.{Ahead}
use Rattle.asn_walk.specs.Laws.{Laws}
use Rattle.asn_rules.specs.Filled.{filled_bits}
use Rattle.asn_rules.proofs.Octets.OctetFields.{spelled_code}
use Rattle.asn_oer.specs.Oer.{oer, variable_bits, item_number, oer_fields}
use Rattle.asn_oer.specs.Rules.{oer_ruling}
use Rattle.asn_oer.specs.Walk.{oer_coding}
use Rattle.asn_oer.proofs.Law.Leaves.{item_code}
use Rattle.asn_oer.proofs.Walk.WalkLaws.{oer_laws}
use Rattle.asn_per.proofs.Law.Enumerations.{lt_not_self}
use Rattle.asn_newer.specs.Loose.{IsBitmap, AnyBitmap, AnyItem}
use Rattle.asn_newer.specs.Rules.{oer_loose, IsUnknownNumber}
use Rattle.asn_newer.specs.Ways.{OneWay, WayLaws}
use Rattle.asn_newer.proofs.Parts.ItemWays.{items_way}
use Rattle.asn_newer.proofs.Law.OneWay.{code_way}

-- ---- presence bitmaps

bitmap_code : IsCode IsBitmap (λ p. variable_bits (bits p.0 p.1))
bitmap_code p q r s f g e =
    let bs = bits p.0 p.1 in
    let cs = bits q.0 q.1 in
    let w = spelled_code (length (padding (length bs)) ∷ filled_bits bs) (length (padding (length cs)) ∷ filled_bits cs) r s e in
    let unused : length (padding (length bs)) ≡ length (padding (length cs)) = heads w.0 in
    let same : bs ≡ cs = filled_up_once bs cs (are_digits 2 p.0 p.1 (omega arith)) (are_digits 2 q.0 q.1 (omega arith)) unused (tails w.0) in
    let count : p.0 ≡ q.0 = sym (length-digits 2 p.0 p.1) ∙ ap length same ∙ length-digits 2 q.0 q.1 in
    let d : (p.1 ≡ q.1) × ([] ≡ []) = digits_code 2 (omega arith) p.0 p.1 q.1 [] [] f.below (subst (λ (n : ℕ). q.1 < 2 ^ n) (sym count) g.below) (ap (λ (l : List ℕ). l ++ []) (same ∙ ap (λ (n : ℕ). bits n q.1) (sym count))) in
    (λ i. (count i, d.0 i), w.1)
  where
    tails : {u v : ℕ} {us vs : List ℕ} → u ∷ us ≡ v ∷ vs → us ≡ vs
    tails h = cc

    heads : {u v : ℕ} {us vs : List ℕ} → u ∷ us ≡ v ∷ vs → u ≡ v
    heads h = cc

oer_bitmap : OneWay oer_loose.coding.ruling.fielding (AnyBitmap oer_loose.coding)
unfolding oer_loose oer_coding
oer_bitmap = code_way (λ p. variable_bits (bits p.0 p.1)) bitmap_code

-- ---- items

-- an unknown number is that of no item
none_unknown : (root additions : List Label) (p : ℕ) (z : ℤ) → IsUnknownNumber root additions z → p < length root + length additions → number_at (root ++ additions) p ≡ z → ⊥
none_unknown root additions p z h l e = in_root root p h.other l e
  where
    in_additions : (ks : List Label) (k : ℕ) → AllByRecursion (λ known. IsTrue (int_lt known.number z)) ks → k < length ks → number_at ks k ≡ z → ⊥
    in_additions [] k all l e = absurd (omega (arith, l))
    in_additions (x ∷ ks) zero all l e = true≢false (sym (subst (λ (y : ℤ). int_lt y z ≡ true) e all.0) ∙ lt_not_self z)
    in_additions (x ∷ ks) (suc k) all l e = in_additions ks k all.1 (omega (arith, l)) e

    in_root : (ks : List Label) (k : ℕ) → AllByRecursion (λ known. known.number ≢ z) ks → k < length ks + length additions → number_at (ks ++ additions) k ≡ z → ⊥
    in_root [] k all l e = in_additions additions k h.above (omega (arith, l)) e
    in_root (x ∷ ks) zero all l e = all.0 e
    in_root (x ∷ ks) (suc k) all l e = in_root ks k all.1 (omega (arith, l)) e

unknown_code : (root additions : List Label) → IsCode (IsUnknownNumber root additions) (λ z. item_number z)
unknown_code root additions y z r s f g e = item_code y z r s e

apart : (root additions : List Label) (d : Datum) (z : ℤ) (r s : List ℕ) → Fits (enumerated root (marked_labels additions)) d → IsUnknownNumber root additions z
    → flat oer_fields.spelled (oer (enumerated root (marked_labels additions)) d) ++ r ≡ item_number z ++ s → ⊥
apart root additions (item p) z r s f g e =
    let n = number_at (root ++ additions) p in
    let w = item_code n z r s (ap (λ (l : List ℕ). l ++ r) (sym (flat-ones oer_fields.spelled (item_number n))) ∙ e) in
    none_unknown root additions p z g (omega (arith, f)) w.0
apart root additions _ z r s f g e = absurd f

oer_items : (root additions : List Label) → InProfile (enumerated root (marked_labels additions)) → OneWay oer_loose.coding.ruling.fielding (AnyItem oer_loose root additions)
unfolding oer_loose oer_coding oer_ruling
oer_items root additions good = items_way oer_loose oer_laws root additions good (unknown_code root additions) (apart root additions)

-- ---- lists and complete encodings

oer_start : (s : SizeRange) (a : Ahead) (cs : List Chunk) → oer_loose.coding.list_start s a cs → AllSealed oer_loose.coding.ruling.fielding cs
unfolding oer_loose oer_coding oer_ruling
oer_start s a cs h =
    let t = h.spelt.spelt in
    subst (AllSealed oer_fields) (sym t.whole) (sealed-append oer_fields t.first t.second (subst (AllSealed oer_fields) (sym t.spelt.same) (sealed-ones oer_fields t.spelt.units)) (subst (AllSealed oer_fields) (sym t.follows.same) (sealed-ones oer_fields t.follows.units)))

oer_some : (us o : List ℕ) → oer_loose.coding.ruling.units o ≡ us ++ oer_loose.coding.padding (length us) → oer_loose.coding.ruling.fielding.shortest open_field ≤ length o
unfolding oer_loose oer_coding oer_ruling
oer_some us o e = omega arith

oer_walk : Laws oer_loose.coding
unfolding oer_loose
oer_walk = oer_laws

pub oer_ways : WayLaws oer_loose
oer_ways = record { laws = oer_walk; bitmap = oer_bitmap; items = oer_items; start = oer_start; some = oer_some }
