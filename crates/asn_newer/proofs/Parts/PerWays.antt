-- In PER a presence bitmap of any count of additions, and an item that may be unknown, are told by their bits.
use Rattle.std.proofs.Common.{◌≡◌, ◌-◌, ◌^◌, ◌<◌, ◌≤◌, ℕ, zero, suc, ℤ, pos, negsuc, Bool, true, false, nat_lt, List, [], ◌∷◌, ◌++◌, length, length-append, Option, Some, None, refl, sym, ap, subst, ◌∙◌, arith, append_assoc, inl, inr, ◌⊎◌}
use Rattle.std.proofs.lemmas.Bool.{ltb-false}
use Rattle.asn_values.specs.Datum.{Datum, item}
use Rattle.asn_values.specs.Shape.{SizeRange, enumerated, Label, marked_labels}
use Rattle.asn_values.specs.Fits.{Fits, max_len}
use Rattle.asn_values.specs.Profile.{InProfile}
use Rattle.asn_bits.specs.Numbers.{bits, padding}
use Rattle.asn_bits.proofs.Codes.{IsCode, equal_fronts}
use Rattle.asn_bits.proofs.Digits.{digits_code}
use Rattle.asn_bits.proofs.Octets.{length-digits}
use Rattle.asn_rules.specs.Chunks.{Chunk, open_field, flat}
use Rattle.asn_rules.specs.Components.{number_at}
use Rattle.asn_rules.specs.Forks.{Branch}
use Rattle.asn_rules.specs.Languages.{Nothing}
use Rattle.asn_rules.specs.Reading.{AllSealed}
use Rattle.asn_rules.proofs.Live.Flat.{flat-ones}
use Rattle.asn_rules.proofs.Live.Fronts.{sealed-ones}
use Rattle.asn_walk.specs.Ahead.{Ahead, lengths}
use Rattle.asn_walk.specs.Laws.{Laws}
use Rattle.asn_per.specs.ListsAhead.{StartForm, RootStart, Start, other_counts}
use Rattle.asn_per.specs.Per.{per, small, small_length, constrained, rank, after_mark, per_fields}
use Rattle.asn_per.specs.Rules.{per_ruling}
use Rattle.asn_per.specs.Walk.{per_coding}
use Rattle.asn_rules.specs.IntegerSets.{magnitude_of}
use Rattle.asn_per.proofs.Law.Numbers.{small_code}
use Rattle.asn_per.proofs.Walk.WalkLaws.{per_laws}
use Rattle.asn_newer.specs.Loose.{IsBitmap, AnyBitmap, AnyItem}
use Rattle.asn_newer.specs.Rules.{per_loose, IsUnknownIndex}
use Rattle.asn_newer.specs.Ways.{OneWay, WayLaws}
use Rattle.asn_newer.proofs.Parts.ItemWays.{items_way}
use Rattle.asn_newer.proofs.Law.OneWay.{code_way}

-- ---- presence bitmaps

bitmap_units : ℕ × ℕ → List ℕ
bitmap_units p = small_length (length (bits p.0 p.1)) ++ bits p.0 p.1

bitmap_code : IsCode IsBitmap (λ p. small_length (length (bits p.0 p.1)) ++ bits p.0 p.1)
bitmap_code p q r s f g e = go count (rest count)
  where
    front : (p : ℕ × ℕ) (r : List ℕ) → (small_length (length (bits p.0 p.1)) ++ bits p.0 p.1) ++ r ≡ (0 ∷ bits 6 (p.0 - 1)) ++ (bits p.0 p.1 ++ r)
    front p r = append_assoc (small_length (length (bits p.0 p.1))) (bits p.0 p.1) r ∙ ap (λ (n : ℕ). (0 ∷ bits 6 (n - 1)) ++ (bits p.0 p.1 ++ r)) (length-digits 2 p.0 p.1)

    some : (n m : ℕ) → 0 < m → m < 2 ^ n → 1 ≤ n
    some zero m f g = absurd (omega (arith, f, g))
    some (suc n) m f g = omega arith

    parts : ((0 ∷ bits 6 (p.0 - 1)) ≡ (0 ∷ bits 6 (q.0 - 1))) × (bits p.0 p.1 ++ r ≡ bits q.0 q.1 ++ s)
    parts = equal_fronts (0 ∷ bits 6 (p.0 - 1)) (0 ∷ bits 6 (q.0 - 1)) (bits p.0 p.1 ++ r) (bits q.0 q.1 ++ s) (ap suc (length-digits 2 6 (p.0 - 1) ∙ sym (length-digits 2 6 (q.0 - 1)))) (sym (front p r) ∙ e ∙ front q s)

    tails : {u v : ℕ} {us vs : List ℕ} → u ∷ us ≡ v ∷ vs → us ≡ vs
    tails h = cc

    count : p.0 ≡ q.0
    count =
        let d = digits_code 2 (omega arith) 6 (p.0 - 1) (q.0 - 1) [] [] (omega (arith, f.few)) (omega (arith, g.few)) (ap (λ (l : List ℕ). l ++ []) (tails parts.0)) in
        omega (arith, d.0, some p.0 p.1 f.some f.below, some q.0 q.1 g.some g.below)

    rest : p.0 ≡ q.0 → (p.1 ≡ q.1) × (r ≡ s)
    rest c = digits_code 2 (omega arith) p.0 p.1 q.1 r s f.below (subst (λ (n : ℕ). q.1 < 2 ^ n) (sym c) g.below) (parts.1 ∙ ap (λ (n : ℕ). bits n q.1 ++ s) (sym c))

    go : p.0 ≡ q.0 → (p.1 ≡ q.1) × (r ≡ s) → (p ≡ q) × (r ≡ s)
    go c d = (λ i. (c i, d.0 i), d.1)

per_bitmap : OneWay per_loose.coding.ruling.fielding (AnyBitmap per_loose.coding)
unfolding per_loose per_coding
per_bitmap = code_way (λ p. small_length (length (bits p.0 p.1)) ++ bits p.0 p.1) bitmap_code

-- ---- items

unknown_code : (root additions : List Label) → IsCode (IsUnknownIndex root additions) (λ z. per_loose.unknown_units z)
unfolding per_loose
unknown_code root additions (negsuc m) y r s f g e = absurd f
unknown_code root additions (pos m) (negsuc n) r s f g e = absurd g
unknown_code root additions (pos m) (pos n) r s f g e =
    let d : (m ≡ n) × (r ≡ s) = small_code m n r s (tails e) in
    (ap pos d.0, d.1)
  where
    tails : {u v : ℕ} {us vs : List ℕ} → u ∷ us ≡ v ∷ vs → us ≡ vs
    tails h = cc

-- the bits of an item that the type has, and those of one that it has not
apart : (root additions : List Label) → InProfile (enumerated root (marked_labels additions)) → (d : Datum) (z : ℤ) (r s : List ℕ) → Fits (enumerated root (marked_labels additions)) d → IsUnknownIndex root additions z
    → flat per_fields.spelled (per (enumerated root (marked_labels additions)) d) ++ r ≡ (1 ∷ small (magnitude_of z)) ++ s → ⊥
apart root additions good (item p) (negsuc n) r s f g e = absurd g
apart root additions good (item p) (pos n) r s f g e = go (nat_lt p (length root)) refl
  where
    bits_of : Bool → List ℕ
    bits_of k = after_mark (λ u. u) true k (constrained (length root) (rank root (number_at root p))) (small (p - length root))

    units : bits_of (nat_lt p (length root)) ++ r ≡ (1 ∷ small n) ++ s
    units = ap (λ (l : List ℕ). l ++ r) (sym (flat-ones per_fields.spelled (bits_of (nat_lt p (length root))))) ∙ e

    tails : {u v : ℕ} {us vs : List ℕ} → u ∷ us ≡ v ∷ vs → us ≡ vs
    tails h = cc

    heads : {u v : ℕ} {us vs : List ℕ} → u ∷ us ≡ v ∷ vs → u ≡ v
    heads h = cc

    go : (k : Bool) → nat_lt p (length root) ≡ k → ⊥
    go true q = (let h : (0 ∷ constrained (length root) (rank root (number_at root p))) ++ r ≡ (1 ∷ small n) ++ s = ap (λ (k : Bool). bits_of k ++ r) (sym q) ∙ units in absurd (omega (arith, heads h)))
    go false q =
        let h : (1 ∷ small (p - length root)) ++ r ≡ (1 ∷ small n) ++ s = ap (λ (k : Bool). bits_of k ++ r) (sym q) ∙ units in
        let above : length root ≤ p = ltb-false p (length root) q in
        let d : (p - length root ≡ n) × (r ≡ s) = small_code (p - length root) n r s (tails h) in
        absurd (omega (arith, d.0, f, above, g.past))
apart root additions good _ z r s f g e = absurd f

per_items : (root additions : List Label) → InProfile (enumerated root (marked_labels additions)) → OneWay per_loose.coding.ruling.fielding (AnyItem per_loose root additions)
unfolding per_loose per_coding per_ruling
per_items root additions good = items_way per_loose per_laws root additions good (unknown_code root additions) (apart root additions good)

-- ---- lists and complete encodings

form_plain : (b : Bool) (low high : ℕ) (a : Ahead) (cs : List Chunk) → StartForm b low high a cs → AllSealed per_fields cs
form_plain true low high a cs h = subst (AllSealed per_fields) (sym h.spelt.spelt.same) (sealed-ones per_fields h.spelt.spelt.units)
form_plain false low high a cs h = subst (AllSealed per_fields) (sym h.empty) tt

root_plain : (low : ℕ) (high : Option ℕ) (a : Ahead) (cs : List Chunk) → RootStart low high a cs → AllSealed per_fields cs
root_plain low (Some high) a cs h = form_plain (nat_lt high 65536) low high a cs h
root_plain low None a cs h = form_plain false low max_len a cs h

per_start : (s : SizeRange) (a : Ahead) (cs : List Chunk) → per_loose.coding.list_start s a cs → AllSealed per_loose.coding.ruling.fielding cs
unfolding per_loose per_coding per_ruling
per_start s a cs h = go s.low s.high s.extensible h
  where
    go : (low : ℕ) (high : Option ℕ) (m : Bool) → Start (record { low = low; high = high; extensible = m }) a cs → AllSealed per_fields cs
    go low high false h = root_plain low high a cs h
    go low high true h = side h.source h.spelt.side
      where
        side : (w : Ahead ⊎ Ahead) → Branch 0 inl (RootStart low high) w cs ⊎ Branch 1 inr (Nothing (lengths (other_counts low high) 0 false)) w cs → AllSealed per_fields cs
        side w (inl b) = subst (AllSealed per_fields) (sym b.same) (root_plain low high b.value b.rest b.spelt)
        side w (inr b) = subst (AllSealed per_fields) (sym b.same) (subst (AllSealed per_fields) (sym b.spelt.empty) tt)

per_some : (us o : List ℕ) → per_loose.coding.ruling.units o ≡ us ++ per_loose.coding.padding (length us) → per_loose.coding.ruling.fielding.shortest open_field ≤ length o
unfolding per_loose per_coding per_ruling
per_some us (b ∷ o) e = omega arith
per_some [] [] e = absurd (omega (arith, ap length e))
per_some (u ∷ us) [] e = absurd (omega (arith, ap length e, length-append (u ∷ us) (padding (suc (length us)))))

per_walk : Laws per_loose.coding
unfolding per_loose
per_walk = per_laws

pub per_ways : WayLaws per_loose
per_ways = record { laws = per_walk; bitmap = per_bitmap; items = per_items; start = per_start; some = per_some }
