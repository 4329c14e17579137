-- The values of a type but for one that is left out, as a component with a DEFAULT is spelt: ENUMERATED, and INTEGER
-- without a low bound.
use Rattle.std.proofs.Common.{◌≡◌, ◌≢◌, ◌<◌, ◌^◌, ◌==◌, ℕ, ℤ, Bool, true, false, List, length, Option, Some, None, refl, sym, ap, ◌∙◌, arith}
use Rattle.std.proofs.lemmas.Bool.{true≢false, eqb-true, eq-eqb}
use Rattle.std.specs.Option.{option_map}
use Rattle.asn_values.specs.Datum.{Datum, number, item}
use Rattle.asn_values.specs.Shape.{Shape, Label, closed_labels, integer, enumerated}
use Rattle.asn_values.specs.Fits.{Fits, FitsNumber}
use Rattle.asn_values.specs.Profile.{int_eq, has_twice}
use Rattle.asn_bits.specs.Numbers.{bits, width}
use Rattle.asn_bits.proofs.Widths.{width_fits}
use Rattle.asn_rules.specs.Chunks.{ones}
use Rattle.asn_rules.specs.Components.{is_default, number_at}
use Rattle.asn_rules.specs.Forks.{Same}
use Rattle.asn_rules.specs.Listed.{IsOther, Spelt}
use Rattle.asn_rules.proofs.Law.Items.{numbers}
use Rattle.asn_rules.proofs.Languages.Spellings.{same_after, same_map, same_spelled, set_spelled, map_spelled}
use Rattle.asn_per.specs.Per.{per, rank}
use Rattle.asn_per.specs.Kinds.{Values, position_of, IndexesBut, IsRootPosition, EnumeratedButOne, UnboundedButOne}
use Rattle.asn_per.proofs.Law.Enumerations.{rank_inside}
use Rattle.asn_per.proofs.Types.EnumeratedLanguages.{root_once}
use Rattle.asn_per.proofs.Types.MarkedIntegers.{unconstrained_spelled}
use Rattle.asn_per.proofs.Types.Ranks.{place_there, place_back}

-- where none is left out they are all values
pub none_left_out : (t : Shape) → Same (Values t) (Spelt per None t)
none_left_out t = same_spelled (λ v h. (h, tt)) (λ v h. h.0) (λ v h. refl)

-- ---- INTEGER without a low bound

-- unconstrained numbers of the other integers
pub unbounded_but_one : UnboundedButOne
unbounded_but_one high e = same_after (same_map (unconstrained_spelled S (λ z h. (h.0.0, h.0.1)))) (map_spelled (λ z h. (h, refl)) back)
  where
    S : ℤ → Type 0
    S z = FitsNumber (record { low = None; high = high; extensible = false }) z × IsOther (option_map number e) (number z)

    back : (v : Datum) → Fits (integer (record { low = None; high = high; extensible = false })) v × IsOther (option_map number e) v → (z : ℤ) × (FitsNumber (record { low = None; high = high; extensible = false }) z × IsOther (option_map number e) (number z)) × (v ≡ number z)
    back (number z) h = (z, h, refl)
    back _ h = absurd h.0

-- ---- ENUMERATED

-- another item is not the DEFAULT
other_item : (p q : ℕ) → p ≢ q → is_default (item p) (item q) ≡ false
other_item p q n = go (p == q) refl
  where
    go : (b : Bool) → (p == q) ≡ b → b ≡ false
    go true e = absurd (n (eqb-true p q e))
    go false e = refl

module _ (root : List Label) (once : has_twice int_eq (numbers root) ≡ false) where
  -- an index that is not left out is that of a value
  item_there : (p : Option ℕ) → IsRootPosition root p → (n : ℕ) → IndexesBut root p n
      → (Fits (enumerated root closed_labels) (item (position_of root n)) × IsOther (option_map item p) (item (position_of root n))) × (ones (bits (width (length root)) n) ≡ per (enumerated root closed_labels) (item (position_of root n)))
  item_there None inside n h =
      let w = place_there root once n h in ((omega (arith, w.0), tt), ap (λ (k : ℕ). ones (bits (width (length root)) k)) (sym w.1))
  item_there (Some p) inside n h =
      let w = place_there root once n h.0 in
      ((omega (arith, w.0), other_item p (position_of root n) (λ e. h.1 (sym w.1 ∙ ap (λ (i : ℕ). rank root (number_at root i)) (sym e)))), ap (λ (k : ℕ). ones (bits (width (length root)) k)) (sym w.1))

  -- and each value that is not left out has such an index
  item_back : (p : Option ℕ) → IsRootPosition root p → (v : Datum) → Fits (enumerated root closed_labels) v × IsOther (option_map item p) v → (n : ℕ) × IndexesBut root p n × (v ≡ item (position_of root n))
  item_back None inside (item q) h =
      let l : q < length root = omega (arith, h.0) in (rank root (number_at root q), rank_inside root q l, ap item (sym (place_back root once q l)))
  item_back (Some p) inside (item q) h =
      let l : q < length root = omega (arith, h.0) in
      (rank root (number_at root q), (rank_inside root q l, λ e. absurd (true≢false (sym (eq-eqb p q (sym (place_back root once p inside) ∙ ap (position_of root) (sym e) ∙ place_back root once q l)) ∙ h.1))), ap item (sym (place_back root once q l)))
  item_back p inside _ h = absurd h.0

  -- an index has that many bits
  index_fits : (p : Option ℕ) (n : ℕ) → IndexesBut root p n → n < 2 ^ width (length root)
  index_fits None n h = width_fits (length root) n h
  index_fits (Some p) n h = width_fits (length root) n h.0

-- the indexes of the other items
pub enumerated_but_one : EnumeratedButOne
enumerated_but_one root p good inside =
    let once = root_once root closed_labels good in
    same_after (same_map (set_spelled (width (length root)) (IndexesBut root p) (index_fits root once p))) (map_spelled (item_there root once p inside) (item_back root once p inside))
