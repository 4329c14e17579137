-- The values of a type but for one that is left out, as a component with a DEFAULT is spelt: BOOLEAN and ENUMERATED.
use Rattle.std.proofs.Common.{List, ◌++◌, None, refl, sym, subst}
use Rattle.asn_values.specs.Shape.{Shape, more_labels}
use Rattle.asn_rules.specs.Chunks.{Chunk}
use Rattle.asn_rules.specs.Languages.{Map}
use Rattle.asn_rules.specs.Forks.{Same}
use Rattle.asn_rules.specs.Listed.{IsOther, Spelt}
use Rattle.asn_rules.specs.Spellings.{SpelledBy}
use Rattle.asn_rules.proofs.Languages.Spellings.{same_after, same_map, same_spelled, digits_spelled, map_spelled}
use Rattle.asn_oer.specs.Constructed.{Values}
use Rattle.asn_oer.specs.Oer.{oer}
use Rattle.asn_oer.specs.SimpleTypes.{truth_told, item_told, IsNumberOf}
use Rattle.asn_oer.specs.Kinds.{BooleansButOne, EnumeratedButOne}
use Rattle.asn_oer.proofs.Types.SimpleLanguages.{Truths, truth_there, truth_back, truth_below}
use Rattle.asn_oer.proofs.Types.ItemLanguages.{item_numbers_spelled, items_few, items_seen}

-- no value is left out
pub none_left_out : (t : Shape) → Same (Values t) (Spelt oer None t)
none_left_out t = same_spelled (λ v h. (h, tt)) (λ v h. h.0) (λ v h. refl)

-- of values that are seen another way, those that O holds of
pub but_map : {A B : Type 0} {P : A → Type 0} {Q : B → Type 0} {view : A → B} {f : A → List Chunk} {g : B → List Chunk} (O : B → Type 0) → Same (Map view (SpelledBy P f)) (SpelledBy Q g) → Same (Map view (SpelledBy (λ a. P a × O (view a)) f)) (SpelledBy (λ b. Q b × O b) g)
but_map {A} {B} {P} {Q} {view} {f} {g} O e = record {
  to = λ v cs h.
      let w = e.to v cs (record { source = h.source; spelt = record { fits = h.spelt.fits.0; same = h.spelt.same }; seen = h.seen }) in
      record { fits = (w.fits, subst O (sym h.seen) h.spelt.fits.1); same = w.same };
  from = λ v cs h.
      let w = e.from v cs (record { fits = h.fits.0; same = h.same }) in
      record { source = w.source; spelt = record { fits = (w.spelt.fits, subst O w.seen h.fits.1); same = w.spelt.same }; seen = w.seen };
}

-- BOOLEAN but for one
pub boolean_but_one : BooleansButOne
boolean_but_one e = same_after (same_map (digits_spelled 256 1 (λ n. Truths n × IsOther e (truth_told n)) (λ n h. truth_below n h.0))) (but_map (IsOther e) (map_spelled truth_there truth_back))

-- ENUMERATED but for one
pub enumerated_but_one : EnumeratedButOne
enumerated_but_one root more e good =
    let labels = root ++ more_labels more in
    same_after (same_map (item_numbers_spelled (λ z. IsNumberOf labels z × IsOther e (item_told labels z)) (λ z h. items_few root more good z h.0))) (but_map (IsOther e) (items_seen root more good))
