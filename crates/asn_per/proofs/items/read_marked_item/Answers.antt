use Rattle.std.proofs.Common.{◌≡◌, ◌≤◌, ◌<◌, ◌+◌, inl, inr, ℕ, List, Some, map, length, ap, subst, arith}
use Rattle.std.proofs.lemmas.List.{length-map}
use Rattle.std.proofs.lemmas.Result.{err_from_is_err_and}
use Rattle.asn_values.specs.declared.types.Item.{Item}
use Rattle.asn_values.specs.Datum.{item}
use Rattle.asn_values.specs.Shape.{enumerated, marked_labels}
use Rattle.asn_values.specs.Profile.{InProfile, most_items, most_item_additions}
use Rattle.asn_values.specs.View.{label_of}
use Rattle.asn_rules.specs.Languages.{Spells}
use Rattle.asn_rules.specs.Stops.{Stops}
use Rattle.asn_rules.proofs.Languages.Leads.{stops_by}
use Rattle.asn_per.specs.Indexes.{IndexesOf}
use Rattle.asn_walk.specs.Views.{index_seen}
use Rattle.asn_per.specs.Kinds.{Items}
use Rattle.asn_per.specs.Per.{per_fields}
use Rattle.asn_per.proofs.Types.EnumeratedLanguages.{few_additions}
use Rattle.asn_plan.proofs.RootItems.{root_items}
use Rattle.asn_per.proofs.Read.ItemReading.{index_leads}
use Rattle.asn_per.proofs.items.read_marked_item.Goals as goal

-- the profile has items in the root, and few
module _ (root additions : List Item) (good : InProfile (enumerated (map label_of root) (marked_labels (map label_of additions)))) where
  few : (0 < length root) × (length root ≤ most_items) × (length additions ≤ most_item_additions)
  few =
      let r = root_items (map label_of root) (marked_labels (map label_of additions)) good in
      let a = few_additions (map label_of root) (marked_labels (map label_of additions)) good in
      (simp length-map at r.some, simp length-map at r.few, simp length-map at a)

  -- the index, as the lists of the program are counted
  lengths : (length (map label_of root) ≡ length root) × (length (map label_of additions) ≡ length additions)
  lengths = (simp length-map, simp length-map)

pub read_index-requires : goal.read_index-requires
read_index-requires c =
    let f = few c.args.root.now c.args.more.now c.requires.of_profile in
    record { some = f.0; few = omega (arith, f.2) }

pub returns-in_err-index-clause-stop : goal.returns-in_err-index-clause-stop
returns-in_err-index-clause-stop c =
    let ls = map label_of c.args.root.now in
    let more = map label_of c.args.more.now in
    let n = lengths c.args.root.now c.args.more.now c.requires.of_profile in
    let stop : Stops per_fields (IndexesOf (length ls) (Some (length more))) c.args.bits.now c.in_err-index.field-0.0 = rw (n.0, n.1) c.in_err-index.ensures.stop in
    let p = err_from_is_err_and c.from_residual.result c.from_residual.ensures.1 in
    rw (p.1, p.2) (stops_by _ (index_leads ls more c.args.bits.now).stops stop)

pub position_of_index-requires-clause-good : goal.position_of_index-requires-clause-good
position_of_index-requires-clause-good c = root_items (map label_of c.args.root.now) (marked_labels (map label_of c.args.more.now)) c.requires.of_profile

pub overflow_cast-result : goal.overflow_cast-result
overflow_cast-result c = omega (arith, few c.args.root.now c.args.more.now c.requires.of_profile)

pub overflow_cast-result-in-Added : goal.overflow_cast-result-in-Added
overflow_cast-result-in-Added c =
    let inside : c.in-Added.index < length c.args.more.now = rw c.in-Added.is at c.in_ok-index.ensures.within in
    omega (arith, few c.args.root.now c.args.more.now c.requires.of_profile, inside)

pub overflow_add-result : goal.overflow_add-result
overflow_add-result c =
    let inside : c.in-Added.index < length c.args.more.now = rw c.in-Added.is at c.in_ok-index.ensures.within in
    omega (arith, few c.args.root.now c.args.more.now c.requires.of_profile, inside)

pub returns-in-Root-clause-done : goal.returns-in-Root-clause-done
returns-in-Root-clause-done c =
    let ls = map label_of c.args.root.now in
    let more = map label_of c.args.more.now in
    let n = lengths c.args.root.now c.args.more.now c.requires.of_profile in
    let is : index_seen c.in_ok-index.field-0 ≡ inl c.in-Root.index = ap index_seen c.in-Root.is in
    let spelt : Spells per_fields (IndexesOf (length ls) (Some (length more))) (inl c.in-Root.index) c.args.bits.now c.read_index.new.bits = rw (n.0, n.1, ← is) c.in_ok-index.ensures.done in
    rw c.position_of_index.ensures ((index_leads ls more c.args.bits.now).done (inl c.in-Root.index) c.read_index.new.bits spelt)

pub returns-in-Added-clause-done : goal.returns-in-Added-clause-done
returns-in-Added-clause-done c =
    let ls = map label_of c.args.root.now in
    let more = map label_of c.args.more.now in
    let n = lengths c.args.root.now c.args.more.now c.requires.of_profile in
    let is : index_seen c.in_ok-index.field-0 ≡ inr c.in-Added.index = ap index_seen c.in-Added.is in
    let spelt : Spells per_fields (IndexesOf (length ls) (Some (length more))) (inr c.in-Added.index) c.args.bits.now c.read_index.new.bits = rw (n.0, n.1, ← is) c.in_ok-index.ensures.done in
    let read : Spells per_fields (Items ls (marked_labels more)) (item (length ls + c.in-Added.index)) c.args.bits.now c.read_index.new.bits = (index_leads ls more c.args.bits.now).done (inr c.in-Added.index) c.read_index.new.bits spelt in
    subst (λ (k : ℕ). Spells per_fields (Items ls (marked_labels more)) (item (k + c.in-Added.index)) c.args.bits.now c.read_index.new.bits) n.0 read
