use Rattle.std.proofs.Common.{◌≡◌, None, List, map, sym, ap, ◌∙◌}
use Rattle.std.specs.Option.{option_map}
use Rattle.std.proofs.lemmas.Result.{IfOk-weaker, IfErr-weaker}
use Rattle.asn_values.specs.declared.types.Item.{Item}
use Rattle.asn_values.specs.Datum.{item}
use Rattle.asn_values.specs.Shape.{enumerated, closed_labels, marked_labels}
use Rattle.asn_values.specs.Profile.{InProfile}
use Rattle.asn_values.specs.View.{label_of, more_labels_of}
use Rattle.asn_rules.specs.Languages.{Inhabited}
use Rattle.asn_rules.specs.Listed.{Spelt}
use Rattle.asn_rules.proofs.Languages.Leads.{stops_by}
use Rattle.asn_per.specs.Per.{per}
use Rattle.asn_per.specs.Indexes.{IsItemWithin}
use Rattle.asn_plan.proofs.RootItems.{root_items}
use Rattle.asn_per.proofs.Read.ItemReading.{closed_leads, closed_some, marked_leads, no_item_left_out}
use Rattle.asn_per.proofs.items.read_item.Goals as goal

-- ---- without a mark

pub read_of_root-requires-clause-good : goal.read_of_root-requires-clause-good
read_of_root-requires-clause-good c = root_items (map label_of c.args.root.now) (more_labels_of c.args.more.now) c.requires.of_profile

pub read_of_root-requires-clause-some : goal.read_of_root-requires-clause-some
read_of_root-requires-clause-some c =
    let ls = map label_of c.args.root.now in
    let good : InProfile (enumerated ls closed_labels) = rw c.in-None.is at c.requires.of_profile in
    let within : IsItemWithin ls closed_labels c.args.excluded = rw c.in-None.is at c.requires.within in
    let some : Inhabited (Spelt per (option_map item c.args.excluded) (enumerated ls closed_labels)) = rw c.in-None.is at c.requires.some in
    closed_some ls c.args.excluded good within some

pub returns-in-None-clause-done : goal.returns-in-None-clause-done
returns-in-None-clause-done c =
    let ls = map label_of c.args.root.now in
    let good : InProfile (enumerated ls closed_labels) = rw c.in-None.is at c.requires.of_profile in
    let within : IsItemWithin ls closed_labels c.args.excluded = rw c.in-None.is at c.requires.within in
    let lead = closed_leads ls c.args.excluded good within c.args.bits.now in
    rw c.in-None.is (IfOk-weaker c.read_of_root.result _ _ (λ p s. lead.done (item p) c.read_of_root.new.bits s) c.read_of_root.ensures.done)

pub returns-in-None-clause-stop : goal.returns-in-None-clause-stop
returns-in-None-clause-stop c =
    let ls = map label_of c.args.root.now in
    let good : InProfile (enumerated ls closed_labels) = rw c.in-None.is at c.requires.of_profile in
    let within : IsItemWithin ls closed_labels c.args.excluded = rw c.in-None.is at c.requires.within in
    let lead = closed_leads ls c.args.excluded good within c.args.bits.now in
    rw c.in-None.is (IfErr-weaker c.read_of_root.result _ _ (λ why s. stops_by why lead.stops s) c.read_of_root.ensures.stop)

-- ---- after a mark

pub returns-in-Some-clause-done : goal.returns-in-Some-clause-done
returns-in-Some-clause-done c =
    let ls = map label_of c.args.root.now in
    let more = map label_of c.deref.result.now in
    let marked : more_labels_of c.args.more.now ≡ marked_labels more = ap more_labels_of c.in-Some.is ∙ ap (λ (is : List Item). marked_labels (map label_of is)) (sym c.deref.ensures.value) in
    let good : InProfile (enumerated ls (marked_labels more)) = rw marked at c.requires.of_profile in
    let none : c.args.excluded ≡ None = no_item_left_out ls more c.args.excluded (rw marked at c.requires.within) in
    let lead = marked_leads ls more good c.args.bits.now in
    rw (marked, none) (IfOk-weaker c.read_marked_item.result _ _ (λ p s. lead.done (item p) c.read_marked_item.new.bits s) c.read_marked_item.ensures.done)

pub returns-in-Some-clause-stop : goal.returns-in-Some-clause-stop
returns-in-Some-clause-stop c =
    let ls = map label_of c.args.root.now in
    let more = map label_of c.deref.result.now in
    let marked : more_labels_of c.args.more.now ≡ marked_labels more = ap more_labels_of c.in-Some.is ∙ ap (λ (is : List Item). marked_labels (map label_of is)) (sym c.deref.ensures.value) in
    let good : InProfile (enumerated ls (marked_labels more)) = rw marked at c.requires.of_profile in
    let none : c.args.excluded ≡ None = no_item_left_out ls more c.args.excluded (rw marked at c.requires.within) in
    let lead = marked_leads ls more good c.args.bits.now in
    rw (marked, none) (IfErr-weaker c.read_marked_item.result _ _ (λ why s. stops_by why lead.stops s) c.read_marked_item.ensures.stop)
