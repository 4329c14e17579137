use Rattle.std.proofs.Common.{◌≡◌, ◌<◌, ◌+◌, ◌-◌, map, length, arith}
use Rattle.std.proofs.lemmas.List.{length-map}
use Rattle.std.proofs.lemmas.Result.{err_from_is_err_and}
use Rattle.asn_values.specs.View.{label_of}
use Rattle.asn_rules.proofs.Languages.Leads.{stops_by}
use Rattle.asn_bits.specs.Numbers.{width}
use Rattle.asn_bits.specs.Sets.{InSet}
use Rattle.asn_rules.specs.Languages.{Plain, Spells}
use Rattle.asn_rules.specs.Stops.{Stops}
use Rattle.asn_per.specs.Per.{per_fields}
use Rattle.asn_per.specs.Indexes.{index_of}
use Rattle.asn_rules.specs.NumberSets.{Admits, up_to}
use Rattle.asn_per.proofs.Read.ItemReading.{root_leads, some_index}
use Rattle.asn_per.proofs.items.read_of_root.Goals as goal

pub read_constrained-requires : goal.read_constrained-requires
read_constrained-requires c =
    let some : 0 < length c.args.root.now = simp length-map at c.requires.good.some in
    let is : (length c.args.root.now - 1) + 1 ≡ length (map label_of c.args.root.now) = simp length-map (omega arith) in
    rw c.excluded_index-left_out.ensures (some_index (map label_of c.args.root.now) c.args.excluded (length c.args.root.now - 1) is c.requires.some)

pub returns-in_err-index-clause-stop : goal.returns-in_err-index-clause-stop
returns-in_err-index-clause-stop c =
    let ls = map label_of c.args.root.now in
    let high = length c.args.root.now - 1 in
    let some : 0 < length c.args.root.now = simp length-map at c.requires.good.some in
    let is : high + 1 ≡ length ls = simp length-map (omega arith) in
    let p = err_from_is_err_and c.from_residual.result c.from_residual.ensures.1 in
    let stop : Stops per_fields (Plain (InSet (width (high + 1)) (λ n. Admits (up_to high (index_of ls c.args.excluded)) n))) c.args.bits.now c.in_err-index.field-0.0 =
    rw c.excluded_index-left_out.ensures at (c.in_err-index.ensures.stop per_fields) in
    rw (p.1, p.2) (stops_by _ (root_leads ls c.args.excluded high is c.args.bits.now).stops stop)

pub returns-clause-done : goal.returns-clause-done
returns-clause-done c =
    let ls = map label_of c.args.root.now in
    let high = length c.args.root.now - 1 in
    let n = c.in_ok-index.index in
    let some : 0 < length c.args.root.now = simp length-map at c.requires.good.some in
    let is : high + 1 ≡ length ls = simp length-map (omega arith) in
    let spelt : Spells per_fields (Plain (InSet (width (high + 1)) (λ m. Admits (up_to high (index_of ls c.args.excluded)) m))) n c.args.bits.now c.read_constrained.new.bits =
    rw c.excluded_index-left_out.ensures at (c.in_ok-index.ensures.done per_fields) in
    rw c.position_of_index.ensures ((root_leads ls c.args.excluded high is c.args.bits.now).done n c.read_constrained.new.bits spelt)

pub position_of_index-requires-clause-inside : goal.position_of_index-requires-clause-inside
position_of_index-requires-clause-inside c =
    let s = c.in_ok-index.ensures.done per_fields in
    let some : 0 < length c.args.root.now = simp length-map at c.requires.good.some in
    omega (arith, s.spelt.spelt.member.1, some)
