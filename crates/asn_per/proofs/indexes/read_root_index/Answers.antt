use Rattle.std.proofs.Common.{◌≡◌, ◌+◌, ◌-◌, None, arith}
use Rattle.std.proofs.lemmas.Result.{err_from_is_err_and}
use Rattle.asn_bits.specs.Numbers.{width}
use Rattle.asn_bits.specs.Sets.{InSet}
use Rattle.asn_rules.specs.Languages.{Plain, Spells}
use Rattle.asn_rules.specs.Stops.{Stops}
use Rattle.asn_rules.proofs.Languages.Leads.{stops_by}
use Rattle.asn_per.specs.Per.{per_fields}
use Rattle.asn_rules.specs.NumberSets.{Admits, up_to}
use Rattle.asn_per.proofs.Read.IndexReading.{below_leads}
use Rattle.asn_per.proofs.indexes.read_root_index.Goals as goal

pub returns-in_err-read_constrained-clause-stop : goal.returns-in_err-read_constrained-clause-stop
returns-in_err-read_constrained-clause-stop c =
    let n = c.args.count in
    let is : n - 1 + 1 ≡ n = omega (arith, c.requires) in
    let stop : Stops per_fields (Plain (InSet (width n) (λ m. Admits (up_to (n - 1) None) m))) c.args.bits.now c.in_err-read_constrained.field-0.0 = rw is at (c.in_err-read_constrained.ensures.stop per_fields) in
    let p = err_from_is_err_and c.from_residual.result c.from_residual.ensures.1 in
    rw (p.1, p.2) (stops_by _ (below_leads n c.requires (width n) c.args.bits.now).stops stop)

pub returns-clause-done : goal.returns-clause-done
returns-clause-done c =
    let n = c.args.count in
    let i = c.in_ok-read_constrained.field-0 in
    let is : n - 1 + 1 ≡ n = omega (arith, c.requires) in
    let spelt : Spells per_fields (Plain (InSet (width n) (λ m. Admits (up_to (n - 1) None) m))) i c.args.bits.now c.read_constrained.new.bits = rw is at (c.in_ok-read_constrained.ensures.done per_fields) in
    (below_leads n c.requires (width n) c.args.bits.now).done i c.read_constrained.new.bits spelt
