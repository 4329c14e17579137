use Rattle.std.proofs.Common.{◌≡◌, ◌+◌, ◌-◌, arith}
use Rattle.std.proofs.lemmas.Result.{err_from_is_err_and, IfOk-weaker, IfErr-weaker}
use Rattle.asn_rules.proofs.Languages.Leads.{stops_by}
use Rattle.asn_per.specs.Per.{per_fields}
use Rattle.asn_per.specs.Rules.{per_ruling}
use Rattle.asn_per.specs.Walk.{per_coding}
use Rattle.asn_per.proofs.Read.PreambleReading.{count_stops, some_present, bitmap_leads}
use Rattle.asn_per.proofs.read_leaves.PerReadLeaves.read_addition_bitmap.Goals as goal

pub returns-in_err-read_small_length-clause-stop : goal.returns-in_err-read_small_length-clause-stop
unfolding per_coding per_ruling
returns-in_err-read_small_length-clause-stop c =
    let is : c.args.count - 1 + 1 ≡ c.args.count = omega (arith, c.requires.some) in
    let p = err_from_is_err_and c.from_residual.result c.from_residual.ensures.1 in
    rw (p.1, p.2) (stops_by _ (count_stops c.args.count (c.args.count - 1) c.requires.some c.requires.few is c.args.units.now) (c.in_err-read_small_length.ensures.stop per_fields))

pub returns-clause-done : goal.returns-clause-done
unfolding per_coding per_ruling
returns-clause-done c =
    let is : c.args.count - 1 + 1 ≡ c.args.count = omega (arith, c.requires.some) in
    let lead = bitmap_leads c.args.count (c.args.count - 1) c.requires.some c.requires.few is c.greatest_of_width.result c.greatest_of_width.ensures c.in_ok-read_small_length.field-0 c.args.units.now c.read_small_length.new.bits (c.in_ok-read_small_length.ensures.done per_fields) in
    IfOk-weaker c.read_number.result _ _ (λ m s. lead.done m c.read_number.new.bits s) (c.read_number.ensures.done per_fields)

pub returns-clause-stop : goal.returns-clause-stop
unfolding per_coding per_ruling
returns-clause-stop c =
    let is : c.args.count - 1 + 1 ≡ c.args.count = omega (arith, c.requires.some) in
    let lead = bitmap_leads c.args.count (c.args.count - 1) c.requires.some c.requires.few is c.greatest_of_width.result c.greatest_of_width.ensures c.in_ok-read_small_length.field-0 c.args.units.now c.read_small_length.new.bits (c.in_ok-read_small_length.ensures.done per_fields) in
    IfErr-weaker c.read_number.result _ _ (λ why s. stops_by why lead.stops s) (c.read_number.ensures.stop per_fields)

pub read_number-requires-clause-some : goal.read_number-requires-clause-some
unfolding per_coding per_ruling
read_number-requires-clause-some c =
    let is : c.args.count - 1 + 1 ≡ c.args.count = omega (arith, c.requires.some) in
    some_present c.args.count (c.args.count - 1) c.requires.some c.requires.few is c.greatest_of_width.result c.greatest_of_width.ensures
