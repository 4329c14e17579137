use Rattle.std.proofs.lemmas.Result.{IfErr-weaker}
use Rattle.asn_values.specs.View.{range_of}
use Rattle.asn_bits.specs.Numbers.{packed}
use Rattle.asn_rules.proofs.Languages.Leads.{stops_by}
use Rattle.asn_oer.proofs.Read.IntegerReading.{none_out, marked_leads}
use Rattle.asn_oer.proofs.integer.read_integer.Goals as goal

pub returns-then-bounds-clause-stop : goal.returns-then-bounds-clause-stop
returns-then-bounds-clause-stop c =
    let b = range_of c.args.bounds.now in
    let lead = marked_leads b (packed c.args.units.now) c.if-bounds.true in
    rw (none_out b c.args.excluded c.requires.within c.if-bounds.true) (IfErr-weaker c.read_signed.result _ _ (λ why s. stops_by why lead.stops s) c.read_signed.ensures.stop)
