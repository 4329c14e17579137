use Rattle.std.proofs.Common.{true}
use Rattle.asn_values.specs.View.{shape_of, datum_of}
use Rattle.asn_values.proofs.Received.{fits_by}
use Rattle.asn_convert.proofs.answers.show_octets.Goals as goal

pub json_text-requires : goal.json_text-requires
json_text-requires g c = rw c.get.ensures (fits_by true (shape_of c.args.planned.now) (datum_of c.in-Ok.value) c.in-Ok.ensures.1.1.0)
