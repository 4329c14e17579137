-- The slice has as many octets as there are to come, so it is full where all are there.
use Rattle.std.proofs.Common.{◌≡◌, length, sym, ap, ◌∙◌, arith}
use Rattle.asn_values.specs.View.{shape_of, datum_of}
use Rattle.asn_bits.specs.Numbers.{unpacked}
use Rattle.asn_walk_write.specs.Octets.{octets_of}
use Rattle.asn_walk_write.proofs.Deliveries.{filled, same_slice}
use Rattle.asn_walk_write.proofs.encoder.fill.Goals as goal

pub returns : goal.returns
returns g c =
    let r = g.R.WriteLeaves.rules in
    let e = c.requires.encodable in
    let os = octets_of r c.args.ty.now (datum_of c.args.value.now) in
    let f = c.deliver.new.output in
    let small = c.keep_open_laws.ensures.octets (shape_of c.args.ty.now) (datum_of c.args.value.now) e.of_profile e.of_type in
    let same = same_slice c.deliver.result _ f.octets.ghost_name c.args.octets.now f.octets.now (unpacked os) f.count f.faults c.deliver.ensures.ok c.deliver.ensures.err in
    let last : c.octets-1.given.0 ≡ f.octets.now = c.octets-1.given.1.1 (sym same) in
    let long : length f.octets.now ≡ length os = omega (arith, ap length last, c.octets-1.given.1.0, c.requires.many) in
    last ∙ filled c.deliver.result _ f.octets.ghost_name c.args.octets.now f.octets.now os f.count f.faults small long f.within f.full c.deliver.ensures.ok c.deliver.ensures.err
