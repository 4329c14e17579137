use Rattle.std.proofs.Common.{◌≡◌, true, map, ap, ◌∙◌}
use Rattle.asn_values.specs.Datum.{number, item}
use Rattle.asn_values.specs.Shape.{integer, enumerated}
use Rattle.asn_values.specs.Profile.{InProfile, good_default}
use Rattle.asn_values.specs.View.{shape_of, datum_of, range_of, label_of, more_labels_of}
use Rattle.asn_values.proofs.Views.{shape_of-Int}
use Rattle.asn_rules.proofs.Components.Listed.{other_inhabited}
use Rattle.asn_rules.proofs.Components.ListedEach.{good_fits}
use Rattle.asn_per.specs.Per.{per}
use Rattle.asn_bits.proofs.Above.{kept}
use Rattle.asn_per.proofs.Read.ComponentsRead.{datum_of-Int}
use Rattle.asn_per.proofs.Read.EnumeratedTypes.{enumerated_of_items, datum_of-Enum}
use Rattle.asn_per.proofs.read_leaves.PerReadLeaves.read_other.Goals as goal

pub read_integer-requires-clause-some : goal.read_integer-requires-clause-some
read_integer-requires-clause-some c =
    let t = integer (range_of c.in-Int-Int.bounds) in
    let p : InProfile t = rw (c.in-Int-Int.is-0, shape_of-Int) at c.requires.of_profile in
    let g : good_default t (number c.in-Int-Int.number) ≡ true = rw (c.in-Int-Int.is-0, shape_of-Int, c.in-Int-Int.is-1, datum_of-Int) at c.requires.good in
    let f = good_fits t (number c.in-Int-Int.number) p g in
    rw (kept c.in-Int-Int.number f.0 f.1) (other_inhabited per t (number c.in-Int-Int.number) p g)

pub read_item-requires-clause-some : goal.read_item-requires-clause-some
read_item-requires-clause-some c =
    let t = enumerated (map label_of c.deref.result.now) (more_labels_of c.in-Enum-Enum.ext) in
    let is : shape_of c.args.ty.now ≡ t = enumerated_of_items c.args.ty.now c.in-Enum-Enum.root c.in-Enum-Enum.ext c.deref.result.now c.in-Enum-Enum.is-0 c.deref.ensures.value in
    let value : datum_of c.args.default.now ≡ item c.in-Enum-Enum.position = ap datum_of c.in-Enum-Enum.is-1 ∙ datum_of-Enum c.in-Enum-Enum.position in
    let p : InProfile t = rw is at c.requires.of_profile in
    let g : good_default t (item c.in-Enum-Enum.position) ≡ true = rw (is, value) at c.requires.good in
    other_inhabited per t (item c.in-Enum-Enum.position) p g
