use Rattle.std.proofs.Common.{◌≡◌, map, ap, ◌∙◌}
use Rattle.asn_values.specs.Shape.{enumerated}
use Rattle.asn_values.specs.Shape.{bit_string, octet_string}
use Rattle.asn_values.specs.View.{shape_of, datum_of, size_range_of, label_of, more_labels_of}
use Rattle.asn_values.proofs.Views.{shape_of-Bits, shape_of-Octets}
use Rattle.asn_per.specs.Rules.{per_ruling}
use Rattle.asn_per.specs.Walk.{per_coding}
use Rattle.asn_per.proofs.Read.AtOnce.{bits_first, octets_first}
use Rattle.asn_per.proofs.Read.EnumeratedTypes.{enumerated_of_items}
use Rattle.asn_per.proofs.read_leaves.PerReadLeaves.try_simple_into.Goals as goal

pub try_item-requires : goal.try_item-requires
unfolding per_coding per_ruling
try_item-requires c =
    let type = enumerated (map label_of c.deref.result.now) (more_labels_of c.in-Enum.ext) in
    let is : shape_of c.args.ty.now ≡ type = enumerated_of_items c.args.ty.now c.in-Enum.root c.in-Enum.ext c.deref.result.now c.in-Enum.is c.deref.ensures.value in
    record { of_profile = rw is at c.requires.of_profile }

pub returns-in-Some-try_item-clause-done : goal.returns-in-Some-try_item-clause-done
unfolding per_coding per_ruling
returns-in-Some-try_item-clause-done c _ =
    let type = enumerated (map label_of c.deref.result.now) (more_labels_of c.in-Enum.ext) in
    let is : shape_of c.args.ty.now ≡ type = enumerated_of_items c.args.ty.now c.in-Enum.root c.in-Enum.ext c.deref.result.now c.in-Enum.is c.deref.ensures.value in
    rw (is, c.set_item.ensures) c.in-Some-try_item.ensures.some

pub returns-in-Bits-clause-done : goal.returns-in-Bits-clause-done
unfolding per_coding per_ruling
returns-in-Bits-clause-done c taken =
    let s = size_range_of c.in-Bits.size in
    let is : shape_of c.args.ty.now ≡ bit_string s = ap shape_of c.in-Bits.is ∙ shape_of-Bits c.in-Bits.size in
    rw is (bits_first s (datum_of c.try_bits.new.slot) c.args.units.now c.try_bits.new.bits (rw is at c.requires.of_profile) (c.try_bits.ensures.done taken))

pub returns-in-Octets-clause-done : goal.returns-in-Octets-clause-done
unfolding per_coding per_ruling
returns-in-Octets-clause-done c taken =
    let s = size_range_of c.in-Octets.size in
    let is : shape_of c.args.ty.now ≡ octet_string s = ap shape_of c.in-Octets.is ∙ shape_of-Octets c.in-Octets.size in
    rw is (octets_first s (datum_of c.try_octets.new.slot) c.args.units.now c.try_octets.new.bits (rw is at c.requires.of_profile) (c.try_octets.ensures.done taken))
