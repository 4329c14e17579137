use Rattle.std.proofs.Common.{◌∙◌, ap, map}
use Rattle.asn_values.specs.Profile.{InProfile, EmptyRange}
use Rattle.asn_values.specs.Shape.{integer, enumerated, bit_string, octet_string, restricted}
use Rattle.asn_values.specs.View.{shape_of, range_of, size_range_of, alphabet_of, label_of, more_labels_of}
use Rattle.asn_values.proofs.Views.{shape_of-Int, shape_of-Enum, shape_of-Bits, shape_of-Octets, shape_of-Text}
use Rattle.asn_examples.proofs.LeafValues.{octets_fit, text_fits}
use Rattle.asn_examples.proofs.Numbers.{bits_size, octets_size, text_size, some_item}
use Rattle.asn_examples.proofs.leaves.leaf.Goals as goal

pub number_of-requires : goal.number_of-requires
number_of-requires c =
    let is = ap shape_of c.in-Int.is ∙ shape_of-Int c.in-Int.bounds in
    let good : InProfile (integer (range_of c.in-Int.bounds)) = rw is at c.requires.of_profile in
    good EmptyRange

pub item_of-requires : goal.item_of-requires
item_of-requires c =
    let is = ap shape_of c.in-Enum.is ∙ shape_of-Enum c.in-Enum.root c.in-Enum.ext in
    let good : InProfile (enumerated (map label_of c.in-Enum.root.items) (more_labels_of c.in-Enum.ext)) = rw is at c.requires.of_profile in
    rw c.deref.ensures.value (some_item _ _ good)

pub length_of-count-requires : goal.length_of-count-requires
length_of-count-requires c =
    let is = ap shape_of c.in-Bits.is ∙ shape_of-Bits c.in-Bits.size in
    let good : InProfile (bit_string (size_range_of c.in-Bits.size)) = rw is at c.requires.of_profile in
    bits_size _ good

pub length_of-count-requires-in-Octets : goal.length_of-count-requires-in-Octets
length_of-count-requires-in-Octets c =
    let is = ap shape_of c.in-Octets.is ∙ shape_of-Octets c.in-Octets.size in
    let good : InProfile (octet_string (size_range_of c.in-Octets.size)) = rw is at c.requires.of_profile in
    octets_size _ good

pub length_of-count-requires-in-Text : goal.length_of-count-requires-in-Text
length_of-count-requires-in-Text c =
    let is = ap shape_of c.in-Text.is ∙ shape_of-Text c.in-Text.kind c.in-Text.size in
    let good : InProfile (restricted (alphabet_of c.in-Text.kind) (size_range_of c.in-Text.size)) = rw is at c.requires.of_profile in
    text_size _ _ good

pub returns-in_ok-some_octets-in-Octets : goal.returns-in_ok-some_octets-in-Octets
returns-in_ok-some_octets-in-Octets c =
    octets_fit c.args.ty.now c.in-Octets.size c.in_ok-some_octets-in-Octets.field-0 c.length_of-count-in-Octets.result c.in-Octets.is c.length_of-count-in-Octets.ensures c.in_ok-some_octets-in-Octets.ensures.count c.in_ok-some_octets-in-Octets.ensures.octets

pub returns-in_ok-some_text-in-Utf8 : goal.returns-in_ok-some_text-in-Utf8
returns-in_ok-some_text-in-Utf8 c = text_fits c.args.ty.now c.in_ok-some_text-in-Utf8.field-0 c.in-Utf8.is c.in_ok-some_text-in-Utf8.ensures
