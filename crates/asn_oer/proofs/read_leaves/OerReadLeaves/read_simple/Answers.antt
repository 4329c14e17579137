use Rattle.std.proofs.Common.{◌≡◌, map, ap, ◌∙◌}
use Rattle.std.proofs.lemmas.Result.{err_from_is_err_and}
use Rattle.asn_values.specs.Shape.{integer, enumerated}
use Rattle.asn_values.specs.View.{shape_of, range_of, size_range_of, label_of, more_labels_of}
use Rattle.asn_values.proofs.Views.{shape_of-Int, shape_of-Enum, shape_of-Bits, shape_of-Utf8}
use Rattle.asn_bits.specs.Numbers.{packed}
use Rattle.asn_rules.proofs.Languages.Leads.{stops_by}
use Rattle.asn_rules.proofs.Components.Listed.{spelt_inhabited}
use Rattle.asn_oer.specs.Oer.{oer}
use Rattle.asn_oer.specs.Rules.{oer_ruling}
use Rattle.asn_oer.specs.Walk.{oer_coding}
use Rattle.asn_oer.proofs.Read.Utf8Reading.{utf8_leads}
use Rattle.asn_oer.proofs.Read.SizeCounts.{bits_size}
use Rattle.asn_oer.proofs.read_leaves.OerReadLeaves.read_simple.Goals as goal

pub read_integer-requires-clause-some : goal.read_integer-requires-clause-some
unfolding oer_coding oer_ruling
read_integer-requires-clause-some c =
    spelt_inhabited oer (integer (range_of c.in-Int.bounds)) (rw (c.in-Int.is, shape_of-Int) at c.requires.of_profile)

pub read_item-requires-clause-some : goal.read_item-requires-clause-some
unfolding oer_coding oer_ruling
read_item-requires-clause-some c =
    let type = enumerated (map label_of c.in-Enum.root.items) (more_labels_of c.in-Enum.ext) in
    let is : shape_of c.args.ty.now ≡ type = ap shape_of c.in-Enum.is ∙ shape_of-Enum c.in-Enum.root c.in-Enum.ext in
    rw c.deref.ensures.value (spelt_inhabited oer type (rw is at c.requires.of_profile))

pub read_bit_string-requires-clause-of_profile : goal.read_bit_string-requires-clause-of_profile
unfolding oer_coding oer_ruling
read_bit_string-requires-clause-of_profile c = bits_size (size_range_of c.in-Bits.size) (rw (c.in-Bits.is, shape_of-Bits) at c.requires.of_profile)

pub returns-in_err-read_utf8_string-in-Utf8-clause-stop : goal.returns-in_err-read_utf8_string-in-Utf8-clause-stop
unfolding oer_coding oer_ruling
returns-in_err-read_utf8_string-in-Utf8-clause-stop c =
    let p = err_from_is_err_and c.from_residual-in_err-read_utf8_string-in-Utf8.result c.from_residual-in_err-read_utf8_string-in-Utf8.ensures.1 in
    rw (p.1, p.2, c.in-Utf8.is, shape_of-Utf8) (stops_by _ (utf8_leads (packed c.args.units.now)).stops c.in_err-read_utf8_string-in-Utf8.ensures.stop)
