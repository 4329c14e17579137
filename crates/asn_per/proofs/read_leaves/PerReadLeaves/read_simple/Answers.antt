use Rattle.std.proofs.Common.{◌≡◌, map}
use Rattle.std.proofs.lemmas.Result.{err_from_is_err_and}
use Rattle.asn_values.specs.Shape.{integer, enumerated}
use Rattle.asn_values.specs.View.{shape_of, range_of, size_range_of, alphabet_of, label_of, more_labels_of}
use Rattle.asn_values.proofs.Views.{shape_of-Int, shape_of-Bits, shape_of-Octets, shape_of-Text, shape_of-Utf8, datum_of-Bits, datum_of-Octets, datum_of-Text}
use Rattle.asn_rules.proofs.Languages.Leads.{stops_by}
use Rattle.asn_rules.proofs.Components.Listed.{spelt_inhabited}
use Rattle.asn_per.specs.Per.{per}
use Rattle.asn_per.proofs.Read.EnumeratedTypes.{enumerated_of_items}
use Rattle.asn_per.proofs.Read.StringReading.{bits_size, octets_size, text_size, bits_lead, octets_lead, text_leads, utf8_leads}
use Rattle.asn_per.proofs.read_leaves.PerReadLeaves.read_simple.Goals as goal
use Rattle.asn_per.specs.Rules.{per_ruling}
use Rattle.asn_per.specs.Walk.{per_coding}

pub read_integer-requires-clause-some : goal.read_integer-requires-clause-some
unfolding per_coding per_ruling
read_integer-requires-clause-some c =
    spelt_inhabited per (integer (range_of c.in-Int.bounds)) (rw (c.in-Int.is, shape_of-Int) at c.requires.of_profile)

pub read_item-requires-clause-some : goal.read_item-requires-clause-some
unfolding per_coding per_ruling
read_item-requires-clause-some c =
    let type = enumerated (map label_of c.deref.result.now) (more_labels_of c.in-Enum.ext) in
    let is : shape_of c.args.ty.now ≡ type = enumerated_of_items c.args.ty.now c.in-Enum.root c.in-Enum.ext c.deref.result.now c.in-Enum.is c.deref.ensures.value in
    spelt_inhabited per type (rw is at c.requires.of_profile)

pub read_bits-requires : goal.read_bits-requires
unfolding per_coding per_ruling
read_bits-requires c =
    record { of_profile = bits_size (size_range_of c.in-Bits.size) (rw (c.in-Bits.is, shape_of-Bits) at c.requires.of_profile) }

pub returns-in_err-read_bits-in-Bits-clause-stop : goal.returns-in_err-read_bits-in-Bits-clause-stop
unfolding per_coding per_ruling
returns-in_err-read_bits-in-Bits-clause-stop c =
    let good = rw (c.in-Bits.is, shape_of-Bits) at c.requires.of_profile in
    let p = err_from_is_err_and c.from_residual-in_err-read_bits-in-Bits.result c.from_residual-in_err-read_bits-in-Bits.ensures.1 in
    rw (p.1, p.2, c.in-Bits.is, shape_of-Bits) (stops_by _ (bits_lead (size_range_of c.in-Bits.size) c.args.units.now good).stops c.in_err-read_bits-in-Bits.ensures.stop)

pub returns-in_ok-read_bits-in-Bits-clause-done : goal.returns-in_ok-read_bits-in-Bits-clause-done
unfolding per_coding per_ruling
returns-in_ok-read_bits-in-Bits-clause-done c =
    let good = rw (c.in-Bits.is, shape_of-Bits) at c.requires.of_profile in
    rw (c.in-Bits.is, shape_of-Bits, datum_of-Bits) ((bits_lead (size_range_of c.in-Bits.size) c.args.units.now good).done c.read_bits.new.bits.items c.read_bits.new.cursor c.in_ok-read_bits-in-Bits.ensures.done)

pub read_octet_string-requires : goal.read_octet_string-requires
unfolding per_coding per_ruling
read_octet_string-requires c =
    record { of_profile = octets_size (size_range_of c.in-Octets.size) (rw (c.in-Octets.is, shape_of-Octets) at c.requires.of_profile) }

pub returns-in_err-read_octet_string-in-Octets-clause-stop : goal.returns-in_err-read_octet_string-in-Octets-clause-stop
unfolding per_coding per_ruling
returns-in_err-read_octet_string-in-Octets-clause-stop c =
    let good = rw (c.in-Octets.is, shape_of-Octets) at c.requires.of_profile in
    let p = err_from_is_err_and c.from_residual-in_err-read_octet_string-in-Octets.result c.from_residual-in_err-read_octet_string-in-Octets.ensures.1 in
    rw (p.1, p.2, c.in-Octets.is, shape_of-Octets) (stops_by _ (octets_lead (size_range_of c.in-Octets.size) c.args.units.now good).stops c.in_err-read_octet_string-in-Octets.ensures.stop)

pub returns-in_ok-read_octet_string-in-Octets-clause-done : goal.returns-in_ok-read_octet_string-in-Octets-clause-done
unfolding per_coding per_ruling
returns-in_ok-read_octet_string-in-Octets-clause-done c =
    let good = rw (c.in-Octets.is, shape_of-Octets) at c.requires.of_profile in
    rw (c.in-Octets.is, shape_of-Octets, datum_of-Octets) ((octets_lead (size_range_of c.in-Octets.size) c.args.units.now good).done c.in_ok-read_octet_string-in-Octets.field-0.items c.read_octet_string.new.cursor c.in_ok-read_octet_string-in-Octets.ensures.done)

pub read_characters-requires : goal.read_characters-requires
unfolding per_coding per_ruling
read_characters-requires c =
    record { of_profile = text_size (alphabet_of c.in-Text.kind) (size_range_of c.in-Text.size) (rw (c.in-Text.is, shape_of-Text) at c.requires.of_profile) }

pub returns-in_err-read_characters-in-Text-clause-stop : goal.returns-in_err-read_characters-in-Text-clause-stop
unfolding per_coding per_ruling
returns-in_err-read_characters-in-Text-clause-stop c =
    let good = rw (c.in-Text.is, shape_of-Text) at c.requires.of_profile in
    let p = err_from_is_err_and c.from_residual-in_err-read_characters-in-Text.result c.from_residual-in_err-read_characters-in-Text.ensures.1 in
    rw (p.1, p.2, c.in-Text.is, shape_of-Text) (stops_by _ (text_leads (alphabet_of c.in-Text.kind) (size_range_of c.in-Text.size) c.args.units.now good).stops c.in_err-read_characters-in-Text.ensures.stop)

pub returns-in_ok-read_characters-in-Text-clause-done : goal.returns-in_ok-read_characters-in-Text-clause-done
unfolding per_coding per_ruling
returns-in_ok-read_characters-in-Text-clause-done c =
    let good = rw (c.in-Text.is, shape_of-Text) at c.requires.of_profile in
    rw (c.in-Text.is, shape_of-Text, datum_of-Text) ((text_leads (alphabet_of c.in-Text.kind) (size_range_of c.in-Text.size) c.args.units.now good).done c.read_characters.new.characters.items c.read_characters.new.cursor c.in_ok-read_characters-in-Text.ensures.done)

pub returns-in_err-read_utf8-in-Utf8-clause-stop : goal.returns-in_err-read_utf8-in-Utf8-clause-stop
unfolding per_coding per_ruling
returns-in_err-read_utf8-in-Utf8-clause-stop c =
    let p = err_from_is_err_and c.from_residual-in_err-read_utf8-in-Utf8.result c.from_residual-in_err-read_utf8-in-Utf8.ensures.1 in
    rw (p.1, p.2, c.in-Utf8.is, shape_of-Utf8) (stops_by _ (utf8_leads c.args.units.now).stops c.in_err-read_utf8-in-Utf8.ensures.stop)
