use Rattle.std.proofs.Common.{rules, ◌≡◌, ◌<◌, ◌++◌, ◌+ℤ◌, ℕ, ℤ, Bool, None, pos, length, map, ap, ◌∙◌, refl, to_z, of_z}
use mir.Syntax.{w128}
use Rattle.asn_values.specs.declared.value.Value as values
use Rattle.asn_values.specs.declared.value.Value.TheVariants as value
use Rattle.asn_values.specs.Datum.{truth, item, number}
use Rattle.asn_values.specs.Fits.{lowest_integer}
use Rattle.asn_values.specs.Shape.{enumerated, more_labels}
use Rattle.asn_values.specs.View.{shape_of, datum_of, range_of, size_range_of, label_of, more_labels_of}
use Rattle.asn_values.proofs.Views.{shape_of-Bool, shape_of-Int, shape_of-Enum, shape_of-Octets, datum_of-Octets}
use Rattle.asn_bits.specs.Numbers.{packed}
use Rattle.asn_walk.specs.Items.{IsNumberOctet}
use Rattle.asn_rules.specs.IntegerSets.{unmarked}
use Rattle.asn_rules.specs.Languages.{Spells}
use Rattle.asn_oer.specs.Oer.{oer_fields}
use Rattle.asn_oer.specs.Reading.{IntegersBut}
use Rattle.asn_oer.specs.Rules.{oer_ruling}
use Rattle.asn_oer.specs.Walk.{oer_coding}
use Rattle.asn_oer.proofs.Read.IntegerReading.{counted_signed_leads, counted_where, given, marked_leads}
use Rattle.asn_oer.proofs.Read.ItemReading.{item_at_once}
use Rattle.asn_oer.proofs.Read.SizeCounts.{octets_size, octets_at_once}
use Rattle.asn_oer.proofs.Read.TruthReading.{truth_at_once}
use Rattle.asn_oer.proofs.read_leaves.OerReadLeaves.try_simple.Goals as goal

seen_truth : (b : Bool) → datum_of (value.Bool b) ≡ truth b
seen_truth b = search (rules, values.the_lemmas)

seen_number : (z : ℤ) → datum_of (value.Int z) ≡ number z
seen_number z = search (rules, values.the_lemmas)

seen_item : (p : ℕ) → datum_of (value.Enum p) ≡ item p
seen_item p = search (rules, values.the_lemmas)

pub returns-in_ok-try_truth-in-Bool-clause-some : goal.returns-in_ok-try_truth-in-Bool-clause-some
unfolding oer_coding oer_ruling
returns-in_ok-try_truth-in-Bool-clause-some c =
    let w = c.in_ok-try_truth-in-Bool.ensures.done in
    rw (c.in-Bool.is, shape_of-Bool, seen_truth c.in_ok-try_truth-in-Bool.field-0, w.1) (truth_at_once (packed c.args.units.now) (packed c.try_truth.new.units) w.0 w.2)

pub returns-in_ok-try_item-in-Enum-clause-some : goal.returns-in_ok-try_item-in-Enum-clause-some
unfolding oer_coding oer_ruling
returns-in_ok-try_item-in-Enum-clause-some c =
    let e = c.in_ok-try_item-in-Enum.ensures in
    let p = c.in_ok-try_item-in-Enum.field-0 in
    let root = map label_of c.in-Enum.root.items in
    let more = more_labels_of c.in-Enum.ext in
    let is : shape_of c.args.ty.now ≡ enumerated root more = ap shape_of c.in-Enum.is ∙ shape_of-Enum c.in-Enum.root c.in-Enum.ext in
    let there : p < length (root ++ more_labels more) = rw c.deref.ensures.value at e.there in
    let octet : IsNumberOctet (root ++ more_labels more) p c.args.units.now c.try_item.new.units = rw c.deref.ensures.value at e.number in
    rw (is, seen_item p) (item_at_once root more (rw is at c.requires.of_profile) c.args.units.now c.try_item.new.units p octet.0 there octet.1 octet.2 octet.3)

pub try_sized_octets-requires-clause-of_profile : goal.try_sized_octets-requires-clause-of_profile
unfolding oer_coding oer_ruling
try_sized_octets-requires-clause-of_profile c =
    octets_size (size_range_of c.in-Octets.size) (rw (c.in-Octets.is, shape_of-Octets) at c.requires.of_profile)

pub returns-in_ok-try_sized_octets-in-Octets-clause-some : goal.returns-in_ok-try_sized_octets-in-Octets-clause-some
unfolding oer_coding oer_ruling
returns-in_ok-try_sized_octets-in-Octets-clause-some c =
    let os = c.in_ok-try_sized_octets-in-Octets.field-0 in
    rw (c.in-Octets.is, shape_of-Octets, datum_of-Octets os) (octets_at_once (size_range_of c.in-Octets.size) os.items c.args.units.now c.try_sized_octets.new.units (rw (c.in-Octets.is, shape_of-Octets) at c.requires.of_profile) c.in_ok-try_sized_octets-in-Octets.ensures.done)

pub returns-in_ok-offset-in_default-2-clause-some : goal.returns-in_ok-offset-in_default-2-clause-some
unfolding oer_coding oer_ruling
returns-in_ok-offset-in_default-2-clause-some c =
    let b = range_of c.in-Int.bounds in
    let us = packed c.args.units.now in
    let vs = packed c.try_counted_signed.new.units in
    let all = unmarked None None in
    let z = lowest_integer +ℤ pos c.in_ok-offset-in_default-2.offset in
    let counted = counted_signed_leads None all c.offsets_of.result c.offsets_of.ensures.same (counted_where None None tt refl) us in
    let read : Spells oer_fields (IntegersBut None all) (number (to_z w128 (of_z w128 z))) us vs = given None all z us vs (counted.done z vs c.in_ok-offset-in_default-2.ensures.done) in
    rw (c.at_offset.ensures, c.in-Int.is, shape_of-Int, seen_number (to_z w128 (of_z w128 z))) ((marked_leads b us c.if-bounds.true).done (number (to_z w128 (of_z w128 z))) vs read)
