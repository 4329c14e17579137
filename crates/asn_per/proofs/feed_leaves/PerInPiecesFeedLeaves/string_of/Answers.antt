-- The items are the string of the type, and octets that are no UTF-8 are none.
use Rattle.std.proofs.Common.{◌≡◌, ap, IsUtf8}
use Rattle.std.proofs.lemmas.Str.{IsUtf8-had}
use Rattle.asn_values.specs.View.{size_range_of, alphabet_of}
use Rattle.asn_values.proofs.Views.{shape_of-Bits, shape_of-Octets, shape_of-Text, shape_of-Utf8, datum_of-Bits, datum_of-Octets, datum_of-Text}
use Rattle.asn_rules.specs.declared.fault.Why.TheVariants as why
use Rattle.asn_per.specs.Rules.{per_ruling}
use Rattle.asn_per.specs.Walk.{per_coding}
use Rattle.asn_per.specs.SingleItems.{per_field_coding}
use Rattle.asn_per.proofs.InPieces.Strings.{bits_held, octets_held, characters_held, text_held, no_text_held, datum_of-Utf8}
use Rattle.asn_per.proofs.feed_leaves.PerInPiecesFeedLeaves.string_of.Goals as goal

pub returns-in-Bits-clause-done : goal.returns-in-Bits-clause-done
unfolding per_coding per_ruling per_field_coding
returns-in-Bits-clause-done c =
    let good = rw (c.in-Bits.is, shape_of-Bits) at c.requires.of_profile in
    rw (c.in-Bits.is, shape_of-Bits, datum_of-Bits, c.in_ok-truths-in-Bits.ensures, c.as_slice.ensures.value) (bits_held (size_range_of c.in-Bits.field-0) good c.args.items.items)

pub returns-in-Octets-clause-done : goal.returns-in-Octets-clause-done
unfolding per_coding per_ruling per_field_coding
returns-in-Octets-clause-done c =
    let good = rw (c.in-Octets.is, shape_of-Octets) at c.requires.of_profile in
    rw (c.in-Octets.is, shape_of-Octets, datum_of-Octets) (octets_held (size_range_of c.in-Octets.field-0) good c.args.items.items)

pub returns-in-Text-clause-done : goal.returns-in-Text-clause-done
unfolding per_coding per_ruling per_field_coding
returns-in-Text-clause-done c =
    let good = rw (c.in-Text.is, shape_of-Text) at c.requires.of_profile in
    rw (c.in-Text.is, shape_of-Text, datum_of-Text) (characters_held (alphabet_of c.in-Text.field-0) (size_range_of c.in-Text.field-1) good c.args.items.items)

pub returns-in-Ok-clause-done : goal.returns-in-Ok-clause-done
unfolding per_coding per_ruling per_field_coding
returns-in-Ok-clause-done c =
    let same : c.in-Ok.text.bytes.items ≡ c.args.items.items = ap (λ v. v.items) c.in-Ok.ensures.ok in
    rw (c.in-Utf8.is, shape_of-Utf8, datum_of-Utf8, same) (text_held c.args.items.items (IsUtf8-had c.args.items.items (rw same at c.in-Ok.text.ok)))

pub returns-in-Utf8-clause-stop : goal.returns-in-Utf8-clause-stop
unfolding per_coding per_ruling per_field_coding
returns-in-Utf8-clause-stop c =
    let never : IsUtf8 c.args.items.items → ⊥ = λ t. (let ok = c.in-Err.ensures.succeeds t in absurd (cc)) in
    rw (c.in-Utf8.is, shape_of-Utf8) (no_text_held c.args.items.items c.args.left why.Sealed never)
