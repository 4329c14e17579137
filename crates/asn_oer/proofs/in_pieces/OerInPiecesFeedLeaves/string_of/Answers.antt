use Rattle.std.proofs.lemmas.Result.{err_from_is_err_and}
use Rattle.asn_values.specs.View.{size_range_of, alphabet_of}
use Rattle.asn_values.proofs.Views.{shape_of-Bits, shape_of-Octets, shape_of-Text, shape_of-Utf8, datum_of-Octets, datum_of-Text}
use Rattle.asn_oer.specs.Rules.{oer_ruling}
use Rattle.asn_oer.specs.Walk.{oer_coding}
use Rattle.asn_oer.specs.SingleItems.{AreNoBits}
use Rattle.asn_oer.proofs.InPieces.StringItems.{octets_string, characters_string}
use Rattle.asn_oer.proofs.in_pieces.OerInPiecesFeedLeaves.string_of.Goals as goal

pub bits_of-requires-clause-of_profile : goal.bits_of-requires-clause-of_profile
unfolding oer_coding oer_ruling
bits_of-requires-clause-of_profile c = rw (c.in-Bits.is, shape_of-Bits) at c.requires.of_profile

pub returns-in_err-bits_of-in-Bits-clause-stop : goal.returns-in_err-bits_of-in-Bits-clause-stop
returns-in_err-bits_of-in-Bits-clause-stop c =
    let p = err_from_is_err_and c.from_residual.result c.from_residual.ensures.1 in
    let h : AreNoBits (size_range_of c.in-Bits.size) c.args.items.items c.args.left c.in_err-bits_of-in-Bits.field-0.0 = rw c.as_slice.ensures.value at c.in_err-bits_of-in-Bits.ensures.stop in
    rw (p.1, p.2, c.in-Bits.is, shape_of-Bits) h

pub returns-in_err-text_of-in-Utf8-clause-stop : goal.returns-in_err-text_of-in-Utf8-clause-stop
returns-in_err-text_of-in-Utf8-clause-stop c =
    let p = err_from_is_err_and c.from_residual-in_err-text_of-in-Utf8.result c.from_residual-in_err-text_of-in-Utf8.ensures.1 in
    rw (p.1, p.2, c.in-Utf8.is, shape_of-Utf8) c.in_err-text_of-in-Utf8.ensures.stop

pub returns-in-Octets-clause-done : goal.returns-in-Octets-clause-done
unfolding oer_coding oer_ruling
returns-in-Octets-clause-done c = rw (c.in-Octets.is, shape_of-Octets, datum_of-Octets) (λ us r h.
    (octets_string (size_range_of c.in-Octets.field-0) us (rw (c.in-Octets.is, shape_of-Octets) at c.requires.of_profile)).done c.args.items.items r h)

pub returns-in-Text-clause-done : goal.returns-in-Text-clause-done
unfolding oer_coding oer_ruling
returns-in-Text-clause-done c = rw (c.in-Text.is, shape_of-Text, datum_of-Text) (λ us r h.
    (characters_string (alphabet_of c.in-Text.field-0) (size_range_of c.in-Text.field-1) us (rw (c.in-Text.is, shape_of-Text) at c.requires.of_profile)).done c.args.items.items r h)
