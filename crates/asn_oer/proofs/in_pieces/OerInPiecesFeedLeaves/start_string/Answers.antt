use Rattle.asn_values.specs.View.{size_range_of, alphabet_of}
use Rattle.asn_values.proofs.Views.{shape_of-Bits, shape_of-Octets, shape_of-Text}
use Rattle.asn_oer.specs.Rules.{oer_ruling}
use Rattle.asn_oer.specs.Walk.{oer_coding}
use Rattle.asn_oer.proofs.Read.SizeCounts.{bits_size, octets_size}
use Rattle.asn_oer.proofs.Read.TextReading.{text_size}
use Rattle.asn_oer.proofs.in_pieces.OerInPiecesFeedLeaves.start_string.Goals as goal

pub start_bits-requires-clause-of_profile : goal.start_bits-requires-clause-of_profile
unfolding oer_coding oer_ruling
start_bits-requires-clause-of_profile c = bits_size (size_range_of c.in-Bits.size) (rw (c.in-Bits.is, shape_of-Bits) at c.requires.of_profile)

pub start_items-requires-clause-of_profile : goal.start_items-requires-clause-of_profile
unfolding oer_coding oer_ruling
start_items-requires-clause-of_profile c = octets_size (size_range_of c.in-Octets.size) (rw (c.in-Octets.is, shape_of-Octets) at c.requires.of_profile)

pub start_items-requires-in-Text-clause-of_profile : goal.start_items-requires-in-Text-clause-of_profile
unfolding oer_coding oer_ruling
start_items-requires-in-Text-clause-of_profile c = text_size (alphabet_of c.in-Text.field-0) (size_range_of c.in-Text.size) (rw (c.in-Text.is, shape_of-Text) at c.requires.of_profile)
