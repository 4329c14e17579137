-- The sizes of strings of the profile are of the profile.
use Rattle.asn_values.specs.View.{size_range_of, alphabet_of}
use Rattle.asn_values.proofs.Views.{shape_of-Bits, shape_of-Octets, shape_of-Text}
use Rattle.asn_per.proofs.Read.StringReading.{bits_size, octets_size, text_size}
use Rattle.asn_per.specs.Rules.{per_ruling}
use Rattle.asn_per.specs.Walk.{per_coding}
use Rattle.asn_per.specs.SingleItems.{per_field_coding}
use Rattle.asn_per.proofs.feed_leaves.PerInPiecesFeedLeaves.start_string.Goals as goal

pub start_items-requires : goal.start_items-requires
unfolding per_coding per_ruling per_field_coding
start_items-requires c =
    record { of_profile = bits_size (size_range_of c.in-Bits.size) (rw (c.in-Bits.is, shape_of-Bits) at c.requires.of_profile) }

pub start_items-requires-in-Octets : goal.start_items-requires-in-Octets
unfolding per_coding per_ruling per_field_coding
start_items-requires-in-Octets c =
    record { of_profile = octets_size (size_range_of c.in-Octets.size) (rw (c.in-Octets.is, shape_of-Octets) at c.requires.of_profile) }

pub start_items-requires-in-Text : goal.start_items-requires-in-Text
unfolding per_coding per_ruling per_field_coding
start_items-requires-in-Text c =
    record { of_profile = text_size (alphabet_of c.in-Text.field-0) (size_range_of c.in-Text.size) (rw (c.in-Text.is, shape_of-Text) at c.requires.of_profile) }
