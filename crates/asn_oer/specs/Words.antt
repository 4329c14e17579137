-- The words of this crate's contracts, most of them of the crates below, under one name.
pub use Rattle.asn_values.specs.Datum.{number, item, truth, octet_list, characters, unicode, bit_list}
pub use Rattle.asn_values.specs.Fits.{Fits, FitsNumber, lowest_integer, highest_integer, max_len}
pub use Rattle.asn_values.specs.Profile.{InProfile}
pub use Rattle.asn_values.specs.Shape.{integer, octet_string, restricted}
pub use Rattle.asn_values.specs.View.{range_of, size_range_of, alphabet_of, shape_of}
pub use Rattle.asn_bits.specs.Lengths.{joined}
pub use Rattle.asn_bits.specs.Numbers.{octets, magnitude}
pub use Rattle.asn_bits.specs.Sets.{Among, Meets}
pub use Rattle.asn_bits.specs.Sink.{bit_of}
pub use Rattle.asn_rules.specs.Codec.{Decoded}
pub use Rattle.asn_rules.specs.CodecLaws.{DecodesTheEncoded, EncodesTheDecoded, OnlyMemoryIsWanting, EqualExactly, TellsTheRest, RestFollowsOneFront, TellsTheCut, DecodersAgree}
pub use Rattle.asn_rules.specs.IntegerSets.{IsWithin, unmarked}
pub use Rattle.asn_rules.specs.Languages.{Inhabited}
pub use Rattle.asn_rules.specs.Laws.{BeginningsAreLive, BeginningsAreNotRefused, EncodesAs, UnitsTellTheValue, OneValue, NoneBegins, RulesLaws, LiveIsClosed, LiveByParts, OneAnswer}
pub use Rattle.asn_rules.specs.OctetReading.{AtOctet}
pub use Rattle.asn_bits.specs.Numbers.{unpacked}
pub use Rattle.asn_rules.specs.Parted.{SpellingsPart}
pub use Rattle.asn_rules.specs.Reading.{RulesTell}
pub use Rattle.asn_walk.specs.Integers.{between, IsOfProfile}
pub use Rattle.asn_walk.specs.Items.{enumeration_of, items_of}
pub use Rattle.asn_walk.specs.Laws.{IsSizeOfProfile, Laws}
pub use Rattle.asn_walk.specs.Writing.{TellsWhether}
pub use Rattle.asn_oer.specs.BitsWritten.{bits_header}
pub use Rattle.asn_oer.specs.Constructed.{LongTagOctet, LongTags, Tags}
pub use Rattle.asn_oer.specs.ElementsAhead.{ahead_of}
pub use Rattle.asn_oer.specs.Kinds.{KindsCompose}
pub use Rattle.asn_oer.specs.LeafReading.{ItemsBut, BeginsWith, BeginsOtherwise, BitStringsOf, OctetStringsOf, TextsOf}
pub use Rattle.asn_oer.specs.Oer.{oer_octets, item_number, unsigned_octets, signed_size, ranged, bit_octets, sized_octets, tag, oer, oer_fields}
pub use Rattle.asn_oer.specs.Reading.{IntegersBut, IsBelowZero, signed_size_of, IsCounted, ValuesOf, BooleansBut, TruthOctet, Reads, ReadsSome, StopsIn}
pub use Rattle.asn_oer.specs.Rules.{oer_ruling}
pub use Rattle.asn_oer.specs.Strings.{Utf8Strings}
pub use Rattle.asn_oer.specs.Walk.{oer_coding, mark_of}
