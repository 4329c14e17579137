use Rattle.asn_oer.proofs.Types.SimpleLanguages.{boolean_language, null_language}
use Rattle.asn_oer.proofs.Types.IntegerLanguages.{integer_language}
use Rattle.asn_oer.proofs.Types.ItemLanguages.{enumerated_language}
use Rattle.asn_oer.proofs.Types.BitLanguages.{bit_string_language}
use Rattle.asn_oer.proofs.Types.StringLanguages.{octet_string_language, restricted_language, utf8_language}
use Rattle.asn_oer.proofs.Types.ListLanguages.{sequence_of_language}
use Rattle.asn_oer.proofs.Types.SequenceLanguages.{sequence_language}
use Rattle.asn_oer.proofs.Types.ChoiceLanguages.{choice_language}
use Rattle.asn_oer.proofs.Types.LeftOut.{boolean_but_one, enumerated_but_one}
use Rattle.asn_oer.proofs.Types.OpenTypes.{open_language}
use Rattle.asn_oer.proofs.laws.kinds_compose.Goals as goal

pub returns : goal.returns
returns c =
    record {
      boolean_kind = boolean_language;
      null_kind = null_language;
      integer_kind = integer_language;
      enumerated_kind = enumerated_language;
      bit_string_kind = bit_string_language;
      octet_string_kind = octet_string_language;
      character_string_kind = restricted_language;
      utf8_string_kind = utf8_language;
      sequence_of_kind = sequence_of_language;
      sequence_kind = sequence_language;
      choice_kind = choice_language;
      open_field_kind = open_language;
      boolean_but_one_kind = boolean_but_one;
      enumerated_but_one_kind = enumerated_but_one;
    }
