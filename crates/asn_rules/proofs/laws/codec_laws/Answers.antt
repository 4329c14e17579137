use Rattle.asn_rules.proofs.Answer.CodecLaws.{decodes_encoded, encodes_decoded, only_memory, equal_exactly, tells_rest_of, one_front, tells_cut_of, decoders_agree}
use Rattle.asn_rules.proofs.laws.codec_laws.Goals as goal

pub returns-clause-decodes : goal.returns-clause-decodes
returns-clause-decodes c = decodes_encoded

pub returns-clause-encodes_again : goal.returns-clause-encodes_again
returns-clause-encodes_again c = encodes_decoded

pub returns-clause-only_memory : goal.returns-clause-only_memory
returns-clause-only_memory c = only_memory

pub returns-clause-equal_exactly : goal.returns-clause-equal_exactly
returns-clause-equal_exactly c = equal_exactly

pub returns-clause-begins : goal.returns-clause-begins
returns-clause-begins c = tells_rest_of

pub returns-clause-one_front : goal.returns-clause-one_front
returns-clause-one_front c = one_front

pub returns-clause-cut : goal.returns-clause-cut
returns-clause-cut c = tells_cut_of

pub returns-clause-one_answer : goal.returns-clause-one_answer
returns-clause-one_answer c = decoders_agree
