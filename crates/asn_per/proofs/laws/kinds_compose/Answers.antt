use Rattle.asn_rules.specs.Fields.{Octet}
use Rattle.asn_per.specs.Kinds.{Values, Bit, Character}
use Rattle.asn_per.proofs.Types.BooleanAndNull.{booleans_compose, nulls_compose}
use Rattle.asn_per.proofs.Types.MarkedIntegers.{integers_compose}
use Rattle.asn_per.proofs.Types.EnumeratedLanguages.{items_compose}
use Rattle.asn_per.proofs.Types.StringLanguages.{bit_strings_compose, octet_strings_compose, texts_compose, utf8_strings_compose}
use Rattle.asn_per.proofs.Types.ListLanguages.{lists_compose}
use Rattle.asn_per.proofs.Types.ChoiceLanguages.{choices_compose}
use Rattle.asn_per.proofs.Types.MarkedSequences.{marked_sequences_compose}
use Rattle.asn_per.proofs.Types.PlainSequences.{sequences_compose}
use Rattle.asn_per.proofs.Types.SizedLists.{fixed_sized}
use Rattle.asn_per.proofs.Types.LeftOut.{enumerated_but_one, unbounded_but_one}
use Rattle.asn_per.proofs.laws.kinds_compose.Goals as goal

pub returns-clause-booleans : goal.returns-clause-booleans
returns-clause-booleans c = booleans_compose

pub returns-clause-nulls : goal.returns-clause-nulls
returns-clause-nulls c = nulls_compose

pub returns-clause-integers : goal.returns-clause-integers
returns-clause-integers c = integers_compose

pub returns-clause-enumerated : goal.returns-clause-enumerated
returns-clause-enumerated c = items_compose

pub returns-clause-bit_strings : goal.returns-clause-bit_strings
returns-clause-bit_strings c = bit_strings_compose

pub returns-clause-octet_strings : goal.returns-clause-octet_strings
returns-clause-octet_strings c = octet_strings_compose

pub returns-clause-texts : goal.returns-clause-texts
returns-clause-texts c = texts_compose

pub returns-clause-utf8_strings : goal.returns-clause-utf8_strings
returns-clause-utf8_strings c = utf8_strings_compose

pub returns-clause-lists : goal.returns-clause-lists
returns-clause-lists c = lists_compose

pub returns-clause-fixed_sizes : goal.returns-clause-fixed_sizes
returns-clause-fixed_sizes c = (fixed_sized Bit, fixed_sized Octet, λ k n. fixed_sized (Character k) n, λ t n. fixed_sized (Values t) n)

pub returns-clause-choices : goal.returns-clause-choices
returns-clause-choices c = choices_compose

pub returns-clause-marked_sequences : goal.returns-clause-marked_sequences
returns-clause-marked_sequences c = marked_sequences_compose

pub returns-clause-enumerated_but_one : goal.returns-clause-enumerated_but_one
returns-clause-enumerated_but_one c = enumerated_but_one

pub returns-clause-unbounded_but_one : goal.returns-clause-unbounded_but_one
returns-clause-unbounded_but_one c = unbounded_but_one

pub returns-clause-sequences : goal.returns-clause-sequences
returns-clause-sequences c = sequences_compose
