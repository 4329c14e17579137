use Rattle.std.proofs.Common.{◌*◌, map, take}
use Rattle.asn_values.specs.View.{alphabet_of}
use Rattle.asn_bits.specs.Lengths.{joined}
use Rattle.asn_per.specs.Per.{character_bits}
use Rattle.asn_per.specs.Reading.{code_width}
use Rattle.asn_bits.proofs.ItemRows.{Word}
use Rattle.asn_per.proofs.string_items.word_of_characters.Given as goal

abbrev pub invariant-loop-character : goal.invariant-loop-character
invariant-loop-character l = Word (code_width (alphabet_of l.kind) * l.character-index) l.word (joined (map (λ c. character_bits (alphabet_of l.kind) c) (take l.character-index l.text)))
