use Rattle.std.proofs.Common.{◌<◌, ◌*◌, ◌/◌, ◌%◌, ◌^◌, ℕ}
use Rattle.asn_values.specs.View.{alphabet_of}
use Rattle.asn_rules.specs.NumberSets.{Admits}
use Rattle.asn_per.specs.Reading.{code_width, codes_of}
use Rattle.asn_per.proofs.string_items.are_of_kind.Given as goal

abbrev pub invariant-loop-after : goal.invariant-loop-after
invariant-loop-after l = (p : ℕ) → p < l.after → Admits (codes_of (alphabet_of l.kind)) (l.word / 2 ^ (code_width (alphabet_of l.kind) * p) % 2 ^ code_width (alphabet_of l.kind))
