use Rattle.std.proofs.Common.{◌<◌, ℕ}
use Rattle.asn_rules.specs.Counted.{SomeOf, LeastSigned}
use Rattle.asn_rules.specs.OffsetSets.{HasInteger}
use Rattle.asn_rules.proofs.signed_reader.lowest_count.Given as goal

abbrev pub invariant-loop-count : goal.invariant-loop-count
invariant-loop-count l = (c : ℕ) → c < l.count → SomeOf (LeastSigned (λ z. HasInteger l.set z)) c → ⊥
