use Rattle.std.proofs.Common.{◌≡◌, ◌-◌, length}
use Rattle.asn_bits.specs.Sets.{Among}
use Rattle.asn_rules.proofs.Numbers.Sets.{Giving}
use Rattle.asn_rules.proofs.number_reader.read_number_by_bits.Given as goal

abbrev pub invariant-loop-bit : goal.invariant-loop-bit
invariant-loop-bit l = Giving l.k (λ n. Among l.field.numbers n) l.initial.bits l.bits l.field.given × (l.field.width ≡ l.k) × (l.field.numbers ≡ l.fn.numbers)

abbrev pub decreases-loop-bit : goal.decreases-loop-bit
decreases-loop-bit l = l.field.width - length l.field.given
