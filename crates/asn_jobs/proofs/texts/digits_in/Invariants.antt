use Rattle.std.proofs.Common.{◌≡◌}
use Rattle.std.specs.List.{flat_map}
use Rattle.asn_jobs.specs.Texts.{line_digits}
use Rattle.asn_jobs.proofs.texts.digits_in.Given as goal

-- the digits of the lines so far
abbrev pub invariant-loop-line : goal.invariant-loop-line
invariant-loop-line l = l.digits.items ≡ flat_map (λ line. line_digits line.now) l.yielded
