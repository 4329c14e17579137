use Rattle.std.proofs.Common.{◌≡◌, ◌++◌}
use Rattle.std.specs.List.{flat_map}
use Rattle.asn_jobs.specs.Texts.{unprefixed}
use Rattle.asn_jobs.proofs.texts.push_line.Given as goal

-- the digits of the words so far were put at the end
abbrev pub invariant-loop-word : goal.invariant-loop-word
invariant-loop-word l = l.digits.items ≡ l.initial.digits.items ++ flat_map (λ word. unprefixed word.now) l.yielded
