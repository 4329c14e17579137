use Rattle.std.proofs.Common.{◌≡◌}
use Rattle.std.specs.List.{flat_map, list_all}
use Rattle.asn_jobs.specs.Texts.{unprefixed}
use Rattle.asn_jobs.specs.DumpLines.{is_word}
use Rattle.asn_jobs.proofs.dump_lines.word_digits.Given as goal

-- the digits of the words so far, and whether they are of the length
abbrev pub invariant-loop-word : goal.invariant-loop-word
invariant-loop-word l = (l.digits.items ≡ flat_map (λ word. unprefixed word.now) l.yielded) × (l.fit ≡ list_all (λ word. is_word l.most word.now) l.yielded)
