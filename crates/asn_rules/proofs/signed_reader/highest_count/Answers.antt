use Rattle.std.proofs.Common.{◌≡◌, true, arith}
use Rattle.asn_rules.proofs.Plain.SignedNumbers.{count_within, counts_most}
use Rattle.asn_rules.proofs.signed_reader.highest_count.Goals as goal

pub returns-then-has_count-clause-there : goal.returns-then-has_count-clause-there
returns-then-has_count-clause-there c e = c.has_count.ensures.there c.if-has_count.true

pub returns-then-has_count-clause-back : goal.returns-then-has_count-clause-back
returns-then-has_count-clause-back c k o = (count_within c.args.set k o).1

pub returns-else-has_count-clause-back : goal.returns-else-has_count-clause-back
returns-else-has_count-clause-back c k o = counts_most c.args.set (λ n. (let t : c.has_count.result ≡ true = c.has_count.ensures.back n in absurd (cc))) k o
