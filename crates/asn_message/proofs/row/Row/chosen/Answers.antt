use Rattle.std.proofs.Common.{length, sym, arith}
use Rattle.std.proofs.lemmas.List.{drop_all}
use Rattle.asn_message.proofs.row.Row.chosen.Goals as goal

pub returns-clause-last : goal.returns-clause-last
returns-clause-last c =
    let ss = c.args.self.now.slots.now in
    (length ss, sym (drop_all (length ss) ss (omega arith)))
