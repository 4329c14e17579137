use Rattle.std.proofs.Common.{◌<◌, ◌^◌, arith}
use Rattle.asn_rules.proofs.whole_number_reader.narrow.Goals as goal

pub overflow_cast-result : goal.overflow_cast-result
overflow_cast-result c =
    let few : c.in-Some.n < 2 ^ 64 = rw c.in-Some.is at c.requires in
    omega (arith, few)
