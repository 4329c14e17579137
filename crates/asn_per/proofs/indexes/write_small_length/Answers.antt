use Rattle.std.proofs.Common.{◌≡◌, ◌-◌, arith}
use Rattle.asn_bits.specs.Numbers.{bits}
use Rattle.asn_per.specs.Per.{small_length}
use Rattle.asn_per.proofs.Types.AdditionLanguages.{count_bits}
use Rattle.asn_per.proofs.indexes.write_small_length.Goals as goal

pub returns : goal.returns
returns g c =
    let number : bits 7 (c.args.length - 1) ≡ small_length c.args.length = count_bits c.args.length (c.args.length - 1) c.requires.few (omega (arith, c.requires.some)) in
    rw (← number, ← c.from.ensures) c.push_number.ensures
