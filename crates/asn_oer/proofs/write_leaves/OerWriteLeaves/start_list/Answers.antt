use Rattle.std.proofs.Common.{◌<◌, arith}
use Rattle.std.proofs.lemmas.Result.{IfOk-weaker}
use Rattle.asn_bits.specs.Lengths.{general_octets}
use Rattle.asn_bits.specs.Numbers.{least}
use Rattle.asn_oer.specs.Rules.{oer_ruling}
use Rattle.asn_oer.specs.Walk.{oer_coding}
use Rattle.asn_oer.proofs.Write.WrittenOctets.{list_written}
use Rattle.asn_oer.proofs.write_leaves.OerWriteLeaves.start_list.Goals as goal

pub returns : goal.returns
unfolding oer_coding oer_ruling
returns g c =
    let few : c.args.count < 18446744073709551616 = omega (arith, c.requires.of_type.0) in
    IfOk-weaker c.write_least.result _ _
    (λ f e items same. record { done = general_octets (λ u. u) (least c.args.count); pushed = e; rest = list_written c.args.count items same few })
    c.write_least.ensures
