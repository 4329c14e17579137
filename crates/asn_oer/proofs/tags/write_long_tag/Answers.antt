use Rattle.std.proofs.Common.{sym}
use Rattle.std.proofs.lemmas.Result.{on_ok_weaker}
use Rattle.asn_sinks.proofs.Pushing.{pushed_same}
use Rattle.asn_oer.proofs.Write.WrittenOctets.{tag_bits_in_two, tag_bits_in_three}
use Rattle.asn_oer.proofs.tags.write_long_tag.Goals as goal

pub returns-then-number-lt128 : goal.returns-then-number-lt128
returns-then-number-lt128 g c =
    on_ok_weaker c.push_low_octets.result
    (pushed_same g.S.Sink.pushes c.args.sink.now c.push_low_octets.new.self (sym (tag_bits_in_two c.args.number c.requires.long c.if-number-lt128.true)))
    c.push_low_octets.ensures

pub returns-else-number-lt128 : goal.returns-else-number-lt128
returns-else-number-lt128 g c =
    on_ok_weaker c.push_low_octets-else-number-lt128.result
    (pushed_same g.S.Sink.pushes c.args.sink.now c.push_low_octets-else-number-lt128.new.self (sym (tag_bits_in_three c.args.number c.if-number-lt128.false c.requires.few)))
    c.push_low_octets-else-number-lt128.ensures
