use Rattle.std.proofs.Common.{◌≡◌, ℤ, sym, ◌∙◌, ap, to_z, of_z}
use Rattle.std.proofs.lemmas.Result.{on_ok_weaker}
use mir.Syntax.{w64}
use Rattle.asn_bits.specs.Numbers.{unpacked}
use Rattle.asn_bits.proofs.Splits.{unpacked-octets}
use Rattle.asn_sinks.proofs.Pushing.{pushed_same}
use Rattle.asn_walk.proofs.ItemNumbers.{near}
use Rattle.asn_oer.specs.Oer.{item_number}
use Rattle.asn_oer.proofs.enumerated.write_long.Goals as goal

pub returns : goal.returns
returns g c =
    let k = c.octets_of-count.result.0 in
    let n = c.octets_of-count.result.1 in
    let same : to_z w64 (of_z w64 c.args.number) ≡ c.args.number = near c.args.number c.requires in
    on_ok_weaker c.push_low_octets.result
    (pushed_same g.S.Sink.pushes c.args.sink.now c.push_low_octets.new.self
    (sym (unpacked-octets k n) ∙ ap unpacked (sym c.octets_of-count.ensures.same ∙ ap (λ (x : ℤ). item_number x) same)))
    c.push_low_octets.ensures
