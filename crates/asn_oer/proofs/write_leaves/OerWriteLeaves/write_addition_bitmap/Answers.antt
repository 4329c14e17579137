use Rattle.std.proofs.Common.{◌++◌, List, [], ℕ, refl, sym, ◌∙◌, ap}
use Rattle.std.proofs.lemmas.Result.{on_ok_weaker}
use Rattle.asn_bits.specs.Numbers.{bits, padding, unpacked}
use Rattle.asn_bits.proofs.Octets.{length-digits}
use Rattle.asn_sinks.proofs.Pushing.{pushed_same}
use Rattle.asn_oer.specs.BitsWritten.{bits_header}
use Rattle.asn_oer.specs.Rules.{oer_ruling}
use Rattle.asn_oer.specs.Walk.{oer_coding}
use Rattle.asn_oer.proofs.Write.WrittenOctets.{digits_bits, filled_written, variable_written}
use Rattle.asn_oer.proofs.write_leaves.OerWriteLeaves.write_addition_bitmap.Goals as goal

pub returns : goal.returns
unfolding oer_coding oer_ruling
returns g c =
    let n = c.args.count in
    let bs = bits n c.args.bitmap in
    let old = c.args.sink.now in
    let mid = c.write_header.new.sink in
    let then = c.push_number.new.self in
    let new = c.write_filling.new.sink in
    let count = sym (length-digits 2 n c.args.bitmap) in
    let joined = g.met.S.Sink.pushes_joined in
    on_ok_weaker c.write_filling.result
    (λ e. pushed_same g.S.Sink.pushes old new
    (ap (λ (t : List ℕ). unpacked (bits_header n) ++ t) (filled_written [] bs n (digits_bits n c.args.bitmap) count)
    ∙ variable_written [] (unpacked (bits_header n)) bs n count refl)
    (joined old mid new (unpacked (bits_header n)) (bs ++ padding n) c.in_ok-write_header.ensures
    (joined mid then new bs (padding n) c.in_ok-push_number.ensures e)))
    c.write_filling.ensures
