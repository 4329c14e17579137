use Rattle.std.proofs.Common.{◌≡◌, [], Bool, true, false, length, map, refl, sym, subst, ◌∙◌, ap}
use Rattle.std.proofs.lemmas.List.{length-map}
use Rattle.std.proofs.lemmas.Result.{on_ok_weaker}
use Rattle.asn_values.specs.Profile.{is_fixed_size}
use Rattle.asn_values.specs.View.{size_range_of}
use Rattle.asn_bits.specs.Numbers.{padding, unpacked}
use Rattle.asn_bits.specs.Sink.{bit_of}
use Rattle.asn_sinks.proofs.Pushing.{pushed_same}
use Rattle.asn_oer.specs.BitsWritten.{bits_header}
use Rattle.asn_oer.specs.Oer.{bit_octets, variable_bits}
use Rattle.asn_oer.proofs.Write.WrittenOctets.{filled_written, variable_written}
use Rattle.asn_oer.proofs.write_leaves.write_bits.Goals.{then-not-is_fixed+in_ok-write_header, else-not-is_fixed}
use Rattle.asn_rules.specs.Filled.{filled_bits}
use Rattle.asn_rules.proofs.Octets.BitStrings.{list_bits}
use Rattle.asn_oer.proofs.write_leaves.write_bits.Goals as goal

pub returns : goal.returns
returns g c =
    let push = g.S.Sink.pushes in
    let s = size_range_of c.args.size.now in
    let truths = c.args.truths.now in
    let n = length truths in
    let bs = map bit_of truths in
    let old = c.args.sink.now in
    let mid = c.if-not-is_fixed.sink in
    let new = c.write_filling.new.sink in
    let count = sym (length-map truths bit_of) in
    let form : (b : Bool) → is_fixed_size s ≡ b → bit_octets s bs ≡ elim b [ true ↦ filled_bits bs | false ↦ variable_bits bs ] = λ b e. ap (λ (x : Bool). elim x [ true ↦ filled_bits bs | false ↦ variable_bits bs ]) e in
    let whole : push mid new (unpacked (filled_bits bs)) → push old new (unpacked (bit_octets s bs)) = λ content. elim c.if-not-is_fixed.branch [
      | then-not-is_fixed+in_ok-write_header w ↦
          let not_fixed : is_fixed_size s ≡ false = cc (c.is_fixed.ensures, w.if-not-is_fixed.true) in
          let header : push old mid (unpacked (bits_header n)) = subst (λ t. push old t (unpacked (bits_header n))) (sym w.sink-is) w.in_ok-write_header.ensures in
          pushed_same push old new (variable_written [] (unpacked (bits_header n)) bs n count refl ∙ ap unpacked (sym (form false not_fixed)))
          (g.met.S.Sink.pushes_joined old mid new (unpacked (bits_header n)) (unpacked (filled_bits bs)) header content)
      | else-not-is_fixed w ↦
          let fixed : is_fixed_size s ≡ true = cc (c.is_fixed.ensures, w.if-not-is_fixed.false) in
          pushed_same push old new (ap unpacked (sym (form true fixed))) (subst (λ t. push t new (unpacked (filled_bits bs))) w.sink-is content)
    ] in
    on_ok_weaker c.write_filling.result
    (λ e. whole (pushed_same push mid new (filled_written [] bs n (list_bits truths) count)
    (g.met.S.Sink.pushes_joined mid c.push_bits.new.self new bs (padding n) c.in_ok-push_bits.ensures e)))
    c.write_filling.ensures
