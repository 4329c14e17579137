use Rattle.std.proofs.Common.{◌≡◌, ◌<◌, ◌&&◌, ◌++◌, pos, true, ℤ, map, sym, ◌∙◌, ap, subst, to_z, of_z}
use Rattle.std.proofs.lemmas.Result.{on_ok_weaker}
use Rattle.std.specs.Int.RustNames.{int_le, int_lt}
use lib.IntN.{nat_abs}
use mir.Syntax.{w64}
use Rattle.asn_values.specs.Shape.{more_labels}
use Rattle.asn_values.specs.View.{label_of, more_labels_of}
use Rattle.asn_bits.specs.Numbers.{bits, magnitude, unpacked}
use Rattle.asn_rules.specs.Components.{number_at}
use Rattle.asn_sinks.proofs.Pushing.{pushed_same}
use Rattle.asn_oer.specs.Oer.{item_number}
use Rattle.asn_oer.proofs.Write.WrittenItems.{item_kept, item_narrow, short_form}
use Rattle.asn_oer.proofs.Write.WrittenOctets.{plain}
use Rattle.asn_oer.proofs.enumerated.write_item.Goals as goal

pub write_long-requires : goal.write_long-requires
write_long-requires g c =
    let root = map label_of c.args.root.now in
    let more = more_labels_of c.args.more.now in
    let z = number_at (root ++ more_labels more) c.args.position in
    let same : to_z w64 (of_z w64 c.number_at-number.result) ≡ z = ap (λ (x : ℤ). to_z w64 (of_z w64 x)) c.number_at-number.ensures ∙ item_kept root more c.args.position c.requires.of_profile in
    subst (λ (x : ℤ). magnitude x < 2147483648) (sym same) (item_narrow root more c.args.position c.requires.of_profile)

pub returns-then-is_small : goal.returns-then-is_small
returns-then-is_small g c =
    let old = c.args.sink.now in
    let root = map label_of c.args.root.now in
    let more = more_labels_of c.args.more.now in
    let z = number_at (root ++ more_labels more) c.args.position in
    let same : to_z w64 (of_z w64 c.number_at-number.result) ≡ z = ap (λ (x : ℤ). to_z w64 (of_z w64 x)) c.number_at-number.ensures ∙ item_kept root more c.args.position c.requires.of_profile in
    let small : (int_le (pos 0) z && int_lt z (pos 128)) ≡ true = ap (λ (x : ℤ). int_le (pos 0) x && int_lt x (pos 128)) (sym same) ∙ sym c.is_small.ensures ∙ c.if-is_small.true in
    on_ok_weaker c.push_low_octets.result
    (pushed_same g.S.Sink.pushes old c.push_low_octets.new.self (ap (λ (x : ℤ). bits 8 (nat_abs x)) same ∙ short_form z small ∙ sym (plain (item_number z))))
    c.push_low_octets.ensures

pub returns : goal.returns
returns g c =
    let old = c.args.sink.now in
    let root = map label_of c.args.root.now in
    let more = more_labels_of c.args.more.now in
    let z = number_at (root ++ more_labels more) c.args.position in
    let same : to_z w64 (of_z w64 c.number_at-number.result) ≡ z = ap (λ (x : ℤ). to_z w64 (of_z w64 x)) c.number_at-number.ensures ∙ item_kept root more c.args.position c.requires.of_profile in
    on_ok_weaker c.write_long.result
    (pushed_same g.S.Sink.pushes old c.write_long.new.sink (ap (λ (x : ℤ). unpacked (item_number x)) same ∙ sym (plain (item_number z))))
    c.write_long.ensures
