use Rattle.std.proofs.Common.{◌≡◌, ◌<◌, ◌*◌, ◌++◌, ℤ, map, sym, ap, subst, ◌∙◌, arith, to_z, of_z, length, length-append}
use mir.Syntax.{w64}
use Rattle.asn_values.specs.View.{label_of, more_labels_of}
use Rattle.asn_bits.specs.Numbers.{bits, octets, magnitude}
use Rattle.asn_bits.proofs.Octets.{length-digits}
use Rattle.asn_rules.specs.Components.{number_at}
use Rattle.asn_walk.specs.Items.{items_of}
use Rattle.asn_oer.specs.Oer.{item_number}
use Rattle.asn_oer.proofs.Plan.OctetsRead.{octets_after}
use Rattle.asn_oer.proofs.Read.ItemReading.{item_taken}
use Rattle.asn_oer.proofs.Write.WrittenItems.{item_kept, item_narrow}
use Rattle.asn_oer.proofs.enumerated.take_item.Goals as goal

pub octets_of-count-requires : goal.octets_of-count-requires
octets_of-count-requires c =
    let root = map label_of c.args.root.now in
    let more = more_labels_of c.args.more.now in
    let z = number_at (items_of c.args.root.now c.args.more.now) c.args.position in
    let same : to_z w64 (of_z w64 c.number_at.result) ≡ z = ap (λ (x : ℤ). to_z w64 (of_z w64 x)) c.number_at.ensures ∙ item_kept root more c.args.position c.requires.of_profile in
    record { narrow = subst (λ (x : ℤ). magnitude x < 2147483648) (sym same) (item_narrow root more c.args.position c.requires.of_profile) }

pub returns-clause-done : goal.returns-clause-done
returns-clause-done c _ excluded other =
    let root = map label_of c.args.root.now in
    let more = more_labels_of c.args.more.now in
    let z = number_at (items_of c.args.root.now c.args.more.now) c.args.position in
    let same : to_z w64 (of_z w64 c.number_at.result) ≡ z = ap (λ (x : ℤ). to_z w64 (of_z w64 x)) c.number_at.ensures ∙ item_kept root more c.args.position c.requires.of_profile in
    let k = c.octets_of-count.result.0 in
    let n = c.octets_of-count.result.1 in
    let whole : item_number z ≡ octets k n = ap (λ (x : ℤ). item_number x) (sym same) ∙ c.octets_of-count.ensures.same in
    let split : c.args.units.now ≡ bits (8 * k) n ++ c.pass.new.self = rw (c.pass.ensures, ← c.if-ahead-octets.false) c.in-Some.ensures.some in
    item_taken root more excluded c.requires.of_profile c.args.position k n c.args.units.now c.pass.new.self c.requires.there other whole split
