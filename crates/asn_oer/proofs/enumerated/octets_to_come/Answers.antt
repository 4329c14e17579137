use Rattle.std.proofs.Common.{◌≡◌, ◌-◌, ◌<◌, ℤ, map, ap, subst, sym, ◌∙◌, arith, to_z, of_z}
use mir.Syntax.{w64}
use Rattle.asn_values.specs.View.{label_of, more_labels_of}
use Rattle.asn_bits.specs.Numbers.{octets, magnitude}
use Rattle.asn_bits.proofs.Octets.{length-digits}
use Rattle.asn_rules.specs.Components.{number_at}
use Rattle.asn_walk.specs.Items.{items_of}
use Rattle.asn_oer.specs.Oer.{item_number}
use Rattle.asn_oer.proofs.Read.ItemReading.{left_out, another_item, first_octets, begins_so}
use Rattle.asn_oer.proofs.Write.WrittenItems.{item_kept, item_narrow}
use Rattle.asn_oer.proofs.enumerated.octets_to_come.Goals as goal
use Rattle.asn_oer.proofs.enumerated.octets_to_come.Goals.{else-count-all-via-then-count-all+else-octets-all, else-count-all-via-else-count-all}

pub returns-then-eq-clause-none : goal.returns-then-eq-clause-none
returns-then-eq-clause-none c _ rest b = left_out c.args.excluded c.args.position (sym c.eq.ensures ∙ c.if-eq.true) b.other

pub octets_of-all-requires : goal.octets_of-all-requires
octets_of-all-requires c =
    let root = map label_of c.args.root.now in
    let more = more_labels_of c.args.more.now in
    let z = number_at (items_of c.args.root.now c.args.more.now) c.args.position in
    let same : to_z w64 (of_z w64 c.number_at.result) ≡ z = ap (λ (x : ℤ). to_z w64 (of_z w64 x)) c.number_at.ensures ∙ item_kept root more c.args.position c.requires.of_profile in
    record { narrow = subst (λ (x : ℤ). magnitude x < 2147483648) (sym same) (item_narrow root more c.args.position c.requires.of_profile) }

pub returns-then-octets-all-clause-some : goal.returns-then-octets-all-clause-some
returns-then-octets-all-clause-some c =
    let root = map label_of c.args.root.now in
    let more = more_labels_of c.args.more.now in
    let z = number_at (items_of c.args.root.now c.args.more.now) c.args.position in
    let same : to_z w64 (of_z w64 c.number_at.result) ≡ z = ap (λ (x : ℤ). to_z w64 (of_z w64 x)) c.number_at.ensures ∙ item_kept root more c.args.position c.requires.of_profile in
    let all = c.octets_of-all.result.0 in
    let n = c.octets_of-all.result.1 in (
      octets (all - c.args.count) n,
      record {
        there = c.requires.there;
        other = another_item c.args.excluded c.args.position (sym c.eq.ensures ∙ c.if-eq.false);
        whole = ap (λ (x : ℤ). item_number x) (sym same) ∙ c.octets_of-all.ensures.same ∙ first_octets all n c.args.count c.args.begun c.if-count-all.true c.if-octets-all.true;
      },
      length-digits 256 (all - c.args.count) n,
    )

pub returns-else-count-all-clause-none : goal.returns-else-count-all-clause-none
returns-else-count-all-clause-none c _ rest b =
    let root = map label_of c.args.root.now in
    let more = more_labels_of c.args.more.now in
    let z = number_at (items_of c.args.root.now c.args.more.now) c.args.position in
    let same : to_z w64 (of_z w64 c.number_at.result) ≡ z = ap (λ (x : ℤ). to_z w64 (of_z w64 x)) c.number_at.ensures ∙ item_kept root more c.args.position c.requires.of_profile in
    let all = c.octets_of-all.result.0 in
    let n = c.octets_of-all.result.1 in
    let w = begins_so all n c.args.count c.args.begun rest c.octets_of-all.ensures.fits c.requires.within (sym c.octets_of-all.ensures.same ∙ ap (λ (x : ℤ). item_number x) same ∙ b.whole) in
    elim c.else-count-all.branch [
      | else-count-all-via-then-count-all+else-octets-all v ↦ v.if-octets-all.false w.1
      | else-count-all-via-else-count-all v ↦ omega (arith, v.if-count-all.false, w.0)
    ]
