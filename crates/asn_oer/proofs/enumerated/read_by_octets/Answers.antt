use Rattle.std.proofs.Common.{◌≡◌, length, map, refl, ap, ◌∙◌, arith, length-append}
use Rattle.asn_values.specs.View.{label_of, more_labels_of}
use Rattle.asn_bits.specs.Numbers.{bits}
use Rattle.asn_bits.proofs.Octets.{length-digits}
use Rattle.asn_bits.proofs.LengthsInOctets.{below_power}
use Rattle.asn_oer.proofs.Read.ItemReading.{below_word, item_ahead, five_at_most, no_octet_left, comes, no_item_goes_on, item_ends, item_goes_on}
use Rattle.asn_oer.proofs.enumerated.read_by_octets.Goals as goal

pub loop-taken-init : goal.loop-taken-init
loop-taken-init c =
    (c.requires.at_octet, refl, omega arith, item_ahead (map label_of c.args.root.now) (more_labels_of c.args.more.now) c.args.excluded c.requires.of_profile c.requires.some)

pub returns-in_default-clause-stop : goal.returns-in_default-clause-stop
returns-in_default-clause-stop c =
    let inv = c.loop-taken.invariant in
    record { told = no_octet_left (map label_of c.args.root.now) (more_labels_of c.args.more.now) c.args.excluded c.requires.of_profile c.args.units.now c.loop-taken.taken c.loop-taken.begun c.loop-taken.units inv.1 inv.3 inv.0 (c.in_default.ensures.none.0 refl) }

pub overflow_mul-begun : goal.overflow_mul-begun
overflow_mul-begun c =
    omega (arith, below_word c.loop-taken.taken c.loop-taken.begun c.loop-taken-test.true c.loop-taken.invariant.2)

pub overflow_add-begun : goal.overflow_add-begun
overflow_add-begun c =
    omega (arith, c.in-Some.ensures.fits, below_word c.loop-taken.taken c.loop-taken.begun c.loop-taken-test.true c.loop-taken.invariant.2)

pub find_item-requires-clause-within : goal.find_item-requires-clause-within
find_item-requires-clause-within c = below_power c.loop-taken.taken c.loop-taken.begun c.in-Some.octet c.loop-taken.invariant.2 c.in-Some.ensures.fits

pub returns-in_default-find_item-clause-stop : goal.returns-in_default-find_item-clause-stop
returns-in_default-find_item-clause-stop c =
    let inv = c.loop-taken.invariant in
    record {
      told = rw c.octets_left.ensures.count (no_item_goes_on (map label_of c.args.root.now) (more_labels_of c.args.more.now) c.args.excluded c.requires.of_profile c.args.units.now c.loop-taken.taken c.loop-taken.begun c.loop-taken.units inv.1 c.in-Some.octet c.take_number.new.self c.in-Some.ensures.fits c.in-Some.ensures.some inv.3 (c.in_default-find_item.ensures.none refl));
    }

pub returns-then-left-eq0-clause-done : goal.returns-then-left-eq0-clause-done
returns-then-left-eq0-clause-done c =
    let inv = c.loop-taken.invariant in
    let w = c.in-Some-find_item.ensures.some in
    item_ends (map label_of c.args.root.now) (more_labels_of c.args.more.now) c.args.excluded c.requires.of_profile c.args.units.now c.loop-taken.taken c.loop-taken.begun c.loop-taken.units inv.1 c.in-Some.octet c.take_number.new.self c.in-Some.ensures.fits c.in-Some.ensures.some c.in-Some-find_item.position w.0 w.1 (w.2 ∙ c.if-left-eq0.true)

pub loop-taken-preserved : goal.loop-taken-preserved
loop-taken-preserved c =
    let inv = c.loop-taken.invariant in
    let root = map label_of c.args.root.now in
    let more = more_labels_of c.args.more.now in
    let w = c.in-Some-find_item.ensures.some in
    let o = c.in-Some.octet in
    let new = c.take_number.new.self in (
      omega (arith, inv.0, ap length c.in-Some.ensures.some, length-append (bits 8 o) new, length-digits 2 8 o),
      comes root more c.args.excluded c.requires.of_profile c.args.units.now c.loop-taken.taken c.loop-taken.begun c.loop-taken.units inv.1 o new c.in-Some.ensures.fits c.in-Some.ensures.some,
      below_power c.loop-taken.taken c.loop-taken.begun o inv.2 c.in-Some.ensures.fits,
      item_goes_on root more c.args.excluded c.requires.of_profile c.args.units.now c.loop-taken.taken c.loop-taken.begun c.loop-taken.units inv.1 o new c.in-Some.ensures.fits c.in-Some.ensures.some c.in-Some-find_item.position w.0 w.1 (omega (arith, w.2, c.if-left-eq0.false)),
    )

pub unreachable-requires : goal.unreachable-requires
unreachable-requires c =
    let five : c.loop-taken.taken ≡ 5 = omega (arith, c.loop-taken-test.false, c.loop-taken.auto.taken-end) in
    let root = map label_of c.args.root.now in
    let more = more_labels_of c.args.more.now in
    five_at_most root more c.args.excluded c.requires.of_profile c.loop-taken.begun (rw five at c.loop-taken.invariant.3)
