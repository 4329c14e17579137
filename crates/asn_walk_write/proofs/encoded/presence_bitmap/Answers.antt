use Rattle.std.proofs.Common.{rules, ◌≡◌, ◌<◌, ◌∷◌, map, sym, ◌∙◌, ap, Some, arith}
use Rattle.std.proofs.lemmas.List.{length-map}
use Rattle.asn_values.specs.declared.types.AsnType.{the_lemmas}
use Rattle.asn_values.specs.View.{part_of_field}
use Rattle.asn_bits.specs.Sink.{bit_of}
use Rattle.asn_bits.proofs.Prefixes.{bit_below, bool_byte-is}
use Rattle.asn_walk_write.proofs.WritePresence.{left_good, bitmap_starts, bitmap_passes, bitmap_more, bits_so_far, room_for_bit}
use Rattle.asn_walk_write.proofs.encoded.presence_bitmap.Goals as goal

pub loop-field-init : goal.loop-field-init
loop-field-init g c =
    let e : c.into_iter-field-iterator.result.a.rest.now ≡ c.args.fields.now = search (rules, the_lemmas) in
    let f : g.V.Source.each_left c.into_iter-field-iterator.result.b ≡ g.V.Source.entries_left c.args.entries = search (rules, the_lemmas) in
    rw (e, f) (bitmap_starts (map part_of_field c.args.fields.now) (g.V.Source.entries_left c.args.entries) (record { of_profile = c.requires.of_profile; each = length-map c.args.fields.now part_of_field ∙ c.requires.each }))

pub is_encoded-requires : goal.is_encoded-requires
is_encoded-requires g c =
    let e : c.loop-field.field-iterator.a.rest.now ≡ c.in-Some.field.now ∷ c.next.new.self.a.rest.now = c.in-Some.ensures.steps.0 in
    let f = g.met.V.Source.each_gives c.loop-field.field-iterator.b (Some c.in-Some.entry) c.next.new.self.b c.in-Some.ensures.steps.1 in
    left_good (rw (e, f) at c.loop-field.invariant.components)

pub loop-field-preserved : goal.loop-field-preserved
loop-field-preserved g c =
    let e : c.loop-field.field-iterator.a.rest.now ≡ c.in-Some.field.now ∷ c.next.new.self.a.rest.now = c.in-Some.ensures.steps.0 in
    let f = g.met.V.Source.each_gives c.loop-field.field-iterator.b (Some c.in-Some.entry) c.next.new.self.b c.in-Some.ensures.steps.1 in
    bitmap_passes (rw (e, f) at c.loop-field.invariant) (sym c.has_presence_bit.ensures ∙ c.if-has_presence_bit.false)

pub loop-field-preserved-then-has_presence_bit : goal.loop-field-preserved-then-has_presence_bit
loop-field-preserved-then-has_presence_bit g c =
    let e : c.loop-field.field-iterator.a.rest.now ≡ c.in-Some.field.now ∷ c.next.new.self.a.rest.now = c.in-Some.ensures.steps.0 in
    let f = g.met.V.Source.each_gives c.loop-field.field-iterator.b (Some c.in-Some.entry) c.next.new.self.b c.in-Some.ensures.steps.1 in
    bitmap_more (rw (e, f) at c.loop-field.invariant) (sym c.has_presence_bit.ensures ∙ c.if-has_presence_bit.true)
    (c.from.ensures ∙ bool_byte-is c.is_encoded.result ∙ ap bit_of c.is_encoded.ensures)

pub overflow_add-count : goal.overflow_add-count
overflow_add-count g c = omega (arith, bits_so_far c.args.fields.now c.loop-field.invariant c.requires.few)

pub overflow_mul-bitmap : goal.overflow_mul-bitmap
overflow_mul-bitmap g c =
    let e : c.loop-field.field-iterator.a.rest.now ≡ c.in-Some.field.now ∷ c.next.new.self.a.rest.now = c.in-Some.ensures.steps.0 in
    let few = rw e at (bits_so_far c.args.fields.now c.loop-field.invariant c.requires.few) in
    omega (arith, room_for_bit c.loop-field.count c.loop-field.bitmap 0 _ c.loop-field.invariant.within few (omega arith))

pub overflow_add-bitmap : goal.overflow_add-bitmap
overflow_add-bitmap g c =
    let e : c.loop-field.field-iterator.a.rest.now ≡ c.in-Some.field.now ∷ c.next.new.self.a.rest.now = c.in-Some.ensures.steps.0 in
    let few = rw e at (bits_so_far c.args.fields.now c.loop-field.invariant c.requires.few) in
    let bit : c.from.result < 2 = rw (c.from.ensures, bool_byte-is c.is_encoded.result) (bit_below c.is_encoded.result) in
    omega (arith, room_for_bit c.loop-field.count c.loop-field.bitmap c.from.result _ c.loop-field.invariant.within few bit)

pub returns-clause-count : goal.returns-clause-count
returns-clause-count g c = omega (arith, bits_so_far c.args.fields.now c.loop-field.invariant c.requires.few)

pub returns-clause-within : goal.returns-clause-within
returns-clause-within g c = c.loop-field.invariant.within
