use Rattle.std.proofs.Common.{◌≡◌, ◌≤◌, ◌<◌, ◌+◌, ◌∷◌, ℕ, List, length, get_or, drop, map, add-one, refl, arith}
use Rattle.std.proofs.Math.Seq.{drop-cons}
use Rattle.asn_values.specs.Parts.{AreOfProfile}
use Rattle.asn_values.specs.Profile.{InProfile}
use Rattle.asn_values.specs.View.{shape_of, part_of_field, fields_of}
use Rattle.asn_values.specs.declared.types.Field.{Field}
use Rattle.asn_values.proofs.Components.{shape_of_part}
use Rattle.asn_explain.proofs.components.in_additions.Goals as goal

-- the type of the addition at an index is of the profile, and so are those after it
here_and_left : (fs : List Field) (i : ℕ) (x : Field) → i < length fs → x ≡ get_or fs i x → AreOfProfile (fields_of (map part_of_field (drop i fs)))
    → InProfile (shape_of x.ty) × AreOfProfile (fields_of (map part_of_field (drop (i + 1) fs)))
here_and_left fs i x less is h =
    let split : drop i fs ≡ x ∷ drop (i + 1) fs = rw (add-one, drop-cons fs i x less, ← is) refl in
    let both = rw split at h in
    (rw shape_of_part at both.0, both.2)

one_fewer : (i n left next : ℕ) → i + left ≡ n → next + 1 ≡ left → (i + 1) + next ≡ n
one_fewer i n left next h e = omega (arith, h, e)

still_few : (left next : ℕ) → left ≤ 64 → next + 1 ≡ left → next ≤ 64
still_few left next h e = omega (arith, h, e)

pub in_open_field-requires-clause-of_profile : goal.in_open_field-requires-clause-of_profile
in_open_field-requires-clause-of_profile g c =
    (here_and_left c.args.fields.now c.loop-field.field-index c.field-item.result c.loop-field-test.true c.field-item.is c.loop-field.invariant.of_profile).0

pub loop-field-preserved-then-not-next : goal.loop-field-preserved-then-not-next
loop-field-preserved-then-not-next g c = record {
  of_profile = (here_and_left c.args.fields.now c.loop-field.field-index c.field-item.result c.loop-field-test.true c.field-item.is c.loop-field.invariant.of_profile).1;
  width = one_fewer _ _ _ _ c.loop-field.invariant.width c.next.ensures.bit.0;
  few = still_few _ _ c.loop-field.invariant.few c.next.ensures.bit.0;
  at_unit = c.loop-field.invariant.at_unit;
}

pub loop-field-preserved : goal.loop-field-preserved
loop-field-preserved g c = record {
  of_profile = (here_and_left c.args.fields.now c.loop-field.field-index c.field-item.result c.loop-field-test.true c.field-item.is c.loop-field.invariant.of_profile).1;
  width = one_fewer _ _ _ _ c.loop-field.invariant.width c.next.ensures.bit.0;
  few = still_few _ _ c.loop-field.invariant.few c.next.ensures.bit.0;
  at_unit = rw c.in-After.is at c.in_ok-in_open_field.ensures.at_unit;
}
