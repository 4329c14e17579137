use Rattle.std.proofs.Common.{◌⊎◌, inl, inr, map, sym, arith}
use Rattle.asn_values.specs.Shape.{more_fields}
use Rattle.asn_values.specs.View.{fields_of, part_of_field, more_fields_of}
use Rattle.asn_values.proofs.Faultless.{length-fields, faultless_sequence, many_components}
use Rattle.asn_values.proofs.NameLists.{names_of_components}
use Rattle.asn_values.proofs.walk.check_sequence.Goals as goal

pub returns-then-are_bad-clause-fault : goal.returns-then-are_bad-clause-fault
returns-then-are_bad-clause-fault c =
    sym (rw (names_of_components c.args.root.now c.of_sequence-more.result.now (more_fields (more_fields_of c.args.ext.now)) c.of_sequence-more.ensures) at c.if-are_bad.ensures)

pub returns-then-root-gt-MAX_COMPONENTS-clause-fault : goal.returns-then-root-gt-MAX_COMPONENTS-clause-fault
returns-then-root-gt-MAX_COMPONENTS-clause-fault c =
    many_components (fields_of (map part_of_field c.args.root.now)) (more_fields_of c.args.ext.now)
    (rw (length-fields c.args.root.now, ← c.of_sequence-more.ensures, length-fields c.of_sequence-more.result.now) (which c.then-root-gt-MAX_COMPONENTS.either))
  where
    which : {A B C : Type 0} → A ⊎ (B × C) → A ⊎ C
    which (inl a) = inl a
    which (inr (b, x)) = inr x

pub returns-clause-faultless : goal.returns-clause-faultless
returns-clause-faultless c =
    faultless_sequence (fields_of (map part_of_field c.args.root.now)) (more_fields_of c.args.ext.now)
    (sym (rw (names_of_components c.args.root.now c.of_sequence-more.result.now (more_fields (more_fields_of c.args.ext.now)) c.of_sequence-more.ensures) at c.if-are_bad.ensures))
    (sym c.if-are_bad-2.ensures)
    (rw (← c.of_sequence-more.ensures) (sym c.if-are_bad-3.ensures))
    (rw (← c.of_sequence-more.ensures) (sym c.if-not-are_optional.ensures))
    (rw (length-fields c.args.root.now) (omega arith))
    (rw (← c.of_sequence-more.ensures, length-fields c.of_sequence-more.result.now) (omega arith))
