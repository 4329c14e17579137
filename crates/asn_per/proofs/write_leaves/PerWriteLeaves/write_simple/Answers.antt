use Rattle.std.proofs.Common.{rules, to_z, of_z, ◌≡◌, List, ℕ, sym, ap, ◌∙◌}
use mir.Syntax.{w128}
use Rattle.asn_values.specs.declared.types.AsnType.{the_lemmas}
use Rattle.asn_values.specs.Datum.{characters, number}
use Rattle.asn_values.specs.View.{datum_of}
use Rattle.asn_values.proofs.Views.{shape_of-Text, datum_of-Text, shape_of-Int}
use Rattle.asn_walk.proofs.Widths.{datum_of-Int}
use Rattle.asn_per.specs.Rules.{per_ruling}
use Rattle.asn_per.specs.Walk.{per_coding}
use Rattle.asn_per.proofs.write_leaves.PerWriteLeaves.write_simple.Goals as goal

pub returns-in_ok-write_characters-in-Text-Text-clause-written : goal.returns-in_ok-write_characters-in-Text-Text-clause-written
unfolding per_coding per_ruling
returns-in_ok-write_characters-in-Text-Text-clause-written g c =
    let value : datum_of c.args.value.now ≡ characters c.as_slice-in-Text-Text.result.now = ap datum_of c.in-Text-Text.is-1 ∙ datum_of-Text c.in-Text-Text.text ∙ ap (λ (l : List ℕ). characters l) (sym c.as_slice-in-Text-Text.ensures.value) in
    rw (c.in-Text-Text.is-0, shape_of-Text, value) c.in_ok-write_characters-in-Text-Text.ensures

pub returns-in-Int-Int-clause-written : goal.returns-in-Int-Int-clause-written
unfolding per_coding per_ruling
returns-in-Int-Int-clause-written g c =
    let z = c.in-Int-Int.number in
    let value : datum_of c.args.value.now ≡ number z = ap datum_of c.in-Int-Int.is-1 ∙ datum_of-Int z in
    let same : to_z w128 (of_z w128 z) ≡ z = search (rules, the_lemmas) in
    rw (c.in-Int-Int.is-0, shape_of-Int, value) (rw same at c.write_integer.ensures.written)
