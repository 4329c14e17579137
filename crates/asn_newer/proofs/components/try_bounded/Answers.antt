use Rattle.std.proofs.Common.{ℕ, ℤ, Option, Some, None, IfSome, sym, ◌∙◌}
use Rattle.asn_values.specs.Datum.{number}
use Rattle.asn_newer.specs.Walking.{loose_by}
use Rattle.asn_newer.proofs.Walk.BoundedEntries.{bounded_entry}
use Rattle.asn_newer.proofs.components.try_bounded.Goals as goal

within : {P Q : ℤ → Type 0} → ((z : ℤ) → P z → Q z) → (o : Option ℤ) → IfSome o P → IfSome o Q
within f None h = h
within f (Some z) h = f z h

pub returns-in-Int-clause-some : goal.returns-in-Int-clause-some
returns-in-Int-clause-some g c =
    let l = loose_by g.R.ReadLeaves.rules g.R.OtherVersions.loose in
    let o = λ (i : ℕ). bounded_entry l i c.args.field.now c.in-Int.field-0 (g.R.ReadLeaves.rules.to_units c.args.units.now) (sym c.has_presence_bit.ensures ∙ c.if-has_presence_bit.false) c.in-Int.is in
    within (λ z h i. (o i).done (number z) (g.R.ReadLeaves.rules.to_units c.try_integer.new.units) h) c.try_integer.result c.try_integer.ensures.some
