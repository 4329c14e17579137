-- What is read of newer and older senders, from what is read of the type alone.
use Rattle.std.proofs.Common.{◌≡◌, ℕ, true, Ok, Err, List, sym, refl, subst}
use Rattle.std.specs.Prelude.{Result}
use Rattle.asn_values.specs.Shape.{Shape}
use Rattle.asn_values.specs.View.{datum_of}
use Rattle.asn_rules.specs.declared.newer.Newer.{Newer}
use Rattle.asn_newer.specs.Loose.{LooseCoding}
use Rattle.asn_newer.specs.Reading.{IsNewer}
use Rattle.asn_newer.specs.declared.fault.NewerFault.TheVariants as newer
use Rattle.asn_constraints.specs.Constraints.{Constraint, meets}
use Rattle.asn_constraints.specs.Spelling.{spelling}
use Rattle.asn_constrained.specs.declared.newer.ConstrainedNewer.{ConstrainedNewer}
use Rattle.asn_constrained.specs.declared.newer.ConstrainedNewerFault.{ConstrainedNewerFault}
use Rattle.asn_constrained.specs.declared.newer.ConstrainedNewerFault.TheVariants as under
use Rattle.asn_constrained.specs.Under.{Found}
use Rattle.asn_constrained.specs.Newer.{JudgedNewer, ReadUnder}

pub judged_read : (l : LooseCoding) (t : Shape) (c : Constraint) (o : List ℕ) (n : Newer) (answer : Result ConstrainedNewer ConstrainedNewerFault) → IsNewer l t n o → JudgedNewer c n answer → ReadUnder l c answer t o
judged_read l t c o n (Ok m) h j =
    let same : n ≡ m.newer = sym j.0 in
    (subst (λ (z : Newer). IsNewer l t z o) same h, (refl, subst (λ (z : Newer). meets (spelling c) (datum_of z.value) ≡ true) same j.1, subst (λ (z : Newer). Found c (datum_of z.value) m.broken) same j.2))
judged_read l t c o n (Err (under.Spelling b)) h j = (n, h, j)
judged_read l t c o n (Err (under.Type newer.Memory)) h j = h.1
judged_read l t c o n (Err (under.Type newer.Refused)) h j = absurd j
judged_read l t c o n (Err (under.Type newer.Truncated)) h j = absurd j
judged_read l t c o n (Err (under.Type newer.TooManyAdditions)) h j = absurd j
judged_read l t c o n (Err (under.Type newer.TooLong)) h j = absurd j
