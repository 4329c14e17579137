use Rattle.std.proofs.Common.{◌<◌, Ok, List, [], ℕ, length, subst, sym, refl, arith}
use Rattle.asn_values.specs.View.{shape_of, datum_of}
use Rattle.asn_rules.specs.Answer.{Answer, more}
use Rattle.asn_rules.specs.Sessions.{Fed, waiting}
use Rattle.asn_rules.specs.declared.session.Step.TheVariants as step
use Rattle.asn_rules.proofs.Feeding.Sessions.{decoded_all, all_read}
use Rattle.asn_rules.proofs.at_once.decode_at_once.Goals as goal

pub returns-else-used-octets : goal.returns-else-used-octets
returns-else-used-octets g c =
    let t = shape_of c.args.ty.now in
    let r = g.R.Reads.ruling in
    let o = c.args.octets.now in
    let fed : Fed r t (waiting []) o (Ok (step.Done c.in-Ok-Done.value c.in-Ok-Done.used)) = rw (c.in-Ok-Done.is, c.in-Ok-Done.field-0-is) at c.read.ensures in
    decoded_all r t o (datum_of c.in-Ok-Done.value) c.in-Ok-Done.used fed (λ (l : c.in-Ok-Done.used < length o). omega (arith, l, c.if-used-octets.false))

pub returns-in-Ok-More : goal.returns-in-Ok-More
returns-in-Ok-More g c =
    let t = shape_of c.args.ty.now in
    let r = g.R.Reads.ruling in
    let o = c.args.octets.now in
    let fed : Fed r t (waiting []) o (Ok step.More) = rw (c.in-Ok-More.is, c.in-Ok-More.field-0-is) at c.read.ensures in
    let here : Answer r t o more = subst (λ (l : List ℕ). Answer r t l more) (all_read r t o fed) fed in
    (sym (c.cut_after-taken.ensures o refl (omega (arith, here.2))), here)
