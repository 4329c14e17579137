use Rattle.std.proofs.Common.{◌<◌, ◌≤◌, ◌≡◌, ◌+◌, ℕ, Ok, Err, List, take, length, subst, arith}
use Rattle.std.proofs.lemmas.List.{take_all}
use Rattle.asn_values.specs.View.{shape_of}
use Rattle.asn_values.specs.declared.value.Value.TheVariants as value
use Rattle.asn_rules.specs.Answer.{Answer, done, max_octets}
use Rattle.asn_rules.specs.Codec.{DecodedFront}
use Rattle.asn_rules.proofs.Feeding.Sessions.{decoded_all}
use Rattle.asn_rules.proofs.FrontMessages.{fault_decoded}
use Rattle.asn_walk_check.specs.Checked.{ChecksFront}
use Rattle.asn_walk_check.proofs.message.check_message.Goals as goal

pub returns-then-used-octets : goal.returns-then-used-octets
returns-then-used-octets g c =
    let told : ChecksFront g.R.ReadLeaves.rules.ruling (Ok c.in-Ok.used) (shape_of c.args.ty.now) c.args.octets.now = rw c.in-Ok.is at c.check_front.ensures in
    (omega (arith, c.if-used-octets.true), told.0, told.1)

pub returns-else-used-octets : goal.returns-else-used-octets
returns-else-used-octets g c =
    let t = shape_of c.args.ty.now in
    let o = c.args.octets.now in
    let told : ChecksFront g.R.ReadLeaves.rules.ruling (Ok c.in-Ok.used) t o = rw c.in-Ok.is at c.check_front.ensures in
    let same : c.in-Ok.used ≡ 0 + c.in-Ok.used = omega arith in
    let whole = decoded_all g.R.ReadLeaves.rules.ruling t o told.0 c.in-Ok.used (subst (λ (n : ℕ). Answer g.R.ReadLeaves.rules.ruling t (take max_octets o) (done told.0 n)) same told.1) (λ (l : c.in-Ok.used < length o). omega (arith, l, c.if-used-octets.false)) in
    let found : Answer g.R.ReadLeaves.rules.ruling t o (done told.0 (length o)) = whole.1 in
    (whole.0, told.0, rw (take_all (length o) o (omega arith)) at found.1)

pub returns-in-Err : goal.returns-in-Err
returns-in-Err g c =
    let t = shape_of c.args.ty.now in
    let o = c.args.octets.now in
    let told : ChecksFront g.R.ReadLeaves.rules.ruling (Err c.in-Err.fault) t o = rw c.in-Err.is at c.check_front.ensures in
    fault_decoded g.R.ReadLeaves.rules.ruling t o value.Null c.in-Err.fault (told value.Null)
