use Rattle.std.proofs.Common.{Bool, true, false, subst, refl}
use Rattle.asn_values.specs.View.{shape_of}
use Rattle.asn_rules.specs.AtOnce.{TellsIfNone}
use Rattle.asn_resuming.proofs.Answering.{opened_whole, opened_empty}
use Rattle.asn_resuming.proofs.session.open.Goals as goal
use Rattle.asn_resuming.proofs.session.open.Goals.{then-branch, else-branch}

pub returns : goal.returns
returns g c =
    let r = g.R.ReadLeaves.rules in
    let laws = c.keep_laws.ensures in
    let t = shape_of c.args.ty in
    let good = c.get.ensures.of_profile in
    elim c.if-branch.branch [
      | then-branch w ↦
          (let told : TellsIfNone r.ruling t true = subst (λ (b : Bool). TellsIfNone r.ruling t b) w.if-branch.true c.in_ok-may_be_empty.ensures in
          opened_whole r laws g.R.FeedLeaves.fields g.R.ReadLeaves.ahead g.R.ReadLeaves.is_between t _ refl good c.none.ensures refl refl c.none-2.ensures.taken c.none-2.ensures.inside refl w.end-is told)
      | else-branch w ↦
          (let told : TellsIfNone r.ruling t false = subst (λ (b : Bool). TellsIfNone r.ruling t b) w.if-branch.false c.in_ok-may_be_empty.ensures in
          opened_empty r laws g.R.FeedLeaves.fields g.R.ReadLeaves.ahead g.R.ReadLeaves.is_between t _ refl good c.none.ensures refl refl c.none-2.ensures.taken c.none-2.ensures.inside refl (record { taken = 0 }) refl w.end-is told)
    ]
