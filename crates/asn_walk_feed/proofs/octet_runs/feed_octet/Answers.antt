use Rattle.std.proofs.Common.{◌≡◌, refl, arith}
use Rattle.std.proofs.lemmas.Result.{err_from_is_err_and}
use Rattle.asn_rules.specs.declared.stop.Stop.TheVariants as stop
use Rattle.asn_walk_feed.proofs.OctetsRead.{octet_ahead}
use Rattle.asn_walk_feed.proofs.octet_runs.feed_octet.Goals as goal

pub feed_leaf-requires : goal.feed_leaf-requires
feed_leaf-requires g c =
    let x = octet_ahead g.R.ReadLeaves.rules c.keep_laws.ensures c.keep_feed_laws.ensures (g.K.InFragments.coding c.args.kind.now) c.keep_octet_laws.ensures g.R.ReadLeaves.ahead g.R.ReadLeaves.is_between c.args.octets.now c.requires.reached.0 (g.R.ReadLeaves.rules.to_units c.args.units.now) c.requires.left c.requires.reached.1 in
    record { good = c.requires.good; begun = x.at_unit; at_unit = c.requires.at_unit; begins = x.begun; few = c.requires.few }

pub returns-in_err-octet-clause-stop : goal.returns-in_err-octet-clause-stop
returns-in_err-octet-clause-stop g c =
    let p = err_from_is_err_and c.from_residual.result c.from_residual.ensures.1 in
    rw (p.1, p.2) (λ all h. (octet_ahead g.R.ReadLeaves.rules c.keep_laws.ensures c.keep_feed_laws.ensures (g.K.InFragments.coding c.args.kind.now) c.keep_octet_laws.ensures g.R.ReadLeaves.ahead g.R.ReadLeaves.is_between c.args.octets.now all (g.R.ReadLeaves.rules.to_units c.args.units.now) c.requires.left h).stops _ c.in_err-octet.ensures.stop)

pub returns-in_err-octet-clause-kept : goal.returns-in_err-octet-clause-kept
returns-in_err-octet-clause-kept g c =
    λ e all h.
    let p = err_from_is_err_and c.from_residual.result c.from_residual.ensures.1 in
    let w : c.in_err-octet.field-0.0 ≡ stop.Short = cc (p.1, p.2, e) in
    (octet_ahead g.R.ReadLeaves.rules c.keep_laws.ensures c.keep_feed_laws.ensures (g.K.InFragments.coding c.args.kind.now) c.keep_octet_laws.ensures g.R.ReadLeaves.ahead g.R.ReadLeaves.is_between c.args.octets.now all (g.R.ReadLeaves.rules.to_units c.args.units.now) c.requires.left h).kept _ (g.R.ReadLeaves.rules.to_units c.feed_leaf.new.units) refl refl refl c.feed_leaf.ensures.begun (rw w at c.in_err-octet.ensures.kept) (rw w at c.in_err-octet.ensures.after) (rw w at c.in_err-octet.ensures.stop)

pub returns-clause-done : goal.returns-clause-done
returns-clause-done g c =
    λ all h. (octet_ahead g.R.ReadLeaves.rules c.keep_laws.ensures c.keep_feed_laws.ensures (g.K.InFragments.coding c.args.kind.now) c.keep_octet_laws.ensures g.R.ReadLeaves.ahead g.R.ReadLeaves.is_between c.args.octets.now all (g.R.ReadLeaves.rules.to_units c.args.units.now) c.requires.left h).more _ c.in_ok-octet.octet (g.R.ReadLeaves.rules.to_units c.feed_leaf.new.units) (omega (arith, c.requires.left)) refl c.none-octets.ensures c.in_ok-push.ensures.items c.in_ok-octet.ensures.done
