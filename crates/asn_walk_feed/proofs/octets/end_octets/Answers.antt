use Rattle.std.proofs.Common.{◌≡◌, ◌∷◌, [], ℕ, List, ap, ◌∙◌, subst}
use Rattle.asn_rules.specs.Stops.{Stops}
use Rattle.asn_rules.specs.declared.stop.Stop.TheVariants as stop
use Rattle.asn_walk_feed.specs.Nodes.{nodes}
use Rattle.asn_walk_feed.specs.Octets.{OctetsOf, OctetsGoOn}
use Rattle.asn_walk_feed.specs.declared.frame.Frame.{Frame}
use Rattle.asn_walk_feed.specs.declared.frame.Frame.TheVariants as frame
use Rattle.asn_walk_feed.proofs.OctetsRead.{octets_took}
use Rattle.asn_walk_feed.proofs.octets.end_octets.Goals as goal

pub returns-in-Ok-put-clause-stop : goal.returns-in-Ok-put-clause-stop
returns-in-Ok-put-clause-stop g c =
    λ all h.
    let a : Stops g.R.ReadLeaves.rules.ruling.fielding (OctetsOf (g.K.InFragments.coding c.args.kind.now)) all stop.Short = rw c.in-Err-Short.field-0-is at (c.in-Err-Short.ensures.stop all h) in
    a

pub returns-in-Err-Refused-clause-stop : goal.returns-in-Err-Refused-clause-stop
returns-in-Err-Refused-clause-stop g c =
    λ all h.
    let a : Stops g.R.ReadLeaves.rules.ruling.fielding (OctetsOf (g.K.InFragments.coding c.args.kind.now)) all (stop.Refused c.in-Err-Refused.left c.in-Err-Refused.why) = rw c.in-Err-Refused.field-0-is at (c.in-Err-Refused.ensures.stop all h) in
    rw (c.in-Err-Refused.left-is, c.in-Err-Refused.why-is) a

pub returns-in-Ok-put-clause-kept : goal.returns-in-Ok-put-clause-kept
returns-in-Ok-put-clause-kept g c =
    λ all h.
    let none : g.R.ReadLeaves.rules.to_units c.feed_fragments.new.units ≡ [] = rw c.in-Err-Short.field-0-is at c.in-Err-Short.ensures.after in
    let kept : OctetsGoOn g.R.ReadLeaves.rules (g.K.InFragments.coding c.args.kind.now) g.R.ReadLeaves.ahead g.R.ReadLeaves.is_between c.feed_fragments.new.octets all (g.R.ReadLeaves.rules.to_units c.feed_fragments.new.units) = c.feed_fragments.ensures.kept (cc (c.in-Err-Short.is, c.in-Err-Short.field-0-is)) all h in
    let fs : nodes c.put.new.self ≡ frame.Octets c.feed_fragments.new.octets ∷ [] = c.in-Ok-put.ensures ∙ ap (λ (gs : List (Frame g.row.R-Fragments.Denot)). frame.Octets c.feed_fragments.new.octets ∷ gs) c.requires.empty in
    let a : Stops g.R.ReadLeaves.rules.ruling.fielding (OctetsOf (g.K.InFragments.coding c.args.kind.now)) all stop.Short = rw c.in-Err-Short.field-0-is at (c.in-Err-Short.ensures.stop all h) in
    octets_took g.R.ReadLeaves.rules c.keep_laws.ensures c.keep_feed_laws.ensures (g.K.InFragments.coding c.args.kind.now) c.keep_octet_laws.ensures g.R.ReadLeaves.ahead g.R.ReadLeaves.is_between (nodes c.put.new.self) c.feed_fragments.new.octets all fs a.told (subst (λ (xs : List ℕ). OctetsGoOn g.R.ReadLeaves.rules (g.K.InFragments.coding c.args.kind.now) g.R.ReadLeaves.ahead g.R.ReadLeaves.is_between c.feed_fragments.new.octets all xs) none kept)
