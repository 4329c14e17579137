use Rattle.std.proofs.Common.{◌≡◌, ◌++◌, ◌∷◌, [], ℕ, List, inr, refl, sym, ap, ◌∙◌, subst, arith}
use Rattle.std.proofs.lemmas.Result.{IfOk-weaker, IfErr-weaker}
use Rattle.asn_rules.specs.Languages.{Short}
use Rattle.asn_rules.specs.Stops.{Stops}
use Rattle.asn_rules.specs.declared.stop.Stop.TheVariants as stop
use Rattle.asn_walk_feed.specs.Nodes.{nodes}
use Rattle.asn_walk_feed.specs.Octets.{first_octets}
use Rattle.asn_walk_feed.specs.declared.frame.Frame.{Frame}
use Rattle.asn_walk_feed.specs.declared.frame.Frame.TheVariants as frame
use Rattle.asn_walk_feed.proofs.OctetsRead.{octets_start, start_stops, start_took}
use Rattle.asn_walk_feed.proofs.octets.start_octets.Goals as goal

pub end_octets-requires : goal.end_octets-requires
end_octets-requires g c =
    record { good = c.requires.good; at_unit = c.in-Ok.ensures.at_unit; empty = c.requires.empty; reached = ((g.R.ReadLeaves.rules.to_units c.args.begun ++ g.R.ReadLeaves.rules.to_units c.args.units.now), (octets_start g.R.ReadLeaves.rules c.keep_laws.ensures c.keep_feed_laws.ensures (g.K.InFragments.coding c.args.kind.now) c.keep_octet_laws.ensures g.R.ReadLeaves.ahead g.R.ReadLeaves.is_between _ (first_octets c.in-Ok.start.first) (g.R.ReadLeaves.rules.to_units c.args.begun ++ g.R.ReadLeaves.rules.to_units c.args.units.now) (g.R.ReadLeaves.rules.to_units c.feed_leaf.new.units) c.in-Ok.ensures.done refl c.in_ok-elements-in-Ok.ensures.items c.none.ensures c.in-Ok.ensures.sound)); few = omega (arith, c.in-Ok.ensures.ticked, c.requires.few) }

pub returns-in_ok-elements-in-Ok-clause-done : goal.returns-in_ok-elements-in-Ok-clause-done
returns-in_ok-elements-in-Ok-clause-done g c =
    IfOk-weaker c.end_octets.result _ _ (λ os s. s (g.R.ReadLeaves.rules.to_units c.args.begun ++ g.R.ReadLeaves.rules.to_units c.args.units.now) (octets_start g.R.ReadLeaves.rules c.keep_laws.ensures c.keep_feed_laws.ensures (g.K.InFragments.coding c.args.kind.now) c.keep_octet_laws.ensures g.R.ReadLeaves.ahead g.R.ReadLeaves.is_between _ (first_octets c.in-Ok.start.first) (g.R.ReadLeaves.rules.to_units c.args.begun ++ g.R.ReadLeaves.rules.to_units c.args.units.now) (g.R.ReadLeaves.rules.to_units c.feed_leaf.new.units) c.in-Ok.ensures.done refl c.in_ok-elements-in-Ok.ensures.items c.none.ensures c.in-Ok.ensures.sound)) c.end_octets.ensures.done

pub returns-in_ok-elements-in-Ok-clause-stop : goal.returns-in_ok-elements-in-Ok-clause-stop
returns-in_ok-elements-in-Ok-clause-stop g c =
    IfErr-weaker c.end_octets.result _ _ (λ why s. s (g.R.ReadLeaves.rules.to_units c.args.begun ++ g.R.ReadLeaves.rules.to_units c.args.units.now) (octets_start g.R.ReadLeaves.rules c.keep_laws.ensures c.keep_feed_laws.ensures (g.K.InFragments.coding c.args.kind.now) c.keep_octet_laws.ensures g.R.ReadLeaves.ahead g.R.ReadLeaves.is_between _ (first_octets c.in-Ok.start.first) (g.R.ReadLeaves.rules.to_units c.args.begun ++ g.R.ReadLeaves.rules.to_units c.args.units.now) (g.R.ReadLeaves.rules.to_units c.feed_leaf.new.units) c.in-Ok.ensures.done refl c.in_ok-elements-in-Ok.ensures.items c.none.ensures c.in-Ok.ensures.sound)) c.end_octets.ensures.stop

pub returns-in_ok-elements-in-Ok-clause-kept : goal.returns-in_ok-elements-in-Ok-clause-kept
returns-in_ok-elements-in-Ok-clause-kept g c =
    IfErr-weaker c.end_octets.result _ _ (λ why s. s (g.R.ReadLeaves.rules.to_units c.args.begun ++ g.R.ReadLeaves.rules.to_units c.args.units.now) (octets_start g.R.ReadLeaves.rules c.keep_laws.ensures c.keep_feed_laws.ensures (g.K.InFragments.coding c.args.kind.now) c.keep_octet_laws.ensures g.R.ReadLeaves.ahead g.R.ReadLeaves.is_between _ (first_octets c.in-Ok.start.first) (g.R.ReadLeaves.rules.to_units c.args.begun ++ g.R.ReadLeaves.rules.to_units c.args.units.now) (g.R.ReadLeaves.rules.to_units c.feed_leaf.new.units) c.in-Ok.ensures.done refl c.in_ok-elements-in-Ok.ensures.items c.none.ensures c.in-Ok.ensures.sound)) c.end_octets.ensures.kept

pub returns-in-Ok-put-clause-stop : goal.returns-in-Ok-put-clause-stop
returns-in-Ok-put-clause-stop g c =
    let a : Stops g.R.ReadLeaves.rules.ruling.fielding (g.K.InFragments.coding c.args.kind.now).start (g.R.ReadLeaves.rules.to_units c.args.begun ++ g.R.ReadLeaves.rules.to_units c.args.units.now) stop.Short = rw c.in-Err-Short.field-0-is at c.in-Err-Short.ensures.stop in
    start_stops g.R.ReadLeaves.rules c.keep_laws.ensures c.keep_feed_laws.ensures (g.K.InFragments.coding c.args.kind.now) c.keep_octet_laws.ensures g.R.ReadLeaves.ahead g.R.ReadLeaves.is_between (g.R.ReadLeaves.rules.to_units c.args.begun ++ g.R.ReadLeaves.rules.to_units c.args.units.now) stop.Short a

pub returns-in-Ok-put-clause-kept : goal.returns-in-Ok-put-clause-kept
returns-in-Ok-put-clause-kept g c =
    let b = c.feed_leaf.new.begun in
    let a : Stops g.R.ReadLeaves.rules.ruling.fielding (g.K.InFragments.coding c.args.kind.now).start (g.R.ReadLeaves.rules.to_units c.args.begun ++ g.R.ReadLeaves.rules.to_units c.args.units.now) stop.Short = rw c.in-Err-Short.field-0-is at c.in-Err-Short.ensures.stop in
    let e : g.R.ReadLeaves.rules.to_units b ≡ (g.R.ReadLeaves.rules.to_units c.args.begun ++ g.R.ReadLeaves.rules.to_units c.args.units.now) = rw c.in-Err-Short.field-0-is at c.in-Err-Short.ensures.kept in
    let s : Short g.R.ReadLeaves.rules.ruling.fielding (g.K.InFragments.coding c.args.kind.now).start (g.R.ReadLeaves.rules.to_units b) = subst (λ (xs : List ℕ). Short g.R.ReadLeaves.rules.ruling.fielding (g.K.InFragments.coding c.args.kind.now).start xs) (sym e) a.told in
    let fs : nodes c.put.new.self ≡ frame.Start b ∷ [] = c.in-Ok-put.ensures ∙ ap (λ (gs : List (Frame g.row.R-Fragments.Denot)). frame.Start b ∷ gs) c.requires.empty in
    start_took g.R.ReadLeaves.rules c.keep_laws.ensures c.keep_feed_laws.ensures (g.K.InFragments.coding c.args.kind.now) c.keep_octet_laws.ensures g.R.ReadLeaves.ahead g.R.ReadLeaves.is_between (nodes c.put.new.self) b (g.R.ReadLeaves.rules.to_units c.args.begun ++ g.R.ReadLeaves.rules.to_units c.args.units.now) fs (record { come = e; at_unit = c.in-Err-Short.ensures.begun; begins = inr s })

pub returns-in-Err-Refused-clause-stop : goal.returns-in-Err-Refused-clause-stop
returns-in-Err-Refused-clause-stop g c =
    let w = stop.Refused c.in-Err-Refused.left c.in-Err-Refused.why in
    let a : Stops g.R.ReadLeaves.rules.ruling.fielding (g.K.InFragments.coding c.args.kind.now).start (g.R.ReadLeaves.rules.to_units c.args.begun ++ g.R.ReadLeaves.rules.to_units c.args.units.now) w = rw c.in-Err-Refused.field-0-is at c.in-Err-Refused.ensures.stop in
    rw (c.in-Err-Refused.left-is, c.in-Err-Refused.why-is) (start_stops g.R.ReadLeaves.rules c.keep_laws.ensures c.keep_feed_laws.ensures (g.K.InFragments.coding c.args.kind.now) c.keep_octet_laws.ensures g.R.ReadLeaves.ahead g.R.ReadLeaves.is_between (g.R.ReadLeaves.rules.to_units c.args.begun ++ g.R.ReadLeaves.rules.to_units c.args.units.now) w a)
