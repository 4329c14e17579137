use Rattle.std.proofs.Common.{◌++◌, ℕ, List, inl, refl, sym, ap, ◌∙◌, subst}
use Rattle.std.specs.Prelude.{is_some}
use Rattle.std.proofs.lemmas.Result.{IfOk-weaker, IfErr-weaker}
use Rattle.asn_rules.specs.Languages.{Spells}
use Rattle.asn_rules.specs.Stops.{Stops}
use Rattle.asn_walk_feed.specs.Nodes.{nodes}
use Rattle.asn_walk_feed.specs.Octets.{OctetsOf, KeepsOctets}
use Rattle.asn_walk_feed.proofs.OctetsRead.{octets_go_on, took_octets, took_none, took_start}
use Rattle.asn_walk_feed.proofs.octets.resume_octets.Goals as goal

pub end_octets-requires : goal.end_octets-requires
end_octets-requires g c =
    let us = c.requires.reached.0 in
    record { good = c.requires.good; at_unit = c.requires.at_unit; empty = (took_octets g.R.ReadLeaves.rules c.keep_laws.ensures c.keep_feed_laws.ensures (g.K.InFragments.coding c.args.kind.now) c.keep_octet_laws.ensures g.R.ReadLeaves.ahead g.R.ReadLeaves.is_between c.args.node c.in-Some-Octets.field-0 c.in-Some-Octets.octets (nodes c.args.frames.now) us c.in-Some-Octets.is c.in-Some-Octets.field-0-is c.requires.reached.1).0; reached = (us ++ g.R.ReadLeaves.rules.to_units c.args.units.now, (octets_go_on g.R.ReadLeaves.rules c.keep_laws.ensures c.keep_feed_laws.ensures (g.K.InFragments.coding c.args.kind.now) c.keep_octet_laws.ensures g.R.ReadLeaves.ahead g.R.ReadLeaves.is_between c.in-Some-Octets.octets us (g.R.ReadLeaves.rules.to_units c.args.units.now) (took_octets g.R.ReadLeaves.rules c.keep_laws.ensures c.keep_feed_laws.ensures (g.K.InFragments.coding c.args.kind.now) c.keep_octet_laws.ensures g.R.ReadLeaves.ahead g.R.ReadLeaves.is_between c.args.node c.in-Some-Octets.field-0 c.in-Some-Octets.octets (nodes c.args.frames.now) us c.in-Some-Octets.is c.in-Some-Octets.field-0-is c.requires.reached.1).1)); few = c.requires.few }

pub returns-in-Some-Octets-clause-done : goal.returns-in-Some-Octets-clause-done
returns-in-Some-Octets-clause-done g c =
    IfOk-weaker c.end_octets.result _ _ (λ os s us k. s (us ++ g.R.ReadLeaves.rules.to_units c.args.units.now) (octets_go_on g.R.ReadLeaves.rules c.keep_laws.ensures c.keep_feed_laws.ensures (g.K.InFragments.coding c.args.kind.now) c.keep_octet_laws.ensures g.R.ReadLeaves.ahead g.R.ReadLeaves.is_between c.in-Some-Octets.octets us (g.R.ReadLeaves.rules.to_units c.args.units.now) (took_octets g.R.ReadLeaves.rules c.keep_laws.ensures c.keep_feed_laws.ensures (g.K.InFragments.coding c.args.kind.now) c.keep_octet_laws.ensures g.R.ReadLeaves.ahead g.R.ReadLeaves.is_between c.args.node c.in-Some-Octets.field-0 c.in-Some-Octets.octets (nodes c.args.frames.now) us c.in-Some-Octets.is c.in-Some-Octets.field-0-is k).1)) c.end_octets.ensures.done

pub returns-in-Some-Octets-clause-stop : goal.returns-in-Some-Octets-clause-stop
returns-in-Some-Octets-clause-stop g c =
    IfErr-weaker c.end_octets.result _ _ (λ why s us k. s (us ++ g.R.ReadLeaves.rules.to_units c.args.units.now) (octets_go_on g.R.ReadLeaves.rules c.keep_laws.ensures c.keep_feed_laws.ensures (g.K.InFragments.coding c.args.kind.now) c.keep_octet_laws.ensures g.R.ReadLeaves.ahead g.R.ReadLeaves.is_between c.in-Some-Octets.octets us (g.R.ReadLeaves.rules.to_units c.args.units.now) (took_octets g.R.ReadLeaves.rules c.keep_laws.ensures c.keep_feed_laws.ensures (g.K.InFragments.coding c.args.kind.now) c.keep_octet_laws.ensures g.R.ReadLeaves.ahead g.R.ReadLeaves.is_between c.args.node c.in-Some-Octets.field-0 c.in-Some-Octets.octets (nodes c.args.frames.now) us c.in-Some-Octets.is c.in-Some-Octets.field-0-is k).1)) c.end_octets.ensures.stop

pub returns-in-Some-Octets-clause-kept : goal.returns-in-Some-Octets-clause-kept
returns-in-Some-Octets-clause-kept g c =
    IfErr-weaker c.end_octets.result _ _ (λ why s us k. s (us ++ g.R.ReadLeaves.rules.to_units c.args.units.now) (octets_go_on g.R.ReadLeaves.rules c.keep_laws.ensures c.keep_feed_laws.ensures (g.K.InFragments.coding c.args.kind.now) c.keep_octet_laws.ensures g.R.ReadLeaves.ahead g.R.ReadLeaves.is_between c.in-Some-Octets.octets us (g.R.ReadLeaves.rules.to_units c.args.units.now) (took_octets g.R.ReadLeaves.rules c.keep_laws.ensures c.keep_feed_laws.ensures (g.K.InFragments.coding c.args.kind.now) c.keep_octet_laws.ensures g.R.ReadLeaves.ahead g.R.ReadLeaves.is_between c.args.node c.in-Some-Octets.field-0 c.in-Some-Octets.octets (nodes c.args.frames.now) us c.in-Some-Octets.is c.in-Some-Octets.field-0-is k).1)) c.end_octets.ensures.kept

pub start_octets-requires : goal.start_octets-requires
start_octets-requires g c =
    let us = c.requires.reached.0 in
    let w = (took_start g.R.ReadLeaves.rules c.keep_laws.ensures c.keep_feed_laws.ensures (g.K.InFragments.coding c.args.kind.now) c.keep_octet_laws.ensures g.R.ReadLeaves.ahead g.R.ReadLeaves.is_between c.args.node c.in-Some-Start.field-0 c.in-Some-Start.begun (nodes c.args.frames.now) us c.in-Some-Start.is c.in-Some-Start.field-0-is c.requires.reached.1) in
    record { good = c.requires.good; at_unit = c.requires.at_unit; empty = w.0; waits = record { come = refl; at_unit = w.1.at_unit; begins = w.1.begins }; few = c.requires.few }

pub returns-in-Some-Start-clause-done : goal.returns-in-Some-Start-clause-done
returns-in-Some-Start-clause-done g c =
    IfOk-weaker c.start_octets.result _ _ (λ os s us k. subst (λ (xs : List ℕ). Spells g.R.ReadLeaves.rules.ruling.fielding (OctetsOf (g.K.InFragments.coding c.args.kind.now)) os.items (xs ++ g.R.ReadLeaves.rules.to_units c.args.units.now) (g.R.ReadLeaves.rules.to_units c.start_octets.new.units)) (took_start g.R.ReadLeaves.rules c.keep_laws.ensures c.keep_feed_laws.ensures (g.K.InFragments.coding c.args.kind.now) c.keep_octet_laws.ensures g.R.ReadLeaves.ahead g.R.ReadLeaves.is_between c.args.node c.in-Some-Start.field-0 c.in-Some-Start.begun (nodes c.args.frames.now) us c.in-Some-Start.is c.in-Some-Start.field-0-is k).1.come s) c.start_octets.ensures.done

pub returns-in-Some-Start-clause-stop : goal.returns-in-Some-Start-clause-stop
returns-in-Some-Start-clause-stop g c =
    IfErr-weaker c.start_octets.result _ _ (λ why s us k. subst (λ (xs : List ℕ). Stops g.R.ReadLeaves.rules.ruling.fielding (OctetsOf (g.K.InFragments.coding c.args.kind.now)) (xs ++ g.R.ReadLeaves.rules.to_units c.args.units.now) why) (took_start g.R.ReadLeaves.rules c.keep_laws.ensures c.keep_feed_laws.ensures (g.K.InFragments.coding c.args.kind.now) c.keep_octet_laws.ensures g.R.ReadLeaves.ahead g.R.ReadLeaves.is_between c.args.node c.in-Some-Start.field-0 c.in-Some-Start.begun (nodes c.args.frames.now) us c.in-Some-Start.is c.in-Some-Start.field-0-is k).1.come s) c.start_octets.ensures.stop

pub returns-in-Some-Start-clause-kept : goal.returns-in-Some-Start-clause-kept
returns-in-Some-Start-clause-kept g c =
    IfErr-weaker c.start_octets.result _ _ (λ why s us k. subst (λ (xs : List ℕ). KeepsOctets g.R.ReadLeaves.rules (g.K.InFragments.coding c.args.kind.now) g.R.ReadLeaves.ahead g.R.ReadLeaves.is_between (nodes c.start_octets.new.frames) (xs ++ g.R.ReadLeaves.rules.to_units c.args.units.now) why) (took_start g.R.ReadLeaves.rules c.keep_laws.ensures c.keep_feed_laws.ensures (g.K.InFragments.coding c.args.kind.now) c.keep_octet_laws.ensures g.R.ReadLeaves.ahead g.R.ReadLeaves.is_between c.args.node c.in-Some-Start.field-0 c.in-Some-Start.begun (nodes c.args.frames.now) us c.in-Some-Start.is c.in-Some-Start.field-0-is k).1.come s) c.start_octets.ensures.kept

pub start_octets-requires-in-None : goal.start_octets-requires-in-None
start_octets-requires-in-None g c =
    record { good = c.requires.good; at_unit = c.requires.at_unit; empty = c.requires.last (ap is_some c.in-None.is); waits = record { come = refl; at_unit = rw c.none.ensures c.keep_feed_laws.ensures.begin; begins = inl c.none.ensures }; few = c.requires.few }

pub returns-in-None-clause-done : goal.returns-in-None-clause-done
returns-in-None-clause-done g c =
    IfOk-weaker c.start_octets-in-None.result _ _ (λ os s us k. subst (λ (xs : List ℕ). Spells g.R.ReadLeaves.rules.ruling.fielding (OctetsOf (g.K.InFragments.coding c.args.kind.now)) os.items xs (g.R.ReadLeaves.rules.to_units c.start_octets-in-None.new.units)) (ap (λ (xs : List ℕ). xs ++ g.R.ReadLeaves.rules.to_units c.args.units.now) (ap g.R.ReadLeaves.rules.to_units c.none.ensures ∙ c.keep_feed_laws.ensures.none ∙ sym (took_none g.R.ReadLeaves.rules c.keep_laws.ensures c.keep_feed_laws.ensures (g.K.InFragments.coding c.args.kind.now) c.keep_octet_laws.ensures g.R.ReadLeaves.ahead g.R.ReadLeaves.is_between c.args.node (nodes c.args.frames.now) us c.in-None.is (c.requires.last (ap is_some c.in-None.is)) k))) s) c.start_octets-in-None.ensures.done

pub returns-in-None-clause-stop : goal.returns-in-None-clause-stop
returns-in-None-clause-stop g c =
    IfErr-weaker c.start_octets-in-None.result _ _ (λ why s us k. subst (λ (xs : List ℕ). Stops g.R.ReadLeaves.rules.ruling.fielding (OctetsOf (g.K.InFragments.coding c.args.kind.now)) xs why) (ap (λ (xs : List ℕ). xs ++ g.R.ReadLeaves.rules.to_units c.args.units.now) (ap g.R.ReadLeaves.rules.to_units c.none.ensures ∙ c.keep_feed_laws.ensures.none ∙ sym (took_none g.R.ReadLeaves.rules c.keep_laws.ensures c.keep_feed_laws.ensures (g.K.InFragments.coding c.args.kind.now) c.keep_octet_laws.ensures g.R.ReadLeaves.ahead g.R.ReadLeaves.is_between c.args.node (nodes c.args.frames.now) us c.in-None.is (c.requires.last (ap is_some c.in-None.is)) k))) s) c.start_octets-in-None.ensures.stop

pub returns-in-None-clause-kept : goal.returns-in-None-clause-kept
returns-in-None-clause-kept g c =
    IfErr-weaker c.start_octets-in-None.result _ _ (λ why s us k. subst (λ (xs : List ℕ). KeepsOctets g.R.ReadLeaves.rules (g.K.InFragments.coding c.args.kind.now) g.R.ReadLeaves.ahead g.R.ReadLeaves.is_between (nodes c.start_octets-in-None.new.frames) xs why) (ap (λ (xs : List ℕ). xs ++ g.R.ReadLeaves.rules.to_units c.args.units.now) (ap g.R.ReadLeaves.rules.to_units c.none.ensures ∙ c.keep_feed_laws.ensures.none ∙ sym (took_none g.R.ReadLeaves.rules c.keep_laws.ensures c.keep_feed_laws.ensures (g.K.InFragments.coding c.args.kind.now) c.keep_octet_laws.ensures g.R.ReadLeaves.ahead g.R.ReadLeaves.is_between c.args.node (nodes c.args.frames.now) us c.in-None.is (c.requires.last (ap is_some c.in-None.is)) k))) s) c.start_octets-in-None.ensures.kept
