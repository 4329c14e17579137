use Rattle.std.proofs.lemmas.Result.{IfOk-weaker, IfErr-weaker}
use Rattle.asn_walk_feed.specs.Nodes.{nodes}
use Rattle.asn_walk_feed.proofs.Goings.{taken_is}
use Rattle.asn_walk_feed.proofs.octets.feed_octets.Goals as goal

pub resume_octets-requires : goal.resume_octets-requires
resume_octets-requires g c =
    record { good = c.requires.good; at_unit = c.requires.at_unit; reached = (c.requires.reached.0, rw (taken_is c.take-node.result (nodes c.args.frames.now) (nodes c.take-node.new.self) c.take-node.ensures.some c.take-node.ensures.none c.take-node.ensures.empty) at c.requires.reached.1); last = c.take-node.ensures.empty; few = c.requires.few }

pub returns-clause-done : goal.returns-clause-done
returns-clause-done g c =
    IfOk-weaker c.resume_octets.result _ _ (λ os s us k. s us (rw (taken_is c.take-node.result (nodes c.args.frames.now) (nodes c.take-node.new.self) c.take-node.ensures.some c.take-node.ensures.none c.take-node.ensures.empty) at k)) c.resume_octets.ensures.done

pub returns-clause-stop : goal.returns-clause-stop
returns-clause-stop g c =
    IfErr-weaker c.resume_octets.result _ _ (λ why s us k. s us (rw (taken_is c.take-node.result (nodes c.args.frames.now) (nodes c.take-node.new.self) c.take-node.ensures.some c.take-node.ensures.none c.take-node.ensures.empty) at k)) c.resume_octets.ensures.stop

pub returns-clause-kept : goal.returns-clause-kept
returns-clause-kept g c =
    IfErr-weaker c.resume_octets.result _ _ (λ why s us k. s us (rw (taken_is c.take-node.result (nodes c.args.frames.now) (nodes c.take-node.new.self) c.take-node.ensures.some c.take-node.ensures.none c.take-node.ensures.empty) at k)) c.resume_octets.ensures.kept
