use Rattle.std.proofs.Common.{◌<◌, rules, refl, length, inl, inr}
use Rattle.asn_look.proofs.Feeding.{takes_twice, message_cut, ends_later}
use Rattle.asn_look.proofs.streams.feed_message.Goals as goal

pub returns-in-Some-End-2-clause-known : goal.returns-in-Some-End-2-clause-known
returns-in-Some-End-2-clause-known g c = λ t waits.
    let known = c.in_ok-fed.ensures.known t (c.loop.invariant.1 t waits) in
    let some : 0 < length c.fed.new.octets.items = search rules in
    let end = c.in_ok-fed.ensures.end (rw (c.in-Some-End.is, c.in-Some-End.field-0-is) refl) in
    let (before, is, gave) = c.loop.invariant.0 in
    inr (message_cut g.S.Rules.ruling t c.fed.new.octets.items _ _ some (rw (c.in-Some-End.is, c.in-Some-End.field-0-is) at known).1
    (ends_later _ (g.R.Read.remaining c.loop.input) (g.R.Read.remaining c.fed.new.input) before gave end))

pub returns-in-Some-Last-clause-known : goal.returns-in-Some-Last-clause-known
returns-in-Some-Last-clause-known g c = λ t waits.
    let known = c.in_ok-fed.ensures.known t (c.loop.invariant.1 t waits) in
    inl (rw (c.in-Some-Last.is, c.in-Some-Last.field-0-is) at known)

pub loop-preserved : goal.loop-preserved
loop-preserved g c = (
  takes_twice _ _ _ c.args.octets.now.items c.loop.octets.items c.fed.new.octets.items c.loop.invariant.0 c.in_ok-fed.ensures.taken,
  λ t waits. let known = c.in_ok-fed.ensures.known t (c.loop.invariant.1 t waits) in rw c.in-None.is at known,
)
