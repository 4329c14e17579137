use Rattle.asn_values.specs.Shape.{Shape}
use Rattle.asn_look.specs.Streams.{Takes, Waits}
use Rattle.asn_look.proofs.streams.feed_message.Given as goal

-- the session waits with the octets that were taken so far
abbrev pub invariant-loop : goal.invariant-loop
invariant-loop g l = Takes (g.R.Read.remaining l.initial.input) (g.R.Read.remaining l.input) l.initial.octets.items l.octets.items
    × ((t : Shape) → Waits g.S.Rules.ruling (λ q. g.S.Rules.took q.inner) l.initial.session t l.initial.octets.items → Waits g.S.Rules.ruling (λ q. g.S.Rules.took q.inner) l.session t l.octets.items)
