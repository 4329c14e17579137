use Rattle.std.proofs.Common.{◌≡◌, [], false, rules, refl, inl}
use Rattle.asn_values.specs.View.{shape_of}
use Rattle.asn_look.proofs.Feeding.{next_cut, none_taken}
use Rattle.asn_look.proofs.streams.next_by.Goals as goal

pub returns : goal.returns
returns g c =
    let no : c.in_ok-front_at_hand.field-0 ≡ false = search rules in
    let front = rw no at c.in_ok-front_at_hand.ensures in
    let none : c.front_at_hand.new.octets.items ≡ [] = none_taken _ _ _ _ c.clear.ensures.items front in
    next_cut g.S.Rules.ruling (shape_of c.args.ty.now) c.feed_message.result (g.R.Read.remaining c.args.input.now) (g.R.Read.remaining c.front_at_hand.new.input) (g.R.Read.remaining c.feed_message.new.input) c.clear.new.self.items c.front_at_hand.new.octets.items c.feed_message.new.octets.items
    c.clear.ensures.items front c.feed_message.ensures.taken
    (c.feed_message.ensures.known (shape_of c.args.ty.now) (rw none (c.in_ok-session.ensures, inl refl)))
