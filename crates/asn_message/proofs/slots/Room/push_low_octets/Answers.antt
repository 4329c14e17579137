use Rattle.std.proofs.Common.{rules, ◌≡◌, ◌-◌, ◌*◌, ◌%◌, ◌^◌, ◌++◌, length, refl, sym, ◌∙◌}
use Rattle.asn_bits.specs.Numbers.{octets}
use Rattle.asn_bits.proofs.Octets.{length-digits}
use Rattle.asn_bits.proofs.Splits.{bytes-octets}
use Rattle.asn_message.proofs.Restored.{span_found}
use Rattle.asn_message.proofs.Strings.{octets_kept}
use Rattle.asn_message.proofs.slots.Room.push_low_octets.Goals as goal

added : (c : goal.After-truncate) → c.truncate.new.self.items ≡ c.args.self.now.octets.items ++ octets c.args.count c.args.number
added c =
    let begin : c.in_ok-begin.begin ≡ length c.args.self.now.octets.items = search rules in
    c.truncate.ensures.items
    ∙ octets_kept c.args.self.now.octets.items c.push_eight.new.to.items c.to_be_bytes-eight.result c.in_ok-begin.begin c.args.count c.args.number begin c.requires.few (c.in_ok-push_eight.ensures refl) (c.to_be_bytes-eight.ensures ∙ bytes-octets 8 (c.args.number * 2 ^ (64 - 8 * c.args.count) % 2 ^ 64))

pub returns-clause-octets : goal.returns-clause-octets
returns-clause-octets c some = added c

pub returns-clause-at : goal.returns-clause-at
returns-clause-at c more =
    let old = c.args.self.now.octets.items in
    let row = octets c.args.count c.args.number in
    let begin : c.in_ok-begin.begin ≡ length old = search rules in
    rw (added c) (span_found old row more (record { begin = c.in_ok-begin.begin; length = c.args.count }) begin (sym (length-digits 256 c.args.count c.args.number)))
