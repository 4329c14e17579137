use Rattle.std.proofs.Common.{◌≡◌, ◌∙◌, length, vec_len, rules}
use Rattle.std.specs.Cmp.{unsigned_Decides}
use Rattle.asn_plan.proofs.StringsPut.{bits_long, octets_long}
use Rattle.asn_plan.proofs.fixed.FixedString.may_be.Goals as goal

pub returns-else-len-self : goal.returns-else-len-self
returns-else-len-self c = λ h.
    let count : vec_len c.in-Bits.bits ≡ length c.in-Bits.bits.items = search rules in
    (unsigned_Decides c.len.result c.args.self.now.length).1
    (c.len.ensures ∙ count ∙ bits_long c.args.self.now c.args.number c.args.value.now c.in-Bits.bits c.in-Bits.is h)

pub returns-else-len-self-2 : goal.returns-else-len-self-2
returns-else-len-self-2 c = λ h.
    let count : vec_len c.in-Octets.octets ≡ length c.in-Octets.octets.items = search rules in
    (unsigned_Decides c.len-in-Octets.result c.args.self.now.length).1
    (c.len-in-Octets.ensures ∙ count ∙ octets_long c.args.self.now c.args.number c.args.value.now c.in-Octets.octets c.in-Octets.is h)
