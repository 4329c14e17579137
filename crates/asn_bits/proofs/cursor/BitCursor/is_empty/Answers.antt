-- No bit is left exactly where no octet is.
use Rattle.std.proofs.Common.{◌≡◌, length, drop, sym, ◌∙◌, eq-eqb, eqb-true}
use Rattle.asn_bits.specs.Numbers.{unpacked}
use Rattle.asn_bits.proofs.Reading.{left_none, none_left}
use Rattle.asn_bits.proofs.cursor.BitCursor.is_empty.Goals as goal

pub returns : goal.returns
returns c =
    let s = c.self.inside in
    let v : drop s.offset (unpacked s.octets.now) ≡ c.args.self.now = c.self.view_is in (
      λ t. sym v ∙ left_none s.octets.now s.offset (eqb-true (length s.octets.now) 0 (sym c.is_empty.ensures ∙ t)),
      λ e. c.is_empty.ensures ∙ eq-eqb (length s.octets.now) 0 (none_left s.octets.now s.offset c.self.invariant.0 (v ∙ e)),
    )
