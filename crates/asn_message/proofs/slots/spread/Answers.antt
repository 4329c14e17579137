use Rattle.std.proofs.Common.{rules, ◌≡◌, ◌*◌, ◌/◌, ◌%◌, ◌^◌, bit_and, ap, ◌∙◌, arith}
use Rattle.std.specs.Int.{bytes_low_first}
use Rattle.asn_message.proofs.Strings.{octet_spread}
use Rattle.asn_message.proofs.slots.spread.Goals as goal

pub returns : goal.returns
returns c =
    let same : c.from-apart.result ≡ c.args.octet = search (rules, arith) in
    c.to_le_bytes.ensures ∙ ap (λ n. bytes_low_first 0 8 (bit_and (n * 9241421688590303745 % 2 ^ 64 / 2 ^ 7) 72340172838076673)) same
    ∙ octet_spread c.args.octet (omega (arith, c.ranges.octet.fits))
