-- A length that one octet does not tell.
use Rattle.std.proofs.Common.{◌≡◌, ◌++◌, ◌+◌, ◌*◌, ℕ, List, sym, ap, subst, ◌∙◌, append_assoc, arith}
use Rattle.asn_bits.specs.Lengths.{octet_length}
use Rattle.asn_bits.specs.Numbers.{bits, unpacked}
use Rattle.asn_bits.proofs.LengthsInOctets.{large_is}
use Rattle.asn_bits.proofs.Splits.{unpacked-octets}
use Rattle.asn_window.specs.Fragmented.{Comes}
use Rattle.asn_window.specs.BitWriters.{BitsStand}
use Rattle.asn_window.proofs.fragments.put_single_length.Goals as goal

pub returns-clause-told : goal.returns-clause-told
returns-clause-told g c start around r all come =
    let n = c.args.many in
    let k = c.octet_count-count.result in
    let was : List ℕ → Type 0 = λ b. BitsStand start (g.O.Output.held c.args.output.now) c.args.writer.now b all in
    let e : unpacked (octet_length n) ≡ bits 8 (128 + k) ++ bits (8 * k) n =
    ap unpacked (large_is n k (omega (arith, c.if-many-lt128.false)) (sym c.octet_count-count.ensures.count)) ∙ ap (λ t. bits 8 (128 + k) ++ t) (unpacked-octets k n) in
    let cut : unpacked (octet_length n) ++ r ≡ bits 8 (128 + k) ++ (bits (8 * k) n ++ r) =
    ap (λ t. t ++ r) e ∙ append_assoc (bits 8 (128 + k)) (bits (8 * k) n) r in
    c.put_at-3.ensures.told start around r all
    (c.put_at-2.ensures.told start around (bits (8 * k) n ++ r) all
    (subst (λ (xs : List ℕ). Comes was c.args.fragments.now c.args.level around xs) cut come))
