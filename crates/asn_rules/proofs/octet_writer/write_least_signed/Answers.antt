use Rattle.std.proofs.Common.{◌≡◌, ◌≤◌, ◌<◌, ◌+◌, ◌*◌, ◌^◌, ◌++◌, ℕ, ℤ, sym, ◌∙◌, arith}
use Rattle.std.proofs.lemmas.Result.{on_ok_weaker}
use Rattle.asn_bits.specs.Lengths.{general_octets}
use Rattle.asn_bits.specs.Numbers.{bits, octets, least_signed, signed_octets, signed_octet_count}
use Rattle.asn_bits.proofs.Above.{kept}
use Rattle.asn_bits.proofs.LeastLengths.{general_signed}
use Rattle.asn_bits.proofs.Octets.{signed_fits}
use Rattle.asn_sinks.proofs.Pushing.{pushed_same}
use Rattle.asn_rules.proofs.Octets.OctetsWritten.{after_octet}
use Rattle.asn_rules.proofs.octet_writer.write_least_signed.Goals as goal

pub signed_residue-residue-requires-clause-room : goal.signed_residue-residue-requires-clause-room
signed_residue-residue-requires-clause-room g c =
    let z = kept c.args.z c.requires.low c.requires.high in
    rw (c.signed_octet_count-count.ensures.count, z) (signed_fits c.args.z)

pub returns-then-count-gt8 : goal.returns-then-count-gt8
returns-then-count-gt8 g c =
    let z = kept c.args.z c.requires.low c.requires.high in
    rw z at c.push_least_signed_octets.ensures

-- the octets of z, of which there are k, after their count
all_octets : (z : ℤ) (k n : ℕ) → signed_octets k z ≡ octets k n → k ≤ 8 → k ≡ signed_octet_count z → general_octets (λ u. u) (least_signed z) ≡ bits 8 k ++ bits (8 * k) n
all_octets z k n h few e = general_signed z n k h (omega (arith, few)) e

pub returns-in-1 : goal.returns-in-1
returns-in-1 g c =
    let k = c.signed_octet_count-count.result in
    let n = c.signed_residue-residue.result in
    let h = c.signed_residue-residue.ensures in
    let e = c.signed_octet_count-count.ensures in
    let z = kept c.args.z c.requires.low c.requires.high in
    let all = all_octets c.args.z k n (rw z at h.octets) (omega (arith, c.if-count-gt8.false)) (rw z at e.count) in
    let fits : n < 2 ^ (8 * 1) = rw c.in-1.is at h.fits in
    let joined : bits (8 * 2) (256 + n) ≡ bits 8 1 ++ bits (8 * 1) n = after_octet 1 1 n (256 + n) fits (omega arith) in
    on_ok_weaker c.push_low_octets.result
    (pushed_same g.S.Sink.pushes c.args.sink.now c.push_low_octets.new.self (joined ∙ sym (rw c.in-1.is at all)))
    c.push_low_octets.ensures

pub returns-in-2 : goal.returns-in-2
returns-in-2 g c =
    let k = c.signed_octet_count-count.result in
    let n = c.signed_residue-residue.result in
    let h = c.signed_residue-residue.ensures in
    let e = c.signed_octet_count-count.ensures in
    let z = kept c.args.z c.requires.low c.requires.high in
    let all = all_octets c.args.z k n (rw z at h.octets) (omega (arith, c.if-count-gt8.false)) (rw z at e.count) in
    let fits : n < 2 ^ (8 * 2) = rw c.in-2.is at h.fits in
    let joined : bits (8 * 3) (131072 + n) ≡ bits 8 2 ++ bits (8 * 2) n = after_octet 2 2 n (131072 + n) fits (omega arith) in
    on_ok_weaker c.push_low_octets-in-2.result
    (pushed_same g.S.Sink.pushes c.args.sink.now c.push_low_octets-in-2.new.self (joined ∙ sym (rw c.in-2.is at all)))
    c.push_low_octets-in-2.ensures

pub returns-in_ok-push_low_octets-in_default : goal.returns-in_ok-push_low_octets-in_default
returns-in_ok-push_low_octets-in_default g c =
    let k = c.signed_octet_count-count.result in
    let n = c.signed_residue-residue.result in
    let h = c.signed_residue-residue.ensures in
    let e = c.signed_octet_count-count.ensures in
    let z = kept c.args.z c.requires.low c.requires.high in
    let old = c.args.sink.now in
    let all = all_octets c.args.z k n (rw z at h.octets) (omega (arith, c.if-count-gt8.false)) (rw z at e.count) in
    let mid = c.push_low_octets-in_default.new.self in
    let new = c.push_low_octets-in_default-2.new.self in
    let first : g.S.Sink.pushes old mid (bits 8 k) = rw (← c.from.ensures) c.in_ok-push_low_octets-in_default.ensures in
    on_ok_weaker c.push_low_octets-in_default-2.result
    (λ e. pushed_same g.S.Sink.pushes old new (sym all) (g.met.S.Sink.pushes_joined old mid new (bits 8 k) (bits (8 * k) n) first e))
    c.push_low_octets-in_default-2.ensures
