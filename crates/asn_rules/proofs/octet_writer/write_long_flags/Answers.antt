use Rattle.std.proofs.Common.{◌≡◌, ◌+◌, ◌++◌, List, [], ℕ, Bool, Option, Some, None, ◌∷◌, length, sym, ◌∙◌, ap, subst, arith, is_some}
use Rattle.std.proofs.lemmas.Result.{on_ok_weaker}
use Rattle.asn_bits.specs.Numbers.{bits, padding}
use Rattle.asn_bits.specs.Sink.{bit_of}
use Rattle.asn_bits.proofs.Octets.{length-digits}
use Rattle.asn_bits.proofs.Prefixes.{bool_byte-is}
use Rattle.asn_sinks.proofs.Pushing.{pushed_same}
use Rattle.asn_rules.specs.OctetsWritten.{flagged}
use Rattle.asn_rules.proofs.octet_writer.write_long_flags.Goals.{in-Some+in_ok-push, in_default}
use Rattle.asn_rules.proofs.octet_writer.write_long_flags.Goals as goal

-- how many bits there are
flagged_count : (e : Option Bool) (bs : List ℕ) → bit_of (is_some e) + length bs ≡ length (flagged e bs)
flagged_count None bs = omega arith
flagged_count (Some b) bs = omega arith

pub returns : goal.returns
returns g c =
    let push = g.S.Sink.pushes in
    let old = c.args.sink.now in
    let mid = c.push_number.new.self in
    let new = c.write_filling.new.sink in
    let e = c.args.first in
    let n = c.args.count in
    let bs = bits n c.args.flags in
    let both : push old mid (flagged e bs) = elim c.match-first.branch [
      | in-Some+in_ok-push w ↦
          pushed_same push old mid (ap (λ (o : Option Bool). flagged o bs) (sym w.in-Some.is))
          (g.met.S.Sink.pushes_joined old w.push.new.self mid (bit_of w.in-Some.bit ∷ []) bs w.in_ok-push.ensures
          (subst (λ s. push s mid bs) w.sink-is c.in_ok-push_number.ensures))
      | in_default w ↦
          pushed_same push old mid (ap (λ (o : Option Bool). flagged o bs) (sym w.in_default.is))
          (subst (λ s. push s mid bs) w.sink-is c.in_ok-push_number.ensures)
    ] in
    let front : c.from-front.result ≡ bit_of (is_some e) = c.from-front.ensures ∙ bool_byte-is _ ∙ ap bit_of c.is_some.ensures in
    let count : c.from-front.result + n ≡ length (flagged e bs) = omega (arith, front, flagged_count e bs, length-digits 2 n c.args.flags) in
    on_ok_weaker c.write_filling.result
    (λ w. pushed_same push old new (ap (λ (i : ℕ). flagged e bs ++ padding i) count)
    (g.met.S.Sink.pushes_joined old mid new (flagged e bs) (padding (c.from-front.result + n)) both w))
    c.write_filling.ensures
