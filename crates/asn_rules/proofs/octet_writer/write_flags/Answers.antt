use Rattle.std.proofs.Common.{◌≡◌, ◌+◌, ◌++◌, List, ◌∷◌, ℕ, Bool, Option, length, sym, ◌∙◌, ap, arith}
use Rattle.std.proofs.lemmas.Result.{on_ok_weaker}
use Rattle.asn_bits.specs.Numbers.{bits, padding}
use Rattle.asn_bits.specs.Sink.{bit_of}
use Rattle.asn_bits.proofs.Octets.{length-digits}
use Rattle.asn_bits.proofs.Prefixes.{bool_byte-is}
use Rattle.asn_sinks.proofs.Pushing.{pushed_same}
use Rattle.asn_rules.specs.OctetsWritten.{filled, flagged}
use Rattle.asn_rules.proofs.Octets.OctetsWritten.{first_fits, first_bits}
use Rattle.asn_rules.proofs.octet_writer.write_flags.Goals as goal

pub write_in_octet-requires-in-Some-clause-fits : goal.write_in_octet-requires-in-Some-clause-fits
write_in_octet-requires-in-Some-clause-fits g c =
    first_fits c.in-Some.bit c.from.result c.args.count c.args.flags (c.from.ensures ∙ bool_byte-is _) c.if-count-lt8.true c.requires.within

pub returns-in-None-2 : goal.returns-in-None-2
returns-in-None-2 g c =
    let n = c.args.count in
    let bs = bits n c.args.flags in
    let e : bs ++ padding n ≡ filled (flagged c.args.first bs) =
    ap (λ (i : ℕ). bs ++ padding i) (sym (length-digits 2 n c.args.flags)) ∙ ap (λ (o : Option Bool). filled (flagged o bs)) (sym c.in-None-2.is) in
    on_ok_weaker c.write_in_octet.result (pushed_same g.S.Sink.pushes c.args.sink.now c.write_in_octet.new.sink e) c.write_in_octet.ensures

pub returns-in-Some : goal.returns-in-Some
returns-in-Some g c =
    let n = c.args.count in
    let b = c.in-Some.bit in
    let bs = bits n c.args.flags in
    let all : bits (1 + n) _ ≡ bit_of b ∷ bs = first_bits b c.from.result n c.args.flags (c.from.ensures ∙ bool_byte-is _) c.if-count-lt8.true c.requires.within in
    let count : 1 + n ≡ length (bit_of b ∷ bs) = omega (arith, length-digits 2 n c.args.flags) in
    on_ok_weaker c.write_in_octet-in-Some.result
    (pushed_same g.S.Sink.pushes c.args.sink.now c.write_in_octet-in-Some.new.sink
    (ap (λ (t : List ℕ). t ++ padding (1 + n)) all ∙ ap (λ (i : ℕ). (bit_of b ∷ bs) ++ padding i) count
    ∙ ap (λ (o : Option Bool). filled (flagged o bs)) (sym c.in-Some.is)))
    c.write_in_octet-in-Some.ensures
