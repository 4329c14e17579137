-- The octets are those of the complete encoding.
use Rattle.std.proofs.Common.{◌≡◌, [], length, refl, sym, ap, subst, ◌∙◌, arith}
use Rattle.std.specs.Prelude.{⊤}
use Rattle.asn_values.specs.declared.types.AsnType.{AsnType}
use Rattle.asn_values.specs.Profile.{InProfile}
use Rattle.asn_values.specs.View.{shape_of}
use Rattle.asn_bits.proofs.Splits.{length-unpacked}
use Rattle.asn_bits.specs.Numbers.{packed, unpacked}
use Rattle.asn_sinks.specs.Sink.{Context}
use Rattle.asn_rules.specs.Answer.{IsEncoding}
use Rattle.asn_rules.proofs.Octets.Octetwise.{packed_again}
use Rattle.asn_walk_write.proofs.Levels.{profile_deep}
use Rattle.asn_walk_write.proofs.WriteComplete.{is_encoding}
use Rattle.asn_walk_write.proofs.encoder.write_octets.Goals as goal

pub write_complete-requires-clause-deep : goal.write_complete-requires-clause-deep
write_complete-requires-clause-deep g c =
    let good : InProfile (shape_of c.get-inner.result.now) = rw c.get-inner.ensures.same c.get-inner.ensures.of_profile in
    let d = profile_deep (shape_of c.get-inner.result.now) good in
    omega (arith, d)

pub into_octets-requires : goal.into_octets-requires
into_octets-requires g c =
    let r = g.R.WriteLeaves.rules in
    let os = r.complete (r.code (shape_of c.get-inner.result.now) (g.V.Source.datum c.args.value)) in
    let here : Context ⊤ = record { origin = tt; around = [] } in
    let all : c.write_complete.new.sink ≡ unpacked os = c.in_ok-write_complete.ensures.written here [] refl (λ w. absurd (cc)) c.in_ok-sink.ensures in
    omega (arith, ap length all, length-unpacked os)

pub returns-clause-encoding : goal.returns-clause-encoding
returns-clause-encoding g c =
    let r = g.R.WriteLeaves.rules in
    let t = shape_of c.get-inner.result.now in
    let v = g.V.Source.datum c.args.value in
    let os = r.complete (r.code t v) in
    let here : Context ⊤ = record { origin = tt; around = [] } in
    let all : c.write_complete.new.sink ≡ unpacked os = c.in_ok-write_complete.ensures.written here [] refl (λ w. absurd (cc)) c.in_ok-sink.ensures in
    let good : InProfile (shape_of c.get-inner.result.now) = rw c.get-inner.ensures.same c.get-inner.ensures.of_profile in
    let fits = c.in_ok-write_complete.ensures.of_type in
    let octets = c.keep_open_laws.ensures.octets t v good fits in
    subst (λ (x : AsnType). IsEncoding r.ruling (shape_of x) v c.into_octets.result.items) c.get-inner.ensures.same
    (is_encoding c.keep_write_laws.ensures t v c.into_octets.result.items good fits
    (sym c.into_octets.ensures.packed ∙ ap packed all ∙ packed_again os octets))
