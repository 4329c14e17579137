-- The octets that were counted.
use Rattle.std.proofs.Common.{◌≡◌, ◌-◌, ◌^◌, min, [], length, refl, arith}
use Rattle.std.specs.Prelude.{⊤}
use Rattle.asn_values.specs.View.{shape_of}
use Rattle.asn_bits.proofs.Splits.{length-unpacked}
use Rattle.asn_bits.specs.Numbers.{unpacked}
use Rattle.asn_sinks.specs.Sink.{Context}
use Rattle.asn_sinks.specs.Measures.{counted_bits}
use Rattle.asn_walk_write.proofs.Levels.{profile_deep}
use Rattle.asn_walk_write.proofs.lengths.measure.Goals as goal

pub write_complete-requires-clause-deep : goal.write_complete-requires-clause-deep
write_complete-requires-clause-deep g c = (let d = profile_deep (shape_of c.args.ty.now) c.requires.of_profile in omega (arith, d))

pub returns-in-Ok-clause-some : goal.returns-in-Ok-clause-some
returns-in-Ok-clause-some g c =
    let r = g.R.WriteLeaves.rules in
    let os = r.complete (r.code (shape_of c.args.ty.now) (g.V.Source.datum c.args.value)) in
    let here : Context ⊤ = record { origin = tt; around = [] } in
    let all : counted_bits c.write_complete.new.sink ≡ min (length (unpacked os)) (2 ^ 64 - 1) =
    c.in-Ok.ensures.written here [] refl (λ w. absurd (cc)) c.new-measure.ensures in
    omega (arith, all, c.bits.ensures, length-unpacked os)
