use Rattle.std.proofs.Common.{◌≡◌, false, Ok, Err}
use Rattle.asn_values.specs.Profile.{InProfile}
use Rattle.asn_constrained.specs.Under.{DecodedUnder}
use Rattle.asn_containing.specs.View.{type_of}
use Rattle.asn_containing.specs.Judged.{is_memory}
use Rattle.asn_containing.proofs.Encodings.{decoded_only, no_encoding}
use Rattle.asn_containing.proofs.judging.content_value.Goals as goal

pub returns-in-Ok : goal.returns-in-Ok
returns-in-Ok g c =
    let e = type_of c.args.ty.now in
    let good : InProfile e.shape = rw c.ty.ensures at c.get-of_profile.ensures.of_profile in
    let decoded : DecodedUnder g.R.Rules.ruling e.constraint (Ok c.in-Ok.value) e.shape c.args.octets.now = rw c.in-Ok.is at c.decode.ensures in
    decoded_only g.R.Rules.ruling e c.in-Ok.value c.args.octets.now c.keep_laws.ensures.laws good decoded

pub returns-else-is_memory : goal.returns-else-is_memory
returns-else-is_memory g c =
    let e = type_of c.args.ty.now in
    let good : InProfile e.shape = rw c.ty.ensures at c.get-of_profile.ensures.of_profile in
    let decoded : DecodedUnder g.R.Rules.ruling e.constraint (Err c.in-Err.fault) e.shape c.args.octets.now = rw c.in-Err.is at c.decode.ensures in
    let other : is_memory c.in-Err.fault ≡ false = cc in
    no_encoding g.R.Rules.ruling e c.args.octets.now c.in-Err.fault c.keep_laws.ensures.laws good c.are_octets.ensures other decoded
