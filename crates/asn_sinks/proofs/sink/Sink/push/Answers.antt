-- A truth value as a number is its bit.
use Rattle.std.proofs.Common.{◌≡◌, Bool, true, false, [], ◌∷◌, refl}
use Rattle.std.specs.Int.{from_bool}
use Rattle.asn_bits.specs.Numbers.{bits}
use Rattle.asn_bits.specs.Sink.{bit_of}
use Rattle.asn_sinks.proofs.Pushing.{pushed_same, on_ok}
use Rattle.asn_sinks.proofs.sink.Sink.push.Goals as goal

one_bit : (b : Bool) → bits 1 (from_bool b) ≡ bit_of b ∷ []
one_bit true = refl
one_bit false = refl

pub returns : goal.returns
returns g c = on_ok c.push_number.result (pushed_same g.Self.Sink.pushes c.args.self.now c.push_number.new.self (one_bit c.args.bit)) c.push_number.ensures
