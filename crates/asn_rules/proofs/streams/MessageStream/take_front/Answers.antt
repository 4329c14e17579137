use Rattle.std.proofs.Common.{Ok, Err, refl, subst, ap, ◌∙◌, List, ℕ, ◌++◌}
use Rattle.asn_values.specs.View.{shape_of, datum_of}
use Rattle.asn_rules.specs.Codec.{DecodedFront}
use Rattle.asn_rules.specs.declared.fault.DecodeFault.TheVariants as decode
use Rattle.asn_rules.proofs.FrontMessages.{front_and_rest}
use Rattle.asn_rules.proofs.streams.MessageStream.take_front.Goals as goal

pub advance-requires : goal.advance-requires
advance-requires g c =
    let r = g.R.Rules.ruling in
    let t = shape_of c.args.self.now.ty.now in
    let told : DecodedFront r (Ok c.in-Ok.used) c.decode_front_into.new.value t c.as_slice.result.now = rw c.in-Ok.is at c.decode_front_into.ensures in
    let front : DecodedFront r (Ok c.in-Ok.used) c.decode_front_into.new.value t c.args.self.now.held.items = subst (λ (l : List ℕ). DecodedFront r (Ok c.in-Ok.used) c.decode_front_into.new.value t l) c.as_slice.ensures told in
    (front_and_rest r t c.args.self.now.held.items (datum_of c.decode_front_into.new.value) c.in-Ok.used front).0

pub returns-in-Ok-clause-told : goal.returns-in-Ok-clause-told
returns-in-Ok-clause-told g c =
    let r = g.R.Rules.ruling in
    let t = shape_of c.args.self.now.ty.now in
    let told : DecodedFront r (Ok c.in-Ok.used) c.decode_front_into.new.value t c.as_slice.result.now = rw c.in-Ok.is at c.decode_front_into.ensures in
    let front : DecodedFront r (Ok c.in-Ok.used) c.decode_front_into.new.value t c.args.self.now.held.items = subst (λ (l : List ℕ). DecodedFront r (Ok c.in-Ok.used) c.decode_front_into.new.value t l) c.as_slice.ensures told in
    let parts = (front_and_rest r t c.args.self.now.held.items (datum_of c.decode_front_into.new.value) c.in-Ok.used front).1 in
    (parts.0, parts.1, ap (λ (l : List ℕ). parts.0 ++ l) c.advance.ensures.items ∙ parts.2)

pub returns-in-Err-Refused-clause-told : goal.returns-in-Err-Refused-clause-told
returns-in-Err-Refused-clause-told g c =
    let r = g.R.Rules.ruling in
    let t = shape_of c.args.self.now.ty.now in
    let told : DecodedFront r (Err (decode.Refused c.in-Err-Refused.at c.in-Err-Refused.why)) c.decode_front_into.new.value t c.as_slice.result.now = rw (c.in-Err-Refused.is, c.in-Err-Refused.field-0-is) at c.decode_front_into.ensures in
    (refl, subst (λ (l : List ℕ). DecodedFront r (Err (decode.Refused c.in-Err-Refused.at c.in-Err-Refused.why)) c.decode_front_into.new.value t l) c.as_slice.ensures told, λ none. none)

pub returns-in-Err-TooLong-clause-told : goal.returns-in-Err-TooLong-clause-told
returns-in-Err-TooLong-clause-told g c =
    let r = g.R.Rules.ruling in
    let t = shape_of c.args.self.now.ty.now in
    let told : DecodedFront r (Err decode.TooLong) c.decode_front_into.new.value t c.as_slice.result.now = rw (c.in-Err-TooLong.is, c.in-Err-TooLong.field-0-is) at c.decode_front_into.ensures in
    (refl, subst (λ (l : List ℕ). DecodedFront r (Err decode.TooLong) c.decode_front_into.new.value t l) c.as_slice.ensures told, λ none. none)
