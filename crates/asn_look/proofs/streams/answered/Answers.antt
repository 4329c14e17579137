use Rattle.std.proofs.Common.{◌≡◌, ◌<◌, arith, rules, subst, inr}
use Rattle.asn_rules.specs.Answer.{NoFront}
use Rattle.asn_rules.specs.Sessions.{waiting}
use Rattle.asn_look.proofs.Feeding.{message_done, message_goes_on, message_refused, message_too_long, message_of_none}
use Rattle.asn_look.proofs.streams.answered.Goals as goal

pub returns-in-Ok-Done-clause-known : goal.returns-in-Ok-Done-clause-known
returns-in-Ok-Done-clause-known g c = λ t s some_piece waits.
    let fed = c.in-Ok-Done.ensures.answered t (waiting s) waits.0 in
    let some : 0 < c.in-Ok-Done.used = search rules in
    message_done g.S.Rules.ruling t s c.args.piece.now c.in-Ok-Done.used c.min.result _ (rw c.in-Ok-Done.field-0-is at fed.answered) some c.min.ensures

pub returns-in-Ok-More-clause-known : goal.returns-in-Ok-More-clause-known
returns-in-Ok-More-clause-known g c = λ t s some_piece waits.
    let fed = c.in-Ok-More.ensures.answered t (waiting s) waits.0 in
    let told = rw c.in-Ok-More.field-0-is at fed.answered in
    let octets = message_goes_on g.S.Rules.ruling t s c.args.piece.now told in
    (subst (λ all. g.S.Rules.took c.feed.new.self.inner t (waiting all)) octets (rw c.in-Ok-More.field-0-is at fed.taken), inr (subst (NoFront g.S.Rules.ruling t) octets told.0))

pub returns-in-Ok-Done-2-clause-known : goal.returns-in-Ok-Done-2-clause-known
returns-in-Ok-Done-2-clause-known g c = λ t s some_piece waits.
    let fed = c.in-Ok-Done.ensures.answered t (waiting s) waits.0 in
    let none : c.in-Ok-Done.used ≡ 0 = grind (arith, rules) in
    message_of_none g.S.Rules.ruling t s c.args.piece.now c.in-Ok-Done.used _ some_piece waits.1 (rw c.in-Ok-Done.field-0-is at fed.answered) none

pub returns-in-Err-Refused-clause-known : goal.returns-in-Err-Refused-clause-known
returns-in-Err-Refused-clause-known g c = λ t s some_piece waits.
    let fed = c.in-Err-Refused.ensures.answered t (waiting s) waits.0 in
    message_refused g.S.Rules.ruling t s c.args.piece.now _ some_piece (rw c.in-Err-Refused.field-0-is at fed.answered)

pub returns-in-Err-TooLong-clause-known : goal.returns-in-Err-TooLong-clause-known
returns-in-Err-TooLong-clause-known g c = λ t s some_piece waits.
    let fed = c.in-Err-TooLong.ensures.answered t (waiting s) waits.0 in
    message_too_long g.S.Rules.ruling t s c.args.piece.now some_piece (rw c.in-Err-TooLong.field-0-is at fed.answered)

pub returns-in-Err-Spent-clause-known : goal.returns-in-Err-Spent-clause-known
returns-in-Err-Spent-clause-known g c = λ t s some_piece waits.
    let fed = c.in-Err-Spent.ensures.answered t (waiting s) waits.0 in
    absurd (rw c.in-Err-Spent.field-0-is at fed.answered)
