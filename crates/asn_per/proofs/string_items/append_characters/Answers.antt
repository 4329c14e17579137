use Rattle.std.proofs.Common.{◌≡◌, ◌+◌, ◌-◌, ◌++◌, ◌∷◌, [], ap, ◌∙◌, arith}
use Rattle.std.proofs.lemmas.Result.{err_from_is_err_and}
use Rattle.asn_values.specs.View.{alphabet_of}
use Rattle.asn_rules.proofs.Languages.Leads.{stops_by}
use Rattle.asn_per.specs.Kinds.{Character}
use Rattle.asn_per.specs.Reading.{Appends}
use Rattle.asn_per.proofs.Read.Appending.{appends_none, appends_more, appends_one, appends_stops_next}
use Rattle.asn_per.proofs.Types.StringLanguages.{character_lawful}
use Rattle.asn_per.proofs.Read.StringRows.{character_inhabited}
use Rattle.asn_per.proofs.string_items.append_characters.Goals as goal

pub loop-left-init : goal.loop-left-init
loop-left-init c =
    let none : c.args.count - c.args.count ≡ 0 = omega arith in (
      rw none (appends_none (Character (alphabet_of c.args.kind)) c.args.into.now.items c.args.cursor.now),
      omega arith,
    )

pub loop-left-preserved-then-branch : goal.loop-left-preserved-then-branch
loop-left-preserved-then-branch c =
    let inv = c.loop-left.invariant in
    let count = c.args.count in
    let left = c.loop-left.left in
    let many = c.min-many.result in
    let sum : count - left + many ≡ count - (left - many) = omega (arith, inv.1) in (
      appends_more (count - left) many (count - (left - many)) sum inv.0 (c.in_ok-try_append_characters.ensures.taken c.if-branch.true),
      omega (arith, inv.1),
    )

pub returns-in_err-read_character-clause-stop : goal.returns-in_err-read_character-clause-stop
returns-in_err-read_character-clause-stop c =
    let k = alphabet_of c.args.kind in
    let inv = c.loop-left.invariant in
    let count = c.args.count in
    let left = c.loop-left.left in
    let same = c.in_ok-try_append_characters.ensures.not_taken c.if-branch.false in
    let sum : count - left + (left - 1 + 1) ≡ count = omega (arith, inv.1, c.loop-left-test.true) in
    let p = err_from_is_err_and c.from_residual-in_err-read_character.result c.from_residual-in_err-read_character.ensures.1 in
    rw (p.1, p.2)
    (stops_by _ (appends_stops_next (count - left) (left - 1) count (character_lawful k) (character_inhabited k) sum inv.0) (rw same.1 at c.in_err-read_character.ensures.stop))

pub loop-left-preserved : goal.loop-left-preserved
loop-left-preserved c =
    let k = alphabet_of c.args.kind in
    let inv = c.loop-left.invariant in
    let count = c.args.count in
    let left = c.loop-left.left in
    let same = c.in_ok-try_append_characters.ensures.not_taken c.if-branch.false in
    let sum : count - left + 1 ≡ count - (left - 1) = omega (arith, inv.1, c.loop-left-test.true) in
    let one : Appends (Character k) 1 c.loop-left.into.items c.push.new.self.items c.loop-left.cursor c.read_character.new.cursor =
    appends_one (c.in_ok-push.ensures.items ∙ ap (λ l. l ++ c.in_ok-read_character.field-0 ∷ []) same.0) (rw same.1 at c.in_ok-read_character.ensures.done) in (
      appends_more (count - left) 1 (count - (left - 1)) sum inv.0 one,
      omega (arith, inv.1),
    )
