use Rattle.std.proofs.Common.{◌≡◌, [], ℕ, false, Option, Some, None, is_some, refl, sym, ap, subst, ◌∙◌, append-nil, arith}
use Rattle.std.proofs.lemmas.Bool.{true≢false}
use Rattle.asn_values.specs.Datum.{components, components_of}
use Rattle.asn_values.specs.Profile.{InProfile}
use Rattle.asn_values.specs.Shape.{sequence, more_fields, no_fields}
use Rattle.asn_values.proofs.Parts.{components_of_profile}
use Rattle.asn_rules.specs.Languages.{Spells}
use Rattle.asn_rules.specs.Listed.{Spelt, bitmap_length}
use Rattle.asn_walk.specs.Coding.{absent_entries, added}
use Rattle.asn_walk.specs.Views.{preamble_seen}
use Rattle.asn_plan.specs.Words.{before}
use Rattle.asn_plan.proofs.Building.{no_additions, sequence_read}
use Rattle.asn_plan.proofs.NodeKinds.{sequence_is}
use Rattle.asn_plan.proofs.packed.build_row.Goals as goal

none_of : (o : Option ℕ) → is_some o ≡ false → None ≡ o
none_of None e = refl
none_of (Some n) e = absurd (true≢false e)

pub returns-clause-some : goal.returns-clause-some
returns-clause-some g c t good plan =
    let r = g.R.ReadLeaves.rules in
    let us = r.to_units c.args.units.now in
    let rows = c.args.rows.now in
    let q = sequence_is c.args.nodes.now t rows plan in
    let inside : InProfile (sequence q.root q.more) = rw q.is at good in
    let zero : 0 ≡ bitmap_length q.root = omega (arith, c.if-rows-gt0.false, q.width) in
    let alone : None ≡ added q.more = none_of rows.additions (sym c.is_some.ensures ∙ c.if-is_some.false) ∙ q.additions in
    let es = c.in_ok-entries.ensures.some q.root (components_of_profile q.root q.more inside) q.plans zero in
    let closed : more_fields q.more ≡ no_fields = no_additions _ c.args.nodes.now rows.middle rows.end q.more (omega (arith, c.if-rows-2.false)) q.others in
    let first = before r c.args.word.now us in
    let mid = before r c.next_preamble.new.word us in
    let last = before r c.build_numbers.new.word (r.to_units c.build_numbers.new.units) in
    let read = sequence_read r c.keep_laws.ensures q.root q.more inside 0 None zero alone (preamble_seen c.in_ok-preamble.preamble) first mid last (c.in_ok-preamble.ensures.some us) es.entries es.read c.if-preamble.false [] (ap absent_entries (sym closed)) in
    let whole = subst (λ l. Spells r.ruling.fielding (Spelt r.code None (sequence q.root q.more)) (components (components_of l)) first last) (append-nil es.entries) read in
    rw q.is (record { value = components (components_of es.entries); of_value = c.in_ok-part.ensures c.args.room.now es.entries es.of_entries; read = whole })
