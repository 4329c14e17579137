use Rattle.std.proofs.Common.{◌≡◌, ◌+◌, ◌-◌, ◌^◌, arith}
use Rattle.std.proofs.lemmas.Nat.{pow_pos}
use Rattle.std.proofs.lemmas.Result.{err_from_is_err_and}
use Rattle.asn_rules.proofs.Languages.Leads.{Leads, stops_by}
use Rattle.asn_walk.specs.Coding.{PreambleOf}
use Rattle.asn_walk.specs.Views.{preamble_seen}
use Rattle.asn_per.specs.Per.{per_fields}
use Rattle.asn_per.specs.Rules.{per_ruling}
use Rattle.asn_per.specs.Walk.{per_coding}
use Rattle.asn_per.proofs.Read.PreambleReading.{Bitmaps, some_listed, unmarked_leads, mark_stops, marked_leads, marked_preamble}
use Rattle.asn_per.proofs.read_leaves.PerReadLeaves.read_preamble.Goals as goal
use Rattle.asn_per.proofs.read_leaves.PerReadLeaves.read_preamble.Goals.{in-None, in-Some-additions+in_ok-extended-in-Some-additions}

pub returns-in-Some-clause-done : goal.returns-in-Some-clause-done
unfolding per_coding per_ruling
returns-in-Some-clause-done c =
    marked_preamble c.args.count c.args.additions (preamble_seen c.in-Some.preamble) c.args.units.now c.try_marked_preamble.new.bits c.in-Some.ensures.some

pub returns-in_err-extended-in-Some-additions-clause-stop : goal.returns-in_err-extended-in-Some-additions-clause-stop
unfolding per_coding per_ruling
returns-in_err-extended-in-Some-additions-clause-stop c =
    let p = err_from_is_err_and c.from_residual.result c.from_residual.ensures.1 in
    let some : 2 ^ c.args.count - 1 + 1 ≡ 2 ^ c.args.count = omega (arith, pow_pos c.args.count) in
    rw (← c.in_default.ensures.none, p.1, p.2, c.in-Some-additions.is) (mark_stops c.args.count (2 ^ c.args.count - 1) some c.in-Some-additions.listed c.try_marked_preamble.new.bits _ c.in_err-extended-in-Some-additions.ensures.stop)

pub returns-in_err-bitmap-clause-stop : goal.returns-in_err-bitmap-clause-stop
unfolding per_coding per_ruling
returns-in_err-bitmap-clause-stop c =
    let lead : Leads per_fields (Bitmaps c.args.count c.greatest_of_width.result c.greatest_of_width.ensures) c.match-additions.units (λ m. (c.match-additions.extended, m)) (PreambleOf per_coding c.args.count c.args.additions) c.try_marked_preamble.new.bits = elim c.match-additions.branch [
      | in-None w ↦ rw (w.units-is, w.extended-is, w.in-None.is) (unmarked_leads c.args.count c.greatest_of_width.result c.greatest_of_width.ensures c.try_marked_preamble.new.bits)
      | in-Some-additions+in_ok-extended-in-Some-additions w ↦
          let mark = w.in_ok-extended-in-Some-additions.ensures.done in
          rw (w.units-is, w.extended-is, w.in-Some-additions.is) (marked_leads c.args.count c.greatest_of_width.result c.greatest_of_width.ensures w.in-Some-additions.listed _ c.try_marked_preamble.new.bits w.read_extension_bit.new.bits mark.0 (λ e. some_listed w.in-Some-additions.listed (mark.1 e)))
    ] in
    let p = err_from_is_err_and c.from_residual-in_err-bitmap.result c.from_residual-in_err-bitmap.ensures.1 in
    rw (← c.in_default.ensures.none, p.1, p.2) (stops_by _ lead.stops (c.in_err-bitmap.ensures.stop per_fields))

pub returns-clause-done : goal.returns-clause-done
unfolding per_coding per_ruling
returns-clause-done c =
    let lead : Leads per_fields (Bitmaps c.args.count c.greatest_of_width.result c.greatest_of_width.ensures) c.match-additions.units (λ m. (c.match-additions.extended, m)) (PreambleOf per_coding c.args.count c.args.additions) c.try_marked_preamble.new.bits = elim c.match-additions.branch [
      | in-None w ↦ rw (w.units-is, w.extended-is, w.in-None.is) (unmarked_leads c.args.count c.greatest_of_width.result c.greatest_of_width.ensures c.try_marked_preamble.new.bits)
      | in-Some-additions+in_ok-extended-in-Some-additions w ↦
          let mark = w.in_ok-extended-in-Some-additions.ensures.done in
          rw (w.units-is, w.extended-is, w.in-Some-additions.is) (marked_leads c.args.count c.greatest_of_width.result c.greatest_of_width.ensures w.in-Some-additions.listed _ c.try_marked_preamble.new.bits w.read_extension_bit.new.bits mark.0 (λ e. some_listed w.in-Some-additions.listed (mark.1 e)))
    ] in
    rw (← c.in_default.ensures.none) (lead.done c.in_ok-bitmap.bitmap c.read_up_to.new.bits (c.in_ok-bitmap.ensures.done per_fields))
