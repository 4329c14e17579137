-- What stands in front of a list, with an extension bit and without one.
use Rattle.std.proofs.Common.{◌≡◌, ◌∷◌, ℕ, false, refl, subst, sym, ap, ◌∙◌, arith}
use Rattle.std.proofs.lemmas.Result.{IfOk-weaker, IfErr-weaker}
use Rattle.asn_values.specs.View.{size_range_of}
use Rattle.asn_rules.specs.Languages.{Spells}
use Rattle.asn_rules.specs.Stops.{Stops}
use Rattle.asn_rules.specs.declared.stop.Stop.TheVariants as stop
use Rattle.asn_rules.proofs.Languages.Leads.{stops_by}
use Rattle.asn_per.specs.ListsAhead.{RootStart, other_counts}
use Rattle.asn_per.specs.Per.{per_fields}
use Rattle.asn_per.proofs.Read.ListsAhead.{low_small, mark_stops, mark_zero, mark_one, start_some}
use Rattle.asn_walk.specs.Ahead.{Ahead, SomeAhead, lengths}
use Rattle.asn_per.specs.FragmentsAhead.{ahead_of, IsWithinProfile}
use Rattle.asn_per.proofs.InPieces.Counts.{other_within}
use Rattle.asn_per.proofs.fragments.Fragments.start.Goals as goal

pub returns-in_default-clause-stop : goal.returns-in_default-clause-stop
returns-in_default-clause-stop c =
    let s = c.args.size.now in
    mark_stops s.low s.high s.ext c.args.bits.now stop.Short c.if-not-size.false (c.in_default.ensures.none.0 refl)

pub returns-then-bit-eq1-clause-done : goal.returns-then-bit-eq1-clause-done
returns-then-bit-eq1-clause-done c =
    let s = c.args.size.now in
    let us : c.args.bits.now ≡ 1 ∷ c.next.new.self = c.in-Some.ensures.some ∙ ap (λ (b : ℕ). b ∷ c.next.new.self) c.if-bit-eq1.true in
    rw c.other_counts.ensures.counts (mark_one s.low s.high s.ext c.args.bits.now c.next.new.self c.if-not-size.false us)

pub returns-then-bit-eq1-clause-between : goal.returns-then-bit-eq1-clause-between
returns-then-bit-eq1-clause-between c =
    let s = c.args.size.now in
    let us : c.args.bits.now ≡ 1 ∷ c.next.new.self = c.in-Some.ensures.some ∙ ap (λ (b : ℕ). b ∷ c.next.new.self) c.if-bit-eq1.true in
    let h = mark_one s.low s.high s.ext c.args.bits.now c.next.new.self c.if-not-size.false us in
    subst (λ (a : Ahead). SomeAhead a × IsWithinProfile a) (sym c.other_counts.ensures.counts)
    (start_some (size_range_of s) c.requires.of_profile (lengths (other_counts s.low s.high) 0 false) h.chunks h.spelt, other_within s.low s.high (low_small s.low s.high s.ext c.requires.of_profile))

pub returns-clause-done : goal.returns-clause-done
returns-clause-done c =
    let s = c.args.size.now in
    let new = c.next.new.self in
    let zero : c.in-Some.bit ≡ 0 = omega (arith, c.in-Some.ensures.bit, c.if-bit-eq1.false) in
    let us : c.args.bits.now ≡ 0 ∷ new = c.in-Some.ensures.some ∙ ap (λ (b : ℕ). b ∷ new) zero in
    IfOk-weaker c.read_root_start-2.result (λ f. Spells per_fields (RootStart s.low s.high) (ahead_of f) new c.read_root_start-2.new.bits) _
    (λ f h. (mark_zero s.low s.high s.ext c.args.bits.now new c.if-not-size.false us).done (ahead_of f) c.read_root_start-2.new.bits h) c.read_root_start-2.ensures.done

pub returns-clause-stop : goal.returns-clause-stop
returns-clause-stop c =
    let s = c.args.size.now in
    let new = c.next.new.self in
    let zero : c.in-Some.bit ≡ 0 = omega (arith, c.in-Some.ensures.bit, c.if-bit-eq1.false) in
    let us : c.args.bits.now ≡ 0 ∷ new = c.in-Some.ensures.some ∙ ap (λ (b : ℕ). b ∷ new) zero in
    IfErr-weaker c.read_root_start-2.result (λ why. Stops per_fields (RootStart s.low s.high) new why) _
    (λ why h. stops_by why (mark_zero s.low s.high s.ext c.args.bits.now new c.if-not-size.false us).stops h) c.read_root_start-2.ensures.stop
