use Rattle.std.proofs.Common.{rules, ◌≡◌, Some, ℕ, ap, ◌∙◌, sym}
use Rattle.asn_values.specs.Fits.{FitsNumber}
use Rattle.asn_values.specs.Profile.{highest_of}
use Rattle.asn_bits.proofs.Above.{kept}
use Rattle.asn_rules.proofs.integer_sets.numbers_of.Goals as goal
use Rattle.asn_rules.proofs.integer_sets.numbers_of.Goals.{in-Some, in-None}
use Rattle.asn_rules.specs.IntegerSets.{unmarked}
use Rattle.asn_rules.proofs.Plain.IntegerSets.{numbers_are, magnitudes, low_inside, high_is, high_inside, high_from_zero, within_from_zero, magnitude_kept}

pub overflow_cast-result : goal.overflow_cast-result
overflow_cast-result c =
    let l = low_inside (Some c.args.low) c.args.high c.requires.of_profile in
    let e = kept c.args.low l.0 l.1 in
    rw e (search rules)

pub overflow_cast-result-2 : goal.overflow_cast-result-2
overflow_cast-result-2 c =
    let z = highest_of c.args.high in
    let l = high_inside (Some c.args.low) c.args.high c.requires.of_profile in
    let from = high_from_zero c.args.low c.args.high c.requires.of_profile c.requires.from_zero in
    let same : c.unwrap_or.result ≡ z = c.unwrap_or.ensures ∙ high_is c.args.high in
    let e = kept z l.0 l.1 in
    rw (same, e) (search rules)

pub returns : goal.returns
returns c =
    let l = low_inside (Some c.args.low) c.args.high c.requires.of_profile in
    let h = high_inside (Some c.args.low) c.args.high c.requires.of_profile in
    let from = high_from_zero c.args.low c.args.high c.requires.of_profile c.requires.from_zero in
    let same : c.unwrap_or.result ≡ highest_of c.args.high = c.unwrap_or.ensures ∙ high_is c.args.high in
    let low_same = magnitude_kept c.args.low c.requires.from_zero l.1 in
    let high_same = magnitude_kept (highest_of c.args.high) from h.1 in
    let out : c.match-excluded.left_out ≡ magnitudes c.args.excluded = elim c.match-excluded.branch [
      | in-Some w ↦
          let d = w.in-Some.number in
          let f : FitsNumber (unmarked (Some c.args.low) c.args.high) d = (rw w.in-Some.is at c.requires.within).0 in
          let d_from = within_from_zero c.args.low c.args.high c.requires.of_profile c.requires.from_zero d f in
          w.left_out-is ∙ ap (λ (n : ℕ). Some n) (magnitude_kept d d_from f.1) ∙ sym (ap magnitudes w.in-Some.is)
      | in-None w ↦ w.left_out-is ∙ sym (ap magnitudes w.in-None.is)
    ] in
    let w = numbers_are c.args.excluded c.args.low c.args.high c.requires.of_profile c.requires.from_zero c.requires.within in
    rw (low_same, same, high_same, out) w
