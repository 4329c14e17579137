use Rattle.std.proofs.Common.{◌<◌, ◌+◌, length, map, sym, arith}
use Rattle.std.proofs.lemmas.Bool.{lt-ltb, eqb-false}
use Rattle.asn_values.specs.Shape.{more_alternatives}
use Rattle.asn_values.specs.Profile.{most_alternatives}
use Rattle.asn_values.specs.View.{alternatives_of, branch_of, more_alternatives_of}
use Rattle.asn_values.proofs.Alternatives.{count-of}
use Rattle.asn_values.proofs.Faultless.{faultless_choice}
use Rattle.asn_values.proofs.NameLists.{names_of_alternatives}
use Rattle.asn_values.proofs.walk.check_choice.Goals as goal
use Rattle.asn_values.proofs.walk.check_choice.Goals.{then-root-gt-MAX_ALTERNATIVES-via-then-root-gt-MAX_ALTERNATIVES, then-root-gt-MAX_ALTERNATIVES-via-else-root-gt-MAX_ALTERNATIVES+then-root-added}

pub returns-then-are_bad-clause-fault : goal.returns-then-are_bad-clause-fault
returns-then-are_bad-clause-fault c =
    sym (rw (names_of_alternatives c.args.root.now c.of_choice-added.result.now (more_alternatives (more_alternatives_of c.args.ext.now)) c.of_choice-added.ensures) at c.if-are_bad.ensures)

pub returns-then-root-gt-MAX_ALTERNATIVES-clause-fault : goal.returns-then-root-gt-MAX_ALTERNATIVES-clause-fault
returns-then-root-gt-MAX_ALTERNATIVES-clause-fault c =
    let many : most_alternatives < length c.args.root.now + length c.of_choice-added.result.now =
    elim c.then-root-gt-MAX_ALTERNATIVES.branch [
      | then-root-gt-MAX_ALTERNATIVES-via-then-root-gt-MAX_ALTERNATIVES w ↦ omega arith
      | then-root-gt-MAX_ALTERNATIVES-via-else-root-gt-MAX_ALTERNATIVES+then-root-added w ↦ omega arith
    ] in
    rw (← c.of_choice-added.ensures, count-of c.args.root.now, count-of c.of_choice-added.result.now) (lt-ltb most_alternatives _ many)

pub returns-clause-faultless : goal.returns-clause-faultless
returns-clause-faultless c =
    faultless_choice (alternatives_of (map branch_of c.args.root.now)) (more_alternatives_of c.args.ext.now)
    (rw (count-of c.args.root.now) (omega (arith, eqb-false (length c.args.root.now) 0 (sym c.if-is_empty.ensures))))
    (sym (rw (names_of_alternatives c.args.root.now c.of_choice-added.result.now (more_alternatives (more_alternatives_of c.args.ext.now)) c.of_choice-added.ensures) at c.if-are_bad.ensures))
    (rw (← c.of_choice-added.ensures, count-of c.args.root.now, count-of c.of_choice-added.result.now) (omega arith))
