use Rattle.std.proofs.Common.{[], refl, sym, append-nil}
use Rattle.asn_bits.specs.Sets.{Among}
use Rattle.asn_rules.proofs.Numbers.Sets.{Giving}
use Rattle.asn_rules.proofs.Plain.NumberSets.{number_waits}
use Rattle.asn_rules.proofs.number_reader.read_slowly.Goals as goal

pub returns-then-is_cut-clause-stop : goal.returns-then-is_cut-clause-stop
returns-then-is_cut-clause-stop c R =
    let us = c.args.bits.now in
    let h = c.is_cut.ensures c.if-is_cut.true in
    let g : Giving c.args.k (λ n. Among c.args.numbers.now n) us [] us = record { split = sym (append-nil us); some = h.0; begins = h.1 } in
    record { told = number_waits R g refl }

pub read_number_by_bits-requires-clause-some : goal.read_number_by_bits-requires-clause-some
read_number_by_bits-requires-clause-some c = rw c.copied.ensures c.requires.some

pub returns-clause-done : goal.returns-clause-done
returns-clause-done c = rw c.copied.ensures at c.read_number_by_bits.ensures.done

pub returns-clause-member : goal.returns-clause-member
returns-clause-member c = rw c.copied.ensures at c.read_number_by_bits.ensures.member

pub returns-clause-stop : goal.returns-clause-stop
returns-clause-stop c = rw c.copied.ensures at c.read_number_by_bits.ensures.stop
