-- A length is read as one of a list that has the counts of what is left.
use Rattle.std.proofs.Common.{◌≡◌, false, subst, sym}
use Rattle.std.proofs.lemmas.Result.{err_from_is_err_and}
use Rattle.asn_walk.specs.Ahead.{Ahead, SomeAhead, lengths}
use Rattle.asn_per.specs.Per.{per_fields}
use Rattle.asn_per.specs.FragmentsAhead.{counts_of, IsBetween, IsWithinProfile}
use Rattle.asn_per.specs.declared.fragments.CountsAhead.{CountsAhead}
use Rattle.asn_per.specs.declared.fragments.Fragments.{Fragments}
use Rattle.asn_per.specs.declared.fragments.Fragments.TheVariants as fragments
use Rattle.asn_per.proofs.InPieces.Counts.{length_stops, last_read, fragment_read, so_far_fits}
use Rattle.asn_per.proofs.fragments.Fragments.next.Goals as goal

-- the list is within the profile
within : {f : Fragments} {n : CountsAhead} → f ≡ fragments.Lengths n → IsBetween f → IsWithinProfile (lengths (counts_of n) 0 false)
within {f} {n} e h = (subst IsBetween e h).1

pub returns-in_err-count-in-Lengths-clause-stop : goal.returns-in_err-count-in-Lengths-clause-stop
returns-in_err-count-in-Lengths-clause-stop c =
    let p = err_from_is_err_and c.from_residual.result c.from_residual.ensures.1 in
    rw (p.1, p.2, c.in-Lengths.is) (length_stops per_fields c.in-Lengths.counts c.lengths-lengths.result c.args.bits.now _ c.lengths-lengths.ensures (c.in_err-count-in-Lengths.ensures.stop per_fields))

pub returns-then-not-more-clause-done : goal.returns-then-not-more-clause-done
returns-then-not-more-clause-done c =
    rw c.in-Lengths.is (record { advances = last_read per_fields c.in-Lengths.counts c.lengths-lengths.result c.read_next_length.new.lengths c.in_ok-count-in-Lengths.count c.args.bits.now c.read_next_length.new.bits c.lengths-lengths.ensures c.in_ok-count-in-Lengths.ensures.done (λ both. (let t = c.more.ensures.fragment.1 both in let f = c.if-not-more.true in absurd (cc))) })

pub after_fragment-requires : goal.after_fragment-requires
after_fragment-requires c =
    let f = fragment_read per_fields c.in-Lengths.counts c.lengths-lengths.result c.read_next_length.new.lengths c.in_ok-count-in-Lengths.count c.args.bits.now c.read_next_length.new.bits c.lengths-lengths.ensures c.in_ok-count-in-Lengths.ensures.done (c.more.ensures.fragment.0 c.if-not-more.false).1 in
    so_far_fits (counts_of c.in-Lengths.counts) c.in-Lengths.counts.so_far c.in_ok-count-in-Lengths.count _ (within c.in-Lengths.is c.requires.between) f.some

pub returns-else-not-more-clause-between : goal.returns-else-not-more-clause-between
returns-else-not-more-clause-between c =
    let f = fragment_read per_fields c.in-Lengths.counts c.lengths-lengths.result c.read_next_length.new.lengths c.in_ok-count-in-Lengths.count c.args.bits.now c.read_next_length.new.bits c.lengths-lengths.ensures c.in_ok-count-in-Lengths.ensures.done (c.more.ensures.fragment.0 c.if-not-more.false).1 in
    subst (λ (a : Ahead). SomeAhead a × IsWithinProfile a) (sym c.after_fragment.ensures) (f.some, within c.in-Lengths.is c.requires.between)

pub returns-else-not-more-clause-done : goal.returns-else-not-more-clause-done
returns-else-not-more-clause-done c =
    let n = c.in_ok-count-in-Lengths.count in
    let f = fragment_read per_fields c.in-Lengths.counts c.lengths-lengths.result c.read_next_length.new.lengths n c.args.bits.now c.read_next_length.new.bits c.lengths-lengths.ensures c.in_ok-count-in-Lengths.ensures.done (c.more.ensures.fragment.0 c.if-not-more.false).1 in
    rw (c.in-Lengths.is, c.after_fragment.ensures) (record { advances = f.reads })
