use Rattle.std.proofs.Common.{◌≡◌, ◌+◌, ◌*◌, ◌⊎◌, inl, inr, nat_lt, ℕ, List, [], ap}
use Rattle.std.proofs.lemmas.Result.{err_from_is_err_and}
use Rattle.asn_bits.specs.LengthBits.{BegunLengths, is_closed}
use Rattle.asn_rules.specs.NextLengths.{LastLength, FragmentLength, NextLength}
use Rattle.asn_rules.proofs.Plain.LengthReading.{fragment_left}
use Rattle.asn_walk.specs.Ahead.{lengths, ReadsLength}
use Rattle.asn_per.specs.Per.{per_fields}
use Rattle.asn_per.specs.RowsAhead.{ahead_of, lengths_of}
use Rattle.asn_per.proofs.sizes.Fragments.next.Goals as goal

-- a length is ahead after the items of a fragment
fragment_ahead : {old new : BegunLengths} {us rest : List ℕ} {n : ℕ} → NextLength old n us rest new → new.bits ≡ [] → ReadsLength per_fields old.counts (16384 * old.blocks) (is_closed old.blocks) n (lengths_of new) us rest
fragment_ahead {old} {new} {us} {rest} {n} h e = go h.read
  where
    go : LastLength old n us rest new ⊎ FragmentLength old n us rest new → ReadsLength per_fields old.counts (16384 * old.blocks) (is_closed old.blocks) n (lengths_of new) us rest
    go (inl l) = absurd (l.ends e)
    go (inr f) =
        let counts : new.counts ≡ old.counts = ap (λ (l : BegunLengths). l.counts) f.goes in
        let left = fragment_left f in
        let items : 16384 * new.blocks ≡ 16384 * old.blocks + n = left.0 in
        let closed : is_closed new.blocks ≡ nat_lt f.blocks 4 = left.1 in
        let same : lengths_of new ≡ lengths old.counts (16384 * old.blocks + n) (nat_lt f.blocks 4) = cc in
        record { read = inr (f.blocks, f.spells per_fields, f.items, same) }

pub returns-in_err-count-in-Lengths-clause-stop : goal.returns-in_err-count-in-Lengths-clause-stop
returns-in_err-count-in-Lengths-clause-stop c =
    let l = c.in-Lengths.lengths in
    let p = err_from_is_err_and c.from_residual.result c.from_residual.ensures.1 in
    rw (p.1, p.2) (record { counts = l.counts; so_far = 16384 * l.blocks; closed = is_closed l.blocks; was = ap ahead_of c.in-Lengths.is; stops = c.in_err-count-in-Lengths.ensures.stop per_fields })

pub returns-else-not-more-clause-done : goal.returns-else-not-more-clause-done
returns-else-not-more-clause-done c =
    let goes_on = c.more.ensures.fragment.0 c.if-not-more.false in
    rw c.in-Lengths.is (record { advances = fragment_ahead c.in_ok-count-in-Lengths.ensures.done goes_on.1 })
