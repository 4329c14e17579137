-- The zeros that fill up octets, or an octet of them.
use Rattle.std.proofs.Common.{◌≡◌, ◌++◌, ℕ, List, [], ◌∷◌, true, length, refl, sym, subst}
use Rattle.std.proofs.lemmas.Result.{on_ok_weaker}
use Rattle.asn_sinks.specs.Sink.{filling}
use Rattle.asn_rules.specs.Chunks.{flat}
use Rattle.asn_per.specs.Per as per
use Rattle.asn_per.specs.Rules.{per_ruling}
use Rattle.asn_per.specs.Walk.{per_coding}
use Rattle.asn_per.proofs.write_leaves.PerWriteLeaves.complete.Goals as goal

-- what fills up these bits
same_filling : (bs : List ℕ) → filling true bs ≡ per.filling (length bs)
same_filling [] = refl
same_filling (b ∷ bs) = refl

pub returns : goal.returns
unfolding per_coding per_ruling
returns g c =
    on_ok_weaker c.fill.result
    (λ fills t d good fits k coming at.
    let bs = flat per.spelled (per.per t d) in
    subst (λ (x : List ℕ). g.S.Sink.stands c.fill.new.self k (bs ++ x) coming) (same_filling bs)
    (fills k bs coming (subst (λ (x : List ℕ). g.S.Sink.stands c.args.sink.now k bs (x ++ coming)) (sym (same_filling bs)) at)))
    c.fill.ensures
