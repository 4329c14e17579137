-- The ends without the bits after them are compared with the bits read so far.
use Rattle.std.proofs.Common.{◌≡◌, ℕ, List, get_or, take, refl, sym, subst, arith}
use Rattle.std.proofs.lemmas.Bool.{true≢false}
use Rattle.asn_bits.specs.Sets.{Among, Meets}
use Rattle.asn_bits.proofs.Unions.{low_shifted, high_shifted, touches_at, touches_after, touches_none, touches_meets, meets_touches}
use Rattle.asn_bits.proofs.intervals.Intervals.meets.Goals as goal
use Rattle.asn_bits.proofs.intervals.Intervals.meets.Goals.{else-low-left-via-then-low-left+else-prefix-high, else-low-left-via-else-low-left}

pub returns-then-prefix-high : goal.returns-then-prefix-high
returns-then-prefix-high c =
    let is = take c.self.inside.count c.self.inside.ends in
    let i = c.loop-low.low-index in
    let v : is ≡ c.args.self.now = c.self.view_is in
    let e = get_or is i (0, 0) in
    let t = touches_at 2 c.args.prefix c.args.left is i (0, 0) c.loop-low-test.true ((high_shifted e.1 c.args.prefix c.args.left).0 c.if-prefix-high.true) ((low_shifted e.0 c.args.prefix c.args.left).0 c.if-low-left.true) in
    (λ _. subst (λ (l : List (ℕ × ℕ)). Meets (λ n. Among l n) c.args.prefix c.args.left) v (touches_meets {base = 2} {p = c.args.prefix} {r = c.args.left} is c.self.invariant.1 t), λ _. refl)

pub loop-low-preserved : goal.loop-low-preserved
loop-low-preserved c t =
    let is = take c.self.inside.count c.self.inside.ends in
    let i = c.loop-low.low-index in
    let e = get_or is i (0, 0) in
    touches_after 2 c.args.prefix c.args.left is i (0, 0) c.loop-low-test.true (c.loop-low.invariant t)
    (λ high low. elim c.else-low-left.branch [
      | else-low-left-via-then-low-left+else-prefix-high w ↦ absurd (let h = (high_shifted e.1 c.args.prefix c.args.left).1 high in omega (arith, h, w.if-prefix-high.false))
      | else-low-left-via-else-low-left w ↦ absurd (let h = (low_shifted e.0 c.args.prefix c.args.left).1 low in omega (arith, h, w.if-low-left.false))
    ])

pub returns : goal.returns
returns c =
    let is = take c.self.inside.count c.self.inside.ends in
    (λ e. absurd (true≢false (sym e)), λ m. absurd (touches_none 2 c.args.prefix c.args.left is c.loop-low.low-index c.loop-low-test.false (c.loop-low.invariant (meets_touches c.args.self.now m))))
