-- A level passes on what it takes, and adds a length determinant where one is due.
use Rattle.std.proofs.Common.{◌≡◌, ◌<◌, ◌++◌, ◌+◌, ◌-◌, ◌/◌, ◌^◌, ℕ, suc, List, sym, refl, ap, subst, ◌∙◌, arith, length, rules, set}
use Rattle.std.specs.Prelude.{slice_index}
use Rattle.std.proofs.lemmas.List.{get_or-set_same, get_or-set_other}
use Rattle.std.proofs.lemmas.Nat.{shr_below}
use Rattle.asn_bits.specs.LengthBits.{first_length}
use Rattle.asn_bits.specs.Numbers.{bits}
use Rattle.asn_bits.proofs.Octets.{length-digits}
use Rattle.asn_window.specs.declared.fragments.Fragments.{Fragments}
use Rattle.asn_window.specs.Fragmented.{next_left}
use Rattle.asn_window.specs.Fragmented.{Comes}
use Rattle.asn_window.specs.BitWriters.{BitsStand}
use Rattle.asn_window.proofs.FieldSteps.{Step, IsSameBelow, base_step, pass_step, part_step, over_step}
use Rattle.asn_window.proofs.Shifting.{bits-cut}
use Rattle.asn_window.proofs.fragments.+put_at.Goals as goal

pub returns-then-level-eq0-clause-told : goal.returns-then-level-eq0-clause-told
returns-then-level-eq0-clause-told g t c start around r all come =
    let f = c.args.fragments.now in
    let was : List ℕ → Type 0 = λ b. BitsStand start (g.O.Output.held c.args.output.now) c.args.writer.now b all in
    let now : List ℕ → Type 0 = λ b. BitsStand start (g.O.Output.held c.put.new.output) c.put.new.self b all in
    subst (λ l. Comes now f l around r) (sym c.if-level-eq0.true)
    (base_step was now f f (bits c.args.k c.args.n) (λ b h. c.put.ensures start b all h) around r
    (subst (λ l. Comes was f l around (bits c.args.k c.args.n ++ r)) c.if-level-eq0.true come))

pub returns-then-left-eq0-clause-told : goal.returns-then-left-eq0-clause-told
returns-then-left-eq0-clause-told g t c start around r all come =
    let f = c.args.fragments.now in
    let at = c.args.level - 1 in
    let up : c.args.level ≡ suc at = omega (arith, c.if-level-eq0.false) in
    let same = c.put_at.ensures.same in
    let was : List ℕ → Type 0 = λ b. BitsStand start (g.O.Output.held c.args.output.now) c.args.writer.now b all in
    let now : List ℕ → Type 0 = λ b. BitsStand start (g.O.Output.held c.put_at.new.output) c.put_at.new.writer b all in
    subst (λ l. Comes now c.put_at.new.fragments l around r) (sym up)
    (pass_step was now f c.put_at.new.fragments at (bits c.args.k c.args.n) c.if-left-eq0.true (same.left at (omega arith)) (same.after at (omega arith))
    (λ others rest. c.put_at.ensures.told start others rest all) around r
    (subst (λ l. Comes was f l around (bits c.args.k c.args.n ++ r)) up come))

pub returns-then-k-left-clause-told : goal.returns-then-k-left-clause-told
returns-then-k-left-clause-told g t c start around r all come =
    let f = c.args.fragments.now in
    let at = c.args.level - 1 in
    let k = c.args.k in
    let left = slice_index f.left at in
    let up : c.args.level ≡ suc at = omega (arith, c.if-level-eq0.false) in
    let same = c.put_at-then-k-left.ensures.same in
    let mid : Fragments = record f { left = set f.left at (left - k) } in
    let long : length (bits k c.args.n) ≡ k = length-digits 2 k c.args.n in
    let was : List ℕ → Type 0 = λ b. BitsStand start (g.O.Output.held c.args.output.now) c.args.writer.now b all in
    let now : List ℕ → Type 0 = λ b. BitsStand start (g.O.Output.held c.put_at-then-k-left.new.output) c.put_at-then-k-left.new.writer b all in
    let below : IsSameBelow at f mid = record { left = λ j h. get_or-set_other f.left at j (left - k) 0 (λ e. absurd (omega (arith, h, e))); after = λ j h. refl } in
    let here : slice_index c.put_at-then-k-left.new.fragments.left at ≡ left - length (bits k c.args.n) =
    same.left at (omega arith) ∙ get_or-set_same f.left at (left - k) 0 (omega (arith, c.requires.inside, c.if-level-eq0.false)) ∙ ap (λ i. left - i) (sym long) in
    subst (λ l. Comes now c.put_at-then-k-left.new.fragments l around r) (sym up)
    (part_step was now f mid c.put_at-then-k-left.new.fragments at (bits k c.args.n) (omega (arith, long, c.if-k-left.true)) here (same.after at (omega arith)) below
    (λ others rest. c.put_at-then-k-left.ensures.told start others rest all) around r
    (subst (λ l. Comes was f l around (bits k c.args.n ++ r)) up come))

pub put_at-requires-2 : goal.put_at-requires-2
put_at-requires-2 g t c κs within =
    let left = slice_index c.args.fragments.now.left (c.args.level - 1) in
    let e : c.args.k ≡ left + (c.args.k - left) = omega (arith, c.if-k-left.false) in
    let fits = shr_below c.args.n left (c.args.k - left) (subst (λ i. c.args.n < 2 ^ i) e c.requires.fits) in
    search (rules, arith, fits)

pub returns-clause-told : goal.returns-clause-told
returns-clause-told g t c start around r all come =
    let f0 = c.args.fragments.now in
    let f1 = c.put_at-2.new.fragments in
    let f2 = c.put_at-3.new.fragments in
    let f4 = c.put_at-4.new.fragments in
    let at = c.args.level - 1 in
    let k = c.args.k in
    let n = c.args.n in
    let left = slice_index f0.left at in
    let after = slice_index f0.after at in
    let others = k - left in
    let up : c.args.level ≡ suc at = omega (arith, c.if-level-eq0.false) in
    let items = c.next_length-count.result.2 in
    let same_after : slice_index f1.after at ≡ after = c.put_at-2.ensures.same.after at (omega arith) in
    let first : items ≡ (first_length after).items = c.next_length-count.ensures.items ∙ ap (λ m. (first_length m).items) same_after in
    let header : bits c.next_length-count.result.0 c.next_length-count.result.1 ≡ (first_length after).bits =
    c.next_length-count.ensures.bits ∙ ap (λ m. (first_length m).bits) same_after in
    let f3 : Fragments = record { left = set f2.left at c.left_after.result; after = set f2.after at (slice_index f2.after at - items) } in
    let whole : k ≡ left + others = omega (arith, c.if-k-left.false) in
    let front = bits left (n / 2 ^ others) in
    let back = bits others c.low_bits.result in
    let cut : bits k n ≡ front ++ back = ap (λ i. bits i n) whole ∙ bits-cut left others n ∙ ap (λ m. front ++ bits others m) (sym c.low_bits.ensures.same) in
    let some : 0 < left = omega (arith, c.if-left-eq0.false) in
    let few : length back < 64 = omega (arith, length-digits 2 others c.low_bits.result, some, c.requires.few) in
    let b0 : List ℕ → Type 0 = λ b. BitsStand start (g.O.Output.held c.args.output.now) c.args.writer.now b all in
    let b1 : List ℕ → Type 0 = λ b. BitsStand start (g.O.Output.held c.put_at-2.new.output) c.put_at-2.new.writer b all in
    let b2 : List ℕ → Type 0 = λ b. BitsStand start (g.O.Output.held c.put_at-3.new.output) c.put_at-3.new.writer b all in
    let b3 : List ℕ → Type 0 = λ b. BitsStand start (g.O.Output.held c.put_at-4.new.output) c.put_at-4.new.writer b all in
    let one = c.put_at-2.ensures.same in
    let two = c.put_at-3.ensures.same in
    let inside : at < length f2.left = omega (arith, c.requires.inside, c.if-level-eq0.false, two.long_left, one.long_left) in
    let long : length f2.after ≡ length f2.left = two.long_after ∙ one.long_after ∙ c.requires.long ∙ sym one.long_left ∙ sym two.long_left in
    let below : IsSameBelow at f2 f3 = record {
      left = λ j h. get_or-set_other f2.left at j c.left_after.result 0 (λ e. absurd (omega (arith, h, e)));
      after = λ j h. get_or-set_other f2.after at j (slice_index f2.after at - items) 0 (λ e. absurd (omega (arith, h, e)));
    } in
    let left_is : slice_index f4.left at ≡ next_left (first_length after).items - length back =
    c.put_at-4.ensures.same.left at (omega arith) ∙ get_or-set_same f2.left at c.left_after.result 0 inside ∙ c.left_after.ensures
    ∙ ap (λ i. next_left i - others) first ∙ ap (λ i. next_left (first_length after).items - i) (sym (length-digits 2 others c.low_bits.result)) in
    let after_is : slice_index f4.after at ≡ after - (first_length after).items =
    c.put_at-4.ensures.same.after at (omega arith) ∙ get_or-set_same f2.after at (slice_index f2.after at - items) 0 (omega (arith, inside, long))
    ∙ ap (λ m. m - items) (c.put_at-3.ensures.same.after at (omega arith) ∙ same_after) ∙ ap (λ i. after - i) first in
    let s2 : Step b1 b2 f1 f2 at (first_length after).bits =
    subst (λ (xs : List ℕ). Step b1 b2 f1 f2 at xs) header (λ ar rest. c.put_at-3.ensures.told start ar rest all) in
    subst (λ l. Comes b3 f4 l around r) (sym up)
    (over_step b0 b1 b2 b3 f0 f1 f2 f3 f4 at front back some (length-digits 2 left (n / 2 ^ others)) few below left_is after_is
    (λ ar rest. c.put_at-2.ensures.told start ar rest all) s2 (λ ar rest. c.put_at-4.ensures.told start ar rest all) around r
    (subst (λ (xs : List ℕ). Comes b0 f0 (suc at) around (xs ++ r)) cut (subst (λ l. Comes b0 f0 l around (bits k n ++ r)) up come)))
