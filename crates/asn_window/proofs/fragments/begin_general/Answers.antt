-- The first length determinant, and then the content.
use Rattle.std.proofs.Common.{◌≡◌, ◌<◌, ◌++◌, ◌-◌, ℕ, List, sym, ap, subst, ◌∙◌, append_assoc, arith, set, length}
use Rattle.std.specs.Prelude.{slice_index}
use Rattle.std.proofs.lemmas.List.{get_or-set_same, get_or-set_other}
use Rattle.asn_bits.specs.Lengths.{general_octets}
use Rattle.asn_bits.specs.LengthBits.{first_length}
use Rattle.asn_bits.specs.Numbers.{bits, unpacked}
use Rattle.asn_window.specs.declared.fragments.Fragments.{Fragments}
use Rattle.asn_window.specs.Fragmented.{Comes, Flows}
use Rattle.asn_window.specs.Fragmented.{next_left}
use Rattle.asn_window.specs.BitWriters.{BitsStand}
use Rattle.asn_window.proofs.FieldSteps.{IsSameBelow, comes_same, length_next}
use Rattle.asn_window.proofs.fragments.begin_general.Goals as goal

pub returns-clause-told : goal.returns-clause-told
returns-clause-told g c start around os next all long come =
    let level = c.args.level in
    let n = c.args.many in
    let f1 = c.put_at.new.fragments in
    let items = c.next_length-k.result.2 in
    let was : List ℕ → Type 0 = λ b. BitsStand start (g.O.Output.held c.args.output.now) c.args.writer.now b all in
    let now : List ℕ → Type 0 = λ b. BitsStand start (g.O.Output.held c.put_at.new.output) c.put_at.new.writer b all in
    let code = bits c.next_length-k.result.0 c.next_length-k.result.1 in
    let then = length_next n os long in
    let whole : general_octets (λ u. u) os ≡ code ++ then.0 = then.1 ∙ ap (λ h. h ++ then.0) (sym c.next_length-k.ensures.bits) in
    let told : Comes now f1 level around (then.0 ++ next) =
    c.put_at.ensures.told start around (then.0 ++ next) all
    (subst (λ (xs : List ℕ). Comes was c.args.fragments.now level around xs) (ap (λ t. t ++ next) whole ∙ append_assoc code then.0 next) come) in
    let same = c.put_at.ensures.same in
    let f2 : Fragments = record { left = set f1.left level c.left_after.result; after = set f1.after level (n - items) } in
    let below : IsSameBelow level f1 f2 = record {
      left = λ j h. get_or-set_other f1.left level j c.left_after.result 0 (λ e. absurd (omega (arith, h, e)));
      after = λ j h. get_or-set_other f1.after level j (n - items) 0 (λ e. absurd (omega (arith, h, e)));
    } in
    let inside : level < length f1.left = omega (arith, c.requires.inside, same.long_left) in
    let inside_too : level < length f1.after = omega (arith, c.requires.inside, same.long_after, c.requires.long) in
    let first : items ≡ (first_length n).items = c.next_length-k.ensures.items in
    let left : slice_index f2.left level ≡ next_left (first_length n).items =
    get_or-set_same f1.left level c.left_after.result 0 inside ∙ c.left_after.ensures ∙ minus_none items first in
    let after : slice_index f2.after level ≡ n - (first_length n).items = get_or-set_same f1.after level (n - items) 0 inside_too ∙ ap (λ i. n - i) first in
    let here : Flows (slice_index f2.left level) (slice_index f2.after level) (unpacked os) then.0 =
    subst (λ l. Flows l (slice_index f2.after level) (unpacked os) then.0) (sym left)
    (subst (λ a. Flows (next_left (first_length n).items) a (unpacked os) then.0) (sym after) then.2) in
    (then.0, here, comes_same now f1 f2 level around (then.0 ++ next) below told)
  where
    minus_none : (i : ℕ) {j : ℕ} → i ≡ j → next_left i - 0 ≡ next_left j
    minus_none i e = minus (next_left i) ∙ ap next_left e
      where
        minus : (m : ℕ) → m - 0 ≡ m
        minus m = omega arith
