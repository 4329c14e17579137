-- The bits given stand for the prefix, and one of the set's numbers begins with them where it meets the set.
use Rattle.std.proofs.Common.{◌≡◌, ◌+◌, ◌-◌, ◌*◌, ◌^◌, ◌<◌, ◌≤◌, ◌++◌, ◌∷◌, [], length, ℕ, List, true, ap, ◌∙◌, arith}
use Rattle.std.proofs.Math.Nat.{pow-le-pow_right}
use Rattle.asn_bits.specs.Numbers.{bits}
use Rattle.asn_bits.specs.Sink.{bit_of}
use Rattle.asn_bits.specs.Begun.{BegunField}
use Rattle.asn_bits.proofs.Prefixes.{given_length, prefix_room, bits_further, bool_byte-is, bit_below, begins_meets, meets_begins, meets_whole}
use Rattle.asn_bits.proofs.number_field.NumberField.bit.Goals as goal
use Rattle.asn_bits.proofs.number_field.NumberField.bit.Goals.{then-not-meets, else-not-meets+then-self-eq0, else-not-meets+else-self-eq0}

pub overflow_mul-self : goal.overflow_mul-self
overflow_mul-self c =
    let s = c.self.inside in
    let up : 2 ^ (s.width - s.left) ≤ 2 ^ 72 = pow-le-pow_right {n = 2} (omega arith) {i = s.width - s.left} {j = 72} (omega (arith, c.self.invariant.1)) in
    omega (arith, c.self.invariant.2, up)

pub overflow_add-self : goal.overflow_add-self
overflow_add-self c =
    let s = c.self.inside in
    let up : 2 ^ (s.width - s.left) ≤ 2 ^ 72 = pow-le-pow_right {n = 2} (omega arith) {i = s.width - s.left} {j = 72} (omega (arith, c.self.invariant.1)) in
    let few : c.from.result < 2 = rw (c.from.ensures, bool_byte-is) (bit_below c.args.bit) in
    omega (arith, c.self.invariant.2, up, few)

pub overflow_sub-self : goal.overflow_sub-self
overflow_sub-self c =
    let s = c.self.inside in
    let g : bits (s.width - s.left) s.prefix ≡ c.args.self.now.given = ap (λ (f : BegunField). f.given) c.self.view_is in
    let w : s.width ≡ c.args.self.now.width = ap (λ (f : BegunField). f.width) c.self.view_is in
    omega (arith, ap length g, given_length (s.width - s.left) s.prefix, w)

pub invariant_of-self : goal.invariant_of-self
invariant_of-self c =
    let s = c.self.inside in
    let g : bits (s.width - s.left) s.prefix ≡ c.args.self.now.given = ap (λ (f : BegunField). f.given) c.self.view_is in
    let w : s.width ≡ c.args.self.now.width = ap (λ (f : BegunField). f.width) c.self.view_is in
    let some : 1 ≤ s.left = omega (arith, ap length g, given_length (s.width - s.left) s.prefix, w) in
    let count : s.width - (s.left - 1) ≡ s.width - s.left + 1 = omega arith in
    let room = prefix_room (s.width - s.left) s.prefix c.from.result c.self.invariant.2 (rw (c.from.ensures, bool_byte-is) (bit_below c.args.bit)) in
    (omega arith, omega arith, rw count room)

pub returns-clause-given : goal.returns-clause-given
returns-clause-given c =
    let s = c.self.inside in
    let n : s.numbers ≡ c.args.self.now.numbers = ap (λ (f : BegunField). f.numbers) c.self.view_is in
    let g : bits (s.width - s.left) s.prefix ≡ c.args.self.now.given = ap (λ (f : BegunField). f.given) c.self.view_is in
    let w : s.width ≡ c.args.self.now.width = ap (λ (f : BegunField). f.width) c.self.view_is in
    let some : 1 ≤ s.left = omega (arith, ap length g, given_length (s.width - s.left) s.prefix, w) in
    let count : s.width - (s.left - 1) ≡ s.width - s.left + 1 = omega arith in
    let one : c.from.result ≡ bit_of c.args.bit = c.from.ensures ∙ bool_byte-is c.args.bit in
    let more : bits (s.width - (s.left - 1)) (2 * s.prefix + c.from.result) ≡ c.args.self.now.given ++ bit_of c.args.bit ∷ [] =
    ap (λ (k : ℕ). bits k (2 * s.prefix + c.from.result)) count ∙ bits_further (s.width - s.left) s.prefix c.from.result c.self.invariant.2 (rw (c.from.ensures, bool_byte-is) (bit_below c.args.bit)) ∙ ap (λ (l : List ℕ). l ++ c.from.result ∷ []) g ∙ ap (λ (b : ℕ). c.args.self.now.given ++ b ∷ []) one in
    cc

pub returns-clause-state : goal.returns-clause-state
returns-clause-state c =
    let s = c.self.inside in
    let g : bits (s.width - s.left) s.prefix ≡ c.args.self.now.given = ap (λ (f : BegunField). f.given) c.self.view_is in
    let w : s.width ≡ c.args.self.now.width = ap (λ (f : BegunField). f.width) c.self.view_is in
    let some : 1 ≤ s.left = omega (arith, ap length g, given_length (s.width - s.left) s.prefix, w) in
    let k = s.width - (s.left - 1) in
    let p = 2 * s.prefix + c.from.result in
    let count : k ≡ s.width - s.left + 1 = omega arith in
    let room : p < 2 ^ k = rw count (prefix_room (s.width - s.left) s.prefix c.from.result c.self.invariant.2 (rw (c.from.ensures, bool_byte-is) (bit_below c.args.bit))) in
    elim c.if-not-meets.branch [
      | then-not-meets w ↦ rw w.result-is (λ b. let m : c.meets.result ≡ true = c.meets.ensures.1 (begins_meets s.width k (s.left - 1) p room (omega arith) b) in absurd (cc))
      | else-not-meets+then-self-eq0 w ↦ rw w.result-is (meets_whole s.width k (s.left - 1) p room (omega arith) w.if-self-eq0.true (c.meets.ensures.0 w.if-not-meets.false))
      | else-not-meets+else-self-eq0 w ↦ rw w.result-is (omega (arith, given_length k p), meets_begins s.width k (s.left - 1) p room (omega arith) (c.meets.ensures.0 w.if-not-meets.false))
    ]
