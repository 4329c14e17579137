use Rattle.std.proofs.Common.{◌≡◌, ◌<◌, ◌+◌, ◌*◌, ◌-◌, ◌∙◌, ◌⊎◌, ℕ, suc, true, [], ◌∷◌, inl, inr, sym, ap, arith}
use Rattle.std.proofs.lemmas.Result.{on_ok_weaker}
use Rattle.asn_bits.specs.Numbers.{width}
use Rattle.asn_bits.proofs.Prefixes.{bool_byte-is}
use Rattle.asn_rules.specs.Components.{bit_of}
use Rattle.asn_sinks.proofs.Pushing.{pushed_same}
use Rattle.asn_walk.specs.Views.{index_seen}
use Rattle.asn_per.specs.Indexes.{index_bits}
use Rattle.asn_per.specs.Per.{small}
use Rattle.asn_per.proofs.Write.Doubled.{doubled_width}
use Rattle.asn_plan.proofs.FieldBits.{one_mark_bit}
use Rattle.asn_per.proofs.Write.IndexBits.{few_index_bits, index_fits, root_index_bits}
use Rattle.asn_per.proofs.indexes.write_index.Goals as goal

-- the count of bits of an index, as it was worked out
width_of_count : (root index w : ℕ) → index < root → w ≡ width (2 * root - 1 + 1) → w ≡ suc (width root)
width_of_count root index w inside e =
    let count : 2 * root - 1 + 1 ≡ 2 * root = omega (arith, inside) in
    e ∙ ap width count ∙ doubled_width root (omega (arith, inside))

pub overflow_sub-count : goal.overflow_sub-count
overflow_sub-count g c =
    let inside : c.in-Root.index < c.args.root = rw c.in-Root.is at c.requires.within in
    omega (arith, width_of_count c.args.root c.in-Root.index c.width_up_to-count.result inside c.width_up_to-count.ensures.width)

pub push_number-requires-clause-few : goal.push_number-requires-clause-few
push_number-requires-clause-few g c =
    let mark : c.from-mark_bits.result ≡ bit_of c.args.marked = c.from-mark_bits.ensures ∙ bool_byte-is c.args.marked in
    let inside : c.in-Root.index < c.args.root = rw c.in-Root.is at c.requires.within in
    let w = width_of_count c.args.root c.in-Root.index c.width_up_to-count.result inside c.width_up_to-count.ensures.width in
    omega (arith, mark, one_mark_bit c.args.marked, w, few_index_bits c.args.root c.requires.few)

pub push_number-requires-clause-fits : goal.push_number-requires-clause-fits
push_number-requires-clause-fits g c =
    let inside : c.in-Root.index < c.args.root = rw c.in-Root.is at c.requires.within in
    let w = width_of_count c.args.root c.in-Root.index c.width_up_to-count.result inside c.width_up_to-count.ensures.width in
    let count : c.width_up_to-count.result - 1 ≡ width c.args.root = omega (arith, w) in
    rw count (index_fits c.args.root c.in-Root.index inside c.from-mark_bits.result)

pub returns-in-Root : goal.returns-in-Root
returns-in-Root g c =
    let inside : c.in-Root.index < c.args.root = rw c.in-Root.is at c.requires.within in
    let mark : c.from-mark_bits.result ≡ bit_of c.args.marked = c.from-mark_bits.ensures ∙ bool_byte-is c.args.marked in
    let is : index_seen c.args.index ≡ inl c.in-Root.index = ap index_seen c.in-Root.is in
    let w = width_of_count c.args.root c.in-Root.index c.width_up_to-count.result inside c.width_up_to-count.ensures.width in
    let count : c.width_up_to-count.result - 1 ≡ width c.args.root = omega (arith, w) in
    rw (is, root_index_bits c.args.root c.in-Root.index inside c.args.marked c.from-mark_bits.result mark, ← count) c.push_number.ensures

pub returns-in_ok-push-in-Added : goal.returns-in_ok-push-in-Added
returns-in_ok-push-in-Added g c =
    let old = c.args.sink.now in
    let mid = c.push.new.self in
    let new = c.write_small_number.new.sink in
    let i = c.in-Added.index in
    let is : index_seen c.args.index ≡ inr i = ap index_seen c.in-Added.is in
    on_ok_weaker c.write_small_number.result
    (λ e. pushed_same g.S.Sink.pushes old new (ap (λ (x : ℕ ⊎ ℕ). index_bits c.args.root c.args.marked x) (sym is))
    (g.met.S.Sink.pushes_joined old mid new (bit_of true ∷ []) (small i) c.in_ok-push-in-Added.ensures e))
    c.write_small_number.ensures
