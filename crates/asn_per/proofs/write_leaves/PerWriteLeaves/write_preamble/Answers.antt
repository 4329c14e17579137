use Rattle.std.proofs.Common.{◌≡◌, ◌+◌, ◌++◌, ℕ, List, [], ◌∷◌, Bool, true, false, Option, refl, sym, ap, ◌∙◌, arith}
use Rattle.std.proofs.lemmas.Result.{on_ok_weaker}
use Rattle.asn_bits.specs.Numbers.{bits}
use Rattle.asn_bits.specs.Sink.{bit_of}
use Rattle.asn_bits.proofs.Packing.{both_fit, waiting_view}
use Rattle.asn_bits.proofs.Prefixes.{bool_byte-is, bit_below}
use Rattle.asn_sinks.proofs.Pushing.{pushed_same}
use Rattle.asn_walk.specs.Writing.{mark_bits}
use Rattle.asn_per.specs.Rules.{per_ruling}
use Rattle.asn_per.specs.Walk.{per_coding}
use Rattle.asn_per.proofs.write_leaves.PerWriteLeaves.write_preamble.Goals as goal

pub returns-in_default : goal.returns-in_default
unfolding per_coding per_ruling
returns-in_default g c =
    on_ok_weaker c.write_bitmap.result
    (pushed_same g.S.Sink.pushes c.args.sink.now c.write_bitmap.new.sink (ap (λ (e : Option Bool). mark_bits e ++ bits c.args.count c.args.bitmap) (sym c.in_default.is)))
    c.write_bitmap.ensures

one_bit : (b : Bool) → bits 1 (bit_of b) ≡ bit_of b ∷ []
one_bit true = refl
one_bit false = refl

pub push_number-requires-clause-fits : goal.push_number-requires-clause-fits
push_number-requires-clause-fits g c =
    let mark : c.from.result ≡ bit_of c.in-Some.extended = c.from.ensures ∙ bool_byte-is c.in-Some.extended in
    both_fit 1 c.from.result c.args.count c.args.bitmap c.shift_in.result (omega (arith, mark, bit_below c.in-Some.extended)) c.requires.within c.shift_in.ensures

pub returns-then-count-lt64 : goal.returns-then-count-lt64
unfolding per_coding per_ruling
returns-then-count-lt64 g c =
    let b = c.in-Some.extended in
    let bs = bits c.args.count c.args.bitmap in
    let mark : c.from.result ≡ bit_of b = c.from.ensures ∙ bool_byte-is b in
    let both : bits (1 + c.args.count) c.shift_in.result ≡ bits 1 c.from.result ++ bs =
    waiting_view [] 1 c.from.result c.args.count c.args.bitmap c.shift_in.result c.requires.within (omega (arith, c.if-count-lt64.true)) c.shift_in.ensures in
    let all : bits (1 + c.args.count) c.shift_in.result ≡ mark_bits c.args.extended ++ bs =
    both ∙ ap (λ (m : ℕ). bits 1 m ++ bs) mark ∙ ap (λ (m : List ℕ). m ++ bs) (one_bit b) ∙ ap (λ (x : Option Bool). mark_bits x ++ bs) (sym c.in-Some.is) in
    on_ok_weaker c.push_number.result (pushed_same g.S.Sink.pushes c.args.sink.now c.push_number.new.self all) c.push_number.ensures

pub returns : goal.returns
unfolding per_coding per_ruling
returns g c =
    let old = c.args.sink.now in
    let mid = c.push.new.self in
    let new = c.write_bitmap-2.new.sink in
    let b = c.in-Some.extended in
    let bs = bits c.args.count c.args.bitmap in
    on_ok_weaker c.write_bitmap-2.result
    (λ e. pushed_same g.S.Sink.pushes old new (ap (λ (x : Option Bool). mark_bits x ++ bs) (sym c.in-Some.is))
    (g.met.S.Sink.pushes_joined old mid new (bit_of b ∷ []) bs c.in_ok-push.ensures e))
    c.write_bitmap-2.ensures
