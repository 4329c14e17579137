use Rattle.std.proofs.Common.{◌≡◌, ◌++◌, ap, ◌∙◌, arith}
use Rattle.asn_bits.specs.Numbers.{bits}
use Rattle.asn_oer.specs.Rules.{oer_ruling}
use Rattle.asn_oer.specs.Walk.{oer_coding}
use Rattle.asn_plan.specs.Words.{before}
use Rattle.asn_oer.proofs.Plan.StringsHeld.{fixed_held, has_octets, string_taken}
use Rattle.asn_oer.proofs.plan_leaves.OerPlanLeaves.next_string.Goals as goal

pub returns : goal.returns
unfolding oer_coding oer_ruling
returns c t good is =
    let f = c.args.fixed.now in
    let n = c.in_ok-number.number in
    let old = c.args.word.now in
    let mid = c.take.new.self in
    let new = c.take-2.new.self in
    let last = c.take-3.new.self in
    let has = has_octets f t is in
    let head : c.in_ok-head.head ≡ f.head = omega (arith, c.if-head-fixed.false) in
    let none : c.in_ok-unused.unused ≡ 0 = omega (arith, c.if-unused-gt0.false) in
    let first : bits old.left old.bits ≡ bits f.head_bits f.head ++ bits mid.left mid.bits = c.in_ok-head.ensures.some ∙ ap (λ m. bits f.head_bits m ++ bits mid.left mid.bits) head in
    let zeros : bits new.left new.bits ≡ bits f.unused 0 ++ bits last.left last.bits = c.in_ok-unused.ensures.some ∙ ap (λ m. bits f.unused m ++ bits last.left last.bits) none in
    let q = fixed_held f t n good is c.in_ok-number.ensures.fits in
    record {
      value = q.value;
      is = q.is;
      read = λ us. q.read (before oer_coding old us) (before oer_coding last us) (string_taken f n old mid new last us has.whole has.unused first c.in_ok-number.ensures.some zeros);
    }
