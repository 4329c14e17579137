use Rattle.std.proofs.Common.{◌≡◌, ◌++◌, ◌∷◌, ℕ, List, sym, ap, ◌∙◌, arith}
use Rattle.asn_bits.specs.Numbers.{bits, packed}
use Rattle.asn_bits.proofs.LengthsInOctets.{one_is}
use Rattle.asn_oer.specs.Rules.{oer_ruling}
use Rattle.asn_oer.specs.Walk.{oer_coding}
use Rattle.asn_oer.proofs.Encodings.SpeltTypes.{oer_spelt, few_levels}
use Rattle.asn_oer.proofs.Law.GoodTypes.{good}
use Rattle.asn_oer.proofs.Plan.OctetsRead.{packed_number}
use Rattle.asn_oer.proofs.Plan.OpenOctets.{open_octets}
use Rattle.asn_oer.proofs.plan_leaves.OerPlanLeaves.enter_open.Goals as goal

pub returns-clause-some : goal.returns-clause-some
unfolding oer_coding oer_ruling
returns-clause-some c t d ws xs inside h k =
    let n = c.in_ok-octets.octets in
    let vs = c.pass.new.self in
    let split : c.args.units.now ≡ bits 8 n ++ vs = c.in_ok-octets.ensures.some ∙ ap (λ l. bits 8 n ++ l) (sym c.pass.ensures) in
    let first : packed c.args.units.now ≡ n ∷ packed vs = ap packed split ∙ packed_number 1 n vs ∙ ap (λ (l : List ℕ). l ++ packed vs) (one_is n (omega (arith, c.if-octets-gt127.false))) in
    open_octets t d n (packed c.args.units.now) (packed vs) ws xs first (omega (arith, c.if-octets-gt127.false)) (oer_spelt t (good t inside) (few_levels t inside) d h.spelt.fits.0).units.octets h k
