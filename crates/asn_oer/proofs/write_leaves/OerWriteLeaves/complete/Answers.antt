-- Whole octets are complete.
use Rattle.std.proofs.Common.{List, ℕ, sym, subst}
use Rattle.std.proofs.lemmas.List.{append-nil}
use Rattle.asn_bits.specs.Numbers.{unpacked}
use Rattle.asn_oer.specs.Oer.{oer_octets}
use Rattle.asn_oer.specs.Rules.{oer_ruling}
use Rattle.asn_oer.specs.Walk.{oer_coding}
use Rattle.asn_oer.proofs.write_leaves.OerWriteLeaves.complete.Goals as goal

pub returns : goal.returns
unfolding oer_coding oer_ruling
returns g c = λ t d good fits k coming at. subst (λ (x : List ℕ). g.S.Sink.stands c.args.sink.now k x coming) (sym (append-nil (unpacked (oer_octets t d)))) at
