use Rattle.std.proofs.Common.{◌≡◌, ◌++◌, List, ℕ, Bool, Option, Some, None, length, refl, sym, ◌∙◌, ap}
use Rattle.std.proofs.lemmas.Result.{on_ok_weaker}
use Rattle.asn_bits.specs.Numbers.{bits, padding}
use Rattle.asn_bits.proofs.FilledBits.{AreBits, bits_append}
use Rattle.asn_bits.proofs.Prefixes.{bit_below}
use Rattle.asn_sinks.proofs.Pushing.{pushed_same}
use Rattle.asn_rules.specs.OctetsWritten.{flagged}
use Rattle.asn_walk.specs.Writing.{mark_bits}
use Rattle.asn_oer.specs.Rules.{oer_ruling}
use Rattle.asn_oer.specs.Walk.{oer_coding}
use Rattle.asn_oer.proofs.Write.WrittenOctets.{digits_bits, filled_is}
use Rattle.asn_oer.proofs.write_leaves.OerWriteLeaves.write_preamble.Goals as goal

-- the extension bit is a bit, where there is one
mark_is_bits : (e : Option Bool) → AreBits (mark_bits e)
mark_is_bits None = tt
mark_is_bits (Some b) = (bit_below b, tt)

-- and stands before the others
flagged_is : (e : Option Bool) (bs : List ℕ) → flagged e bs ≡ mark_bits e ++ bs
flagged_is None bs = refl
flagged_is (Some b) bs = refl

pub returns : goal.returns
unfolding oer_coding oer_ruling
returns g c =
    let old = c.args.sink.now in
    let e = c.args.extended in
    let bitmap = bits c.args.count c.args.bitmap in
    on_ok_weaker c.write_flags.result
    (pushed_same g.S.Sink.pushes old c.write_flags.new.sink
    (ap (λ (t : List ℕ). t ++ padding (length t)) (flagged_is e bitmap)
    ∙ sym (filled_is (mark_bits e ++ bitmap) (bits_append (mark_bits e) bitmap (mark_is_bits e) (digits_bits c.args.count c.args.bitmap)))))
    c.write_flags.ensures
