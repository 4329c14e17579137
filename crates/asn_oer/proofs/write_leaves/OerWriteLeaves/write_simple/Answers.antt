use Rattle.std.proofs.Common.{◌≡◌, List, ℕ, Bool, sym, ap, ◌∙◌}
use Rattle.asn_values.specs.Datum.{bit_list, octet_list, characters}
use Rattle.asn_values.specs.View.{datum_of}
use Rattle.asn_values.proofs.Views.{shape_of-Bits, datum_of-Bits, shape_of-Octets, datum_of-Octets, shape_of-Text, datum_of-Text}
use Rattle.asn_sinks.proofs.Pushing.{pushed_same}
use Rattle.asn_oer.specs.Rules.{oer_ruling}
use Rattle.asn_oer.specs.Walk.{oer_coding}
use Rattle.asn_oer.proofs.Write.WrittenOctets.{plain}
use Rattle.asn_oer.proofs.write_leaves.OerWriteLeaves.write_simple.Goals as goal

pub returns-in_ok-write_bits-in-Bits-Bits-clause-written : goal.returns-in_ok-write_bits-in-Bits-Bits-clause-written
unfolding oer_coding oer_ruling
returns-in_ok-write_bits-in-Bits-Bits-clause-written g c =
    let value : datum_of c.args.value.now ≡ bit_list c.as_slice.result.now = ap datum_of c.in-Bits-Bits.is-1 ∙ datum_of-Bits c.in-Bits-Bits.truths ∙ ap (λ (l : List Bool). bit_list l) (sym c.as_slice.ensures.value) in
    rw (c.in-Bits-Bits.is-0, shape_of-Bits, value) (pushed_same g.S.Sink.pushes c.args.sink.now c.write_bits.new.sink (sym (plain _)) c.in_ok-write_bits-in-Bits-Bits.ensures)

pub returns-in_ok-write_sized-in-Octets-Octets-clause-written : goal.returns-in_ok-write_sized-in-Octets-Octets-clause-written
unfolding oer_coding oer_ruling
returns-in_ok-write_sized-in-Octets-Octets-clause-written g c =
    let value : datum_of c.args.value.now ≡ octet_list c.as_slice-in-Octets-Octets.result.now = ap datum_of c.in-Octets-Octets.is-1 ∙ datum_of-Octets c.in-Octets-Octets.data ∙ ap (λ (l : List ℕ). octet_list l) (sym c.as_slice-in-Octets-Octets.ensures.value) in
    rw (c.in-Octets-Octets.is-0, shape_of-Octets, value) (pushed_same g.S.Sink.pushes c.args.sink.now c.write_sized.new.sink (sym (plain _)) c.in_ok-write_sized-in-Octets-Octets.ensures)

pub returns-in_ok-write_sized-in-Text-Text-clause-written : goal.returns-in_ok-write_sized-in-Text-Text-clause-written
unfolding oer_coding oer_ruling
returns-in_ok-write_sized-in-Text-Text-clause-written g c =
    let value : datum_of c.args.value.now ≡ characters c.as_slice-in-Text-Text.result.now = ap datum_of c.in-Text-Text.is-1 ∙ datum_of-Text c.in-Text-Text.text ∙ ap (λ (l : List ℕ). characters l) (sym c.as_slice-in-Text-Text.ensures.value) in
    rw (c.in-Text-Text.is-0, shape_of-Text, value) (pushed_same g.S.Sink.pushes c.args.sink.now c.write_sized-in-Text-Text.new.sink (sym (plain _)) c.in_ok-write_sized-in-Text-Text.ensures)
