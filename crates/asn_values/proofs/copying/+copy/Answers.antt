use Rattle.std.proofs.Common.{rules}
use Rattle.std.proofs.lemmas.List.Elements.{same_from_all_zip}
use Rattle.asn_values.proofs.Copies.{copied_bits, copied_octets, copied_text, copied_entries}
use Rattle.asn_values.proofs.copying.+copy.Goals as goal

pub copy-returns-in_ok-clone-in-Bits : goal.copy-returns-in_ok-clone-in-Bits
copy-returns-in_ok-clone-in-Bits t c =
    copied_bits c.args.value.now c.in-Bits.bits c.in_ok-clone-in-Bits.field-0 c.in-Bits.is (search (rules, same_from_all_zip))

pub copy-returns-in_ok-clone-in-Octets : goal.copy-returns-in_ok-clone-in-Octets
copy-returns-in_ok-clone-in-Octets t c =
    copied_octets c.args.value.now c.in-Octets.octets c.in_ok-clone-in-Octets.field-0 c.in-Octets.is (search (rules, same_from_all_zip))

pub copy-returns-in_ok-clone-in-Text : goal.copy-returns-in_ok-clone-in-Text
copy-returns-in_ok-clone-in-Text t c =
    copied_text c.args.value.now c.in-Text.codes c.in_ok-clone-in-Text.field-0 c.in-Text.is (search (rules, same_from_all_zip))

pub copy-returns-in_ok-copy_entries-in-Seq : goal.copy-returns-in_ok-copy_entries-in-Seq
copy-returns-in_ok-copy_entries-in-Seq t c =
    copied_entries c.args.value.now c.in-Seq.entries c.in_ok-copy_entries-in-Seq.field-0 c.in-Seq.is c.in_ok-copy_entries-in-Seq.ensures
