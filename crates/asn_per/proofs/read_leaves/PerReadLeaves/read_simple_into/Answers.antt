use Rattle.asn_values.proofs.Views.{shape_of-Bits, shape_of-Octets, shape_of-Text}
use Rattle.asn_per.specs.Rules.{per_ruling}
use Rattle.asn_per.specs.Walk.{per_coding}
use Rattle.asn_per.proofs.read_leaves.PerReadLeaves.read_simple_into.Goals as goal

pub read_bit_string_into-requires : goal.read_bit_string_into-requires
unfolding per_coding per_ruling
read_bit_string_into-requires c =
    record { of_profile = rw (c.in-Bits.is, shape_of-Bits) at c.requires.of_profile }

pub returns-in-Bits-clause-done : goal.returns-in-Bits-clause-done
unfolding per_coding per_ruling
returns-in-Bits-clause-done c =
    rw (c.in-Bits.is, shape_of-Bits) c.read_bit_string_into.ensures.done

pub returns-in-Bits-clause-stop : goal.returns-in-Bits-clause-stop
unfolding per_coding per_ruling
returns-in-Bits-clause-stop c =
    rw (c.in-Bits.is, shape_of-Bits) c.read_bit_string_into.ensures.stop

pub read_octet_string_into-requires : goal.read_octet_string_into-requires
unfolding per_coding per_ruling
read_octet_string_into-requires c =
    record { of_profile = rw (c.in-Octets.is, shape_of-Octets) at c.requires.of_profile }

pub returns-in-Octets-clause-done : goal.returns-in-Octets-clause-done
unfolding per_coding per_ruling
returns-in-Octets-clause-done c =
    rw (c.in-Octets.is, shape_of-Octets) c.read_octet_string_into.ensures.done

pub returns-in-Octets-clause-stop : goal.returns-in-Octets-clause-stop
unfolding per_coding per_ruling
returns-in-Octets-clause-stop c =
    rw (c.in-Octets.is, shape_of-Octets) c.read_octet_string_into.ensures.stop

pub read_text_into-requires : goal.read_text_into-requires
unfolding per_coding per_ruling
read_text_into-requires c =
    record { of_profile = rw (c.in-Text.is, shape_of-Text) at c.requires.of_profile }

pub returns-in-Text-clause-done : goal.returns-in-Text-clause-done
unfolding per_coding per_ruling
returns-in-Text-clause-done c =
    rw (c.in-Text.is, shape_of-Text) c.read_text_into.ensures.done

pub returns-in-Text-clause-stop : goal.returns-in-Text-clause-stop
unfolding per_coding per_ruling
returns-in-Text-clause-stop c =
    rw (c.in-Text.is, shape_of-Text) c.read_text_into.ensures.stop
