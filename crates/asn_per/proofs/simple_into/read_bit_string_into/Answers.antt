use Rattle.std.proofs.lemmas.Result.{err_from_is_err_and}
use Rattle.asn_values.specs.View.{size_range_of}
use Rattle.asn_values.proofs.Views.{datum_of-Bits}
use Rattle.asn_rules.proofs.Languages.Leads.{stops_by}
use Rattle.asn_per.proofs.Read.StringReading.{bits_size, bits_lead}
use Rattle.asn_per.proofs.simple_into.read_bit_string_into.Goals as goal

pub read_bits-requires : goal.read_bits-requires
read_bits-requires c = record { of_profile = bits_size (size_range_of c.args.size.now) c.requires.of_profile }

pub returns-in_err-read_bits-clause-stop : goal.returns-in_err-read_bits-clause-stop
returns-in_err-read_bits-clause-stop c =
    let p = err_from_is_err_and c.from_residual.result c.from_residual.ensures.1 in
    rw (p.1, p.2) (stops_by _ (bits_lead (size_range_of c.args.size.now) c.args.cursor.now c.requires.of_profile).stops c.in_err-read_bits.ensures.stop)

pub returns-clause-done : goal.returns-clause-done
returns-clause-done c =
    rw datum_of-Bits ((bits_lead (size_range_of c.args.size.now) c.args.cursor.now c.requires.of_profile).done c.read_bits.new.bits.items c.read_bits.new.cursor c.in_ok-read_bits.ensures.done)
