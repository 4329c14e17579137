use Rattle.std.proofs.lemmas.Result.{err_from_is_err_and}
use Rattle.asn_values.specs.View.{size_range_of}
use Rattle.asn_values.proofs.Views.{datum_of-Octets}
use Rattle.asn_rules.proofs.Languages.Leads.{stops_by}
use Rattle.asn_per.proofs.Read.StringReading.{octets_size, octets_lead}
use Rattle.asn_per.proofs.simple_into.read_octet_string_into.Goals as goal

pub read_octets-requires : goal.read_octets-requires
read_octets-requires c = record { of_profile = octets_size (size_range_of c.args.size.now) c.requires.of_profile }

pub returns-in_err-read_octets-clause-stop : goal.returns-in_err-read_octets-clause-stop
returns-in_err-read_octets-clause-stop c =
    let p = err_from_is_err_and c.from_residual.result c.from_residual.ensures.1 in
    rw (p.1, p.2) (stops_by _ (octets_lead (size_range_of c.args.size.now) c.args.cursor.now c.requires.of_profile).stops c.in_err-read_octets.ensures.stop)

pub returns-clause-done : goal.returns-clause-done
returns-clause-done c =
    rw datum_of-Octets ((octets_lead (size_range_of c.args.size.now) c.args.cursor.now c.requires.of_profile).done c.read_octets.new.octets.items c.read_octets.new.cursor c.in_ok-read_octets.ensures.done)
