use Rattle.std.proofs.lemmas.Result.{err_from_is_err_and}
use Rattle.asn_values.specs.View.{size_range_of, alphabet_of}
use Rattle.asn_values.proofs.Views.{datum_of-Text}
use Rattle.asn_rules.proofs.Languages.Leads.{stops_by}
use Rattle.asn_per.proofs.Read.StringReading.{text_size, text_leads}
use Rattle.asn_per.proofs.simple_into.read_text_into.Goals as goal

pub read_characters-requires : goal.read_characters-requires
read_characters-requires c = record { of_profile = text_size (alphabet_of c.args.kind) (size_range_of c.args.size.now) c.requires.of_profile }

pub returns-in_err-read_characters-clause-stop : goal.returns-in_err-read_characters-clause-stop
returns-in_err-read_characters-clause-stop c =
    let p = err_from_is_err_and c.from_residual.result c.from_residual.ensures.1 in
    rw (p.1, p.2) (stops_by _ (text_leads (alphabet_of c.args.kind) (size_range_of c.args.size.now) c.args.cursor.now c.requires.of_profile).stops c.in_err-read_characters.ensures.stop)

pub returns-clause-done : goal.returns-clause-done
returns-clause-done c =
    rw datum_of-Text ((text_leads (alphabet_of c.args.kind) (size_range_of c.args.size.now) c.args.cursor.now c.requires.of_profile).done c.read_characters.new.characters.items c.read_characters.new.cursor c.in_ok-read_characters.ensures.done)
