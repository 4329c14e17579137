use Rattle.std.proofs.lemmas.Result.{err_from_is_err_and}
use Rattle.asn_bits.specs.Numbers.{packed}
use Rattle.asn_rules.proofs.Languages.Leads.{stops_by}
use Rattle.asn_oer.proofs.InPieces.Starts.{octets_among}
use Rattle.asn_oer.proofs.single_items.read_character.Goals as goal

pub returns-in_err-octet-clause-stop : goal.returns-in_err-octet-clause-stop
returns-in_err-octet-clause-stop c =
    let p = err_from_is_err_and c.from_residual.result c.from_residual.ensures.1 in
    let l = octets_among c.characters_of.result (packed c.args.units.now) c.characters_of.ensures.there c.characters_of.ensures.back in
    rw (p.1, p.2) (stops_by _ l.stops c.in_err-octet.ensures.stop)

pub returns-clause-done : goal.returns-clause-done
returns-clause-done c =
    let l = octets_among c.characters_of.result (packed c.args.units.now) c.characters_of.ensures.there c.characters_of.ensures.back in
    l.done c.in_ok-octet.octet (packed c.read_octets_among.new.units) c.in_ok-octet.ensures.done
