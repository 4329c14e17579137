use Rattle.std.proofs.Common.{◌≡◌, IsUtf8, ap}
use Rattle.std.proofs.lemmas.Result.{err_from_is_err_and}
use Rattle.std.proofs.lemmas.Str.{IsUtf8-had}
use Rattle.asn_bits.specs.Numbers.{packed}
use Rattle.asn_rules.proofs.Languages.Leads.{stops_by}
use Rattle.asn_oer.proofs.Read.Utf8Reading.{octets_stop, text_spells, no_text}
use Rattle.asn_oer.proofs.string_reader.read_utf8_string.Goals as goal

pub returns-in_err-octets-clause-stop : goal.returns-in_err-octets-clause-stop
returns-in_err-octets-clause-stop c =
    let p = err_from_is_err_and c.from_residual.result c.from_residual.ensures.1 in
    rw (p.1, p.2) (stops_by _ (octets_stop (packed c.args.units.now)) c.in_err-octets.ensures.stop)

pub returns-in-Ok-clause-done : goal.returns-in-Ok-clause-done
returns-in-Ok-clause-done c =
    let same : c.in-Ok.text.bytes.items ≡ c.in_ok-octets.octets.items = ap (λ v. v.items) c.in-Ok.ensures.ok in
    rw same (text_spells (IsUtf8-had c.in_ok-octets.octets.items (rw same at c.in-Ok.text.ok)) c.in_ok-octets.ensures.done)

pub returns-clause-stop : goal.returns-clause-stop
returns-clause-stop c =
    let never : IsUtf8 c.in_ok-octets.octets.items → ⊥ = λ t. (let ok = c.in-Err.ensures.succeeds t in absurd (cc)) in
    record { told = rw c.octets_left.ensures.count (no_text never c.in_ok-octets.ensures.done) }
