use Rattle.std.proofs.Common.{◌≡◌, IsUtf8, ap, subst}
use Rattle.std.proofs.lemmas.Result.{err_from_is_err_and}
use Rattle.std.proofs.lemmas.Str.{IsUtf8-had}
use Rattle.asn_values.specs.Shape.{SizeRange}
use Rattle.asn_rules.specs.Fields.{Octet}
use Rattle.asn_rules.specs.Languages.{Spells}
use Rattle.asn_rules.specs.Stops.{Stops}
use Rattle.asn_rules.proofs.Languages.Leads.{stops_by}
use Rattle.asn_per.specs.Kinds.{Sized}
use Rattle.asn_per.specs.Per.{per_fields}
use Rattle.asn_per.proofs.Read.Utf8Reading.{AnyOctets, octets_stop, text_spells, no_text}
use Rattle.asn_per.proofs.string_reader.read_utf8.Goals as goal

pub returns-in_err-octets-clause-stop : goal.returns-in_err-octets-clause-stop
returns-in_err-octets-clause-stop c =
    let p = err_from_is_err_and c.from_residual.result c.from_residual.ensures.1 in
    let stop : Stops per_fields AnyOctets c.args.cursor.now c.in_err-octets.field-0.0 =
    subst (λ (s : SizeRange). Stops per_fields (Sized s Octet) c.args.cursor.now c.in_err-octets.field-0.0) c.any.ensures c.in_err-octets.ensures.stop in
    rw (p.1, p.2) (stops_by _ (octets_stop c.args.cursor.now) stop)

pub returns-in-Ok-clause-done : goal.returns-in-Ok-clause-done
returns-in-Ok-clause-done c =
    let same : c.in-Ok.text.bytes.items ≡ c.in_ok-octets.octets.items = ap (λ v. v.items) c.in-Ok.ensures.ok in
    let done : Spells per_fields AnyOctets c.in_ok-octets.octets.items c.args.cursor.now c.read_octet_string.new.cursor =
    subst (λ (s : SizeRange). Spells per_fields (Sized s Octet) c.in_ok-octets.octets.items c.args.cursor.now c.read_octet_string.new.cursor) c.any.ensures c.in_ok-octets.ensures.done in
    rw same (text_spells (IsUtf8-had c.in_ok-octets.octets.items (rw same at c.in-Ok.text.ok)) done)

pub returns-clause-stop : goal.returns-clause-stop
returns-clause-stop c =
    let never : IsUtf8 c.in_ok-octets.octets.items → ⊥ = λ t. (let ok = c.in-Err.ensures.succeeds t in absurd (cc)) in
    let done : Spells per_fields AnyOctets c.in_ok-octets.octets.items c.args.cursor.now c.read_octet_string.new.cursor =
    subst (λ (s : SizeRange). Spells per_fields (Sized s Octet) c.in_ok-octets.octets.items c.args.cursor.now c.read_octet_string.new.cursor) c.any.ensures c.in_ok-octets.ensures.done in
    record { told = rw c.bits_left.ensures.count (no_text never done) }
