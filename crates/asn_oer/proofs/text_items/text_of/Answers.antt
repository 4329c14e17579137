use Rattle.std.proofs.Common.{◌≡◌, IsUtf8, refl, ap}
use Rattle.std.proofs.lemmas.Str.{IsUtf8-had}
use Rattle.asn_rules.specs.declared.stop.Stop.TheVariants as stop
use Rattle.asn_oer.proofs.InPieces.StringItems.{is_text, is_no_text}
use Rattle.asn_oer.proofs.text_items.text_of.Goals as goal

pub returns-in-Ok-clause-done : goal.returns-in-Ok-clause-done
returns-in-Ok-clause-done c =
    let same : c.in-Ok.text.bytes.items ≡ c.args.octets.items = ap (λ v. v.items) c.in-Ok.ensures.ok in
    rw same (is_text c.args.octets.items (IsUtf8-had c.args.octets.items (rw same at c.in-Ok.text.ok)))

pub returns-clause-stop : goal.returns-clause-stop
returns-clause-stop c =
    let never : IsUtf8 c.args.octets.items → ⊥ = λ t. (let ok = c.in-Err.ensures.succeeds t in absurd (cc)) in
    is_no_text c.args.octets.items c.args.left (stop.Refused c.args.left _) never refl
