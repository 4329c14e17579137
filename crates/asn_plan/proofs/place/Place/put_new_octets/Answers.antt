use Rattle.std.proofs.Common.{rules, ◌≡◌, length, refl, ap, subst, ◌∙◌, arith}
use Rattle.std.proofs.lemmas.List.{with_items_is, places}
use Rattle.std.specs.Vec.{with_items}
use Rattle.asn_values.specs.Datum.{octet_list}
use Rattle.asn_values.proofs.Views.{datum_of-Octets}
use Rattle.asn_bits.specs.Numbers.{octets}
use Rattle.asn_plan.specs.Placed.{IsPut}
use Rattle.asn_plan.proofs.place.Place.put_new_octets.Goals as goal

pub returns : goal.returns
returns c some =
    let long : length c.deref_mut.result.now ≡ c.args.count = search (rules, arith) in
    let same : c.fill_octets.new.into ≡ octets c.args.count c.args.number = c.in_ok-fill_octets.ensures refl ∙ ap (λ n. octets n c.args.number) long in
    subst (λ x. IsPut c.args.self.now c.put_back.new.self x) (datum_of-Octets (with_items c.resize.new.self c.fill_octets.new.into) ∙ ap octet_list (with_items_is c.resize.new.self c.fill_octets.new.into (search (rules, places)) ∙ same)) (c.put_back.ensures some)
