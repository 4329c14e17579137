use Rattle.std.proofs.Common.{rules, ◌≡◌, length, map, refl, sym, ap, subst, ◌∙◌, arith}
use Rattle.std.proofs.lemmas.List.{with_items_is, places}
use Rattle.std.specs.Vec.{with_items}
use Rattle.asn_values.specs.Datum.{bit_list}
use Rattle.asn_values.proofs.Views.{datum_of-Bits}
use Rattle.asn_bits.specs.Numbers.{bits}
use Rattle.asn_bits.specs.Sink.{bit_of}
use Rattle.asn_plan.specs.Placed.{IsPut}
use Rattle.asn_plan.proofs.place.Place.put_new_bits.Goals as goal

pub returns : goal.returns
returns c some bs e =
    let long : length c.deref_mut.result.now ≡ c.args.count = search (rules, arith) in
    let told : map bit_of bs ≡ bits (length c.deref_mut.result.now) c.args.number = e ∙ ap (λ n. bits n c.args.number) (sym long) in
    let same : c.fill_bits.new.into ≡ bs = c.in_ok-fill_bits.ensures refl bs told in
    subst (λ x. IsPut c.args.self.now c.put_back.new.self x) (datum_of-Bits (with_items c.resize.new.self c.fill_bits.new.into) ∙ ap bit_list (with_items_is c.resize.new.self c.fill_bits.new.into (search (rules, places)) ∙ same)) (c.put_back.ensures some)
