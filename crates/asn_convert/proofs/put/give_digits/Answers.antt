use Rattle.std.proofs.Common.{◌≡◌, ◌∙◌, sym, ap, subst}
use Rattle.asn_values.specs.View.{shape_of, datum_of}
use Rattle.asn_rules.specs.Faults.{state_of}
use Rattle.asn_convert.specs.Put.{Digits, NoDigits}
use Rattle.asn_convert.proofs.Putting.{given, not_given, no_half, same_name}
use Rattle.asn_convert.proofs.put.give_digits.Goals as goal

pub returns-in-Ok-clause-ok : goal.returns-in-Ok-clause-ok
returns-in-Ok-clause-ok g c =
    let start = c.over-digits.ensures in
    let end = c.encode_to.new.output in
    let name = same_name end.output.ghost_name c.over-digits.result.output.ghost_name c.encode_to.ensures.through in
    let last : end.output.now ≡ _ = sym (c.output-1.given.1 (sym (name ∙ start.name))) in
    let told = rw (start.output, start.none, start.digits, start.faults) at c.in-Ok.ensures.written in
    let d = given g.W.Write.contents g.R.Rules.ruling (shape_of c.args.ty.now) (datum_of c.args.value.now) c.over-digits.result.output.ghost_name end.output.ghost_name c.args.output.now end.output.now end.count end.half end.faults told in (
      d.0,
      subst (λ w. Digits g.R.Rules.ruling (shape_of c.args.ty.now) (datum_of c.args.value.now) (state_of g.W.Write.contents c.args.output.now) (state_of g.W.Write.contents w) d.0) last d.1,
      λ e. d.2 (no_half end.half c.is_none.result c.is_none.ensures e),
    )

pub returns-in-Err-clause-err : goal.returns-in-Err-clause-err
returns-in-Err-clause-err g c =
    let start = c.over-digits.ensures in
    let end = c.encode_to.new.output in
    let name = same_name end.output.ghost_name c.over-digits.result.output.ghost_name c.encode_to.ensures.through in
    let told = rw (start.output, start.none, start.digits, start.faults) at c.in-Err.ensures.fault in
    let last : end.output.now ≡ _ = sym (c.in-Err.output-in-Err-1-own.given.1 (sym (name ∙ start.name))) in
    subst (λ w. NoDigits g.R.Rules.ruling (shape_of c.args.ty.now) (datum_of c.args.value.now) c.in-Err.why (w ≡ c.args.output.now) (state_of g.W.Write.contents c.args.output.now) (state_of g.W.Write.contents w)) last
    (not_given g.W.Write.contents g.R.Rules.ruling (shape_of c.args.ty.now) (datum_of c.args.value.now) c.over-digits.result.output.ghost_name end.output.ghost_name c.args.output.now end.output.now end.count end.half end.faults
    c.in-Err.why _ (end.output.now ≡ c.args.output.now) told (λ e. ap (λ h. h.output.now) e))
