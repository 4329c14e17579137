use Rattle.std.proofs.Common.{◌≡◌, ℕ, ℤ, Bool, false, None, rules, sym, ap, subst, ◌∙◌}
use mir.Syntax.{w128}
use mir.Val.{of_z}
use Rattle.asn_values.specs.Datum.{Datum, truth, number, item}
use Rattle.asn_values.specs.Shape.{Shape}
use Rattle.asn_values.specs.View.{shape_of, datum_of}
use Rattle.asn_values.specs.declared.value.Value as values
use Rattle.asn_values.specs.declared.value.Value.TheVariants as value
use Rattle.asn_bits.proofs.Above.{kept}
use Rattle.asn_rules.specs.Components.{is_default}
use Rattle.asn_rules.specs.Languages.{Spells}
use Rattle.asn_rules.specs.Listed.{Spelt}
use Rattle.asn_plan.specs.Words.{before}
use Rattle.asn_plan.proofs.NodeKinds.{number_is, truth_is, item_is}
use Rattle.asn_plan.proofs.Others.{other_spells, other_truth, other_number, other_item}
use Rattle.asn_plan.proofs.packed.build_other_number.Goals as goal

int_is : (y : ℤ) → datum_of (value.Int y) ≡ number y
int_is y = search (rules, values.the_lemmas)

bool_is : (b : Bool) → datum_of (value.Bool b) ≡ truth b
bool_is b = search (rules, values.the_lemmas)

enum_is : (i : ℕ) → datum_of (value.Enum i) ≡ item i
enum_is i = search (rules, values.the_lemmas)

pub returns-in_ok-part-in-Number-Int : goal.returns-in_ok-part-in-Number-Int
returns-in_ok-part-in-Number-Int g c us p =
    let r = g.R.ReadLeaves.rules in
    let w = c.args.with_default.now in
    let is = number_is c.args.nodes.now (shape_of w.ty) c.in-Number-Int.number (rw c.in-Number-Int.is-0 at p) in
    let z = c.in_ok-integer-in-Number-Int.integer in
    let inside = c.in_ok-integer-in-Number-Int.ensures.of_integers in
    let e : is_default (datum_of w.default) (number z) ≡ false = subst (λ (d : Datum). is_default d (number z) ≡ false) (sym (ap datum_of c.in-Number-Int.is-1 ∙ int_is c.in-Number-Int.default)) (other_number c.in-Number-Int.default z (λ same. c.if-integer-default.false (ap (of_z w128) same))) in
    record {
      value = number z;
      of_value = rw (kept z inside.0 inside.1) at c.in_ok-part-in-Number-Int.ensures;
      read = other_spells r.ruling.fielding r.code (shape_of w.ty) (number z) (datum_of w.default) (before r c.args.word.now us) (before r c.next_ranged.new.word us) e (subst (λ (t : Shape). Spells r.ruling.fielding (Spelt r.code None t) (number z) (before r c.args.word.now us) (before r c.next_ranged.new.word us)) (sym is) (c.in_ok-integer-in-Number-Int.ensures.some us));
    }

pub returns-in_ok-part-in-Truth-Bool : goal.returns-in_ok-part-in-Truth-Bool
returns-in_ok-part-in-Truth-Bool g c us p =
    let r = g.R.ReadLeaves.rules in
    let w = c.args.with_default.now in
    let is = truth_is c.args.nodes.now (shape_of w.ty) (rw c.in-Truth-Bool.is-0 at p) in
    let b = c.in_ok-is_true-in-Truth-Bool.is_true in
    let e : is_default (datum_of w.default) (truth b) ≡ false = subst (λ (d : Datum). is_default d (truth b) ≡ false) (sym (ap datum_of c.in-Truth-Bool.is-1 ∙ bool_is c.in-Truth-Bool.default)) (other_truth c.in-Truth-Bool.default b c.if-is_true-default.false) in
    record {
      value = truth b;
      of_value = c.in_ok-part-in-Truth-Bool.ensures;
      read = other_spells r.ruling.fielding r.code (shape_of w.ty) (truth b) (datum_of w.default) (before r c.args.word.now us) (before r c.next_truth.new.word us) e (subst (λ (t : Shape). Spells r.ruling.fielding (Spelt r.code None t) (truth b) (before r c.args.word.now us) (before r c.next_truth.new.word us)) (sym is) (c.in_ok-is_true-in-Truth-Bool.ensures us));
    }

pub returns-in_ok-part-in-Item-Enum : goal.returns-in_ok-part-in-Item-Enum
returns-in_ok-part-in-Item-Enum g c us p =
    let r = g.R.ReadLeaves.rules in
    let w = c.args.with_default.now in
    let is = item_is c.args.nodes.now (shape_of w.ty) c.in-Item-Enum.items (rw c.in-Item-Enum.is-0 at p) in
    let i = c.in_ok-position-in-Item-Enum.position in
    let e : is_default (datum_of w.default) (item i) ≡ false = subst (λ (d : Datum). is_default d (item i) ≡ false) (sym (ap datum_of c.in-Item-Enum.is-1 ∙ enum_is c.in-Item-Enum.default)) (other_item c.in-Item-Enum.default i c.if-position-default.false) in
    record {
      value = item i;
      of_value = c.in_ok-part-in-Item-Enum.ensures;
      read = other_spells r.ruling.fielding r.code (shape_of w.ty) (item i) (datum_of w.default) (before r c.args.word.now us) (before r c.next_item.new.word us) e (subst (λ (t : Shape). Spells r.ruling.fielding (Spelt r.code None t) (item i) (before r c.args.word.now us) (before r c.next_item.new.word us)) (sym is) (c.in_ok-position-in-Item-Enum.ensures us));
    }
