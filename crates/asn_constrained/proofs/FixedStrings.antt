-- Strings of one length, of which only a number in their bits is at hand.
use Rattle.std.proofs.Common.{◌≡◌, ℕ, Bool, true, false, not, List, map, length, Some, Vec, Global, refl, ap, sym, subst, ◌∙◌, true≢false, rules}
use Rattle.std.proofs.lemmas.List.{length-map}
use Rattle.asn_values.specs.Datum.{Datum, bit_list, octet_list}
use Rattle.asn_values.specs.Equality.{datum_eq, datum_eq-Decides}
use Rattle.asn_values.specs.View.{datum_of}
use Rattle.asn_values.specs.declared.value.Value.{Value}
use Rattle.asn_bits.specs.Sink.{bit_of}
use Rattle.asn_bits.proofs.Octets.{length-digits}
use Rattle.asn_plan.specs.FixedStrings.{IsStringOf}
use Rattle.asn_plan.specs.declared.fixed.FixedString.{FixedString}
use Rattle.asn_constraints.specs.declared.constraint.Constraint.{Constraint, Except, the_lemmas}
use Rattle.asn_constraints.specs.declared.constraint.Constraint as declared_constraint
use Rattle.asn_constraints.specs.declared.constraint.Lengths.{Lengths}
use Rattle.asn_constraints.specs.Constraints.{lengths, is_length, has_length, length_of, meets}
use Rattle.asn_constraints.specs.View.{constraint_of, lengths_of}
use Rattle.asn_constraints.proofs.Views.{constraint_of-Except}

-- it is not a DEFAULT that it may not be
pub no_default : (k : Constraint) (v : Value) (f : FixedString) (n : ℕ) (b : Bool) → k ≡ Except v → (IsStringOf f n (datum_of v) → b ≡ true) → not b ≡ true
    → (d : Datum) → IsStringOf f n d → meets (constraint_of k) d ≡ true
no_default k v f n b is may other d string = rw (is, constraint_of-Except v) (cases (datum_eq (datum_of v) d) (λ e. (datum_eq-Decides (datum_of v) d).0 e))
  where
    broken : datum_of v ≡ d → ⊥
    broken e = true≢false (sym other ∙ ap not (may (subst (λ z. IsStringOf f n z) (sym e) string)))

    cases : (b : Bool) → (b ≡ true → datum_of v ≡ d) → not b ≡ true
    cases true h = absurd (broken (h refl))
    cases false h = refl

-- its length
pub string_length : (f : FixedString) (n : ℕ) (d : Datum) → IsStringOf f n d → length_of d ≡ Some f.length
string_length f n (bit_list bs) h = ap (λ (m : ℕ). Some m) (sym (length-map bs bit_of) ∙ ap length h.1 ∙ length-digits 2 f.length n)
string_length f n (octet_list os) h = ap (λ (m : ℕ). Some m) (ap length h.1 ∙ length-digits 256 f.length n)
string_length f n _ h = absurd h

constraint_of-Lengths : (v : Vec Lengths Global) → constraint_of (declared_constraint.Lengths v) ≡ lengths (map lengths_of v.items)
constraint_of-Lengths v = search (rules, the_lemmas)

-- a length that it may have
pub length_met : (k : Constraint) (v : Vec Lengths Global) (ls : List Lengths) (f : FixedString) (n : ℕ) (b : Bool) → k ≡ declared_constraint.Lengths v → ls ≡ v.items
    → b ≡ is_length (map lengths_of ls) f.length → b ≡ true → (d : Datum) → IsStringOf f n d → meets (constraint_of k) d ≡ true
length_met k v ls f n b is value e holds d string =
    let all : is_length (map lengths_of v.items) f.length ≡ true = subst (λ z. is_length (map lengths_of z) f.length ≡ true) value (sym e ∙ holds) in
    rw (is, constraint_of-Lengths v) (ap (has_length (map lengths_of v.items)) (string_length f n d string) ∙ all)
