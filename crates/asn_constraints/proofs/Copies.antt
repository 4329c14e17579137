-- A constraint that is made of the same parts is the same constraint.
use Rattle.std.proofs.Common.{◌≡◌, ℕ, map, Vec, Global, ap, ◌∙◌, sym, rules}
use Rattle.asn_constraints.specs.declared.constraint.Interval.{Interval}
use Rattle.asn_constraints.specs.declared.constraint.Lengths as declared
use Rattle.asn_constraints.specs.declared.constraint.Constraint.{Constraint, Numbers, Items, Lengths, Characters, the_lemmas}
use Rattle.asn_constraints.specs.Constraints.{numbers, items, lengths, alphabet}
use Rattle.asn_constraints.specs.View.{constraint_of, interval_of, lengths_of}

constraint_of-Numbers : (v : Vec Interval Global) → constraint_of (Numbers v) ≡ numbers (map interval_of v.items)
constraint_of-Numbers v = search (rules, the_lemmas)

constraint_of-Items : (v : Vec ℕ Global) → constraint_of (Items v) ≡ items v.items
constraint_of-Items v = search (rules, the_lemmas)

constraint_of-Lengths : (v : Vec declared.Lengths Global) → constraint_of (Lengths v) ≡ lengths (map lengths_of v.items)
constraint_of-Lengths v = search (rules, the_lemmas)

constraint_of-Characters : (v : Vec Interval Global) → constraint_of (Characters v) ≡ alphabet (map interval_of v.items)
constraint_of-Characters v = search (rules, the_lemmas)

pub copied_numbers : (c : Constraint) (v w : Vec Interval Global) → c ≡ Numbers v → w.items ≡ v.items → constraint_of (Numbers w) ≡ constraint_of c
copied_numbers c v w e same = rw e (constraint_of-Numbers w ∙ (ap (λ is. numbers (map interval_of is)) same ∙ sym (constraint_of-Numbers v)))

pub copied_items : (c : Constraint) (v w : Vec ℕ Global) → c ≡ Items v → w.items ≡ v.items → constraint_of (Items w) ≡ constraint_of c
copied_items c v w e same = rw e (constraint_of-Items w ∙ (ap items same ∙ sym (constraint_of-Items v)))

pub copied_lengths : (c : Constraint) (v w : Vec declared.Lengths Global) → c ≡ Lengths v → w.items ≡ v.items → constraint_of (Lengths w) ≡ constraint_of c
copied_lengths c v w e same = rw e (constraint_of-Lengths w ∙ (ap (λ is. lengths (map lengths_of is)) same ∙ sym (constraint_of-Lengths v)))

pub copied_characters : (c : Constraint) (v w : Vec Interval Global) → c ≡ Characters v → w.items ≡ v.items → constraint_of (Characters w) ≡ constraint_of c
copied_characters c v w e same = rw e (constraint_of-Characters w ∙ (ap (λ is. alphabet (map interval_of is)) same ∙ sym (constraint_of-Characters v)))
