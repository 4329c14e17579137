-- Fields one after the other, and one more.
use Rattle.std.proofs.Common.{◌≡◌, ◌≤◌, ◌<◌, ◌+◌, ◌++◌, ℕ, List, [], ◌∷◌, map, length, drop, take, get_or, Option, Some, None, refl, sym, subst, ◌∙◌, ap, append_assoc, add-one, arith}
use Rattle.std.proofs.lemmas.List.{append-nil, map_more}
use Rattle.std.proofs.Math.Seq.{drop-cons}
use Rattle.asn_values.specs.declared.value.Value.{Value}
use Rattle.asn_values.specs.Datum.{Datum}
use Rattle.asn_values.specs.View.{datum_of}
use Rattle.asn_fields.specs.declared.field.MessageField.{MessageField}
use Rattle.asn_fields.specs.Tiles.{Tiles, said, contents, TakesNext, Lays}

pub tiles_more : (from to : ℕ) (fs : List MessageField) (f : MessageField) → Tiles from to fs → f.start ≡ to → to ≤ f.end → Tiles from f.end (fs ++ f ∷ [])
tiles_more from to [] f h e g = (e ∙ sym h, subst (λ n. n ≤ f.end) (sym h) g, refl)
tiles_more from to (x ∷ fs) f h e g = (h.0, h.1, tiles_more x.end to fs f h.2 e g)

pub contents_more : (fs : List MessageField) (f : MessageField) → contents (fs ++ f ∷ []) ≡ contents fs ++ said f.value
contents_more [] f = append-nil (said f.value)
contents_more (x ∷ fs) f = ap (λ l. said x.value ++ l) (contents_more fs f) ∙ sym (append_assoc (said x.value) (contents fs) (said f.value))

-- a field more, that says the next value or none: what is said, and what is left, are all values
pub said_more : (fs : List MessageField) (f : MessageField) (vs : List Value) (used next : ℕ) (all : List Datum)
    → TakesNext vs used f.value next → contents fs ++ map datum_of (drop used vs) ≡ all
    → contents (fs ++ f ∷ []) ++ map datum_of (drop next vs) ≡ all
said_more fs f vs used next all t h =
    ap (λ l. l ++ map datum_of (drop next vs)) (contents_more fs f) ∙ append_assoc (contents fs) (said f.value) (map datum_of (drop next vs))
    ∙ ap (λ l. contents fs ++ l) (sym t.same) ∙ h

-- one value is taken
pub takes_one : (vs : List Value) (used : ℕ) (x v : Value) → used < length vs → x ≡ get_or vs used x → datum_of v ≡ datum_of x
    → TakesNext vs used (Some v) (used + 1)
takes_one vs used x v h e d =
    let split : drop used vs ≡ x ∷ drop (used + 1) vs = rw (add-one, drop-cons vs used x h, ← e) refl in
    record { inside = omega arith; same = ap (map datum_of) split ∙ ap (λ y. y ∷ map datum_of (drop (used + 1) vs)) (sym d) }

-- none is
pub takes_none : (vs : List Value) (used : ℕ) → used ≤ length vs → TakesNext vs used None used
takes_none vs used h = record { inside = h; same = refl }

-- no field, and no value
pub lays_none : (fs : List MessageField) (at : ℕ) (vs : List Value) → Lays fs at (map datum_of (take 0 vs)) fs
lays_none fs at vs = record { tiles = λ from h. h; values = sym (append-nil (contents fs)) }

-- a field without units more, and its value
pub lays_more : (old fs gs : List MessageField) (f : MessageField) (at : ℕ) (vs : List Value) (i : ℕ) (x v : Value)
    → i < length vs → x ≡ get_or vs i x → datum_of v ≡ datum_of x → gs ≡ fs ++ f ∷ [] → f.start ≡ at → f.end ≡ at → f.value ≡ Some v
    → Lays old at (map datum_of (take i vs)) fs → Lays old at (map datum_of (take (i + 1) vs)) gs
lays_more old fs gs f at vs i x v h e d g s t w a = record {
  tiles = λ from p. subst (λ (l : List MessageField). Tiles from at l) (sym g) (subst (λ n. Tiles from n (fs ++ f ∷ [])) t (tiles_more from at fs f (a.tiles from p) s (omega (arith, t))));
  values =
      ap contents g ∙ contents_more fs f ∙ ap (λ l. l ++ said f.value) a.values
      ∙ append_assoc (contents old) (map datum_of (take i vs)) (said f.value)
      ∙ ap (λ l. contents old ++ l) (ap (λ (o : Option Value). map datum_of (take i vs) ++ said o) w ∙ ap (λ y. map datum_of (take i vs) ++ y ∷ []) (d ∙ ap datum_of e) ∙ sym (map_more datum_of vs i x h));
}

-- one more that says no value
pub contents_none : (fs : List MessageField) (f : MessageField) → f.value ≡ None → contents (fs ++ f ∷ []) ≡ contents fs
contents_none fs f e = contents_more fs f ∙ ap (λ (o : Option Value). contents fs ++ said o) e ∙ append-nil (contents fs)
