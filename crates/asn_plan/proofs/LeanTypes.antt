-- The parts of a lean type, one after the other.
use Rattle.std.proofs.Common.{◌≡◌, ◌++◌, ◌∷◌, [], ◌<◌, ◌≤◌, ◌+◌, ℕ, List, Bool, true, false, map, drop, length, get_or, refl, sym, ap, ◌∙◌}
use Rattle.std.proofs.Math.Seq.{drop-cons}
use Rattle.std.proofs.Math.Numerals.{add-one}
use Rattle.std.proofs.lemmas.Bool.{true≢false}
use Rattle.std.proofs.lemmas.List.{drop_all, map-append}
use Rattle.asn_values.specs.declared.types.Field.{Field}
use Rattle.asn_values.specs.Shape.{Shape, Demand, must, optional, default, Fields, no_fields, field, append_fields, Alternatives, no_alternatives, one_of}
use Rattle.asn_values.specs.View.{Part, Branch, fields_of, part_of_field, alternatives_of}
use Rattle.asn_plan.specs.Lean.{lean, lean_root, lean_each, lean_alternatives, is_left_out, is_single}
use Rattle.asn_plan.specs.Nothing.{has_nothing}

-- the next part, and those after it
pub next_part : {A : Type 0} (xs : List A) (i : ℕ) (x : A) → i < length xs → x ≡ get_or xs i x
    → drop i xs ≡ x ∷ drop (i + 1) xs
next_part xs i x h e = rw (add-one, drop-cons xs i x h, ← e) refl

-- nothing after the components
pub append_none : (fs : Fields) → append_fields fs no_fields ≡ fs
append_none no_fields = refl
append_none (field name demand t fs) = ap (field name demand t) (append_none fs)

-- one component more, or one more before the others
pub append_next : (ps : List Part) (p : Part) (fs : Fields)
    → append_fields (fields_of (ps ++ p ∷ [])) fs ≡ append_fields (fields_of ps) (field p.name p.demand p.shape fs)
append_next [] p fs = refl
append_next (q ∷ ps) p fs = ap (field q.name q.demand q.shape) (append_next ps p fs)

-- a component that is left out
pub left_next : (single : Bool) (p : Part) (fs : Fields) → is_left_out single p ≡ true
    → lean_root single (field p.name p.demand p.shape fs) ≡ lean_root single fs
left_next single p fs h = go p.demand p.shape h
  where
    of_true : (t : Shape) (b : Bool) → b ≡ true
        → elim b [ true ↦ lean_root single fs | false ↦ field p.name must (lean single t) (lean_root single fs) ] ≡ lean_root single fs
    of_true t true h = refl
    of_true t false h = absurd (true≢false (sym h))

    go : (d : Demand) (t : Shape) → is_left_out single (record { name = p.name; demand = d; shape = t }) ≡ true
        → lean_root single (field p.name d t fs) ≡ lean_root single fs
    go must t h = of_true t (has_nothing single t) h
    go optional t h = absurd (true≢false (sym h))
    go (default d) t h = absurd (true≢false (sym h))

-- one that is not
pub kept_next : (single : Bool) (p : Part) (fs : Fields) → is_left_out single p ≡ false
    → lean_root single (field p.name p.demand p.shape fs)
    ≡ field p.name p.demand (lean (is_single single p.demand) p.shape) (lean_root single fs)
kept_next single p fs h = go p.demand p.shape h
  where
    of_false : (t : Shape) (b : Bool) → b ≡ false
        → elim b [ true ↦ lean_root single fs | false ↦ field p.name must (lean single t) (lean_root single fs) ]
        ≡ field p.name must (lean single t) (lean_root single fs)
    of_false t true h = absurd (true≢false h)
    of_false t false h = refl

    go : (d : Demand) (t : Shape) → is_left_out single (record { name = p.name; demand = d; shape = t }) ≡ false
        → lean_root single (field p.name d t fs) ≡ field p.name d (lean (is_single single d) t) (lean_root single fs)
    go must t h = of_false t (has_nothing single t) h
    go optional t h = refl
    go (default d) t h = refl

-- an extension addition
pub each_next : (single : Bool) (p : Part) (fs : Fields)
    → lean_each single (field p.name p.demand p.shape fs)
    ≡ field p.name p.demand (lean (is_single single p.demand) p.shape) (lean_each single fs)
each_next single p fs = go p.demand
  where
    go : (d : Demand) → lean_each single (field p.name d p.shape fs) ≡ field p.name d (lean (is_single single d) p.shape) (lean_each single fs)
    go must = refl
    go optional = refl
    go (default d) = refl

-- ---- components that are kept, which stand before those that are left to do; G says what becomes of these

abbrev pub lean_part : Bool → Part → Part
lean_part single p = record { name = p.name; demand = p.demand; shape = lean (is_single single p.demand) p.shape }

abbrev pub DoneAndLeft : (Fields → Fields) → List Field → List Field → Fields → Type 0
DoneAndLeft G kept rest all =
    append_fields (fields_of (map part_of_field kept)) (G (fields_of (map part_of_field rest))) ≡ all

pub one_kept : (single : Bool) (G : Fields → Fields) (kept : List Field) (f x : Field) (fs : List Field) (i : ℕ) (all : Fields)
    → i < length fs → x ≡ get_or fs i x → part_of_field f ≡ lean_part single (part_of_field x)
    → ((rest : Fields) → G (field (part_of_field x).name (part_of_field x).demand (part_of_field x).shape rest)
    ≡ field (part_of_field x).name (part_of_field x).demand (lean (is_single single (part_of_field x).demand) (part_of_field x).shape) (G rest))
    → DoneAndLeft G kept (drop i fs) all → DoneAndLeft G (kept ++ f ∷ []) (drop (i + 1) fs) all
one_kept single G kept f x fs i all less e is step h =
    let p = part_of_field x in
    let rest = fields_of (map part_of_field (drop (i + 1) fs)) in
    let ks = fields_of (map part_of_field kept) in
    let here : append_fields ks (G (field p.name p.demand p.shape rest)) ≡ all = rw (next_part fs i x less e) at h in
    let new : fields_of (map part_of_field (kept ++ f ∷ [])) ≡ fields_of (map part_of_field kept ++ lean_part single p ∷ []) = ap fields_of (map-append part_of_field kept (f ∷ []) ∙ ap (λ (q : Part). map part_of_field kept ++ q ∷ []) is) in
    ap (λ (a : Fields). append_fields a (G rest)) new ∙ append_next (map part_of_field kept) (lean_part single p) (G rest) ∙ ap (append_fields ks) (sym (step rest)) ∙ here

pub one_left : (G : Fields → Fields) (kept : List Field) (x : Field) (fs : List Field) (i : ℕ) (all : Fields)
    → i < length fs → x ≡ get_or fs i x
    → ((rest : Fields) → G (field (part_of_field x).name (part_of_field x).demand (part_of_field x).shape rest) ≡ G rest)
    → DoneAndLeft G kept (drop i fs) all → DoneAndLeft G kept (drop (i + 1) fs) all
one_left G kept x fs i all less e step h =
    let p = part_of_field x in
    let rest = fields_of (map part_of_field (drop (i + 1) fs)) in
    let ks = fields_of (map part_of_field kept) in
    let here : append_fields ks (G (field p.name p.demand p.shape rest)) ≡ all = rw (next_part fs i x less e) at h in
    ap (append_fields ks) (sym (step rest)) ∙ here

pub all_done : (G : Fields → Fields) (kept fs : List Field) (i : ℕ) (all : Fields) → G no_fields ≡ no_fields → length fs ≤ i
    → DoneAndLeft G kept (drop i fs) all → fields_of (map part_of_field kept) ≡ all
all_done G kept fs i all none few h =
    let ks = fields_of (map part_of_field kept) in
    let here : append_fields ks (G no_fields) ≡ all = rw (drop_all i fs few) at h in
    sym (append_none ks) ∙ ap (append_fields ks) (sym none) ∙ here

-- ---- alternatives

abbrev append_alternatives : Alternatives → Alternatives → Alternatives
append_alternatives no_alternatives more = more
append_alternatives (one_of name t alts) more = one_of name t (append_alternatives alts more)

more_seen : (bs : List Branch) (b : Branch)
    → alternatives_of (bs ++ b ∷ []) ≡ append_alternatives (alternatives_of bs) (one_of b.name b.shape no_alternatives)
more_seen [] b = refl
more_seen (x ∷ bs) b = ap (one_of x.name x.shape) (more_seen bs b)

lean_appended : (single : Bool) (alts : Alternatives) (name : List ℕ) (t : Shape)
    → lean_alternatives single (append_alternatives alts (one_of name t no_alternatives))
    ≡ append_alternatives (lean_alternatives single alts) (one_of name (lean single t) no_alternatives)
lean_appended single no_alternatives name t = refl
lean_appended single (one_of other u alts) name t = ap (one_of other (lean single u)) (lean_appended single alts name t)

pub alternatives_next : (single : Bool) (cs bs : List Branch) (c b : Branch)
    → alternatives_of cs ≡ lean_alternatives single (alternatives_of bs)
    → c ≡ record { name = b.name; shape = lean single b.shape }
    → alternatives_of (cs ++ c ∷ []) ≡ lean_alternatives single (alternatives_of (bs ++ b ∷ []))
alternatives_next single cs bs c b h e =
    more_seen cs c ∙ ap (λ (d : Branch). append_alternatives (alternatives_of cs) (one_of d.name d.shape no_alternatives)) e
    ∙ ap (λ (a : Alternatives). append_alternatives a (one_of b.name (lean single b.shape) no_alternatives)) h
    ∙ sym (lean_appended single (alternatives_of bs) b.name b.shape) ∙ ap (lean_alternatives single) (sym (more_seen bs b))
