-- What is still asked of a value once one more part of it is passed.
use Rattle.std.specs.Global.{Box}
use Rattle.std.specs.List.{list_all}
use Rattle.std.proofs.Common.{◌≡◌, ◌&&◌, ◌+◌, Bool, true, false, List, [], ◌∷◌, ◌++◌, map, length, length-append, append_assoc, Option, Some, None, is_some, IsSome, IfSome, Vec, Global, refl, ap, sym, ◌∙◌, subst, true≢false, rules}
use Rattle.std.specs.Borrow.{Bor}
use Rattle.std.proofs.lemmas.List.{append-nil}
use Rattle.asn_values.specs.Datum.{Datum, components, components_of, elements, elements_of}
use Rattle.asn_constraints.specs.declared.constraint.Component.{Component}
use Rattle.asn_values.proofs.Views.{component_list-components_of, element_list-elements_of}
use Rattle.asn_constraints.specs.declared.constraint.Lengths.{Lengths}
use Rattle.asn_constraints.specs.declared.constraint.Constraint.{Constraint, Components, SomePresent, the_lemmas}
use Rattle.asn_constraints.specs.declared.constraint.Constraint as declared_constraint
use Rattle.asn_constraints.specs.declared.constraint.Presence as declared
use Rattle.asn_constraints.specs.declared.constraint.Presence.TheVariants as presence
use Rattle.asn_constraints.specs.Constraints.{OnComponents, on_component, may_be_absent, may_be_present, lengths, is_length, meets, meet_each, one_present}
use Rattle.asn_constraints.specs.View.{constraint_of, OnOne, on_one, components_seen, presence_of, lengths_of}
use Rattle.asn_constraints.proofs.Views.{constraint_of-Components, constraint_of-SomePresent, constraint_of-Elements}
use Rattle.asn_constrained.specs.declared.along.entries.Entries.{Entries}
use Rattle.asn_constrained.specs.declared.along.elements.Elements.{Elements}
use Rattle.asn_constrained.specs.Along.{MeetsDue, MeetsFirst, MeetAsked, AreListed, AllMeetDue, MayHaveLength, MeetAskedOfEach, AreRowed}

both_true : (a b : Bool) → a ≡ true → b ≡ true → a && b ≡ true
both_true true b e h = h
both_true false b e h = e

-- ---- presence

presence_seen : (c : Component) → (on_one c).presence ≡ presence_of c.presence
presence_seen c = search (rules, the_lemmas)

absent_allowed : (p : declared.Presence) → (p ≡ presence.Present → ⊥) → may_be_absent (presence_of p) ≡ true
absent_allowed presence.Any h = refl
absent_allowed presence.Present h = absurd (h refl)
absent_allowed presence.Absent h = refl

present_allowed : (p : declared.Presence) → (p ≡ presence.Absent → ⊥) → may_be_present (presence_of p) ≡ true
present_allowed presence.Any h = refl
present_allowed presence.Present h = refl
present_allowed presence.Absent h = absurd (h refl)

-- what holds where there is something holds of what there is
pub if_some : {A : Type 0} (x : Option A) (P : Type 0) → (IsSome x → P) → IfSome x (λ p. P)
if_some None P h = tt
if_some (Some a) P h = h refl

-- where nothing is due each value is right
pub nothing_due : (due : Option (Bor Constraint)) (d : Datum) → is_some due ≡ false → MeetsDue due d
nothing_due None d none = tt
nothing_due (Some k) d none = absurd (true≢false none)

-- ---- SEQUENCE

absent_meets : (o : OnOne) (os : OnComponents) (gs : List (Option Datum)) → may_be_absent o.presence ≡ true → meet_each os gs ≡ true
    → meet_each (on_component o.presence o.constraint os) (None ∷ gs) ≡ true
absent_meets o os gs may met = both_true (may_be_absent o.presence) (meet_each os gs) may met

present_meets : (o : OnOne) (os : OnComponents) (d : Datum) (gs : List (Option Datum)) → may_be_present o.presence ≡ true → meets o.constraint d ≡ true
    → meet_each os gs ≡ true → meet_each (on_component o.presence o.constraint os) (Some d ∷ gs) ≡ true
present_meets o os d gs may is met =
    both_true (may_be_present o.presence && meets o.constraint d) (meet_each os gs) (both_true (may_be_present o.presence) (meets o.constraint d) may is) met

-- entries are the first ones of a SEQUENCE where what is asked of those after one more is enough for those after it
one_more : (s m n : Option (Bor Constraint)) (e f : Entries) (es : List (Option Datum)) (entry : Option Datum) →
    ((gs : List (Option Datum)) → MeetAsked f gs → MeetAsked e (entry ∷ gs)) → ((d : Datum) → MeetsDue n d → MeetsFirst f.rest.now d) →
    AreListed s m e es → AreListed s n f (es ++ entry ∷ [])
one_more s m n e f es entry on first h = record {
  whole = λ gs met. rw (append_assoc es (entry ∷ []) gs) (h.whole (entry ∷ gs) (on gs met));
  next = first;
}

-- after a component that is absent, of which something is asked
pub absent_passed :
    (s m n : Option (Bor Constraint)) (e f : Entries) (c : Component) (es : List (Option Datum)) → e.rest.now ≡ c ∷ f.rest.now →
    f.some_due ≡ e.some_due → (c.presence ≡ presence.Present → ⊥) → ((d : Datum) → MeetsDue n d → MeetsFirst f.rest.now d) →
    AreListed s m e es → AreListed s n f (es ++ None ∷ [])
absent_passed s m n e f c es is some may first h = one_more s m n e f es None (λ gs met. record {
  rest = rw is (absent_meets (on_one c) _ gs (ap may_be_absent (presence_seen c) ∙ absent_allowed c.presence may) met.rest);
  some = λ t. met.some (some ∙ t);
}) first h

-- after one that is present
pub present_passed :
    (s m n : Option (Bor Constraint)) (e f : Entries) (c : Component) (es : List (Option Datum)) (d : Datum) → e.rest.now ≡ c ∷ f.rest.now →
    (c.presence ≡ presence.Absent → ⊥) → ((d : Datum) → MeetsDue n d → MeetsFirst f.rest.now d) →
    AreListed s m e es → MeetsDue m d → AreListed s n f (es ++ Some d ∷ [])
present_passed s m n e f c es d is may first h met_first = one_more s m n e f es (Some d) (λ gs met. record {
  rest = rw is (present_meets (on_one c) _ d gs (ap may_be_present (presence_seen c) ∙ present_allowed c.presence may) (rw is at (h.next d met_first)) met.rest);
  some = λ t. refl;
}) first h

-- after one of which nothing is asked
pub free_absent_passed :
    (s m : Option (Bor Constraint)) (e : Entries) (es : List (Option Datum)) → e.rest.now ≡ [] → AreListed s m e es → AreListed s m e (es ++ None ∷ [])
free_absent_passed s m e es is h = one_more s m m e e es None (λ gs met. record { rest = rw is refl; some = λ t. met.some t }) h.next h

pub free_present_passed :
    (s m n : Option (Bor Constraint)) (e f : Entries) (es : List (Option Datum)) (d : Datum) → e.rest.now ≡ [] → f.rest.now ≡ [] →
    AreListed s m e es → AreListed s n f (es ++ Some d ∷ [])
free_present_passed s m n e f es d is also h =
    one_more s m n e f es (Some d) (λ gs met. record { rest = rw is refl; some = λ t. refl }) (λ d met. rw also tt) h

-- what a constraint asks of components
pub components_asked :
    (k : Constraint) (cs : Vec Component Global) (e : Entries) (es : List (Option Datum)) → k ≡ Components cs → e.rest.now ≡ cs.items → MeetAsked e es →
    meets (constraint_of k) (components (components_of es)) ≡ true
components_asked k cs e es is all met =
    rw (is, constraint_of-Components cs) (ap (meet_each (components_seen cs.items)) (component_list-components_of es) ∙ (rw all at met.rest))

pub some_asked :
    (k : Constraint) (e : Entries) (es : List (Option Datum)) → k ≡ SomePresent → e.some_due ≡ true → MeetAsked e es →
    meets (constraint_of k) (components (components_of es)) ≡ true
some_asked k e es is due met = rw (is, constraint_of-SomePresent) (ap one_present (component_list-components_of es) ∙ met.some due)

-- once no more is asked
pub entries_end :
    (s m : Option (Bor Constraint)) (e : Entries) (es : List (Option Datum)) → e.rest.now ≡ [] → e.some_due ≡ false → AreListed s m e es →
    MeetsDue s (components (components_of es))
entries_end s m e es is none h =
    rw (append-nil es) at (h.whole [] (record { rest = rw is refl; some = λ t. absurd (true≢false (sym t ∙ none)) }))

-- ---- SEQUENCE OF

all_and_one : (c : Option (Bor Constraint)) (ds : List Datum) (d : Datum) → AllMeetDue c ds → MeetsDue c d → AllMeetDue c (ds ++ d ∷ [])
all_and_one c [] d h met = (met, tt)
all_and_one c (e ∷ ds) d h met = (h.0, all_and_one c ds d h.1 met)

-- where nothing is due of each
pub all_free : (ds : List Datum) → AllMeetDue None ds
all_free [] = tt
all_free (d ∷ ds) = (tt, all_free ds)

all_meet : (k : Bor Constraint) (ds : List Datum) → AllMeetDue (Some k) ds → list_all (λ d. meets (constraint_of k.now) d) ds ≡ true
all_meet k [] h = refl
all_meet k (d ∷ ds) h = both_true (meets (constraint_of k.now) d) (list_all (λ d. meets (constraint_of k.now) d) ds) h.0 (all_meet k ds h.1)

constraint_of-Lengths : (v : Vec Lengths Global) → constraint_of (declared_constraint.Lengths v) ≡ lengths (map lengths_of v.items)
constraint_of-Lengths v = search (rules, the_lemmas)

-- what a constraint asks of elements
pub elements_asked :
    (k : Constraint) (inner : Box Constraint) (r : Bor Constraint) (e : Elements) (ds : List Datum) → k ≡ declared_constraint.Elements inner →
    r.now ≡ inner.value → e.each ≡ Some r → MeetAskedOfEach e ds → meets (constraint_of k) (elements (elements_of ds)) ≡ true
elements_asked k inner r e ds is value each met =
    let asked : AllMeetDue (Some r) ds = subst (λ z. AllMeetDue z ds) each met.each in
    rw (is, constraint_of-Elements inner)
    (ap (list_all (λ d. meets (constraint_of inner.value) d)) (element_list-elements_of ds)
    ∙ subst (λ z. list_all (λ d. meets (constraint_of z) d) ds ≡ true) value (all_meet r ds asked))

pub length_asked :
    (k : Constraint) (ls : Vec Lengths Global) (r : Bor (List Lengths)) (e : Elements) (ds : List Datum) → k ≡ declared_constraint.Lengths ls →
    r.now ≡ ls.items → e.lengths ≡ Some r → MeetAskedOfEach e ds → meets (constraint_of k) (elements (elements_of ds)) ≡ true
length_asked k ls r e ds is value some met =
    let asked : is_length (map lengths_of r.now) (length ds) ≡ true = subst (λ z. MayHaveLength z (length ds)) some met.lengths in
    rw (is, constraint_of-Lengths ls)
    (ap (λ xs. is_length (map lengths_of ls.items) (length xs)) (element_list-elements_of ds)
    ∙ subst (λ z. is_length (map lengths_of z) (length ds) ≡ true) value asked)

pub element_passed :
    (s m : Option (Bor Constraint)) (e f : Elements) (ds : List Datum) (d : Datum) → f.each ≡ e.each → f.lengths ≡ e.lengths → f.count ≡ e.count + 1 →
    AreRowed s m e ds → MeetsDue m d → AreRowed s f.each f (ds ++ d ∷ [])
element_passed s m e f ds d each same more h met = record {
  whole = λ es asked. h.whole es (record { each = subst (λ z. AllMeetDue z es) each asked.each; lengths = subst (λ z. MayHaveLength z (length es)) same asked.lengths });
  each = subst (λ z. AllMeetDue z (ds ++ d ∷ [])) (sym each) (all_and_one e.each ds d h.each (h.next d met));
  count = more ∙ ap (λ n. n + 1) h.count ∙ sym (length-append ds (d ∷ []));
  next = λ d met. met;
}

pub elements_end :
    (s m : Option (Bor Constraint)) (e : Elements) (ds : List Datum) → MayHaveLength e.lengths e.count → AreRowed s m e ds →
    MeetsDue s (elements (elements_of ds))
elements_end s m e ds may h = h.whole ds (record { each = h.each; lengths = subst (λ n. MayHaveLength e.lengths n) h.count may })
