-- Where the walk of a plan stands in the components of a SEQUENCE, and what its parts make together.
use Rattle.std.proofs.Math.Seq.{drop-cons}
use Rattle.std.proofs.Math.Numerals.{add-one}
use Rattle.std.proofs.Common.{◌≡◌, ◌≤◌, ◌<◌, ◌+◌, ◌-◌, get_or, take, drop, ℕ, zero, suc, Bool, false, List, [], ◌∷◌, ◌++◌, length, Option, None, refl, sym, ap, subst, ◌∙◌, append_assoc, append-nil, arith}
use Rattle.asn_values.specs.Datum.{Datum, components, components_of}
use Rattle.asn_values.specs.Parts.{AreOfProfile}
use Rattle.asn_values.specs.Profile.{InProfile}
use Rattle.asn_values.specs.Shape.{Fields, MoreFields, sequence, closed, marked, more_fields, no_fields, field}
use Rattle.asn_bits.specs.Numbers.{bits}
use Rattle.asn_rules.specs.Languages.{Spells}
use Rattle.asn_rules.specs.Listed.{Spelt, Listed, bitmap_length}
use Rattle.asn_rules.proofs.Components.ListedReading.{nothing_read}
use Rattle.asn_walk.specs.Coding.{Coding, PreambleOf, absent_entries, added}
use Rattle.asn_walk.specs.Laws.{Laws}
use Rattle.asn_walk.proofs.SequencesRead.{none_added}
use Rattle.asn_plan.specs.declared.plan.Node.{Node}
use Rattle.asn_plan.specs.Plans.{ArePlans, ArePlansOfMore, BuildsEntry, BuiltUpTo, GoesOn, absents, row}

pub built_starts : (c : Coding) (P : List (Option Datum) → Type 0) (ns parts : List Node) (count bitmap : ℕ)
    (us : List ℕ) → count ≤ 64 → P [] → BuiltUpTo c P ns parts parts count bitmap count us us
built_starts c P ns parts count bitmap us f q = record {
  few = f;
  goes = λ root h p w. (
    [],
    q,
    record {
      fields = root;
      good = h;
      plans = p;
      width = w;
      on = λ gs ws k. k;
    },
  );
}

-- an entry more is read
goes_further : (c : Coding) (P N : List (Option Datum) → Type 0) (ns rest : List Node) (m : Node) (root : Fields)
    (count bitmap left after : ℕ) (us : List ℕ) (es : List (Option Datum)) (vs ws : List ℕ)
    → BuildsEntry c P N ns m bitmap left after vs ws → P es → GoesOn c ns (m ∷ rest) root count bitmap left us es vs
    → (e : Option Datum) × N (es ++ e ∷ []) × GoesOn c ns rest root count bitmap after us (es ++ e ∷ []) ws
goes_further c P N ns rest m root count bitmap left after us es vs ws b l g = go g.fields g.good g.plans g.width g.on
  where
    go : (fs : Fields) → AreOfProfile fs → ArePlans ns (m ∷ rest) fs → left ≡ bitmap_length fs
        → ((gs : List (Option Datum)) (xs : List ℕ)
        → Spells c.ruling.fielding (Listed c.code fs (bits left bitmap)) gs vs xs
        → Spells c.ruling.fielding (Listed c.code root (bits count bitmap)) (es ++ gs) us xs)
        → (e : Option Datum) × N (es ++ e ∷ []) × GoesOn c ns rest root count bitmap after us (es ++ e ∷ []) ws
    go no_fields h p w on = absurd p
    go (field name demand t fs) h p w on =
        let e = b.entry name demand t fs h.0 p.0 p.1 w es l in (
          e.0,
          e.1,
          record {
            fields = fs;
            good = h.2;
            plans = p.2;
            width = e.2;
            on = λ gs xs k. subst (λ (l : List (Option Datum)). Spells c.ruling.fielding (Listed c.code root (bits count bitmap)) l us xs) (sym (append_assoc es (e.0 ∷ []) gs)) (on (e.0 ∷ gs) xs (e.3 gs xs k));
          },
        )

pub built_further : {c : Coding} {P : List (Option Datum) → Type 0} (N : List (Option Datum) → Type 0) {ns parts rest : List Node}
    {m : Node} {count bitmap left : ℕ} (after : ℕ) {us vs : List ℕ} (ws : List ℕ)
    → BuiltUpTo c P ns parts (m ∷ rest) count bitmap left us vs → BuildsEntry c P N ns m bitmap left after vs ws
    → BuiltUpTo c N ns parts rest count bitmap after us ws
built_further {c} {P} N {ns} {parts} {rest} {m} {count} {bitmap} {left} after {us} {vs} ws h b = record {
  few = omega (arith, h.few, b.few);
  goes = λ root a p w. (let g = h.goes root a p w in let k = goes_further c P N ns rest m root count bitmap left after us g.0 vs ws b g.1 g.2 in (g.0 ++ k.0 ∷ [], k.1, k.2));
}

-- no node is left: all components are read
pub goes_ends : {c : Coding} {ns rest : List Node} {root : Fields} {count bitmap left : ℕ} {us vs : List ℕ}
    {es : List (Option Datum)} → GoesOn c ns rest root count bitmap left us es vs → rest ≡ []
    → Spells c.ruling.fielding (Listed c.code root (bits count bitmap)) es us vs
goes_ends {c} {ns} {rest} {root} {count} {bitmap} {left} {us} {vs} {es} g e = go g.fields (rw e at g.plans) g.on
  where
    go : (fs : Fields) → ArePlans ns [] fs
        → ((gs : List (Option Datum)) (xs : List ℕ)
        → Spells c.ruling.fielding (Listed c.code fs (bits left bitmap)) gs vs xs
        → Spells c.ruling.fielding (Listed c.code root (bits count bitmap)) (es ++ gs) us xs)
        → Spells c.ruling.fielding (Listed c.code root (bits count bitmap)) es us vs
    go no_fields p on = subst (λ (l : List (Option Datum)). Spells c.ruling.fielding (Listed c.code root (bits count bitmap)) l us vs) (append-nil es) (on [] vs (nothing_read c.ruling.fielding [] vs))
    go (field name demand t fs) p on = absurd p

-- the next node, and those after it
pub next_node : (ps : List Node) (i : ℕ) (x : Node) → i < length ps → x ≡ get_or ps i x → drop i ps ≡ x ∷ drop (i + 1) ps
next_node ps i x h e = rw (add-one, drop-cons ps i x h, ← e) refl

-- ---- additions that are absent

absents_listed : (ns ms : List Node) (fs : Fields) → ArePlans ns ms fs → absents (length ms) ≡ absent_entries fs
absents_listed ns [] no_fields p = refl
absents_listed ns (m ∷ ms) (field name demand t fs) p = ap (λ (l : List (Option Datum)). None ∷ l) (absents_listed ns ms fs p.2)
absents_listed ns [] (field name demand t fs) p = absurd p
absents_listed ns (m ∷ ms) no_fields p = absurd p

pub absents_are : (ns ms : List Node) (more : MoreFields) → ArePlansOfMore ns ms more
    → absents (length ms) ≡ absent_entries (more_fields more)
absents_are ns ms closed p = ap (λ (l : List Node). absents (length l)) p
absents_are ns ms (marked fs) p = absents_listed ns ms fs p

-- one more
pub absents_more : (n : ℕ) → absents (suc n) ≡ absents n ++ None ∷ []
absents_more zero = refl
absents_more (suc n) = ap (λ (l : List (Option Datum)). None ∷ l) (absents_more n)

pub absent_further : (P N : List (Option Datum) → Type 0) (es : List (Option Datum)) (n : ℕ)
    → ((gs : List (Option Datum)) → P gs → N (gs ++ None ∷ [])) → P (es ++ absents n) → N (es ++ absents (n + 1))
absent_further P N es n add p =
    let same : (es ++ absents n) ++ None ∷ [] ≡ es ++ absents (n + 1) = append_assoc es (absents n) (None ∷ []) ∙ ap (λ (l : List (Option Datum)). es ++ l) (sym (rw add-one (absents_more n))) in
    subst N same (add (es ++ absents n) p)

-- ---- SEQUENCE

-- no node, so no component
no_fields_left : (ns ms : List Node) (fs : Fields) → ms ≡ [] → ArePlans ns ms fs → fs ≡ no_fields
no_fields_left ns ms no_fields e p = refl
no_fields_left ns [] (field name demand t fs) e p = absurd p
no_fields_left ns (m ∷ ms) (field name demand t fs) e p = absurd (cc)

pub no_root : (ns all : List Node) (a b : ℕ) (fs : Fields) → b ≤ a → ArePlans ns (row a b all) fs → fs ≡ no_fields
no_root ns all a b fs l p =
    let none : b - a ≡ zero = omega (arith, l) in
    no_fields_left ns (row a b all) fs (ap (λ (n : ℕ). take n (drop a all)) none) p

pub no_additions : (ns all : List Node) (a b : ℕ) (more : MoreFields) → b ≤ a → ArePlansOfMore ns (row a b all) more
    → more_fields more ≡ no_fields
no_additions ns all a b closed l p = refl
no_additions ns all a b (marked fs) l p = no_root ns all a b fs l p

-- the preamble and the components, where no addition is present
pub sequence_read : (c : Coding) → Laws c → (root : Fields) (more : MoreFields) → InProfile (sequence root more)
    → (count : ℕ) (listed : Option ℕ) → count ≡ bitmap_length root → listed ≡ added more → (p : Bool × ℕ) (us vs ws : List ℕ)
    → Spells c.ruling.fielding (PreambleOf c count listed) p us vs → (es : List (Option Datum))
    → Spells c.ruling.fielding (Listed c.code root (bits count p.1)) es vs ws → p.0 ≡ false
    → (gs : List (Option Datum)) → gs ≡ absent_entries (more_fields more)
    → Spells c.ruling.fielding (Spelt c.code None (sequence root more)) (components (components_of (es ++ gs))) us ws
sequence_read c laws root more good count listed e f p us vs ws h es k none gs same =
    rw same (none_added c laws root more good p us vs (rw (e, f) at h) es ws (rw e at k) none)

-- nothing but the preamble
pub empty_read : (c : Coding) → Laws c → (more : MoreFields) → InProfile (sequence no_fields more) → (listed : Option ℕ)
    → listed ≡ added more → more_fields more ≡ no_fields → (p : Bool × ℕ) (us vs : List ℕ)
    → Spells c.ruling.fielding (PreambleOf c 0 listed) p us vs → p.0 ≡ false
    → Spells c.ruling.fielding (Spelt c.code None (sequence no_fields more)) (components (components_of [])) us vs
empty_read c laws more good listed f same p us vs h none =
    let read : Spells c.ruling.fielding (Listed c.code no_fields (bits 0 p.1)) [] vs vs = nothing_read c.ruling.fielding [] vs in
    sequence_read c laws no_fields more good 0 listed refl f p us vs vs h [] read none [] (ap absent_entries (sym same))
