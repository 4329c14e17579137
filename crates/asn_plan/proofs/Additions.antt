-- Where the walk of a plan stands in the extension additions of a SEQUENCE, and what they make with its root.
use Rattle.std.proofs.Common.{◌≡◌, ◌≤◌, ◌+◌, ◌/◌, ◌%◌, ◌^◌, ℕ, Bool, true, List, [], ◌∷◌, ◌++◌, length, Option, Some, None, sym, subst, append_assoc, append-nil, arith}
use Rattle.asn_values.specs.Datum.{Datum, components, components_of}
use Rattle.asn_values.specs.Parts.{AreOfProfile}
use Rattle.asn_values.specs.Profile.{InProfile}
use Rattle.asn_values.specs.Shape.{Shape, Fields, MoreFields, sequence, closed, marked, no_fields, field, demands}
use Rattle.asn_values.proofs.InnerTypes.{additions_of_profile}
use Rattle.asn_bits.specs.Numbers.{bits}
use Rattle.asn_rules.specs.General.{after_first}
use Rattle.asn_rules.specs.Languages.{Spells}
use Rattle.asn_rules.specs.Listed.{Spelt, Listed, bitmap_length}
use Rattle.asn_rules.proofs.Components.ListedReading.{nothing_read}
use Rattle.asn_rules.proofs.Languages.Parts.{map_spells}
use Rattle.asn_rules.proofs.Languages.Then.{then_spells}
use Rattle.asn_walk.specs.Coding.{Coding, PreambleOf, OpenOf, OpenListed, AdditionBitmapOf, AdditionsOf, added}
use Rattle.asn_walk.specs.Laws.{Laws}
use Rattle.asn_walk.proofs.SequencesRead.{additions_done}
use Rattle.asn_plan.specs.declared.plan.Node.{Node}
use Rattle.asn_plan.specs.Plans.{IsPlan, ArePlans, ArePlansOfMore, BuildsAddition, BuildsMore}
use Rattle.asn_plan.proofs.Entries.{before_spells, bits_from}

module _ (c : Coding) (P N : List (Option Datum) → Type 0) (ns : List Node) (n : Node) (bitmap left after : ℕ) (us vs : List ℕ) (less : after + 1 ≡ left) where
  -- it is present
  pub present_addition : (Q : Datum → Type 0) → ((es : List (Option Datum)) (d : Datum) → P es → Q d → N (es ++ Some d ∷ []))
      → 1 ≡ bitmap / 2 ^ after % 2
      → ((t : Shape) → InProfile t → IsPlan ns t n.kind → (d : Datum) × Q d × Spells c.ruling.fielding (OpenOf c t) d us vs)
      → BuildsAddition c P N ns n bitmap left after us vs
  present_addition Q add b read = record {
    less = less;
    entry = λ name demand t others good plan es l. (let d = read t good plan in (Some d.0, add es d.0 l d.1, λ gs ws k. rw (bits_from left after bitmap 1 less b) (before_spells d.2 k)));
  }

  -- it is absent
  pub absent_addition : ((es : List (Option Datum)) → P es → N (es ++ None ∷ [])) → 0 ≡ bitmap / 2 ^ after % 2 → us ≡ vs
      → BuildsAddition c P N ns n bitmap left after us vs
  absent_addition add b still = record {
    less = less;
    entry = λ name demand t others good plan es l. (None, add es l, λ gs ws k. rw (still, bits_from left after bitmap 0 less b) (map_spells {f = λ es. None ∷ es} k));
  }

-- the additions that are left, of which these nodes are plans, and what is read of all once these are read
pub record OpenGoesOn (c : Coding) (ns rest : List Node) (root : Fields) (count bitmap left : ℕ) (us : List ℕ)
    (es : List (Option Datum)) (vs : List ℕ) : Type 0 where
  pub fields : Fields
  pub good : AreOfProfile fields
  pub plans : ArePlans ns rest fields
  pub on : (gs : List (Option Datum)) (ws : List ℕ)
      → Spells c.ruling.fielding (OpenListed c fields (bits left bitmap)) gs vs ws
      → Spells c.ruling.fielding (OpenListed c root (bits count bitmap)) (es ++ gs) us ws

-- the same of all additions that these nodes are plans of, where P says which entries there were before, and N which
-- there are now
pub record AddedUpTo (c : Coding) (P N : List (Option Datum) → Type 0) (ns parts rest : List Node)
    (count bitmap left : ℕ) (us vs : List ℕ) : Type 0 where
  pub few : left ≤ 64
  pub goes : (root : Fields) → AreOfProfile root → ArePlans ns parts root → (es : List (Option Datum)) → P es
      → (gs : List (Option Datum)) × N (es ++ gs) × OpenGoesOn c ns rest root count bitmap left us gs vs

pub added_starts : (c : Coding) (P : List (Option Datum) → Type 0) (ns parts : List Node) (count bitmap : ℕ) (us : List ℕ)
    → count ≤ 64 → AddedUpTo c P P ns parts parts count bitmap count us us
added_starts c P ns parts count bitmap us f = record {
  few = f;
  goes = λ root h p es q. (
    [],
    subst P (sym (append-nil es)) q,
    record {
      fields = root;
      good = h;
      plans = p;
      on = λ gs ws k. k;
    },
  );
}

open_further : (c : Coding) (P N : List (Option Datum) → Type 0) (ns rest : List Node) (m : Node) (root : Fields)
    (count bitmap left after : ℕ) (us : List ℕ) (es hs : List (Option Datum)) (vs ws : List ℕ)
    → BuildsAddition c P N ns m bitmap left after vs ws → P (hs ++ es)
    → OpenGoesOn c ns (m ∷ rest) root count bitmap left us es vs
    → (e : Option Datum) × N (hs ++ (es ++ e ∷ [])) × OpenGoesOn c ns rest root count bitmap after us (es ++ e ∷ []) ws
open_further c P N ns rest m root count bitmap left after us es hs vs ws b l g = go g.fields g.good g.plans g.on
  where
    go : (fs : Fields) → AreOfProfile fs → ArePlans ns (m ∷ rest) fs
        → ((gs : List (Option Datum)) (xs : List ℕ)
        → Spells c.ruling.fielding (OpenListed c fs (bits left bitmap)) gs vs xs
        → Spells c.ruling.fielding (OpenListed c root (bits count bitmap)) (es ++ gs) us xs)
        → (e : Option Datum) × N (hs ++ (es ++ e ∷ [])) × OpenGoesOn c ns rest root count bitmap after us (es ++ e ∷ []) ws
    go no_fields h p on = absurd p
    go (field name demand t fs) h p on =
        let e = b.entry name demand t fs h.0 p.1 (hs ++ es) l in (
          e.0,
          subst N (append_assoc hs es (e.0 ∷ [])) e.1,
          record {
            fields = fs;
            good = h.2;
            plans = p.2;
            on = λ gs xs k. subst (λ (l : List (Option Datum)). Spells c.ruling.fielding (OpenListed c root (bits count bitmap)) l us xs) (sym (append_assoc es (e.0 ∷ []) gs)) (on (e.0 ∷ gs) xs (e.2 gs xs k));
          },
        )

pub added_further : {c : Coding} {P M : List (Option Datum) → Type 0} (N : List (Option Datum) → Type 0) {ns parts rest : List Node}
    {m : Node} {count bitmap left : ℕ} (after : ℕ) {us vs : List ℕ} (ws : List ℕ)
    → AddedUpTo c P M ns parts (m ∷ rest) count bitmap left us vs → BuildsAddition c M N ns m bitmap left after vs ws
    → AddedUpTo c P N ns parts rest count bitmap after us ws
added_further {c} {P} {M} N {ns} {parts} {rest} {m} {count} {bitmap} {left} after {us} {vs} ws h b = record {
  few = omega (arith, h.few, b.less);
  goes = λ root a p es q. (let g = h.goes root a p es q in let k = open_further c M N ns rest m root count bitmap left after us g.0 es vs ws b g.1 g.2 in (g.0 ++ k.0 ∷ [], k.1, k.2));
}

open_ends : {c : Coding} {ns rest : List Node} {root : Fields} {count bitmap left : ℕ} {us vs : List ℕ}
    {es : List (Option Datum)} → OpenGoesOn c ns rest root count bitmap left us es vs → rest ≡ []
    → Spells c.ruling.fielding (OpenListed c root (bits count bitmap)) es us vs
open_ends {c} {ns} {rest} {root} {count} {bitmap} {left} {us} {vs} {es} g e = go g.fields (rw e at g.plans) g.on
  where
    go : (fs : Fields) → ArePlans ns [] fs
        → ((gs : List (Option Datum)) (xs : List ℕ)
        → Spells c.ruling.fielding (OpenListed c fs (bits left bitmap)) gs vs xs
        → Spells c.ruling.fielding (OpenListed c root (bits count bitmap)) (es ++ gs) us xs)
        → Spells c.ruling.fielding (OpenListed c root (bits count bitmap)) es us vs
    go no_fields p on = subst (λ (l : List (Option Datum)). Spells c.ruling.fielding (OpenListed c root (bits count bitmap)) l us vs) (append-nil es) (on [] vs (nothing_read c.ruling.fielding [] vs))
    go (field name demand t fs) p on = absurd p

-- no node is left: all additions are read
pub added_ends : {c : Coding} {P N : List (Option Datum) → Type 0} {ns parts rest : List Node} {count bitmap left : ℕ}
    {us vs : List ℕ} → AddedUpTo c P N ns parts rest count bitmap left us vs → rest ≡ []
    → (root : Fields) → AreOfProfile root → ArePlans ns parts root
    → BuildsMore c P N (OpenListed c root (bits count bitmap)) us vs
added_ends h e root good plans = record { more = λ es q. (let g = h.goes root good plans es q in (g.0, g.1, open_ends g.2 e)) }

-- how many nodes there are
pub plans_count : (ns ms : List Node) (fs : Fields) → ArePlans ns ms fs → length ms ≡ length (demands fs)
plans_count ns [] no_fields p = omega arith
plans_count ns (m ∷ ms) (field name demand t fs) p = omega (arith, plans_count ns ms fs p.2)
plans_count ns [] (field name demand t fs) p = absurd p
plans_count ns (m ∷ ms) no_fields p = absurd p

-- the presence bitmap, and the open fields
pub additions_read : (c : Coding) (P N : List (Option Datum) → Type 0) (fs : Fields) (n b : ℕ) (us vs ws : List ℕ)
    → n ≡ length (demands fs) → Spells c.ruling.fielding (AdditionBitmapOf c n) b us vs
    → BuildsMore c P N (OpenListed c fs (bits n b)) vs ws → BuildsMore c P N (AdditionsOf c fs) us ws
additions_read c P N fs n b us vs ws e h k = record {
  more = λ es q. (let g = k.more es q in (g.0, g.1, map_spells {f = after_first} (then_spells (rw e at h) (rw e at g.2))));
}

-- ---- SEQUENCE

-- the preamble, the components and the additions
pub extended_read : (c : Coding) → Laws c → (root : Fields) (more : MoreFields) → InProfile (sequence root more)
    → (count : ℕ) (listed : Option ℕ) → count ≡ bitmap_length root → listed ≡ added more → (p : Bool × ℕ) (us vs ws xs : List ℕ)
    → Spells c.ruling.fielding (PreambleOf c count listed) p us vs → (es : List (Option Datum))
    → Spells c.ruling.fielding (Listed c.code root (bits count p.1)) es vs ws → p.0 ≡ true
    → (ns ms : List Node) → ArePlansOfMore ns ms more → (P N : List (Option Datum) → Type 0) → P es
    → ((fs : Fields) → AreOfProfile fs → ArePlans ns ms fs → BuildsMore c P N (AdditionsOf c fs) ws xs)
    → (gs : List (Option Datum)) × N gs
    × Spells c.ruling.fielding (Spelt c.code None (sequence root more)) (components (components_of gs)) us xs
extended_read c laws root closed good count listed e f p us vs ws xs h es k some ns ms plans P N q read =
    absurd (let l : Spells c.ruling.fielding (PreambleOf c count (added closed)) p us vs = rw f at h in l.spelt.fits.1 some)
extended_read c laws root (marked fs) good count listed e f p us vs ws xs h es k some ns ms plans P N q read =
    let r = (read fs (additions_of_profile root fs good) plans).more es q in
    (es ++ r.0, r.1, additions_done c laws root (marked fs) good p us vs (rw (e, f) at h) es ws (rw e at k) some (es ++ r.0) xs (map_spells {f = λ gs. es ++ gs} r.2))
