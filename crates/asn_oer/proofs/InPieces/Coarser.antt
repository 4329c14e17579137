-- Languages that admit more than another, whose readers yet stop where its readers do, but at their end: those of items
-- that are judged once the last of them has come.
use Rattle.std.proofs.Common.{⊎_elim, ℕ, List, [], ◌∷◌, ◌++◌, refl, sym, subst}
use Rattle.asn_rules.specs.Chunks.{Chunk}
use Rattle.asn_rules.specs.Languages.{IsLive, NoSpelling, Short, Refused, Spells, Then, Map}
use Rattle.asn_rules.specs.Live.{Fielding}
use Rattle.asn_rules.proofs.Answer.Answers.{done_stays}
use Rattle.asn_rules.proofs.Languages.Leads.{LeadsStops}
use Rattle.asn_rules.proofs.Languages.Parts.{map_spells, map_live, map_dead}
use Rattle.asn_rules.proofs.Languages.Then.{Follows, then_spells, then_live_first, then_live_second, then_live_cases}
use Rattle.asn_rules.proofs.Live.Chunks.{FieldsPart}

-- each spelling of L is one of M, and units that begin one of M, and have none in front, begin one of L
pub record Coarser {V W : Type 0} (R : Fielding) (M : W → List Chunk → Type 0) (L : V → List Chunk → Type 0) : Type 0 where
  pub incl : (v : V) (cs : List Chunk) → L v cs → (w : W) × M w cs
  pub lives : (us : List ℕ) → IsLive R M us → NoSpelling R M us → IsLive R L us

module _ {V W : Type 0} {R : Fielding} {M : W → List Chunk → Type 0} {L : V → List Chunk → Type 0} (c : Coarser R M L) where
  none : (us : List ℕ) → NoSpelling R M us → NoSpelling R L us
  none us n v r h =
      let w = c.incl v h.chunks h.spelt in
      n w.0 r (record { chunks = h.chunks; spelt = w.1; contents = h.contents; split = h.split })

  live : (us : List ℕ) → IsLive R L us → IsLive R M us
  live us h =
      let w = c.incl h.value h.chunks h.spelt in
      record { value = w.0; chunks = h.chunks; spelt = w.1; front = h.front }

  -- units that begin a spelling of M and have none in front are short of one of L
  pub coarser_short : (us : List ℕ) → Short R M us → Short R L us
  coarser_short us h = record { live = c.lives us h.live h.none; none = none us h.none }

  -- a front of units that have no spelling in front has none
  fewer : (us t : List ℕ) → NoSpelling R M (us ++ t) → NoSpelling R M us
  fewer us t n v r h = n v (r ++ t) (done_stays t h)

  pub coarser_refused : (us : List ℕ) (n : ℕ) → Refused R M us n → Refused R L us n
  coarser_refused us n h = record {
    before = h.before;
    unit = h.unit;
    after = h.after;
    split = h.split;
    left_is = h.left_is;
    live = c.lives h.before h.live (fewer h.before (h.unit ∷ h.after) (subst (NoSpelling R M) h.split h.none));
    dead = λ l. h.dead (live (h.before ++ h.unit ∷ []) l);
    none = none us h.none;
  }

  pub coarser_stops : (us : List ℕ) → LeadsStops R M us L us
  coarser_stops us = record { short = coarser_short us; refused = coarser_refused us }

-- after a value of a language that tells what follows
pub coarser_then : {A B C : Type 0} {R : Fielding} {K : A → List Chunk → Type 0} {M : A → C → List Chunk → Type 0} {L : A → B → List Chunk → Type 0}
    → FieldsPart R → Follows K L → ((a : A) (cs : List Chunk) → K a cs → Coarser R (M a) (L a)) → Coarser R (Then K M) (Then K L)
coarser_then {A} {B} {C} {R} {K} {M} {L} part some c = record {
  incl = λ v cs h.
      let w = (c v.0 h.first h.spelt).incl v.1 h.second h.follows in
      ((v.0, w.0), record { first = h.first; second = h.second; spelt = h.spelt; follows = w.1; whole = h.whole });
  lives = λ us h none. ⊎_elim (λ i. then_live_first some i) (λ q. further us none q.0 q.1 q.2 q.3) (then_live_cases h);
}
  where
    further : (us : List ℕ) → NoSpelling R (Then K M) us → (a : A) (r : List ℕ) → Spells R K a us r → IsLive R (M a) r → IsLive R (Then K L) us
    further us none a r s l =
        let inner : IsLive R (L a) r = (c a s.chunks s.spelt).lives r l (λ w t k. none (a, w) t (then_spells s k)) in
        subst (IsLive R (Then K L)) (sym s.split) (then_live_second part a s.chunks r s.spelt s.contents inner)

-- under views of the values
pub coarser_map : {A B C D : Type 0} {R : Fielding} {M : A → List Chunk → Type 0} {L : B → List Chunk → Type 0} (f : A → C) (g : B → D)
    → Coarser R M L → Coarser R (Map f M) (Map g L)
coarser_map f g c = record {
  incl = λ v cs h.
      let w = c.incl h.source cs h.spelt in
      (f w.0, record { source = w.0; spelt = w.1; seen = refl });
  lives = λ us h none. map_live (c.lives us (map_dead h) (λ v r k. none (f v) r (map_spells k)));
}
