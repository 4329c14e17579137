-- From the answer of a part to the answer of the whole, where parts are read in one way: what the readers of messages of
-- newer and older senders cite at each exit.
use Rattle.std.proofs.Common.{◌≡◌, ℕ, List, [], ◌++◌, refl, sym, ap, subst, ◌∙◌}
use Rattle.std.proofs.lemmas.List.{append-nil}
use Rattle.asn_rules.specs.Chunks.{Chunk, ones, open_field, flat}
use Rattle.asn_rules.specs.Forks.{Same}
use Rattle.asn_rules.specs.Frames.{Frame}
use Rattle.asn_rules.specs.Languages.{AllContents, Spells, NoSpelling, Refused, Then, Map, Sealed}
use Rattle.asn_rules.specs.Live.{Fielding, IsContent}
use Rattle.asn_rules.specs.Stops.{Stops}
use Rattle.asn_rules.specs.declared.stop.Stop.{Stop}
use Rattle.asn_rules.specs.declared.stop.Stop.TheVariants as stop
use Rattle.asn_rules.proofs.Answer.Answers.{done_stays, refused_stays}
use Rattle.asn_rules.proofs.Live.Chunks.{FieldsPart}
use Rattle.asn_rules.proofs.Sealed.Fields.{field_spells}
use Rattle.asn_rules.proofs.Live.Flat.{flat-ones}
use Rattle.asn_rules.proofs.Languages.Forks.{same_flip, same_spells}
use Rattle.asn_rules.proofs.Sealed.Headed.{plain_front}
use Rattle.asn_rules.proofs.Languages.Parts.{map_source, map_spells, contents-ones}
use Rattle.asn_rules.proofs.Languages.Then.{then_splits, then_spells}
use Rattle.asn_walk.specs.Coding.{Coding}
use Rattle.asn_newer.specs.Halting.{NoBeginning, Halts, halt_of}
use Rattle.asn_newer.specs.declared.halt.Halt.{Halt}
use Rattle.asn_newer.specs.declared.halt.Halt.TheVariants as halt
use Rattle.asn_newer.specs.Ways.{OneWay}

-- ---- where a reader stands

-- none of us is a spelling of L where none of vs is one of M, whatever follows both
abbrev pub NoneOn : {A B : Type 0} → Fielding → (B → List Chunk → Type 0) → List ℕ → (A → List Chunk → Type 0) → List ℕ → Type 0
NoneOn R M vs L us = (after : List ℕ) → NoSpelling R M (vs ++ after) → NoSpelling R L (us ++ after)

-- what is read of M at vs is what is read of L at us, under another view of the values; and nothing is where nothing is
pub record Onward {A B : Type 0} (R : Fielding) (M : B → List Chunk → Type 0) (vs : List ℕ) (f : B → A) (L : A → List Chunk → Type 0) (us : List ℕ) : Type 0 where
  pub done : (b : B) (r : List ℕ) → Spells R M b vs r → Spells R L (f b) us r
  pub none : NoneOn R M vs L us

pub here : {A : Type 0} (R : Fielding) (L : A → List Chunk → Type 0) (us : List ℕ) → Onward R L us (λ a. a) L us
here R L us = record { done = λ b r h. h; none = λ after n. n }

pub on : {A B C : Type 0} {R : Fielding} {N : C → List Chunk → Type 0} {ws : List ℕ} {g : C → B} {M : B → List Chunk → Type 0} {vs : List ℕ} {f : B → A} {L : A → List Chunk → Type 0} {us : List ℕ}
    → Onward R N ws g M vs → Onward R M vs f L us → Onward R N ws (λ c. f (g c)) L us
on {g = g} p q = record { done = λ c r h. q.done (g c) r (p.done c r h); none = λ after n. q.none after (p.none after n) }

-- under another view
pub none_mapped : {A B : Type 0} {R : Fielding} {f : A → B} {L : A → List Chunk → Type 0} {us : List ℕ} → NoSpelling R L us → NoSpelling R (Map f L) us
none_mapped n = λ v r h. n (map_source h).0 r (map_source h).1

pub mapped : {A B : Type 0} (R : Fielding) (f : B → A) (L : B → List Chunk → Type 0) (us : List ℕ) → Onward R L us f (Map f L) us
mapped R f L us = record { done = λ b r h. map_spells h; none = λ after n. none_mapped n }

-- after the first of two
pub second : {A B : Type 0} {R : Fielding} {L : A → List Chunk → Type 0} {M : A → B → List Chunk → Type 0} {a : A} {us r : List ℕ} → OneWay R L → Spells R L a us r → Onward R (M a) r (λ b. (a, b)) (Then L M) us
second {A} {B} {R} {L} {M} {a} {us} {r} way h = record { done = λ b s k. then_spells h k; none = none }
  where
    none : NoneOn R (M a) r (Then L M) us
    none after n v s k =
        let b = then_splits k in
        let e = way.once v.0 a (us ++ after) b.rest (r ++ after) b.earlier (done_stays after h) in
        let two : Spells R (M a) v.1 b.rest s = subst (λ (z : A). Spells R (M z) v.1 b.rest s) e.0 b.later in
        n v.1 s (subst (λ (t : List ℕ). Spells R (M a) v.1 t s) e.1 two)

-- the same spellings
pub alike : {A : Type 0} (R : Fielding) {M L : A → List Chunk → Type 0} (us : List ℕ) → Same M L → Onward R M us (λ a. a) L us
alike R us s = record { done = λ b r h. same_spells s h; none = λ after n v r h. n v r (same_spells (same_flip s) h) }

-- ---- answers

-- nothing follows
pub none_yet : {V : Type 0} {R : Fielding} {L : V → List Chunk → Type 0} {us : List ℕ} → NoBeginning R L us → NoSpelling R L us
none_yet {R = R} {L = L} {us = us} n = subst (λ (t : List ℕ). NoSpelling R L t) (append-nil us) (n [])

none_now : {A B : Type 0} {R : Fielding} {M : B → List Chunk → Type 0} {vs : List ℕ} {L : A → List Chunk → Type 0} {us : List ℕ} → NoneOn R M vs L us → NoSpelling R M vs → NoSpelling R L us
none_now {R = R} {M = M} {vs = vs} {L = L} {us = us} f n = subst (λ (t : List ℕ). NoSpelling R L t) (append-nil us) (f [] (subst (λ (t : List ℕ). NoSpelling R M t) (sym (append-nil vs)) n))

-- nothing is read, whatever is told and whatever follows
pub halts_none : {V : Type 0} (c : Coding) (L : V → List Chunk → Type 0) (us : List ℕ) (why : Halt) → NoBeginning c.ruling.fielding L us → Halts c L us why
halts_none c L us halt.Refused n = record { told = n }
halts_none c L us halt.Short n = record { told = none_yet n }
halts_none c L us halt.TooMany n = record { told = n }
halts_none c L us halt.Memory n = record { told = tt }

-- nothing is read so far
pub halts_short : {V : Type 0} (c : Coding) (L : V → List Chunk → Type 0) (us : List ℕ) → NoSpelling c.ruling.fielding L us → Halts c L us halt.Short
halts_short c L us n = record { told = n }

-- from part to whole
pub halts_on : {A B : Type 0} {c : Coding} {M : B → List Chunk → Type 0} {vs : List ℕ} {L : A → List Chunk → Type 0} {us : List ℕ} (why : Halt)
    → NoneOn c.ruling.fielding M vs L us → Halts c M vs why → Halts c L us why
halts_on halt.Refused f h = record { told = λ after. f after (h.told after) }
halts_on halt.Short f h = record { told = none_now f h.told }
halts_on halt.TooMany f h = record { told = λ after. f after (h.told after) }
halts_on halt.Memory f h = record { told = tt }

-- from the stop of a leaf, which refuses what no spelling goes on from
pub refused_begins : {V : Type 0} {R : Fielding} {L : V → List Chunk → Type 0} {us : List ℕ} {left : ℕ} → FieldsPart R → Refused R L us left → NoBeginning R L us
refused_begins part h = λ after. (refused_stays part after h).none

pub stops_halt : {V : Type 0} {c : Coding} {L : V → List Chunk → Type 0} {us : List ℕ} → FieldsPart c.ruling.fielding → (why : Stop) → Stops c.ruling.fielding L us why → Halts c L us (halt_of why)
stops_halt part (stop.Refused left why) h = record { told = refused_begins part h.told }
stops_halt part stop.Short h = record { told = h.told.none }
stops_halt part stop.Memory h = record { told = tt }

-- and on from there
pub stops_on : {A B : Type 0} {c : Coding} {M : B → List Chunk → Type 0} {vs : List ℕ} {L : A → List Chunk → Type 0} {us : List ℕ} → FieldsPart c.ruling.fielding → (why : Stop)
    → NoneOn c.ruling.fielding M vs L us → Stops c.ruling.fielding M vs why → Halts c L us (halt_of why)
stops_on {c = c} {L = L} {us = us} part why f h = halts_on (halt_of why) f (stops_halt part why h)

-- ---- open type fields

-- octets of a field are read as that field
frames : (R : Fielding) → Same (Frame R open_field) (Frame R open_field)
frames R = record { to = λ v cs h. h; from = λ v cs h. h }

-- and are what such a field may hold
pub held : {R : Fielding} {os us r : List ℕ} → Spells R (Frame R open_field) os us r → IsContent R open_field os
held h = (plain_front h).1.contents

-- a field with a content that tells the value
pub field_read : {A : Type 0} {R : Fielding} {C : A → List ℕ → Type 0} {a : A} {os us r : List ℕ} → Spells R (Frame R open_field) os us r → C a os → Spells R (Sealed open_field C) a us r
field_read {R = R} h d = field_spells (frames R) h d

-- a sealed field, and the octets of its content
module _ {A : Type 0} {R : Fielding} {C : A → List ℕ → Type 0} {a : A} {us r : List ℕ} (h : Spells R (Sealed open_field C) a us r) where
  pub sealed_content : IsContent R open_field h.spelt.content
  sealed_content = (subst (λ (cs : List Chunk). AllContents R cs) h.spelt.same h.contents).0

  pub sealed_split : us ≡ R.spelled h.spelt.content ++ r
  sealed_split = h.split ∙ ap (λ (cs : List Chunk). flat R.spelled cs ++ r) h.spelt.same ∙ ap (λ (l : List ℕ). l ++ r) (append-nil (R.spelled h.spelt.content))

  pub sealed_frame : Spells R (Frame R open_field) h.spelt.content us r
  sealed_frame = record { chunks = ones (R.spelled h.spelt.content); spelt = record { units = R.spelled h.spelt.content; spelt = record { contents = sealed_content; same = refl }; same = refl }; contents = contents-ones R (R.spelled h.spelt.content); split = sealed_split ∙ ap (λ (l : List ℕ). l ++ r) (sym (flat-ones R.spelled (R.spelled h.spelt.content))) }

-- no field stands there
pub no_field : {A : Type 0} {R : Fielding} {C : A → List ℕ → Type 0} {us : List ℕ} → NoSpelling R (Frame R open_field) us → NoSpelling R (Sealed open_field C) us
no_field n = λ v r h. n h.spelt.content r (sealed_frame h)

-- one does, and its content tells no value
pub no_content : {A : Type 0} {R : Fielding} {C : A → List ℕ → Type 0} {os us r : List ℕ} → FieldsPart R → Spells R (Frame R open_field) os us r → ((a : A) → C a os → ⊥) → NoSpelling R (Sealed open_field C) us
no_content {A} {R} {C} {os} {us} {r} part h never = λ v s k.
    let p = plain_front h in
    let e : us ≡ R.spelled os ++ r = p.2 ∙ ap (λ (l : List ℕ). l ++ r) p.1.same in
    let d : os ≡ k.spelt.content = part.tells open_field os k.spelt.content r s (held h) (sealed_content k) (sym e ∙ sealed_split k) in
    never v (subst (C v) (sym d) k.spelt.spelt)
