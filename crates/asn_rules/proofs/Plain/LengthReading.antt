-- Where the reader of one length of a list stands, and what it cites at each exit.
use Rattle.std.proofs.Common.{◌≡◌, ◌≢◌, ◌+◌, ◌*◌, ◌<◌, ◌≤◌, ◌⊎◌, inl, inr, ℕ, nat_eq, nat_lt, Bool, true, false, Option, List, [], ◌∷◌, ◌++◌, length, refl, sym, ap, ◌∙◌, subst, append_assoc, arith}
use Rattle.std.proofs.lemmas.Bool.Decides.{eqb_tells}
use Rattle.std.proofs.lemmas.List.{append-nil}
use Rattle.asn_bits.specs.Sink.{bit_of}
use Rattle.asn_bits.specs.LengthBits.{BegunLengths, CountsLeft, Last, Fragment, Goes, first_length, is_closed, StartsSome, OpensLength, WholeLength, Takes}
use Rattle.asn_bits.specs.Ranges.{Spanned, At}
use Rattle.asn_bits.proofs.FirstLengths.{first_some}
use Rattle.asn_bits.proofs.LengthBits.{closed_more}
use Rattle.asn_bits.specs.declared.number_field.FieldState.TheVariants as state
use Rattle.asn_rules.specs.General.{last, fragment, Blocks, Header}
use Rattle.asn_rules.specs.Languages.{Spells, Short, Refused}
use Rattle.asn_rules.proofs.Numbers.Headers.{header_tells}
use Rattle.asn_rules.proofs.Numbers.HeaderBits.{opens_short, starts_refused, whole_spells}
use Rattle.asn_rules.specs.Live.{Fielding}
use Rattle.asn_rules.specs.NextLengths.{LastLength, FragmentLength, NextLength}
use Rattle.asn_rules.proofs.Languages.PlainUnits.{header_units, spells_under, short_under, refused_under, no_fields, no_fields_part}

-- the length has begun with these bits, and goes on
pub record InLength (old : BegunLengths) (us : List ℕ) (now : BegunLengths) (rest : List ℕ) : Type 0 where
  pub split : us ≡ now.bits ++ rest
  pub counts : now.counts ≡ old.counts
  pub blocks : now.blocks ≡ old.blocks
  pub opens : OpensLength (CountsLeft now.counts now.blocks) now.bits

-- no bit has been read
pub in_length_starts : (old : BegunLengths) (us : List ℕ) → old.bits ≡ [] → OpensLength (CountsLeft old.counts old.blocks) [] → InLength old us old us
in_length_starts old us e o = record { split = ap (λ (b : List ℕ). b ++ us) (sym e); counts = refl; blocks = refl; opens = subst (λ (b : List ℕ). OpensLength (CountsLeft old.counts old.blocks) b) (sym e) o }

-- some length begins with nothing, and goes on
pub opens_start : {S : ℕ → Type 0} {bs : List ℕ} → bs ≡ [] → StartsSome S bs → OpensLength S []
opens_start {S} e s = go (first_length s.count).bits refl
  where
    go : (bits : List ℕ) → (first_length s.count).bits ≡ bits → OpensLength S []
    go [] f = absurd (omega (arith, first_some s.count, ap length f))
    go (u ∷ t) f = record { count = s.count; member = s.member; next = u; more = t; split = f }

-- a bit after those read so far
further : {old now : BegunLengths} {us rest after : List ℕ} {u : ℕ} → InLength old us now rest → rest ≡ u ∷ after → us ≡ (now.bits ++ u ∷ []) ++ after
further {now = now} {after = after} {u = u} h e = h.split ∙ ap (λ r. now.bits ++ r) e ∙ sym (append_assoc now.bits (u ∷ []) after)

-- it goes on
pub in_length_more : {old now new : BegunLengths} {us rest after : List ℕ} {u : ℕ} → InLength old us now rest → rest ≡ u ∷ after → OpensLength (CountsLeft now.counts now.blocks) (now.bits ++ u ∷ []) → Goes now (u ∷ []) state.Alive new → InLength old us new after
in_length_more {old} {now} {new} {us} {rest} {after} {u} h e o g =
    subst (λ (n : BegunLengths). InLength old us n after) (sym g) (record { split = further h e; counts = h.counts; blocks = h.blocks; opens = o })

-- no bit is left
pub in_length_short : (R : Fielding) {old now : BegunLengths} {us rest : List ℕ} → InLength old us now rest → rest ≡ [] → Short R (Header (CountsLeft old.counts old.blocks)) us
in_length_short R {old} {now} {us} {rest} h e =
    let all : us ≡ now.bits = h.split ∙ ap (λ r. now.bits ++ r) e ∙ append-nil now.bits in
    subst (λ (cs : List (ℕ × Option ℕ)). Short R (Header (CountsLeft cs old.blocks)) us) h.counts
    (subst (λ (j : ℕ). Short R (Header (CountsLeft now.counts j)) us) h.blocks
    (subst (λ (l : List ℕ). Short R (Header (CountsLeft now.counts now.blocks)) l) (sym all) (short_under (header_units (CountsLeft now.counts now.blocks)) (opens_short no_fields_part h.opens))))

-- a bit is read with which no length goes on
pub in_length_refused : (R : Fielding) {old now : BegunLengths} {us rest after : List ℕ} {u : ℕ} → InLength old us now rest → rest ≡ u ∷ after → (StartsSome (CountsLeft now.counts now.blocks) (now.bits ++ u ∷ []) → ⊥) → Refused R (Header (CountsLeft old.counts old.blocks)) us (length after)
in_length_refused R {old} {now} {us} {rest} {after} {u} h e dead =
    subst (λ (cs : List (ℕ × Option ℕ)). Refused R (Header (CountsLeft cs old.blocks)) us (length after)) h.counts
    (subst (λ (j : ℕ). Refused R (Header (CountsLeft now.counts j)) us (length after)) h.blocks
    (subst (λ (l : List ℕ). Refused R (Header (CountsLeft now.counts now.blocks)) l (length after)) (sym (h.split ∙ ap (λ r. now.bits ++ r) e)) (refused_under (header_units (CountsLeft now.counts now.blocks)) (starts_refused u after no_fields_part h.opens dead))))

-- the length is whole
pub next_is : (old : BegunLengths) (front rest : List ℕ) (n : ℕ) (now new : BegunLengths) (bs : List ℕ) → now.counts ≡ old.counts → now.blocks ≡ old.blocks → front ≡ now.bits ++ bs → WholeLength (CountsLeft old.counts old.blocks) front n → Goes now bs (state.Number n) new → NextLength old n (front ++ rest) rest new
next_is old front rest n now new bs c j f w g = record { read = go (whole_spells no_fields (CountsLeft old.counts old.blocks) front rest n w) g.1 }
  where
    not_none : front ≢ []
    not_none e = omega (arith, first_some w.count, ap length w.bits_are, ap length e)

    go : ((n < 16384) × Spells no_fields (Header (CountsLeft old.counts old.blocks)) (last n) (front ++ rest) rest)
        ⊎ ((m : ℕ) × Spells no_fields (Header (CountsLeft old.counts old.blocks)) (fragment m) (front ++ rest) rest × (1 ≤ m) × (m ≤ 4) × (n ≡ 16384 * m))
        → Last now bs n new ⊎ Fragment now n new → LastLength old n (front ++ rest) rest new ⊎ FragmentLength old n (front ++ rest) rest new
    go (inl a) (inl b) = inl (record { spells = λ R. spells_under (header_units (CountsLeft old.counts old.blocks)) a.1; ends = λ e. not_none (f ∙ sym (ap (λ l. l.bits) b.new_is) ∙ e) })
    go (inl a) (inr b) = absurd (omega (arith, a.0, b.some, b.items))
    go (inr a) (inl b) = absurd (omega (arith, a.2, a.4, b.few))
    go (inr a) (inr b) =
        let same : b.blocks ≡ a.0 = omega (arith, a.4, b.items) in
        inr (record { blocks = a.0; some = a.2; most = a.3; items = a.4; spells = λ R. spells_under (header_units (CountsLeft old.counts old.blocks)) a.1; goes = b.new_is ∙ ap (λ l. begun l (now.blocks + b.blocks)) c ∙ ap (λ k. begun old.counts (k + b.blocks)) j ∙ ap (λ k. begun old.counts (old.blocks + k)) same })
      where
        begun : List (ℕ × Option ℕ) → ℕ → BegunLengths
        begun l k = record { counts = l; blocks = k; bits = [] }

-- a bit as a truth value
pub bit_is : (b : ℕ) → b < 2 → bit_of (nat_eq b 1) ≡ b
bit_is b h = elim (eqb_tells b 1) [ inl e ↦ ap bit_of e.0 ∙ sym e.1 | inr e ↦ let z : b ≡ 0 = omega (arith, e.1) in ap bit_of e.0 ∙ sym z ]

-- the length is whole with a bit
pub in_length_done : {old now new : BegunLengths} {us rest after : List ℕ} {u n : ℕ} → InLength old us now rest → rest ≡ u ∷ after → WholeLength (CountsLeft now.counts now.blocks) (now.bits ++ u ∷ []) n → Goes now (u ∷ []) (state.Number n) new → NextLength old n us after new
in_length_done {old} {now} {new} {us} {rest} {after} {u} {n} h e w g =
    let v : WholeLength (CountsLeft old.counts old.blocks) (now.bits ++ u ∷ []) n =
    subst (λ (j : ℕ). WholeLength (CountsLeft old.counts j) (now.bits ++ u ∷ []) n) h.blocks (subst (λ (cs : List (ℕ × Option ℕ)). WholeLength (CountsLeft cs now.blocks) (now.bits ++ u ∷ []) n) h.counts w) in
    subst (λ (l : List ℕ). NextLength old n l after new) (sym (further h e)) (next_is old (now.bits ++ u ∷ []) after n now new (u ∷ []) h.counts h.blocks refl v g)

-- a whole length in one step
pub taken_done : (old new : BegunLengths) (us rest : List ℕ) (n : ℕ) → old.bits ≡ [] → Takes old us rest n new → NextLength old n us rest new
taken_done old new us rest n e t =
    let w : WholeLength (CountsLeft old.counts old.blocks) t.front n = subst (λ (b : List ℕ). WholeLength (CountsLeft old.counts old.blocks) (b ++ t.front) n) e t.whole in
    let g : Goes old t.front (state.Number n) new = t.goes in
    subst (λ (l : List ℕ). NextLength old n l rest new) (sym t.split) (next_is old t.front rest n old new t.front refl refl (ap (λ (b : List ℕ). b ++ t.front) (sym e)) w g)

-- a fragment has been read: how many items that is, and whether another fragment may follow
pub fragment_left : {old new : BegunLengths} {us rest : List ℕ} {n : ℕ} (f : FragmentLength old n us rest new) → (16384 * new.blocks ≡ 16384 * old.blocks + n) × (is_closed new.blocks ≡ nat_lt f.blocks 4)
fragment_left {old} {new} {us} {rest} {n} f =
    let e : new.blocks ≡ old.blocks + f.blocks = ap (λ l. l.blocks) f.goes in
    (omega (arith, e, f.items), ap is_closed e ∙ closed_more old.blocks f.blocks (go (is_closed old.blocks) (f.spells no_fields).spelt) f.some f.most)
  where
    go : (b : Bool) → Header (At (Spanned old.counts) (16384 * old.blocks) b) (fragment f.blocks) (f.spells no_fields).chunks → b ≡ false
    go true h =
        let t : Blocks (At (Spanned old.counts) (16384 * old.blocks) true) f.blocks = header_tells h in
        let few = t.left.member.largest refl in
        let some = t.some in
        absurd (omega arith)
    go false h = refl
