-- What is ahead of a list, as a set of counts from which lengths are read anew.
use Rattle.std.proofs.Common.{◌≡◌, ◌≤◌, ◌<◌, ◌+◌, ◌*◌, ◌^◌, ◌⊎◌, inl, inr, ⊎_elim, ℕ, zero, suc, nat_lt, Bool, true, false, List, [], ◌∷◌, Option, Some, None, refl, sym, ap, ◌∙◌, subst, arith}
use Rattle.std.proofs.lemmas.Bool.{ltb-true, ltb-false}
use Rattle.asn_values.specs.Fits.{max_len}
use Rattle.asn_bits.specs.LengthBits.{BegunLengths, is_closed}
use Rattle.asn_bits.specs.LengthStates.{spans}
use Rattle.asn_bits.specs.Ranges.{Spanned, At}
use Rattle.asn_bits.specs.declared.general_length.Counts.{Counts}
use Rattle.asn_rules.specs.Forks.{Same}
use Rattle.asn_rules.specs.General.{Few, Many, Blocks, Header}
use Rattle.asn_rules.specs.Live.{Fielding}
use Rattle.asn_rules.specs.NextLengths.{LastLength, FragmentLength, NextLength, LengthsLeft}
use Rattle.asn_rules.specs.Stops.{Stops}
use Rattle.asn_rules.specs.declared.stop.Stop.{Stop}
use Rattle.asn_rules.proofs.Languages.Forks.{same_flip, same_spells}
use Rattle.asn_rules.proofs.Languages.Leads.{leads_same, stops_by}
use Rattle.asn_rules.proofs.Languages.Spellings.{same_map, same_fork}
use Rattle.asn_rules.proofs.Numbers.Headers.{header_tells}
use Rattle.asn_rules.proofs.Numbers.Ranges.{at_start, start_at}
use Rattle.asn_rules.proofs.Plain.NumberSets.{same_set}
use Rattle.asn_per.specs.ListsAhead.{other_counts}
use Rattle.asn_walk.specs.Ahead.{lengths, end, ReadsLength, StopsNext, SomeAhead}
use Rattle.asn_per.specs.declared.fragments.CountsAhead.{CountsAhead}
use Rattle.asn_per.specs.FragmentsAhead.{counts_of, IsWithinProfile, CountsLeft, SameNumbers, IsLeft, AreLengthsLeft}

-- ---- the same counts, the same lengths

-- blocks
blocks_to : {S T : ℕ → Type 0} → ((n : ℕ) → S n → T n) → (m : ℕ) → Blocks S m → Blocks T m
blocks_to f m h = record { some = h.some; most = h.most; rest = h.rest; left = record { member = f (16384 * m + h.rest) h.left.member; largest = h.left.largest } }

few_to : {S T : ℕ → Type 0} → ((n : ℕ) → S n → T n) → (n : ℕ) → Few S n → Few T n
few_to f n h = record { member = f n h.member; below = h.below }

many_to : {S T : ℕ → Type 0} → ((n : ℕ) → S n → T n) → (n : ℕ) → Many S n → Many T n
many_to f n h = record { member = f n h.member; least = h.least; below = h.below }

pub same_header : {S T : ℕ → Type 0} → SameNumbers S T → Same (Header S) (Header T)
same_header s = same_map (same_fork (same_set 2 7 (few_to s.to) (few_to s.from)) (same_fork (same_set 2 14 (many_to s.to) (many_to s.from)) (same_set 2 6 (blocks_to s.to) (blocks_to s.from))))

-- ---- the intervals of what is left

-- the counts are left of one interval or of the other
pub both_left : (c : CountsAhead) (f : Counts) (s : Option Counts) → IsLeft c (Some c.first) (Some f) → IsLeft c c.second s → SameNumbers (CountsLeft c) (At (Spanned (spans f s)) 0 false)
both_left c f s first second = go c.second s second
  where
    go : (j s : Option Counts) → IsLeft c j s → SameNumbers (At (Spanned (spans c.first j)) c.so_far c.closed) (At (Spanned (spans f s)) 0 false)
    go None (Some t) h = absurd (cc)
    go None None h = record {
      to = λ n a. at_start (⊎_elim (λ w. inl (first.to n (w, a.largest))) (λ w. absurd w) a.member);
      from = λ n a. ⊎_elim (λ w. (let l = first.from n w in record { member = inl l.0; largest = l.1 })) (λ w. absurd w) (start_at a);
    }
    go (Some i) None h = record {
      to = λ n a. at_start (⊎_elim (λ w. inl (first.to n (w, a.largest))) (λ w. ⊎_elim (λ x. absurd (h n (x, a.largest))) (λ x. absurd x) w) a.member);
      from = λ n a. ⊎_elim (λ w. (let l = first.from n w in record { member = inl l.0; largest = l.1 })) (λ w. absurd w) (start_at a);
    }
    go (Some i) (Some t) h = record {
      to = λ n a. at_start (⊎_elim (λ w. inl (first.to n (w, a.largest))) (λ w. inr (⊎_elim (λ x. inl (h.to n (x, a.largest))) (λ x. absurd x) w)) a.member);
      from = λ n a. ⊎_elim (λ w. (let l = first.from n w in record { member = inl l.0; largest = l.1 })) (λ w. ⊎_elim (λ x. (let l = h.from n x in record { member = inr (inl l.0); largest = l.1 })) (λ x. absurd x) w) (start_at a);
    }

-- of the other alone
pub second_left : (c : CountsAhead) (s : Counts) → IsLeft c (Some c.first) None → IsLeft c c.second (Some s) → SameNumbers (CountsLeft c) (At (Spanned (spans s None)) 0 false)
second_left c s first second = go c.second second
  where
    go : (j : Option Counts) → IsLeft c j (Some s) → SameNumbers (At (Spanned (spans c.first j)) c.so_far c.closed) (At (Spanned (spans s None)) 0 false)
    go None h = absurd (cc)
    go (Some i) h = record {
      to = λ n a. at_start (⊎_elim (λ w. absurd (first n (w, a.largest))) (λ w. ⊎_elim (λ x. inl (h.to n (x, a.largest))) (λ x. absurd x) w) a.member);
      from = λ n a. ⊎_elim (λ w. (let l = h.from n w in record { member = inr (inl l.0); largest = l.1 })) (λ w. absurd w) (start_at a);
    }

-- or there are none
pub neither_left : (c : CountsAhead) (n : ℕ) → IsLeft c (Some c.first) None → IsLeft c c.second None → CountsLeft c n → ⊥
neither_left c n first second a = go c.second second a
  where
    go : (j : Option Counts) → IsLeft c j None → At (Spanned (spans c.first j)) c.so_far c.closed n → ⊥
    go None h a = ⊎_elim (λ w. first n (w, a.largest)) (λ w. absurd w) a.member
    go (Some i) h a = ⊎_elim (λ w. first n (w, a.largest)) (λ w. ⊎_elim (λ x. h n (x, a.largest)) (λ x. absurd x) w) a.member

-- ---- the next length

-- it is read as one of these lengths
pub asked_lengths : (c : CountsAhead) (l : BegunLengths) → AreLengthsLeft c l → Same (LengthsLeft l) (Header (CountsLeft c))
asked_lengths c l h = same_flip (same_header (subst (λ (b : ℕ). SameNumbers (CountsLeft c) (At (Spanned l.counts) (16384 * b) (is_closed b))) (sym h.no_blocks) h.same))

-- the reader of it stops
pub length_stops : (R : Fielding) (c : CountsAhead) (l : BegunLengths) (us : List ℕ) (why : Stop) → AreLengthsLeft c l → Stops R (LengthsLeft l) us why → StopsNext R (lengths (counts_of c) c.so_far c.closed) us why
length_stops R c l us why h s = record {
  counts = counts_of c;
  so_far = c.so_far;
  closed = c.closed;
  was = refl;
  stops = stops_by why (leads_same R us (asked_lengths c l h)).stops s;
}

-- it is the last
pub last_read : (R : Fielding) (c : CountsAhead) (l new : BegunLengths) (n : ℕ) (us rest : List ℕ) → AreLengthsLeft c l → NextLength l n us rest new → ((0 < new.blocks) × (new.bits ≡ []) → ⊥) → ReadsLength R (counts_of c) c.so_far c.closed n end us rest
last_read R c l new n us rest h r more = go r.read
  where
    go : LastLength l n us rest new ⊎ FragmentLength l n us rest new → ReadsLength R (counts_of c) c.so_far c.closed n end us rest
    go (inl f) = record { read = inl (same_spells (asked_lengths c l h) (f.spells R), refl) }
    go (inr f) =
        let blocks : new.blocks ≡ l.blocks + f.blocks = ap (λ (x : BegunLengths). x.blocks) f.goes in
        let bits : new.bits ≡ [] = ap (λ (x : BegunLengths). x.bits) f.goes in
        absurd (more (omega (arith, blocks, f.some), bits))

-- a fragment of fewer than four blocks
fewer_blocks : (n m : ℕ) → n ≡ 16384 * m → nat_lt n 65536 ≡ nat_lt m 4
fewer_blocks n m e = go (nat_lt n 65536) (nat_lt m 4) refl refl
  where
    go : (a b : Bool) → nat_lt n 65536 ≡ a → nat_lt m 4 ≡ b → a ≡ b
    go true true p q = refl
    go false false p q = refl
    go true false p q = absurd (omega (arith, e, ltb-true n 65536 p, ltb-false m 4 q))
    go false true p q = absurd (omega (arith, e, ltb-false n 65536 p, ltb-true m 4 q))

-- what is read where another length follows
pub record ReadsFragment (R : Fielding) (c : CountsAhead) (n : ℕ) (us rest : List ℕ) : Type 0 where
  pub reads : ReadsLength R (counts_of c) c.so_far c.closed n (lengths (counts_of c) (c.so_far + n) (nat_lt n 65536)) us rest
  pub some : SomeAhead (lengths (counts_of c) (c.so_far + n) (nat_lt n 65536))
  pub few : n ≤ 65536

pub fragment_read : (R : Fielding) (c : CountsAhead) (l new : BegunLengths) (n : ℕ) (us rest : List ℕ) → AreLengthsLeft c l → NextLength l n us rest new → new.bits ≡ [] → ReadsFragment R c n us rest
fragment_read R c l new n us rest h r e = go r.read
  where
    go : LastLength l n us rest new ⊎ FragmentLength l n us rest new → ReadsFragment R c n us rest
    go (inl f) = absurd (f.ends e)
    go (inr f) =
        let s = same_spells (asked_lengths c l h) (f.spells R) in
        let b : Blocks (CountsLeft c) f.blocks = header_tells s.spelt in
        let closed = fewer_blocks n f.blocks f.items in
        let place : c.so_far + (16384 * f.blocks + b.rest) ≡ c.so_far + n + b.rest = omega (arith, f.items) in
        record {
          reads = record { read = inr (f.blocks, s, f.items, ap (λ (x : Bool). lengths (counts_of c) (c.so_far + n) x) closed) };
          some = (b.rest, record { member = subst (λ (x : ℕ). Spanned (counts_of c) x) place b.left.member.member; largest = λ t. b.left.largest (ltb-true f.blocks 4 (sym closed ∙ t)) });
          few = omega (arith, f.items, f.most);
        }

-- the lists outside the root of a size are within the profile
pub other_within : (low : ℕ) (high : Option ℕ) → low ≤ max_len → IsWithinProfile (lengths (other_counts low high) 0 false)
other_within low None l n (inl h) = omega (arith, h.1, l)
other_within low None l n (inr h) = absurd h
other_within zero (Some high) l n (inl h) = h.1
other_within zero (Some high) l n (inr h) = absurd h
other_within (suc low) (Some high) l n (inl h) = omega (arith, h.1, l)
other_within (suc low) (Some high) l n (inr (inl h)) = h.1
other_within (suc low) (Some high) l n (inr (inr h)) = absurd h

-- those of the root of a size
pub root_within : (low high : ℕ) → high ≤ max_len → IsWithinProfile (lengths ((low, Some high) ∷ []) 0 false)
root_within low high l n (inl h) = omega (arith, h.1, l)
root_within low high l n (inr h) = absurd h

-- the items that are read are within it
pub so_far_fits : (is : List (ℕ × Option ℕ)) (so_far n : ℕ) (closed : Bool) → IsWithinProfile (lengths is 0 false) → SomeAhead (lengths is (so_far + n) closed) → so_far + n < 2 ^ 32
so_far_fits is so_far n closed w h = omega (arith, w (so_far + n + h.0) h.1.member)
