-- From the answer of a part to the answer of the whole, for rows, forks, lengths, counted numbers, sealed fields
-- and what fills up: what a reader of such a part cites at each exit.
use Rattle.std.proofs.Common.{◌≡◌, inl, inr, ℕ, suc, ◌+◌, ◌-◌, ◌*◌, List, [], ◌∷◌, ◌++◌, length, sym, subst, refl}
use Rattle.std.specs.Bool.{⊤}
use Rattle.asn_rules.specs.Chunks.{Kind, Chunk}
use Rattle.asn_rules.specs.Live.{Fielding}
use Rattle.asn_rules.specs.Languages.{Spells, Lawful, Inhabited, Carries, Row, Plain, Sealed, SomeContent}
use Rattle.asn_bits.specs.Sets.{InDigits, InSet}
use Rattle.asn_rules.specs.Forks.{Fork, Same}
use Rattle.asn_rules.specs.Padding.{Fixed, Padded}
use Rattle.asn_rules.specs.General.{last, fragment, Few, Many, Left, Blocks, Header, General}
use Rattle.asn_rules.specs.Frames.{Frame}
use Rattle.asn_rules.specs.Counted.{SomeOf, Counted}
use Rattle.asn_rules.proofs.Live.Chunks.{FieldsPart}
use Rattle.asn_rules.proofs.Languages.Leads.{LeadsStops, Leads, leads_on, leads_map, leads_second, stops_first}
use Rattle.asn_rules.proofs.Remaining.Carries.{carries_short, carries_refused}
use Rattle.asn_rules.proofs.Languages.Forks.{fork_zero, fork_one}
use Rattle.asn_rules.proofs.Languages.Rows.{row_spells, row_one, row_short, row_refused, row_short_first, row_refused_first}
use Rattle.asn_rules.proofs.Sealed.Padding.{padded_short, padded_refused, padded_spells, padded_short_fill, padded_refused_fill}
use Rattle.asn_rules.proofs.Numbers.Sets.{set_lawful}
use Rattle.asn_rules.proofs.Numbers.General.{general_short, general_refused, general_last_spells, general_last_short, general_last_refused, general_row_short, general_row_refused, general_rest_spells, general_rest_short, general_rest_refused}
use Rattle.asn_rules.proofs.Numbers.Headers.{header_few, header_many, header_blocks}
use Rattle.asn_rules.proofs.Sealed.Fields.{field_short, field_refused}
use Rattle.asn_rules.proofs.Numbers.CountedCodes.{AreAnOctet, counted_follows}

-- the answers for what is left after units
pub leads_after : {A : Type 0} {R : Fielding} {M L : A → List Chunk → Type 0} (us s : List ℕ) → Carries R M L us → Leads R M s (λ a. a) L (us ++ s)
leads_after us s c = record { done = λ b r h. c.reads b s r h; stops = record { short = λ h. carries_short {s = s} c h; refused = λ n h. carries_refused {s = s} c h } }

-- the same where the units are said to be those
pub leads_at : {A B : Type 0} {R : Fielding} {M : B → List Chunk → Type 0} {vs : List ℕ} {f : B → A} {L : A → List Chunk → Type 0} {us ws : List ℕ} → us ≡ ws → Leads R M vs f L ws → Leads R M vs f L us
leads_at {R = R} {M} {vs} {f} {L} e l = subst (λ (u : List ℕ). Leads R M vs f L u) (sym e) l

-- ---- forks

-- after a 0
pub leads_zero : {A B : Type 0} {X : A → List Chunk → Type 0} {Y : B → List Chunk → Type 0} {us after : List ℕ} (R : Fielding) → us ≡ 0 ∷ after → Leads R X after inl (Fork X Y) us
leads_zero {X = X} {after = after} R e = leads_at e (leads_on (leads_map R inl X after) (leads_after (0 ∷ []) after (fork_zero R)))

-- after a 1
pub leads_one : {A B : Type 0} {X : A → List Chunk → Type 0} {Y : B → List Chunk → Type 0} {us after : List ℕ} (R : Fielding) → us ≡ 1 ∷ after → Leads R Y after inr (Fork X Y) us
leads_one {Y = Y} {after = after} R e = leads_at e (leads_on (leads_map R inr Y after) (leads_after (1 ∷ []) after (fork_one R)))

-- ---- general lengths

-- a count in 7 bits
pub leads_few : {S : ℕ → Type 0} {us after : List ℕ} (R : Fielding) → us ≡ 0 ∷ after → Leads R (Plain (InSet 7 (Few S))) after last (Header S) us
leads_few {S} {after = after} R e = leads_at e (leads_on (leads_map R last (Plain (InSet 7 (Few S))) after) (leads_after (0 ∷ []) after (header_few R S)))

-- a count in 14 bits
pub leads_many : {S : ℕ → Type 0} {us after : List ℕ} (R : Fielding) → us ≡ 1 ∷ 0 ∷ after → Leads R (Plain (InSet 14 (Many S))) after last (Header S) us
leads_many {S} {after = after} R e = leads_at e (leads_on (leads_map R last (Plain (InSet 14 (Many S))) after) (leads_after (1 ∷ 0 ∷ []) after (header_many R S)))

-- blocks in 6 bits
pub leads_fragment : {S : ℕ → Type 0} {us after : List ℕ} (R : Fielding) → us ≡ 1 ∷ 1 ∷ after → Leads R (Plain (InSet 6 (Blocks S))) after fragment (Header S) us
leads_fragment {S} {after = after} R e = leads_at e (leads_on (leads_map R fragment (Plain (InSet 6 (Blocks S))) after) (leads_after (1 ∷ 1 ∷ []) after (header_blocks R S)))

-- within a length
pub stops_length : {A : Type 0} {R : Fielding} {L : A → List Chunk → Type 0} {S : ℕ → Type 0} (us : List ℕ) → Inhabited L → LeadsStops R (Header S) us (General L S) us
stops_length us i = record { short = λ h. general_short i h; refused = λ n h. general_refused i h }

-- the items after the last length
pub leads_last : {A : Type 0} {R : Fielding} (L : A → List Chunk → Type 0) {S : ℕ → Type 0} {n : ℕ} {us r : List ℕ} → FieldsPart R → Inhabited L → Spells R (Header S) (last n) us r → Leads R (Row L n) r (λ vs. vs) (General L S) us
leads_last L p i h = record { done = λ vs s g. general_last_spells p i h g; stops = record { short = λ g. general_last_short L p i h g; refused = λ k g. general_last_refused L p i h g } }

-- the items of a fragment
pub stops_fragment : {A : Type 0} {R : Fielding} (L : A → List Chunk → Type 0) {S : ℕ → Type 0} {m : ℕ} {us r : List ℕ} → FieldsPart R → Inhabited L → Spells R (Header S) (fragment m) us r → LeadsStops R (Row L (16384 * m)) r (General L S) us
stops_fragment L p i h = record { short = λ g. general_row_short L p i h g; refused = λ k g. general_row_refused L p i h g }

-- what follows a fragment
pub leads_rest : {A : Type 0} {R : Fielding} (L : A → List Chunk → Type 0) {S : ℕ → Type 0} {m : ℕ} {vs : List A} {us r s : List ℕ} → FieldsPart R → Inhabited L → Lawful L → Spells R (Header S) (fragment m) us r → Spells R (Row L (16384 * m)) vs r s → Leads R (General L (Left S m)) s (λ ws. vs ++ ws) (General L S) us
leads_rest L p i law h f = record { done = λ ws t g. general_rest_spells L p i h f g; stops = record { short = λ g. general_rest_short L p i law h f g; refused = λ k g. general_rest_refused L p i law h f g } }

-- ---- rows

-- the next of the values
pub stops_next : {A : Type 0} {R : Fielding} (L : A → List Chunk → Type 0) (i m k : ℕ) {vs : List A} {us r : List ℕ} → FieldsPart R → Lawful L → Inhabited L → i + suc m ≡ k → Spells R (Row L i) vs us r → LeadsStops R L r (Row L k) us
stops_next L i m k p law some e h = record {
  short = λ g. row_short L p law i (suc m) k e h (row_short_first some m g);
  refused = λ n g. row_refused L p law i (suc m) k e h (row_refused_first some m g);
}

-- one value more
pub row_further : {A : Type 0} {R : Fielding} (L : A → List Chunk → Type 0) (i : ℕ) {vs : List A} {a : A} {us r s : List ℕ} → Spells R (Row L i) vs us r → Spells R L a r s → Spells R (Row L (i + 1)) (vs ++ a ∷ []) us s
row_further L i h g = row_spells L i 1 (i + 1) refl h (row_one g)

-- ---- counted numbers

-- the count
pub stops_count : {base h : ℕ} {T : ℕ → ℕ → Type 0} (R : Fielding) (us : List ℕ) → AreAnOctet base h → LeadsStops R (Plain (InDigits base h (SomeOf T))) us (Counted base h T) us
stops_count {base} {h} {T} R us octet = stops_first R us (counted_follows base h T octet)

-- the octets after the count
pub leads_octets : {base h : ℕ} {T : ℕ → ℕ → Type 0} {R : Fielding} {k : ℕ} {us r : List ℕ} → FieldsPart R → Spells R (Plain (InDigits base h (SomeOf T))) k us r → Leads R (Plain (InDigits base (h * k) (T k))) r (λ n. (k, n)) (Counted base h T) us
leads_octets {base} {h} {T} p s = leads_second p (set_lawful base h (SomeOf T)) s

-- ---- sealed fields

-- within the octets of a field and their length
pub stops_field : {A : Type 0} {R : Fielding} {k : Kind} {D : A → List ℕ → Type 0} {L : List ℕ → List Chunk → Type 0} (us : List ℕ) → FieldsPart R → SomeContent D → Same (L) (Frame R k) → LeadsStops R (L) us (Sealed k D) us
stops_field us p i e = record { short = λ h. field_short p i e h; refused = λ n h. field_refused p i e h }

-- ---- what fills up

-- within the spelling
pub stops_padded : {A : Type 0} (R : Fielding) (fill : ℕ → List ℕ) (L : A → List Chunk → Type 0) (us : List ℕ) → LeadsStops R L us (Padded R fill L) us
stops_padded R fill L us = record { short = λ h. padded_short h; refused = λ n h. padded_refused h }

-- within what fills it up
pub leads_fill : {A : Type 0} {R : Fielding} {L : A → List Chunk → Type 0} (fill : ℕ → List ℕ) (a : A) {us r : List ℕ} → FieldsPart R → Lawful L → Spells R L a us r → Leads R (Fixed (fill (length us - length r))) r (λ v. a) (Padded R fill L) us
leads_fill {A} {R} {L} fill a {us} {r} p law h = record { done = λ v s g. padded_spells law h (only v s g); stops = record { short = λ g. padded_short_fill p law h g; refused = λ n g. padded_refused_fill p law h g } }
  where
    only : (v : ⊤) (s : List ℕ) → Spells R (Fixed (fill (length us - length r))) v r s → Spells R (Fixed (fill (length us - length r))) tt r s
    only v s g = g
