-- Open type fields that are written in fragments, one inside the other, each with what follows it.
use Rattle.std.specs.Prelude.{◌≡◌, ◌⊎◌, ◌<◌, ◌≤◌, ◌++◌, ◌-◌, ◌*◌, ℕ, zero, suc, true, false, List, [], ◌∷◌, length, nat_lt, slice_index}
use Rattle.asn_bits.specs.Lengths.{general_octets}
use Rattle.asn_bits.specs.Numbers.{unpacked}
use Rattle.asn_rules.specs.Held.{Held}
use Rattle.asn_window.specs.declared.bit_writer.BitWriter.{BitWriter}
use Rattle.asn_window.specs.declared.fragments.Fragments.{Fragments}
use Rattle.asn_window.specs.BitWriters.{BitsStand}

-- ---- one field

-- how many bits follow a length determinant of this many octets up to the next one, 0 where none comes any more
abbrev pub next_left : ℕ → ℕ
next_left items = elim (nat_lt items 16384) [ true ↦ 0 | false ↦ 8 * items ]

-- Of the content of a field the bits `coming` are to come: `left` bits up to the next length determinant, and then
-- whole octets, `after` of them. `out` is what they are with the length determinants.
pub record Parts (left after : ℕ) (coming out : List ℕ) : Type 0 where
  pub front : List ℕ
  pub octets : List ℕ
  pub some : 0 < left
  pub long : length front ≡ left
  pub count : length octets ≡ after
  pub split : coming ≡ front ++ unpacked octets
  pub whole : out ≡ front ++ general_octets (λ u. u) octets

-- after the last length determinant they are themselves
abbrev pub Flows : ℕ → ℕ → List ℕ → List ℕ → Type 0
Flows left after coming out = ((left ≡ 0) × (out ≡ coming)) ⊎ Parts left after coming out

-- ---- fields inside one another

-- with the bits `coming` to come of the innermost field, what is to come of all is as `base` says; `around` has the bits
-- that follow each field, the innermost first
abbrev pub Comes : (List ℕ → Type 0) → Fragments → ℕ → List (List ℕ) → List ℕ → Type 0
Comes base f level [] coming = (level ≡ 0) × base coming
Comes base f zero (next ∷ around) coming = ⊥
Comes base f (suc i) (next ∷ around) coming =
    (out : List ℕ) × Flows (slice_index f.left i) (slice_index f.after i) coming out × Comes base f i around (out ++ next)

-- the bits `new` were taken at a level, where they were the first of those to come
abbrev pub TakesAt : Held → Fragments → BitWriter → ℕ → List ℕ → Held → Fragments → BitWriter → Type 0
TakesAt old_state old_fragments old level new new_state fragments writer =
    (start : Held) (around : List (List ℕ)) (coming all : List ℕ)
    → Comes (λ b. BitsStand start old_state old b all) old_fragments level around (new ++ coming)
    → Comes (λ b. BitsStand start new_state writer b all) fragments level around coming

-- the fields from this level on are as they were
pub record IsSameFrom (level : ℕ) (old new : Fragments) : Type 0 where
  pub long_left : length new.left ≡ length old.left
  pub long_after : length new.after ≡ length old.after
  pub left : (j : ℕ) → level ≤ j → slice_index new.left j ≡ slice_index old.left j
  pub after : (j : ℕ) → level ≤ j → slice_index new.after j ≡ slice_index old.after j

-- ---- octets at once

-- a bit is left before each length determinant below this level when n octets are taken
abbrev pub HasRoom : Fragments → ℕ → ℕ → Type 0
HasRoom f level n = (j : ℕ) → j < level → 0 < slice_index f.left j → 8 * n < slice_index f.left j

-- below this level so many bits were taken before the next length determinant
pub record IsPassed (level count : ℕ) (old new : Fragments) : Type 0 where
  pub long_left : length new.left ≡ length old.left
  pub after : new.after ≡ old.after
  pub left : (j : ℕ) → j < level → slice_index new.left j ≡ slice_index old.left j - count
