-- What is ahead of a list between two of its fragments, as the program holds it and can copy it.
use Rattle.std.specs.Prelude.{◌≡◌, ◌≤◌, ◌<◌, ◌+◌, ℕ, true, false, List, [], Option, Some, None, ⊤}
use Rattle.asn_values.specs.Fits.{max_len}
use Rattle.asn_bits.specs.LengthBits.{BegunLengths}
use Rattle.asn_bits.specs.LengthStates.{spans}
use Rattle.asn_bits.specs.Ranges.{Spanned, At}
use Rattle.asn_bits.specs.declared.general_length.Counts.{Counts}
use Rattle.asn_per.specs.Per.{per_fields}
use Rattle.asn_walk.specs.Ahead.{Ahead, items, lengths, end, SomeAhead, Next}
use Rattle.asn_per.specs.declared.fragments.CountsAhead.{CountsAhead}
use Rattle.asn_per.specs.declared.fragments.Fragments.{Fragments}
use Rattle.asn_per.specs.declared.fragments.Fragments.TheVariants as fragments

-- the counts that the whole list may have
abbrev pub counts_of : CountsAhead → List (ℕ × Option ℕ)
counts_of c = spans c.first c.second

abbrev pub ahead_of : Fragments → Ahead
ahead_of (fragments.Items n) = items n
ahead_of (fragments.Lengths c) = lengths (counts_of c) c.so_far c.closed
ahead_of fragments.End = end

-- a list by lengths has no more items than the profile allows
abbrev pub IsWithinProfile : Ahead → Type 0
IsWithinProfile (lengths counts so_far closed) = (n : ℕ) → Spanned counts n → n ≤ max_len
IsWithinProfile _ = ⊤

-- some list is ahead, and none that is too long
abbrev pub IsBetween : Fragments → Type 0
IsBetween f = SomeAhead (ahead_of f) × IsWithinProfile (ahead_of f)

-- the counts of what is left
abbrev pub CountsLeft : CountsAhead → ℕ → Type 0
CountsLeft c = At (Spanned (counts_of c)) c.so_far c.closed

-- those of them that one interval allows
abbrev pub LeftWithin : CountsAhead → Counts → ℕ → Type 0
LeftWithin c i n = ((i.low ≤ c.so_far + n) × (c.so_far + n ≤ i.high)) × (c.closed ≡ true → n < 16384)

-- two sets of the same numbers
pub record SameNumbers (S T : ℕ → Type 0) : Type 0 where
  pub to : (n : ℕ) → S n → T n
  pub from : (n : ℕ) → T n → S n

-- the numbers from the low end of an interval to its high end
abbrev pub Within : Counts → ℕ → Type 0
Within i n = (i.low ≤ n) × (n ≤ i.high)

-- the counts of what is left that one interval allows are those of another, or there are none
abbrev pub IsLeft : CountsAhead → Option Counts → Option Counts → Type 0
IsLeft c None left = left ≡ None
IsLeft c (Some i) None = (n : ℕ) → LeftWithin c i n → ⊥
IsLeft c (Some i) (Some left) = SameNumbers (LeftWithin c i) (Within left)

-- lengths of which no bit is given, of a list that has the counts of what is left
pub record AreLengthsLeft (c : CountsAhead) (l : BegunLengths) : Type 0 where
  pub no_blocks : l.blocks ≡ 0
  pub no_bits : l.bits ≡ []
  pub same : SameNumbers (CountsLeft c) (At (Spanned l.counts) 0 false)

-- a reader of a list goes on as far as the next items
abbrev pub GoesOn : Fragments → Option ℕ → Fragments → List ℕ → List ℕ → Type 0
GoesOn old count new before after = Next per_fields (ahead_of old) count (ahead_of new) before after
