-- The lengths of a list bit by bit, without the items between them (X.691, "general length determinant").
use Rattle.std.specs.Prelude.{◌≡◌, ◌+◌, ◌*◌, ◌/◌, ◌%◌, ◌<◌, ◌≤◌, ◌==◌, ◌⊎◌, ℕ, Bool, true, false, not, nat_lt, Option, List, [], ◌∷◌, ◌++◌, replicate}
use Rattle.asn_bits.specs.Lengths.{Length, last_length, fragment, blocks, lengths}
use Rattle.asn_bits.specs.Ranges.{Spanned, At}
use Rattle.asn_bits.specs.declared.number_field.FieldState.{FieldState}
use Rattle.asn_bits.specs.declared.number_field.FieldState.TheVariants as state

-- ---- what the bits given so far say

-- the bits of lengths, one length after the other
abbrev pub length_bits : List Length → List ℕ
length_bits [] = []
length_bits (l ∷ ls) = l.bits ++ length_bits ls

-- the bits of the lengths of some count of the set begin with these
pub record BeginsLengths (S : ℕ → Type 0) (given : List ℕ) : Type 0 where
  pub count : ℕ
  pub member : S count
  pub more : List ℕ
  pub split : length_bits (lengths count) ≡ given ++ more

-- the bits end a length of some count of the set, which this many items follow at once, and then other lengths
pub record EndsLength (S : ℕ → Type 0) (given : List ℕ) (items : ℕ) : Type 0 where
  pub count : ℕ
  pub member : S count
  pub before : List Length
  pub here : Length
  pub after : List Length
  pub split : lengths count ≡ before ++ here ∷ after
  pub given_is : given ≡ length_bits before ++ here.bits
  pub items_are : here.items ≡ items

-- what is to be said of the bits
abbrev pub TellsLength : (ℕ → Type 0) → List ℕ → FieldState → Type 0
TellsLength S given state.Alive = BeginsLengths S given × ((n : ℕ) → EndsLength S given n → ⊥)
TellsLength S given (state.Number n) = EndsLength S given n
TellsLength S given state.Dead = BeginsLengths S given → ⊥

-- ---- how far they were given

-- the lengths of a number of blocks of 16384 items: fragments of 4 blocks, and one of those left over
abbrev pub fragments : ℕ → List Length
fragments blocks = replicate (blocks / 4) (fragment 4)
    ++ elim (blocks % 4 == 0) [ true ↦ [] | false ↦ fragment (blocks % 4) ∷ [] ]

-- the counts that a list may have, the blocks that its fragments so far have, and the bits of the length begun
pub record BegunLengths : Type 0 where
  pub counts : List (ℕ × Option ℕ)
  pub blocks : ℕ
  pub bits : List ℕ

-- all bits given
abbrev pub given : BegunLengths → List ℕ
given l = length_bits (fragments l.blocks) ++ l.bits

-- whether the last fragment had fewer than 4 blocks: then none follows it
abbrev pub is_closed : ℕ → Bool
is_closed blocks = not (blocks % 4 == 0)

-- how many items may be left after this many blocks of a list
abbrev pub CountsLeft : List (ℕ × Option ℕ) → ℕ → ℕ → Type 0
CountsLeft counts blocks = At (Spanned counts) (16384 * blocks) (is_closed blocks)

-- the last length of the list has ended
pub record Last (old : BegunLengths) (bs : List ℕ) (n : ℕ) (new : BegunLengths) : Type 0 where
  pub few : n < 16384
  pub new_is : new ≡ record { counts = old.counts; blocks = old.blocks; bits = old.bits ++ bs }

-- the length of a fragment has ended, and another length comes after its items
pub record Fragment (old : BegunLengths) (n : ℕ) (new : BegunLengths) : Type 0 where
  pub blocks : ℕ
  pub some : 1 ≤ blocks
  pub items : n ≡ 16384 * blocks
  pub new_is : new ≡ record { counts = old.counts; blocks = old.blocks + blocks; bits = [] }

-- how far they are given after these further bits: where they are dead, nothing changes
abbrev pub Goes : BegunLengths → List ℕ → FieldState → BegunLengths → Type 0
Goes old bs state.Alive new = new ≡ record { counts = old.counts; blocks = old.blocks; bits = old.bits ++ bs }
Goes old bs (state.Number n) new = (given new ≡ given old ++ bs) × (Last old bs n new ⊎ Fragment old n new)
Goes old bs state.Dead new = new ≡ old

-- ---- one length

-- the first length of n items
abbrev pub first_length : ℕ → Length
first_length n = elim (nat_lt n 16384) [ true ↦ last_length n | false ↦ fragment (blocks n) ]

-- the first length of n items begins with these bits
pub record StartsLength (n : ℕ) (bs : List ℕ) : Type 0 where
  pub more : List ℕ
  pub split : (first_length n).bits ≡ bs ++ more

-- that of some count of the set
pub record StartsSome (S : ℕ → Type 0) (bs : List ℕ) : Type 0 where
  pub count : ℕ
  pub member : S count
  pub starts : StartsLength count bs

-- that of some count of the set stands in front of other bits
pub record LengthAhead (S : ℕ → Type 0) (us : List ℕ) : Type 0 where
  pub count : ℕ
  pub member : S count
  pub rest : List ℕ
  pub split : us ≡ (first_length count).bits ++ rest

-- it goes on
pub record OpensLength (S : ℕ → Type 0) (bs : List ℕ) : Type 0 where
  pub count : ℕ
  pub member : S count
  pub next : ℕ
  pub more : List ℕ
  pub split : (first_length count).bits ≡ bs ++ next ∷ more

-- these bits are the first length of some count of the set, which this many items follow
pub record WholeLength (S : ℕ → Type 0) (bs : List ℕ) (items : ℕ) : Type 0 where
  pub count : ℕ
  pub member : S count
  pub bits_are : (first_length count).bits ≡ bs
  pub items_are : (first_length count).items ≡ items

-- what is to be said of the bits of one length
abbrev pub TellsFirst : (ℕ → Type 0) → List ℕ → FieldState → Type 0
TellsFirst S bs state.Alive = OpensLength S bs
TellsFirst S bs (state.Number n) = WholeLength S bs n
TellsFirst S bs state.Dead = StartsSome S bs → ⊥

-- a length that ends in front of other bits was taken
pub record Takes (old : BegunLengths) (us rest : List ℕ) (n : ℕ) (new : BegunLengths) : Type 0 where
  pub front : List ℕ
  pub split : us ≡ front ++ rest
  pub ends : EndsLength (Spanned old.counts) (given old ++ front) n
  pub whole : WholeLength (CountsLeft old.counts old.blocks) (old.bits ++ front) n
  pub goes : Goes old front (state.Number n) new
