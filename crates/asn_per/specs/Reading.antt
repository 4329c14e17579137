-- What the readers of the decoder read.
use Rattle.std.specs.Prelude.{◌≡◌, ◌<◌, ◌+◌, ◌*◌, ◌/◌, ◌%◌, ◌^◌, ℕ, ℤ, Bool, true, false, List, [], ◌∷◌, ◌++◌, length, map, Option, Some, None, Result, IfOk, IfErr, OnOk}
use Rattle.std.specs.Global.{Vec}
use Rattle.asn_values.specs.declared.types.Item.{Item}
use Rattle.asn_values.specs.declared.types.TextKind.{TextKind}
use Rattle.asn_values.specs.Shape.{Range, SizeRange, bit_string, octet_string, restricted, integer, boolean, marked_labels, Alphabet, ia5, numeric, visible}
use Rattle.asn_values.specs.View.{alphabet_of, label_of}
use Rattle.asn_values.specs.Fits.{lowest_integer, integer_count}
use Rattle.asn_bits.specs.Numbers.{above, bits}
use Rattle.asn_bits.specs.Sink.{bit_of}
use Rattle.asn_rules.specs.Chunks.{Chunk}
use Rattle.asn_rules.specs.declared.stop.Stop.{Stop}
use Rattle.asn_rules.specs.declared.stop.Stop.TheVariants as stop
use Rattle.asn_rules.specs.IntegerSets.{unmarked}
use Rattle.asn_rules.specs.Languages.{Spells, Row}
use Rattle.asn_rules.specs.Listed.{Spelt}
use Rattle.asn_rules.specs.NumberSets.{Admits}
use Rattle.asn_rules.specs.Stops.{Stops}
use Rattle.asn_values.specs.Datum.{Datum, number, truth, item}
use Rattle.std.specs.Option.{option_map}
use Rattle.asn_per.specs.Per.{per, per_fields}
use Rattle.asn_per.specs.Kinds.{Character, Sized, Items, Unconstrained, IsOutside, numeric_at}
use Rattle.asn_rules.specs.declared.number_reader.NumberSet.{NumberSet}
use Rattle.asn_walk.specs.Items.{enumeration_of}

-- ---- what a reader says of its result

-- a value that is given, as the view has it, is spelt at the front of the bits, and the others follow its spelling
abbrev pub Reads : {V W : Type 0} → Result W Stop → (W → V) → (V → List Chunk → Type 0) → List ℕ → List ℕ → Type 0
Reads result view L old new = IfOk result (λ v. Spells per_fields L (view v) old new)

-- where none is given, the reader stopped for that reason
abbrev pub StopsIn : {V W : Type 0} → Result W Stop → (V → List Chunk → Type 0) → List ℕ → Type 0
StopsIn result L old = IfErr result (λ why. Stops per_fields L old why)

-- what a reader put into a variable is spelt at the front of the bits, and the others follow its spelling
abbrev pub ReadsInto : {V W : Type 0} → Result W Stop → (V → List Chunk → Type 0) → V → List ℕ → List ℕ → Type 0
ReadsInto result L v old new = OnOk result (Spells per_fields L v old new)

-- ---- values but for one, which is the DEFAULT of a component

-- the integers of a range
abbrev pub IntegersBut : Option ℤ → Range → Datum → List Chunk → Type 0
IntegersBut except b = Spelt per (option_map number except) (integer b)

-- those between two bounds, all of them
abbrev pub IntegersBetween : ℤ → ℤ → Datum → List Chunk → Type 0
IntegersBetween low high = IntegersBut None (unmarked (Some low) (Some high))

-- the truth values
abbrev pub BooleansBut : Option Bool → Datum → List Chunk → Type 0
BooleansBut except = Spelt per (option_map truth except) boolean

-- its items
abbrev pub ItemsBut : Option ℕ → List Item → Option (Vec Item) → Datum → List Chunk → Type 0
ItemsBut except root additions = Spelt per (option_map item except) (enumeration_of root additions)

-- the items of a type with an extension mark
abbrev pub MarkedItems : List Item → List Item → Datum → List Chunk → Type 0
MarkedItems root additions = Items (map label_of root) (marked_labels (map label_of additions))

-- ---- strings

abbrev pub BitStringsOf : SizeRange → Datum → List Chunk → Type 0
BitStringsOf s = Spelt per None (bit_string s)

abbrev pub OctetStringsOf : SizeRange → Datum → List Chunk → Type 0
OctetStringsOf s = Spelt per None (octet_string s)

abbrev pub TextsOf : TextKind → SizeRange → Datum → List Chunk → Type 0
TextsOf kind s = Spelt per None (restricted (alphabet_of kind) s)

-- ---- integers

-- the integers outside a range
abbrev pub IntegersOutside : Range → Datum → List Chunk → Type 0
IntegersOutside b = Unconstrained (λ y. IsOutside b y)

-- how many integers lie below a low bound
abbrev pub low_offset : Option ℤ → ℕ
low_offset None = 0
low_offset (Some low) = above lowest_integer low

-- how many lie at a high bound or below it
abbrev pub high_offset : Option ℤ → ℕ
high_offset None = integer_count
high_offset (Some high) = above lowest_integer high + 1

-- one number alone
abbrev pub only : ℕ → NumberSet
only n = record { low = n; high = n; excluded = None }

-- ---- items one after the other

-- n items are read from the units us, after which rest stands, and put after those of old
pub record Appends {A : Type 0} (L : A → List Chunk → Type 0) (n : ℕ) (old new : List A) (us rest : List ℕ) : Type 0
  where
    pub row : List A
    pub same : new ≡ old ++ row
    pub spelt : Spells per_fields (Row L n) row us rest

-- whatever follows the units us: they are those of n items, which are put after those of old
abbrev pub AppendsAll : {A : Type 0} → (A → List Chunk → Type 0) → ℕ → List A → List A → List ℕ → Type 0
AppendsAll L n old new us = (rest : List ℕ) → Appends L n old new (us ++ rest) rest

-- ---- extension marks

-- an extension bit is read, which is set only if it may be
abbrev pub ReadsMark : Bool → Bool → List ℕ → List ℕ → Type 0
ReadsMark listed extended old new = (old ≡ bit_of extended ∷ new) × (extended ≡ true → listed ≡ true)

-- where a reader of an extension bit stops: no bit is left, or a 1 is read where nothing is listed after it
abbrev pub StopsAtMark : Bool → List ℕ → Stop → Type 0
StopsAtMark listed us stop.Short = us ≡ []
StopsAtMark listed us (stop.Refused left why) =
    (listed ≡ false) × (after : List ℕ) × (us ≡ 1 ∷ after) × (left ≡ length after)
StopsAtMark listed us stop.Memory = ⊥

-- ---- characters

-- how many bits a character has
abbrev pub code_width : Alphabet → ℕ
code_width ia5 = 7
code_width visible = 7
code_width numeric = 4

-- what these bits may be
abbrev pub codes_of : Alphabet → NumberSet
codes_of ia5 = record { low = 0; high = 127; excluded = None }
codes_of visible = record { low = 32; high = 126; excluded = None }
codes_of numeric = record { low = 0; high = 10; excluded = None }

-- the character that the bits stand for
abbrev pub character_at : Alphabet → ℕ → ℕ
character_at ia5 n = n
character_at visible n = n
character_at numeric n = numeric_at n

-- a character of this kind
abbrev pub CharacterOf : TextKind → ℕ → List Chunk → Type 0
CharacterOf kind = Character (alphabet_of kind)

-- characters are read and put after those of old
abbrev pub AppendsText : TextKind → ℕ → List ℕ → List ℕ → List ℕ → List ℕ → Type 0
AppendsText kind n old new us rest = Appends (CharacterOf kind) n old new us rest

-- characters under a size
abbrev pub CharactersOf : TextKind → SizeRange → List ℕ → List Chunk → Type 0
CharactersOf kind s = Sized s (CharacterOf kind)

-- the bits of this many characters, as a word has them
abbrev pub bits_of_codes : TextKind → ℕ → ℕ → List ℕ
bits_of_codes kind count word = bits (code_width (alphabet_of kind) * count) word

-- the bits of a character in a word, with this many characters after it
abbrev pub code_in : TextKind → ℕ → ℕ → ℕ
code_in kind word after = word / 2 ^ (code_width (alphabet_of kind) * after) % 2 ^ code_width (alphabet_of kind)

-- the word holds the bits of this many characters
abbrev pub AreCodes : TextKind → ℕ → ℕ → Type 0
AreCodes kind count word = (after : ℕ) → after < count → Admits (codes_of (alphabet_of kind)) (code_in kind word after)
