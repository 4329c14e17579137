-- What the writers of strings and lists write: items, in front of which stand a count or lengths.
use Rattle.std.specs.Prelude.{◌≡◌, ◌*◌, length, Bool, true, false, ℕ, List, [], ◌∷◌, map, ⊤, IsTrue}
use Rattle.std.specs.List.{AllByRecursion}
use Rattle.asn_values.specs.declared.types.TextKind.{TextKind}
use Rattle.asn_values.specs.Shape.{SizeRange, Alphabet}
use Rattle.asn_values.specs.Fits.{is_of_kind}
use Rattle.asn_values.specs.View.{alphabet_of}
use Rattle.asn_bits.specs.Numbers.{bits}
use Rattle.asn_bits.specs.Lengths.{joined, general}
use Rattle.asn_rules.specs.Chunks.{Chunk, one, ones, flat}
use Rattle.asn_rules.specs.Components.{bit_of}
use Rattle.asn_per.specs.Per.{spelled, sized, character_bits}
use Rattle.asn_walk.specs.Writing.{Pushing, LeavesToWrite}
use Rattle.asn_per.specs.Following.{following_chunks}
use Rattle.asn_per.specs.Walk.{per_coding}
use Rattle.asn_per.specs.Reading.{code_width}
use Rattle.asn_per.specs.declared.sizes.Following.{Following}
use Rattle.asn_per.specs.declared.string_items.Items.{Items}
use Rattle.asn_per.specs.declared.string_items.Items.TheVariants as items

-- the spelling of each item of a string
abbrev pub bit_items : List Bool → List (List Chunk)
bit_items bs = map (λ b. one (bit_of b) ∷ []) bs

abbrev pub octet_items : List ℕ → List (List Chunk)
octet_items os = map (λ o. ones (bits 8 o)) os

abbrev pub character_items : Alphabet → List ℕ → List (List Chunk)
character_items a cs = map (λ c. ones (character_bits a c)) cs

abbrev pub item_chunks : Items → List (List Chunk)
item_chunks (items.Bits bs) = bit_items bs.now
item_chunks (items.Octets os) = octet_items os.now
item_chunks (items.Characters k cs) = character_items (alphabet_of k) cs.now

-- each character is of its kind
abbrev pub AreOfKind : Items → Type 0
AreOfKind (items.Bits bs) = ⊤
AreOfKind (items.Octets os) = ⊤
AreOfKind (items.Characters k cs) = AllByRecursion (λ c. IsTrue (is_of_kind (alphabet_of k) c)) cs.now

-- items in bits, one after the other
abbrev pub row_bits : List (List Chunk) → List ℕ
row_bits xs = flat spelled (joined xs)

-- items in bits, under their general length
abbrev pub general_bits : List (List Chunk) → List ℕ
general_bits xs = flat spelled (general one xs)

-- items in bits, under a size
abbrev pub sized_bits : SizeRange → List (List Chunk) → List ℕ
sized_bits size xs = flat spelled (sized size xs)

-- what stands after the count of items: the items at once, or under their general length
abbrev pub after_count : Bool → List (List Chunk) → List ℕ
after_count true xs = row_bits xs
after_count false xs = general_bits xs

-- a word holds the bits of the characters
abbrev pub HoldsText : TextKind → ℕ → List ℕ → Type 0
HoldsText kind word text =
    bits (code_width (alphabet_of kind) * length text) word
    ≡ joined (map (λ c. character_bits (alphabet_of kind) c) text)

-- what stands in front of n items under a size is written, whatever they are, and they follow in this way
abbrev pub FollowsSize : {Sink : Type 0} → Pushing Sink → SizeRange → ℕ → Sink → Sink → Following → Type 0
FollowsSize push size n old new f =
    (xs : List (List Chunk)) → length xs ≡ n
    → LeavesToWrite push per_coding old (sized size xs) new (following_chunks f xs)
