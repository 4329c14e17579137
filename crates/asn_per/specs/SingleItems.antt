-- The octets of open type fields and the items of strings in PER, as a reader of messages in pieces takes them: one by
-- one, after what stands before them.
use Rattle.std.specs.Prelude.{ℕ, false, List, ◌++◌, map, None}
use Rattle.asn_values.specs.Datum.{Datum, bit_list, octet_list, characters, unicode}
use Rattle.asn_values.specs.Shape.{SizeRange, Shape, bit_string, octet_string, restricted}
use Rattle.asn_rules.specs.Chunks.{Chunk}
use Rattle.asn_rules.specs.Fields.{Octet}
use Rattle.asn_walk.proofs.Listing.{Appends}
use Rattle.asn_per.specs.Kinds.{Below, Character, truth_of}
use Rattle.asn_per.specs.ListsAhead.{Start}
use Rattle.asn_per.specs.Per.{per_fields}
use Rattle.asn_walk_feed.specs.Octets.{OctetCoding, NoFirst}
use Rattle.asn_walk_feed.specs.OpenFields.{FieldCoding}

-- a size of this many items or more, without an extension mark
abbrev pub at_least : ℕ → SizeRange
at_least low = record { low = low; high = None; extensible = false }

-- items under a size, which are in fragments or follow a count
abbrev pub under_size : SizeRange → (ℕ → List Chunk → Type 0) → OctetCoding
under_size s item = record { start = NoFirst (Start s); octet = item }

-- a bit of a BIT STRING, held as an octet that is 0 or 1
abbrev pub BitHeld : ℕ → List Chunk → Type 0
BitHeld = Below 1 2

-- this many items are taken from the bits, and are put after those that were there
abbrev pub TakesItems : (ℕ → List Chunk → Type 0) → ℕ → List ℕ → List ℕ → List ℕ → List ℕ → Type 0
TakesItems L n before after old new = Appends per_fields L n before after old new

-- whatever follows the bits: they are those of this many items, which are put after those that were there
abbrev pub TakesAll : (ℕ → List Chunk → Type 0) → ℕ → List ℕ → List ℕ → List ℕ → Type 0
TakesAll L n before after us = (rest : List ℕ) → TakesItems L n before after (us ++ rest) rest

-- the items of a string: bits, octets or characters; those of a UTF8String are octets, of any count
abbrev pub string_items : Shape → OctetCoding
string_items (bit_string s) = under_size s BitHeld
string_items (octet_string s) = under_size s Octet
string_items (restricted k s) = under_size s (Character k)
string_items t = under_size (at_least 0) Octet

-- the string that they are, where they are one
abbrev pub string_held : Shape → List ℕ → Datum
string_held (bit_string s) os = bit_list (map truth_of os)
string_held (octet_string s) os = octet_list os
string_held (restricted k s) os = characters os
string_held t os = unicode os

-- an open type field has one octet at least
unfoldable pub per_field_coding : FieldCoding
per_field_coding = record { open_type = under_size (at_least 1) Octet; string = string_items }
