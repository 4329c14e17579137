-- What OER says of the parts that all composite kinds of type are made of.
use Rattle.std.specs.Prelude.{◌≡◌, ◌+◌, ◌%◌, ◌++◌, ◌⊎◌, ℕ, zero, suc, List, [], length, Option, Some, None}
use mathlib.Core.Logic.{inl, inr}
use Rattle.asn_values.specs.Fits.{FitsLength}
use Rattle.asn_values.specs.Shape.{SizeRange}
use Rattle.asn_bits.specs.Lengths.{joined}
use Rattle.asn_bits.specs.Numbers.{least, packed, unpacked}
use Rattle.asn_rules.specs.Chunks.{Chunk, ones, flat}
use Rattle.asn_rules.specs.Languages.{Map}
use Rattle.asn_rules.specs.Fields.{spelled}
use Rattle.asn_rules.specs.Filled.{filled_bits}
use Rattle.asn_walk.specs.Ahead.{Ahead, items}
use Rattle.asn_walk.specs.Coding.{Coding}
use Rattle.asn_oer.specs.Constructed.{Quantity}
use Rattle.asn_oer.specs.Oer.{oer, variable_bits, tag}
use Rattle.asn_oer.specs.Rules.{oer_ruling}

-- the tag of an alternative, by its index in a root of this many or among the additions ("encoding of tags")
abbrev pub tag_of : ℕ → ℕ ⊎ ℕ → ℕ
tag_of root (inl n) = n
tag_of root (inr n) = root + n

-- in front of the elements of a list under a size: its quantity
abbrev pub ListStart : SizeRange → Ahead → List Chunk → Type 0
ListStart s = Map items (Quantity (FitsLength s))

-- the elements after their quantity ("encoding of sequence-of types")
abbrev pub counted_items : List (List Chunk) → List Chunk
counted_items each = ones (spelled (least (length each))) ++ joined each

-- the unit is an octet
unfoldable pub oer_coding : Coding
oer_coding = record {
  ruling = oer_ruling;
  octet_units = 1;
  code = oer;
  to_units = packed;
  at_unit = λ us. length us % 8 ≡ 0;
  to_bits = unpacked;
  preamble = filled_bits;
  addition_bitmap = variable_bits;
  index = λ root marked i. tag (tag_of root i);
  list_start = ListStart;
  sized = λ s each. counted_items each;
  padding = λ n. [];
  complete = λ cs. flat spelled cs;
}

-- ---- how the parts are read

-- how many alternatives there are
abbrev pub alternatives_of : ℕ → Option ℕ → ℕ
alternatives_of root None = root
alternatives_of root (Some more) = root + more

-- how many bits the extension bit has, and the highest number that they may hold
abbrev pub mark_of : Option ℕ → ℕ × ℕ
mark_of None = (0, 0)
mark_of (Some zero) = (1, 0)
mark_of (Some (suc n)) = (1, 1)
