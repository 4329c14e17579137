-- What PER says of the parts that all composite kinds of type are made of.
use Rattle.std.specs.Prelude.{◌++◌, length, ⊤}
use Rattle.asn_per.specs.Indexes.{index_bits}
use Rattle.asn_per.specs.ListsAhead.{Start}
use Rattle.asn_per.specs.Per.{per, small_length, sized, filling, complete}
use Rattle.asn_per.specs.Rules.{per_ruling}
use Rattle.asn_walk.specs.Coding.{Coding}

unfoldable pub per_coding : Coding
per_coding = record {
  ruling = per_ruling;
  octet_units = 8;
  code = per;
  to_units = λ us. us;
  at_unit = λ us. ⊤;
  to_bits = λ us. us;
  preamble = λ bs. bs;
  addition_bitmap = λ bs. small_length (length bs) ++ bs;
  index = index_bits;
  list_start = Start;
  sized = sized;
  padding = filling;
  complete = complete;
}
