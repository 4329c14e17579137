use Rattle.std.proofs.Common.{◌≡◌, ◌≤◌, ◌++◌, length, map, drop}
use Rattle.asn_values.specs.View.{datum_of}
use Rattle.asn_fields.specs.Tiles.{Tiles, contents}
use Rattle.asn_fields.proofs.laying.laid.Given as goal

-- the fields so far are the units so far, which are not past the end, and say the values that are used
abbrev pub invariant-loop-field : goal.invariant-loop-field
invariant-loop-field l = record {
  tiles : Tiles 0 l.before l.fields.items;
  within : l.before ≤ l.end;
  used : l.used ≤ length l.values;
  said : contents l.fields.items ++ map datum_of (drop l.used l.values) ≡ map datum_of l.values;
}
