-- No limit of the profile is below that of the one before it.
use Rattle.std.proofs.Common.{◌≤◌, ◌*◌, suc, arith}
use Rattle.std.proofs.lemmas.Int.{ints}
use Rattle.asn_values.specs.Shape.{Shape, boolean, null, integer, enumerated, bit_string, octet_string, restricted, utf8_string, sequence, sequence_of, choice, Fields, no_fields, field, MoreFields, closed, marked, Alternatives, no_alternatives, one_of, MoreAlternatives, closed_choice, marked_choice}
use Rattle.asn_values.specs.Measures.{depth, fields_depth, more_depth, choice_depth, more_choice_depth}
use Rattle.asn_values.specs.Fits.{AreWider, limits}
use Rattle.asn_values.specs.Older.{older_limits, oldest_limits, nesting, fields_nesting, more_nesting, choice_nesting, more_choice_nesting}

-- ---- a type has fewer than two levels for each type inside one another

mutual
  fewer_levels : (t : Shape) → suc (depth t) ≤ 2 * nesting t
  fewer_levels boolean = omega arith
  fewer_levels null = omega arith
  fewer_levels (integer b) = omega arith
  fewer_levels (enumerated root more) = omega arith
  fewer_levels (bit_string s) = omega arith
  fewer_levels (octet_string s) = omega arith
  fewer_levels (restricted k s) = omega arith
  fewer_levels utf8_string = omega arith
  fewer_levels (sequence root more) = omega (arith, fewer_in_fields root, fewer_in_additions more)
  fewer_levels (sequence_of t s) = omega (arith, fewer_levels t)
  fewer_levels (choice root more) = omega (arith, fewer_in_choice root, fewer_in_more more)

  fewer_in_fields : (fs : Fields) → fields_depth fs ≤ 2 * fields_nesting fs
  fewer_in_fields no_fields = omega arith
  fewer_in_fields (field name demand t fs) = omega (arith, fewer_levels t, fewer_in_fields fs)

  fewer_in_additions : (more : MoreFields) → more_depth more ≤ 2 * more_nesting more
  fewer_in_additions closed = omega arith
  fewer_in_additions (marked fs) = fewer_in_fields fs

  fewer_in_choice : (alts : Alternatives) → choice_depth alts ≤ 2 * choice_nesting alts
  fewer_in_choice no_alternatives = omega arith
  fewer_in_choice (one_of name t alts) = omega (arith, fewer_levels t, fewer_in_choice alts)

  fewer_in_more : (more : MoreAlternatives) → more_choice_depth more ≤ 2 * more_choice_nesting more
  fewer_in_more closed_choice = omega arith
  fewer_in_more (marked_choice alts) = fewer_in_choice alts

few_levels : (t : Shape) → nesting t ≤ 32 → depth t ≤ 64
few_levels t h = omega (arith, h, fewer_levels t)

-- ---- limits

pub limits_wider : AreWider older_limits limits
limits_wider = record {
  highest = omega (arith, ints);
  alternatives = omega arith;
  item_additions = omega arith;
  nodes = omega arith;
  levels = few_levels;
}

pub older_wider : AreWider oldest_limits older_limits
older_wider = record {
  highest = omega (arith, ints);
  alternatives = omega arith;
  item_additions = omega arith;
  nodes = omega arith;
  levels = λ t h. h;
}
