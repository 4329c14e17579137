-- The parts of few octets keep the laws of the walk that reads in pieces.
use Rattle.std.proofs.Common.{◌≡◌, ◌+◌, ◌%◌, ℕ, true, List, [], length, Some, None, refl}
use Rattle.asn_values.specs.Datum.{Datum}
use Rattle.asn_values.specs.Profile.{InProfile, good_default}
use Rattle.asn_values.specs.Shape.{Shape}
use Rattle.asn_rules.specs.Languages.{Short}
use Rattle.asn_rules.specs.Listed.{Spelt}
use Rattle.asn_rules.specs.Padding.{Fixed}
use Rattle.asn_walk_feed.specs.Feeding.{IsBrief, IsScalar, FeedLaws}
use Rattle.asn_oer.specs.Rules.{oer_ruling}
use Rattle.asn_oer.specs.Walk.{oer_coding}
use Rattle.asn_oer.proofs.InPieces.Brief.{few_brief}
use Rattle.asn_oer.proofs.InPieces.Counts.{list_start_few, preamble_few, bitmap_few, index_few, next_few, filling_few}
use Rattle.asn_oer.proofs.InPieces.Rows.{oer_row_laws}
use Rattle.asn_oer.proofs.InPieces.Scalars.{scalar_few, default_scalar}

no_units : oer_coding.to_units [] ≡ []
unfolding oer_coding
no_units = refl

begins : oer_coding.at_unit []
unfolding oer_coding
begins = refl

scalars : (t : Shape) → InProfile t → IsScalar t → IsBrief oer_coding (Spelt oer_coding.code None t)
unfolding oer_coding
scalars t h s = few_brief (scalar_few None t h s)

others : (d : Datum) (t : Shape) → InProfile t → good_default t d ≡ true → IsBrief oer_coding (Spelt oer_coding.code (Some d) t)
unfolding oer_coding
others d t h g = few_brief (scalar_few (Some d) t h (default_scalar t d g))

fillings : (n : ℕ) → IsBrief oer_coding (Fixed (oer_coding.padding n))
unfolding oer_coding
fillings n = few_brief filling_few

-- nothing is wanted of nothing
unfilled : (n : ℕ) (us : List ℕ) → (n + length us) % oer_coding.octet_units ≡ 0 → Short oer_coding.ruling.fielding (Fixed (oer_coding.padding n)) us → (n ≡ 0) × (us ≡ [])
unfolding oer_coding oer_ruling
unfilled n us e h = absurd (h.none tt us (record {
  chunks = [];
  spelt = record { units = []; spelt = record { same = refl }; same = refl };
  contents = tt;
  split = refl;
}))

pub oer_feed_laws : FeedLaws oer_coding
oer_feed_laws = record {
  none = no_units;
  begin = begins;
  scalar = scalars;
  other = others;
  preamble = λ n more h. few_brief (preamble_few n more h);
  bitmap = λ n h. few_brief (bitmap_few n h);
  index = λ root more h. few_brief (index_few root more h);
  next = λ a. few_brief (next_few a);
  list_start = λ s h. few_brief (list_start_few s);
  padding = fillings;
  unfilled = unfilled;
  rows = oer_row_laws;
}
