use Rattle.std.proofs.Common.{◌≡◌, ◌<◌, ◌++◌, ℕ, List, false}
use Rattle.asn_newer.specs.Bitmaps.{NotOfCount}
use Rattle.asn_newer.proofs.bitmaps.read_any_bitmap.Given as goal

abbrev pub invariant-loop-count : goal.invariant-loop-count
invariant-loop-count g l =
    (l.units ≡ l.fn.units) × ((k : ℕ) → k < l.count → NotOfCount g.R.ReadLeaves.rules k (g.R.ReadLeaves.rules.to_units l.fn.units))
    × (l.is_short ≡ false → (after : List ℕ) (k : ℕ) → k < l.count → NotOfCount g.R.ReadLeaves.rules k (g.R.ReadLeaves.rules.to_units l.fn.units ++ after))
