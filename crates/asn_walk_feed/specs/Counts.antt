-- How many units a counter says.
use Rattle.std.specs.Prelude.{◌+◌, ◌-◌, ◌^◌, ℕ, min}
use Rattle.asn_walk_feed.specs.declared.units.Ticks.{Ticks}

-- those of all levels together, at most `u64::MAX`
abbrev pub count_of : Ticks → ℕ
count_of q = min (q.taken + q.inside) (2 ^ 64 - 1)
