use Rattle.std.proofs.Common.{◌≡◌, ◌+◌, map, option_map, drop}
use Rattle.asn_view.specs.Names.{index_of}
use Rattle.asn_view.proofs.names.index_among.Given as goal

-- it is among those left, after those passed
abbrev pub invariant-loop-index : goal.invariant-loop-index
invariant-loop-index g l =
    index_of l.name (map g.T.Named.name_of l.parts) ≡ option_map (λ p. l.index + p) (index_of l.name (map g.T.Named.name_of (drop l.index l.parts)))
