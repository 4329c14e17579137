-- Units that are taken at once.
use Rattle.std.specs.Prelude.{ℕ, zero, suc, List, [], ◌++◌}
use Rattle.asn_bits.specs.Numbers.{bits}
use Rattle.asn_walk.specs.Coding.{Coding}
use Rattle.asn_plan.specs.declared.word.Word.{Word}

-- the units that the last n bits of a number are
abbrev pub units_in : Coding → ℕ → ℕ → List ℕ
units_in c zero m = []
units_in c (suc n) m = c.to_units (bits (suc n) m)

-- the units that are left of the word, and those after them
abbrev pub before : Coding → Word → List ℕ → List ℕ
before c w us = units_in c w.left w.bits ++ us
