use Rattle.std.proofs.Common.{◌≡◌, ◌≤◌, ℕ}
use Rattle.std.specs.Prelude.{slice_index}
use Rattle.asn_window.specs.Fragmented.{IsPassed}
use Rattle.asn_window.proofs.fragments.pass.Given as goal

abbrev pub invariant-loop-at : goal.invariant-loop-at
invariant-loop-at l = record {
  passed : IsPassed l.at l.count l.initial.fragments l.fragments;
  rest : (j : ℕ) → l.at ≤ j → slice_index l.fragments.left j ≡ slice_index l.initial.fragments.left j;
}
