use Rattle.std.proofs.Common.{◌≡◌}
use Rattle.asn_published_read.proofs.value_sets.take_class_names.Given as goal

-- the texts and the modules are those from before
abbrev pub invariant-loop-index : goal.invariant-loop-index
invariant-loop-index l = (l.world.files ≡ l.initial.world.files) × (l.world.modules ≡ l.initial.world.modules)
