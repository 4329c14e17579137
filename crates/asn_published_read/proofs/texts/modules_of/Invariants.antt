use Rattle.std.proofs.Common.{◌≡◌, length}
use Rattle.asn_published_text.specs.Modules.{StandIn}
use Rattle.asn_published_read.proofs.texts.modules_of.Given as goal

-- there are as many texts as were taken, and each module stands in one of them
abbrev pub invariant-loop-text : goal.invariant-loop-text
invariant-loop-text l = (length l.world.files.items ≡ l.text) × StandIn l.text l.world.modules.items
