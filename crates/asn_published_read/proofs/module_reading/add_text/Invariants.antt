use Rattle.std.proofs.Common.{◌≡◌, ◌+◌, length}
use Rattle.asn_published_text.specs.Modules.{StandIn}
use Rattle.asn_published_read.proofs.module_reading.add_text.Given as goal

-- the texts are those from before, and each module stands in one of them or in this one
abbrev pub invariant-loop : goal.invariant-loop
invariant-loop l =
    (l.world.files ≡ l.initial.world.files)
    × (StandIn (length l.initial.world.files.items) l.initial.world.modules.items
    → StandIn (length l.initial.world.files.items + 1) l.world.modules.items)
