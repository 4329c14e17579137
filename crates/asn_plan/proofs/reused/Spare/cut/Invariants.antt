use Rattle.std.proofs.Common.{◌≡◌, take}
use Rattle.asn_plan.proofs.reused.Spare.cut.Given as goal

abbrev pub invariant-elements : goal.invariant-elements
invariant-elements l = (l.self.here ≡ l.initial.self.here) × (l.self.around ≡ l.initial.self.around)
    × (take l.count l.items.items ≡ take l.count l.initial.items.items)
