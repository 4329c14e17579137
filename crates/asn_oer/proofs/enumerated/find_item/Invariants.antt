use Rattle.std.proofs.Common.{◌<◌, ℕ, List}
use Rattle.asn_bits.specs.Numbers.{octets}
use Rattle.asn_oer.specs.LeafReading.{ItemBegins}
use Rattle.asn_walk.specs.Items.{items_of}
use Rattle.asn_oer.proofs.enumerated.find_item.Given as goal

abbrev pub invariant-loop-position : goal.invariant-loop-position
invariant-loop-position l = (p : ℕ) (rest : List ℕ) → p < l.position → ItemBegins (items_of l.root l.more) l.excluded p (octets l.count l.begun) rest → ⊥
