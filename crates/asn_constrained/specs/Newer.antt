-- What is read under a constraint of messages of newer and older senders.
use Rattle.std.specs.Prelude.{◌≡◌, ℕ, true, false, Some, Result, Ok, Err, List, ⊤}
use Rattle.asn_values.specs.Shape.{Shape}
use Rattle.asn_values.specs.View.{datum_of}
use Rattle.asn_rules.specs.declared.newer.Newer.{Newer}
use Rattle.asn_newer.specs.Loose.{LooseCoding}
use Rattle.asn_newer.specs.Reading.{IsNewer, NotNewer}
use Rattle.asn_newer.specs.declared.fault.NewerFault.TheVariants as newer
use Rattle.asn_constraints.specs.Constraints.{Constraint, meets}
use Rattle.asn_constraints.specs.Spelling.{spelling}
use Rattle.asn_constrained.specs.declared.newer.ConstrainedNewer.{ConstrainedNewer}
use Rattle.asn_constrained.specs.declared.newer.ConstrainedNewerFault.{ConstrainedNewerFault}
use Rattle.asn_constrained.specs.declared.newer.ConstrainedNewerFault.TheVariants as under
use Rattle.asn_constrained.specs.Under.{Found}

-- what is answered of a message that was read: its value meets what the constraint says of spelling, and whether it
-- meets the rest; or it breaks the spelling. Of the memory nothing is claimed.
abbrev pub JudgedNewer : Constraint → Newer → Result ConstrainedNewer ConstrainedNewerFault → Type 0
JudgedNewer c n (Ok m) =
    (m.newer ≡ n) × (meets (spelling c) (datum_of n.value) ≡ true) × Found c (datum_of n.value) m.broken
JudgedNewer c n (Err (under.Spelling b)) =
    (meets (spelling c) (datum_of n.value) ≡ false) × Found c (datum_of n.value) (Some b)
JudgedNewer c n (Err (under.Type newer.Memory)) = ⊤
JudgedNewer c n (Err (under.Type fault)) = ⊥

-- what is answered to octets: the message that is read of them, judged; or why they are no message
abbrev pub ReadUnder : LooseCoding → Constraint → Result ConstrainedNewer ConstrainedNewerFault → Shape → List ℕ → Type 0
ReadUnder l c (Ok m) t o = IsNewer l t m.newer o × JudgedNewer c m.newer (Ok m)
ReadUnder l c (Err (under.Spelling b)) t o = (n : Newer) × IsNewer l t n o × JudgedNewer c n (Err (under.Spelling b))
ReadUnder l c (Err (under.Type why)) t o = NotNewer l t o why
