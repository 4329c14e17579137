-- The first and the last step of a window.
use Rattle.std.specs.Prelude.{◌≡◌, ◌%◌, ℕ, List, [], length}
use Rattle.std.specs.Borrow.{GName}
use Rattle.asn_window.specs.declared.window.Window.{Window}
use Rattle.asn_rules.specs.Held.{Held}
use Rattle.asn_sinks.specs.Sink.{Context}
use Rattle.asn_window.specs.WindowStart.{Start}
use Rattle.asn_window.specs.Windows.{WindowStands}
use Rattle.asn_window.specs.Written.{Wrote, Broke}

-- before a writer in this state, where all these bits are to come
abbrev pub start_of : GName → Held → List ℕ → Context Start
start_of name state all = record { origin = record { name = name; state = state; all = all }; around = [] }

-- all bits had come, and were written
abbrev pub Finishes : {O : Type 0} → (O → Held) → Window O → Window O → Type 0
Finishes held old new =
    (name : GName) (state : Held) (all taken : List ℕ) → length all % 8 ≡ 0
    → WindowStands held old (start_of name state all) taken []
    → Wrote state (held new.output.now) all

-- or a write failed
abbrev pub Fails : {O : Type 0} → (O → Held) → Window O → Window O → ℕ → Type 0
Fails held old new sent =
    (name : GName) (state : Held) (all taken : List ℕ) → WindowStands held old (start_of name state all) taken []
    → Broke state (held new.output.now) sent all
