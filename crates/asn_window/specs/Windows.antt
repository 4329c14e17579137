-- Where a window stands.
use Rattle.std.specs.Prelude.{◌≡◌, ◌%◌, ℕ, Bool, true, false, List, [], ◌∷◌, length}
use Rattle.asn_sinks.specs.Sink.{Context}
use Rattle.asn_window.specs.declared.window.Window.{Window}
use Rattle.asn_window.specs.BitWriters.{BitsStand}
use Rattle.asn_window.specs.Fragmented.{Comes}
use Rattle.asn_rules.specs.Held.{Held}
use Rattle.asn_window.specs.WindowStart.{Start}

-- there are no bits
abbrev pub is_nil : List ℕ → Bool
is_nil [] = true
is_nil (b ∷ bs) = false

-- these bits were taken of the innermost open type field, and others are to come
pub record WindowStands {O : Type 0} (held : O → Held) (w : Window O) (c : Context Start) (taken coming : List ℕ)
    : Type 0 where
  -- the writer is the one of the start
  pub name : w.output.ghost_name ≡ c.origin.name
  -- what was written, what waits and what comes are all bits that the start told
  pub come : Comes (λ b. BitsStand c.origin.state (held w.output.now) w.writer b c.origin.all) w.fragments w.depth
      c.around coming
  pub level : w.depth ≡ length c.around
  pub phase : w.phase ≡ length taken % 8
  pub empty : w.is_empty ≡ is_nil taken
  pub long_left : length w.fragments.left ≡ 64
  pub long_after : length w.fragments.after ≡ 64
