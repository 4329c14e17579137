-- What is known of a session of Canonical OER.
use Rattle.std.specs.Prelude.{ℕ, Option, ⊤}
use Rattle.asn_values.specs.Shape.{Shape}
use Rattle.asn_rules.specs.Sessions.{Past}
use Rattle.asn_walk_feed.specs.Counts.{count_of}
use Rattle.asn_walk_feed.specs.Holding.{held_in, counted}
use Rattle.asn_walk_feed.specs.Nodes.{nodes}
use Rattle.asn_resuming.specs.Resumed.{Resumes}
use Rattle.asn_resuming.specs.declared.session.Resuming.{Resuming}
use Rattle.asn_oer.specs.ElementsAhead.{ahead_of}
use Rattle.asn_oer.specs.SingleItems.{oer_parts}
use Rattle.asn_oer.specs.Walk.{oer_coding}

-- the session is of the type and has this past
abbrev pub OerTook : Resuming (Option ℕ) → Shape → Past → Type 0
OerTook q t past = Resumes oer_coding oer_parts ahead_of (λ e. ⊤) q t past

-- it has ticked so often
abbrev pub oer_ticked : Resuming (Option ℕ) → ℕ
oer_ticked q = count_of q.ticks

-- it holds so much
abbrev pub oer_holds : Resuming (Option ℕ) → ℕ
oer_holds q = counted (held_in (nodes q.frames))
