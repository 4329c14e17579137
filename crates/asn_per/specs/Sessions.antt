-- What is known of a session of PER.
use Rattle.std.specs.Prelude.{ℕ}
use Rattle.asn_values.specs.Shape.{Shape}
use Rattle.asn_rules.specs.Sessions.{Past}
use Rattle.asn_walk_feed.specs.Counts.{count_of}
use Rattle.asn_walk_feed.specs.Holding.{held_in, counted}
use Rattle.asn_walk_feed.specs.Nodes.{nodes}
use Rattle.asn_resuming.specs.Resumed.{Resumes}
use Rattle.asn_resuming.specs.declared.session.Resuming.{Resuming}
use Rattle.asn_per.specs.FragmentsAhead.{ahead_of, IsBetween}
use Rattle.asn_per.specs.SingleItems.{per_field_coding}
use Rattle.asn_per.specs.Walk.{per_coding}
use Rattle.asn_per.specs.declared.fragments.Fragments.{Fragments}

-- the session is of the type and has this past
abbrev pub PerTook : Resuming Fragments → Shape → Past → Type 0
PerTook q t past = Resumes per_coding per_field_coding ahead_of IsBetween q t past

-- it has ticked so often
abbrev pub per_ticked : Resuming Fragments → ℕ
per_ticked q = count_of q.ticks

-- it holds so much
abbrev pub per_holds : Resuming Fragments → ℕ
per_holds q = counted (held_in (nodes q.frames))
