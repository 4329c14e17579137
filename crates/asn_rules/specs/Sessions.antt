-- What a session answers to octets that come in pieces, for any encoding rules.
use Rattle.std.specs.Prelude.{◌≡◌, ◌<◌, ◌≤◌, ◌+◌, ℕ, Result, Ok, Err, List, ◌++◌, length, take, ⊤}
use Rattle.asn_values.specs.Datum.{Datum}
use Rattle.asn_values.specs.Shape.{Shape}
use Rattle.asn_values.specs.View.{datum_of}
use Rattle.asn_rules.specs.declared.session.Step.{Step}
use Rattle.asn_rules.specs.declared.session.Step.TheVariants as step
use Rattle.asn_rules.specs.declared.session.FeedFault.{FeedFault}
use Rattle.asn_rules.specs.declared.session.FeedFault.TheVariants as feed
use Rattle.asn_rules.specs.declared.session.Truncated.{Truncated}
use Rattle.asn_rules.specs.Answer.{Ruling, IsEncoding, Answer, done, refused, too_long, more, max_octets}
use Rattle.asn_rules.specs.Live.{Live}

-- ---- what a session has taken

-- the octets that it took, and how it goes on: it answers by all octets so far; it answers this fault to every
-- piece; it answers Spent to every piece
pub data Past : Type 0 where
  waiting : List ℕ → Past
  stopped : List ℕ → FeedFault → Past
  over : List ℕ → Past

-- the octets taken: after a value those of its encoding, after a want of memory those before the call that failed
abbrev pub octets_taken : Past → List ℕ
octets_taken (waiting s) = s
octets_taken (stopped s fault) = s
octets_taken (over s) = s

-- all octets so far with the new piece, of which the first max_octets are read
abbrev pub all_so_far : List ℕ → List ℕ → List ℕ
all_so_far s piece = take max_octets (s ++ piece)

-- ---- feed

-- what is answered to the next piece: a value whose encoding ends after the first `used` octets of the piece, the
-- position of a refusal, or one of the other answers to all octets so far; of a want of memory nothing is told
abbrev pub Fed : Ruling → Shape → Past → List ℕ → Result Step FeedFault → Type 0
Fed r t (waiting s) piece (Ok (step.Done value used)) =
    Answer r t (all_so_far s piece) (done (datum_of value) (length s + used))
Fed r t (waiting s) piece (Ok step.More) = Answer r t (all_so_far s piece) more
Fed r t (waiting s) piece (Err (feed.Refused at why)) = Answer r t (all_so_far s piece) (refused at)
Fed r t (waiting s) piece (Err feed.TooLong) = Answer r t (all_so_far s piece) too_long
Fed r t (waiting s) piece (Err feed.Memory) = ⊤
Fed r t (waiting s) piece (Err feed.Spent) = ⊥
Fed r t (stopped s fault) piece answer = answer ≡ Err fault
Fed r t (over s) piece answer = answer ≡ Err feed.Spent

-- and the past after that answer
abbrev pub past_after : Past → List ℕ → Result Step FeedFault → Past
past_after (waiting s) piece (Ok (step.Done value used)) = over (take (length s + used) (s ++ piece))
past_after (waiting s) piece (Ok step.More) = waiting (all_so_far s piece)
past_after (waiting s) piece (Err (feed.Refused at why)) = stopped (all_so_far s piece) (feed.Refused at why)
past_after (waiting s) piece (Err feed.TooLong) = stopped (all_so_far s piece) feed.TooLong
past_after (waiting s) piece (Err feed.Memory) = over s
past_after (waiting s) piece (Err feed.Spent) = over s
past_after (stopped s fault) piece answer = stopped s fault
past_after (over s) piece answer = over s

-- a session of the type with this past answers so, and has the past after that answer then
pub record FeedsTo {Q : Type 0} (r : Ruling) (took : Q → Shape → Past → Type 0) (old new : Q) (t : Shape) (past : Past)
    (piece : List ℕ) (answer : Result Step FeedFault) : Type 0 where
  pub answered : Fed r t past piece answer
  pub taken : took new t (past_after past piece answer)

-- whatever the type and the past of a session, it answers the piece as `FeedsTo` says
abbrev pub Feeds : {Q : Type 0} → Ruling → (Q → Shape → Past → Type 0) → Q → Q → List ℕ → Result Step FeedFault → Type 0
Feeds r took old new piece answer =
    (t : Shape) (past : Past) → took old t past → FeedsTo r took old new t past piece answer

-- ---- finish

-- the first n of the units are live, and no more of them are
pub record LiveUnits (r : Ruling) (t : Shape) (us : List ℕ) (n : ℕ) : Type 0 where
  pub some : n ≤ length us
  pub live : Live r.fielding r.whole t (take n us)
  pub last : n < length us → Live r.fielding r.whole t (take (n + 1) us) → ⊥

-- what is told at the end: the octets taken are a whole encoding; or they are none, and this many of their units were
-- taken while an encoding could still follow
abbrev pub Finished : Ruling → Shape → Past → Result (Unit {0}) Truncated → Type 0
Finished r t past (Ok a) = (v : Datum) × IsEncoding r t v (octets_taken past)
Finished r t past (Err cut) =
    ((v : Datum) → IsEncoding r t v (octets_taken past) → ⊥) × LiveUnits r t (r.units (octets_taken past)) cut.taken
