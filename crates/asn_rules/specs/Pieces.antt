-- What a session answers over a whole list of pieces, for any encoding rules.
use Rattle.std.specs.Prelude.{◌≡◌, ◌≢◌, ◌+◌, ℕ, Result, Ok, Err, List, [], ◌∷◌, ◌++◌, length, ⊤}
use Rattle.std.specs.List.{AllByRecursion}
use Rattle.asn_values.specs.Profile.{InProfile}
use Rattle.asn_values.specs.Shape.{Shape}
use Rattle.asn_values.specs.View.{datum_of}
use Rattle.asn_rules.specs.declared.session.Step.{Step}
use Rattle.asn_rules.specs.declared.session.Step.TheVariants as step
use Rattle.asn_rules.specs.declared.session.FeedFault.{FeedFault}
use Rattle.asn_rules.specs.declared.session.FeedFault.TheVariants as feed
use Rattle.asn_rules.specs.Answer.{Ruling}
use Rattle.asn_rules.specs.Laws.{AreOctets}
use Rattle.asn_rules.specs.Sessions.{Past, waiting, Feeds, Fed}

-- ---- turns

-- a piece, and what was answered to it
pub record Turn : Type 0 where
  pub piece : List ℕ
  pub answer : Result Step FeedFault

-- the octets of all pieces, one after the other
abbrev pub octets_of : List Turn → List ℕ
octets_of [] = []
octets_of (turn ∷ turns) = turn.piece ++ octets_of turns

-- more was wanted after each piece
abbrev pub AllWantMore : List Turn → Type 0
AllWantMore turns = AllByRecursion (λ turn. turn.answer ≡ Ok step.More) turns

-- the session q takes these pieces one after the other, with these answers, and is q' then
abbrev pub Takes : {Q : Type 0} → Ruling → (Q → Shape → Past → Type 0) → List Turn → Q → Q → Type 0
Takes {Q} r took [] q q' = q ≡ q'
Takes {Q} r took (turn ∷ turns) q q' =
    (next : Q) × Feeds r took q next turn.piece turn.answer × Takes r took turns next q'

-- a session of the type was opened, and took these pieces with these answers
pub record Ran {Q : Type 0} (r : Ruling) (took : Q → Shape → Past → Type 0) (t : Shape) (turns : List Turn)
    : Type 0 where
  pub first : Q
  pub last : Q
  pub opened : took first t (waiting [])
  pub turned : Takes r took turns first last

-- ---- as long as more is wanted

-- the session has taken the octets of all pieces, and no others
abbrev pub KeepsAllOctets : {Q : Type 0} → Ruling → (Q → Shape → Past → Type 0) → Type 0
KeepsAllOctets r took =
    (t : Shape) (turns : List Turn) (ran : Ran r took t turns) → AllWantMore turns
    → took ran.last t (waiting (octets_of turns))

-- the next piece is answered as the end of the octets of all pieces together
abbrev pub AnswersAllOctets : {Q : Type 0} → Ruling → (Q → Shape → Past → Type 0) → Type 0
AnswersAllOctets r took =
    (t : Shape) (turns : List Turn) (turn : Turn) → Ran r took t (turns ++ turn ∷ []) → AllWantMore turns
    → Fed r t (waiting (octets_of turns)) turn.piece turn.answer

-- ---- after another answer

-- what is answered to a later piece: after a value or a want of memory Spent, else the same fault
abbrev pub Settles : Result Step FeedFault → Result Step FeedFault → Type 0
Settles (Ok (step.Done value used)) later = later ≡ Err feed.Spent
Settles (Ok step.More) later = ⊤
Settles (Err (feed.Refused at why)) later = later ≡ Err (feed.Refused at why)
Settles (Err feed.TooLong) later = later ≡ Err feed.TooLong
Settles (Err feed.Memory) later = later ≡ Err feed.Spent
Settles (Err feed.Spent) later = later ≡ Err feed.Spent

-- the first answer that wants no more settles what is answered to every later piece
abbrev pub SettlesLaterAnswers : {Q : Type 0} → Ruling → (Q → Shape → Past → Type 0) → Type 0
SettlesLaterAnswers r took =
    (t : Shape) (turns : List Turn) (turn : Turn) (between : List Turn) (later : Turn)
    → Ran r took t (turns ++ turn ∷ (between ++ later ∷ [])) → AllWantMore turns → Settles turn.answer later.answer

-- ---- two sessions

-- both are values and stand for one, and the encoding ends at the same octet of the message; or both tell the same
-- fault; of a refusal they tell the same position, and may tell different reasons. The pieces begin after m and after
-- n octets
abbrev pub AnswerAlike : ℕ → Result Step FeedFault → ℕ → Result Step FeedFault → Type 0
AnswerAlike m (Ok (step.Done value used)) n (Ok (step.Done other count)) =
    (datum_of value ≡ datum_of other) × (m + used ≡ n + count)
AnswerAlike m (Ok step.More) n (Ok step.More) = ⊤
AnswerAlike m (Err (feed.Refused at why)) n (Err (feed.Refused place reason)) = at ≡ place
AnswerAlike m (Err feed.TooLong) n (Err feed.TooLong) = ⊤
AnswerAlike m _ n _ = ⊥

-- where the octets are the same, however they were cut, the answers to the last pieces are alike, neither being Memory
abbrev pub CutsDoNotMatter : {Q : Type 0} → Ruling → (Q → Shape → Past → Type 0) → Type 0
CutsDoNotMatter r took =
    (t : Shape) (turns : List Turn) (turn : Turn) (others : List Turn) (other : Turn) → InProfile t
    → AreOctets (octets_of turns ++ turn.piece)
    → Ran r took t (turns ++ turn ∷ []) → AllWantMore turns → Ran r took t (others ++ other ∷ []) → AllWantMore others
    → octets_of turns ++ turn.piece ≡ octets_of others ++ other.piece
    → turn.answer ≢ Err feed.Memory → other.answer ≢ Err feed.Memory
    → AnswerAlike (length (octets_of turns)) turn.answer (length (octets_of others)) other.answer
