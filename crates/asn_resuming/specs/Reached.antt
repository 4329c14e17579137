-- Which octets brought a session to the nodes that have begun, and what is answered to the next ones.
use Rattle.std.specs.Prelude.{◌≡◌, ◌+◌, ◌++◌, ℕ, Result, Ok, Err, List, length, ⊤}
use Rattle.asn_values.specs.Shape.{Shape}
use Rattle.asn_values.specs.View.{datum_of}
use Rattle.asn_rules.specs.Answer.{Answer, done, refused}
use Rattle.asn_rules.specs.Languages.{Short}
use Rattle.asn_rules.specs.Reading.{Wholes}
use Rattle.asn_rules.specs.declared.session.Step.{Step}
use Rattle.asn_rules.specs.declared.session.Step.TheVariants as step
use Rattle.asn_rules.specs.declared.session.FeedFault.{FeedFault}
use Rattle.asn_rules.specs.declared.session.FeedFault.TheVariants as feed
use Rattle.asn_walk.specs.Ahead.{Ahead}
use Rattle.asn_walk.specs.Coding.{Coding}
use Rattle.asn_walk_feed.specs.OpenFields.{FieldCoding}
use Rattle.asn_walk_feed.specs.Taken.{Took}
use Rattle.asn_walk_feed.specs.declared.frame.Frame.{Frame}

-- the octets s, of which there are this many, and so many units, are those that have come of a message
pub record Reached {F : Type 0} (c : Coding) (fc : FieldCoding) (ahead : F → Ahead) (between : F → Type 0)
    (fs : List (Frame F)) (t : Shape) (units octets : ℕ) (s : List ℕ) : Type 0 where
  pub took : Took c fc ahead between fs t (c.ruling.units s)
  pub units_are : length (c.ruling.units s) ≡ units
  pub octets_are : length s ≡ octets

-- the message goes on after these octets, and these nodes have begun
pub record GoesOn {F : Type 0} (c : Coding) (fc : FieldCoding) (ahead : F → Ahead) (between : F → Type 0)
    (fs : List (Frame F)) (t : Shape) (s : List ℕ) : Type 0 where
  pub short : Short c.ruling.fielding (Wholes c.ruling t) (c.ruling.units s)
  pub took : Took c fc ahead between fs t (c.ruling.units s)

-- what is answered to further octets, after the octets s; these nodes have begun then
abbrev pub AnswersOn : {F : Type 0} → Coding → FieldCoding → (F → Ahead) → (F → Type 0) → List (Frame F) → Shape
    → List ℕ → List ℕ → Result Step FeedFault → Type 0
AnswersOn c fc ahead between fs t s piece (Ok (step.Done value used)) =
    Answer c.ruling t (s ++ piece) (done (datum_of value) (length s + used))
AnswersOn c fc ahead between fs t s piece (Ok step.More) = GoesOn c fc ahead between fs t (s ++ piece)
AnswersOn c fc ahead between fs t s piece (Err (feed.Refused at why)) = Answer c.ruling t (s ++ piece) (refused at)
AnswersOn c fc ahead between fs t s piece (Err feed.TooLong) = ⊥
AnswersOn c fc ahead between fs t s piece (Err feed.Memory) = ⊤
AnswersOn c fc ahead between fs t s piece (Err feed.Spent) = ⊥
