-- Sessions: messages whose octets come in pieces.
use Rattle.std.specs.Prelude.{◌≡◌, ◌⊎◌, ◌+◌, ℕ, Bool, true, false, cond, length, ⊤, Result, Ok, Err, List, [], Option, Some, None}
use Rattle.asn_values.specs.Shape.{Shape}
use Rattle.asn_values.specs.View.{datum_of}
use Rattle.asn_constraints.specs.Constraints.{meets}
use Rattle.asn_rules.specs.Answer.{Ruling}
use Rattle.asn_rules.specs.Sessions.{Past, waiting, stopped, over, octets_taken, past_after, Fed, Finished}
use Rattle.asn_rules.specs.declared.session.Step.{Step}
use Rattle.asn_rules.specs.declared.session.Step.TheVariants as step
use Rattle.asn_rules.specs.declared.session.FeedFault.{FeedFault}
use Rattle.asn_rules.specs.declared.session.Truncated.{Truncated}
use Rattle.asn_rules.specs.declared.units.Unit as units
use Rattle.asn_rules.specs.declared.units.Unit.TheVariants as unit
use Rattle.asn_per.specs.Rules.{per_ruling}
use Rattle.asn_per.specs.Sessions.{PerTook}
use Rattle.asn_oer.specs.Rules.{oer_ruling}
use Rattle.asn_oer.specs.Sessions.{OerTook}
use Rattle.tulvorn_c.specs.declared.object.Object.{Object}
use Rattle.tulvorn_c.specs.declared.object.Object.TheVariants.{PerSession, OerSession}
use Rattle.tulvorn_c.specs.declared.fault.Fault.{Fault}
use Rattle.tulvorn_c.specs.Faults.{plain, done, no_memory, of_feed, of_end, broken_after, cut_before}
use Rattle.tulvorn_c.specs.Held.{Constrained, constrained_of, value_of, held_valued}

-- the encoding rules of the session that the handle holds, and their unit
abbrev pub held_session : Option Object → Option Ruling
held_session (Some (PerSession ty session)) = Some per_ruling
held_session (Some (OerSession ty session)) = Some oer_ruling
held_session _ = None

abbrev pub held_unit : Option Object → units.Unit
held_unit (Some (OerSession ty session)) = unit.Octet
held_unit _ = unit.Bit

-- ---- what a session has taken

-- what a session of the type alone has taken; or that it returned a value that breaks the constraint, with an encoding of so
-- many octets
pub data PastUnder : Type 0 where
  going : Past → PastUnder
  broken : ℕ → PastUnder

-- the number is that of the octets which a session took that goes on
abbrev pub Counts : ℕ → Past → Type 0
Counts n (waiting s) = n ≡ length s
Counts n (stopped s fault) = ⊤
Counts n (over s) = ⊤

abbrev pub HasTaken : (Past → Type 0) → Bool → ℕ → PastUnder → Type 0
HasTaken took false n (going past) = took past × Counts n past
HasTaken took false n (broken octets) = ⊥
HasTaken took true n (going past) = ⊥
HasTaken took true n (broken octets) = n ≡ octets

-- a session beside a type is of this type and has this past
abbrev pub TookBeside : Constrained → (Shape → Past → Type 0) → Bool → ℕ → Constrained → PastUnder → Type 0
TookBeside own took is_broken n t past = (own ≡ t) × HasTaken (took t.shape) is_broken n past

-- so is the session that the handle holds
abbrev pub Took : Option Object → Constrained → PastUnder → Type 0
Took (Some (PerSession ty session)) t past =
    TookBeside (constrained_of ty) (PerTook session.value.session.inner) session.value.is_broken session.value.taken t past
Took (Some (OerSession ty session)) t past =
    TookBeside (constrained_of ty) (OerTook session.value.session.inner) session.value.is_broken session.value.taken t past
Took _ t past = ⊥

-- the handle then holds a session of these rules and this type, which has taken no octet
abbrev pub IsOpened : Ruling → Constrained → Option Object → Type 0
IsOpened r t new = (held_session new ≡ Some r) × Took new t (going (waiting []))

abbrev pub Opens : Option Object → Option Object → Ruling → Constrained → Fault → Type 0
Opens old new r t fault = ((fault ≡ done) × IsOpened r t new) ⊎ ((fault ≡ no_memory) × (new ≡ old))

-- ---- feed

-- what is answered to a value, in a handle and numbers: the value, whose handle may want memory; or that the octets so far
-- are refused at the last unit of its encoding, since it breaks the constraint
abbrev pub TellsValue : Bool → units.Unit → ℕ → Option Object → Option Object → Type 0 → ℕ → ℕ → ℕ → Fault → Type 0
TellsValue true u n old new Held before after used fault =
    ((fault ≡ done) × Held × (after ≡ used)) ⊎ ((fault ≡ no_memory) × (new ≡ old) × (after ≡ before))
TellsValue false u n old new Held before after used fault =
    (fault ≡ broken_after u (n + used)) × (new ≡ old) × (after ≡ before)

-- what a session answers that took n octets before the piece: a value; more; or a fault
abbrev pub TellsStep : units.Unit → Constrained → ℕ → Result Step FeedFault → Option Object → Option Object → ℕ → ℕ → Fault → Type 0
TellsStep u t n (Ok (step.Done value used)) old new before after fault =
    TellsValue (meets t.constraint (datum_of value)) u n old new (held_valued new ≡ Some (value_of t (datum_of value)))
    before after used fault
TellsStep u t n (Ok step.More) old new before after fault = (fault ≡ plain 19) × (new ≡ old) × (after ≡ before)
TellsStep u t n (Err why) old new before after fault = (fault ≡ of_feed why) × (new ≡ old) × (after ≡ before)

-- the past after an answer of the session of the type
abbrev pub past_under : Constrained → Past → List ℕ → Result Step FeedFault → PastUnder
past_under t past piece (Ok (step.Done value used)) =
    cond (meets t.constraint (datum_of value))
    (going (past_after past piece (Ok (step.Done value used)))) (broken (length (octets_taken past) + used))
past_under t past piece (Ok step.More) = going (past_after past piece (Ok step.More))
past_under t past piece (Err why) = going (past_after past piece (Err why))

-- a session with the past gives this answer to the piece, which is told so, and `took` says what it has taken then
pub record Answers (u : units.Unit) (r : Ruling) (took : Constrained → PastUnder → Type 0) (t : Constrained) (past : Past)
    (piece : List ℕ) (old new : Option Object) (before after : ℕ) (fault : Fault) : Type 0 where
  pub answer : Result Step FeedFault
  pub answered : Fed r t.shape past piece answer
  pub taken : took t (past_under t past piece answer)
  pub told : TellsStep u t (length (octets_taken past)) answer old new before after fault

-- after a value that breaks the constraint the answer stays the same
abbrev pub AnswersUnder : units.Unit → Ruling → (Constrained → PastUnder → Type 0) → Constrained → PastUnder → List ℕ
    → Option Object → Option Object → ℕ → ℕ → Fault → Type 0
AnswersUnder u r took t (going past) piece old new before after fault =
    Answers u r took t past piece old new before after fault
AnswersUnder u r took t (broken n) piece old new before after fault =
    took t (broken n) × (fault ≡ broken_after u n) × (new ≡ old) × (after ≡ before)

-- the handle then holds a session of the same rules, and whatever the type and the past of the session, it gives the
-- answer to the piece
abbrev pub FeedsSession : List ℕ → Option Object → Option Object → Option Object → Option Object → ℕ → ℕ
    → Ruling → Fault → Type 0
FeedsSession piece session session' old new before after r fault =
    (held_session session' ≡ Some r) × ((t : Constrained) (past : PastUnder) → Took session t past
    → AnswersUnder (held_unit session) r (Took session') t past piece old new before after fault)

-- ---- finish

-- the session ends with this answer, which is told so
pub record EndsAs (r : Ruling) (t : Shape) (past : Past) (fault : Fault) : Type 0 where
  pub answer : Result (Unit {0}) Truncated
  pub finished : Finished r t past answer
  pub told : fault ≡ of_end answer

-- after a value that breaks the constraint all units but the last of its encoding were taken
abbrev pub EndsUnder : units.Unit → Ruling → Constrained → PastUnder → Fault → Type 0
EndsUnder u r t (going past) fault = EndsAs r t.shape past fault
EndsUnder u r t (broken n) fault = fault ≡ cut_before u n

-- the handle then holds nothing
abbrev pub EndsSession : Option Object → Option Object → Ruling → Fault → Type 0
EndsSession old new r fault =
    (new ≡ None) × ((t : Constrained) (past : PastUnder) → Took old t past → EndsUnder (held_unit old) r t past fault)
