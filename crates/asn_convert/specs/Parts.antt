-- What the parts of a run say, of the job, the module, the lines, the reader and the writer as the program holds them.
use Rattle.std.specs.Prelude.{ℕ, Bool, List, Option, Result, IfOk, IfErr}
use Rattle.asn_values.specs.declared.types.AsnType.{AsnType}
use Rattle.asn_values.specs.View.{shape_of}
use Rattle.asn_rules.specs.declared.counting.Counted.{Counted}
use Rattle.asn_rules.specs.Answer.{Ruling}
use Rattle.asn_rules.specs.Faults.{inner_of, state_of}
use Rattle.asn_newer.specs.Loose.{LooseCoding}
use Rattle.asn_module.specs.declared.module.Module.{Module}
use Rattle.asn_module.specs.ModuleView.{types_view}
use Rattle.asn_jobs.specs.declared.job.Job.{Job}
use Rattle.asn_jobs.specs.declared.job.Order.{Order}
use Rattle.asn_jobs.specs.declared.job.RuleName.{RuleName}
use Rattle.asn_jobs.specs.declared.job.RunFault.{RunFault}
use Rattle.asn_jobs.specs.declared.job.Status.{Status}
use Rattle.asn_convert.specs.Answers.{Rulings, Terms, Answers, rulings}
use Rattle.asn_jobs.specs.Lines.{lines_of}
use Rattle.asn_convert.specs.Text.{Text, Begun, Tells, TellsBegun, Told, HasAnswer, IsBegun, IsAnswered, IsAnswerBegun, Writes, Stops, Runs, Fails, terms}

-- what a reader has left, or a writer holds, where it is known
abbrev pub Known : Type 0 → Type 0
Known T = T → Option (List ℕ)

-- with Ok, what was written is what belongs to the answer, and the writer answered no fault
abbrev pub Wrote :
    {A W : Type 0} → Result A RunFault → Known W → Counted W → Counted W → (A → List ℕ → Type 0) → Type 0
Wrote r contents old new Kind = IfOk r (λ a. Writes (Kind a) (state_of contents old) (state_of contents new))

-- with Err, what was written before is of this kind
abbrev pub Broke : {A W : Type 0} → Result A RunFault → Known W → Counted W → Counted W → (List ℕ → Type 0) → Type 0
Broke r contents old new Kind = IfErr r (λ why. Stops why Kind (state_of contents old) (state_of contents new))

-- ---- by the rules of the octets, of those that they are converted to, and of messages of other versions

-- the text of the job for this input, with that status, and a beginning of one
abbrev pub JobTold : Ruling → Ruling → LooseCoding → Job → List ℕ → Status → List ℕ → Type 0
JobTold a b l j input s out = Text (rulings a b l) j input out s

abbrev pub JobBegun : Ruling → Ruling → LooseCoding → Job → List ℕ → List ℕ → Type 0
JobBegun a b l j input out = Begun (rulings a b l) j input out

-- what is told of an accepted module and of these lines
abbrev pub ModuleTold : Ruling → Ruling → LooseCoding → Job → Module → List ℕ → Status → List ℕ → Type 0
ModuleTold a b l j m lines s out = Tells (rulings a b l) j (types_view m) (lines_of lines) out s

abbrev pub ModuleBegun : Ruling → Ruling → LooseCoding → Job → Module → List ℕ → List ℕ → Type 0
ModuleBegun a b l j m lines out = TellsBegun (rulings a b l) j (types_view m) (lines_of lines) out

-- what lines are answered by
abbrev pub terms_of : Ruling → Ruling → LooseCoding → RuleName → Order → AsnType → Terms
terms_of a b l name by t = terms (rulings a b l) name by (shape_of t)

-- the answers to these lines: whether none is a refusal
abbrev pub LinesTold : Ruling → Ruling → LooseCoding → RuleName → Order → AsnType → List ℕ → Bool → List ℕ → Type 0
LinesTold a b l name by t lines good out = Told (terms_of a b l name by t) (lines_of lines) out good

abbrev pub LinesBegun : Ruling → Ruling → LooseCoding → RuleName → Order → AsnType → List ℕ → List ℕ → Type 0
LinesBegun a b l name by t lines out = IsBegun (terms_of a b l name by t) (lines_of lines) out

-- the answer to one line, with its LF and without it
abbrev pub LineTold : Ruling → Ruling → LooseCoding → RuleName → Order → AsnType → List ℕ → Bool → List ℕ → Type 0
LineTold a b l name by t line good out = IsAnswered (terms_of a b l name by t) line out good

abbrev pub LineBegun : Ruling → Ruling → LooseCoding → RuleName → Order → AsnType → List ℕ → List ℕ → Type 0
LineBegun a b l name by t line out = IsAnswerBegun (terms_of a b l name by t) line out

abbrev pub LineAnswer : Ruling → Ruling → LooseCoding → RuleName → Order → AsnType → List ℕ → Bool → List ℕ → Type 0
LineAnswer a b l name by t line good text = Answers (terms_of a b l name by t) line text good

-- the line has an answer
abbrev pub LineHasAnswer : Ruling → Ruling → LooseCoding → RuleName → Order → AsnType → List ℕ → Type 0
LineHasAnswer a b l name by t line = HasAnswer (terms_of a b l name by t) line

-- ---- a run

-- with Ok, the text of the job was written, for the octets that the reader was to give
abbrev pub RanWith :
    {R W : Type 0} → Rulings → Job → Result Status RunFault → Known R → Counted R
    → Known W → Counted W → Counted W → Type 0
RanWith w j r left reader contents old new =
    IfOk r (λ s. Runs w j s (left (inner_of reader)) (state_of contents old) (state_of contents new))

-- with Err, nothing was written, or a beginning of such a text
abbrev pub FailedWith :
    {R W : Type 0} → Rulings → Job → Result Status RunFault → Known R → Counted R → Counted R
    → Known W → Counted W → Counted W → Type 0
FailedWith w j r left before after contents old new =
    IfErr r (λ why.
    Fails w j why (state_of left before) (state_of left after) (state_of contents old) (state_of contents new))

-- the same by rules
abbrev pub RanBy :
    {R W : Type 0} → Ruling → Ruling → LooseCoding → Job → Result Status RunFault → Known R → Counted R
    → Known W → Counted W → Counted W → Type 0
RanBy a b l j r left reader contents old new = RanWith (rulings a b l) j r left reader contents old new

abbrev pub FailedBy :
    {R W : Type 0} → Ruling → Ruling → LooseCoding → Job → Result Status RunFault → Known R → Counted R → Counted R
    → Known W → Counted W → Counted W → Type 0
FailedBy a b l j r left before after contents old new =
    FailedWith (rulings a b l) j r left before after contents old new
