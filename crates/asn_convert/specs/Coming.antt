-- Lines that are answered as they come: the text of a job whose module stands apart, and a run that stops on the way.
use Rattle.std.specs.Prelude.{◌≡◌, ◌≢◌, ◌<◌, ◌⊎◌, ℕ, Bool, List, [], ◌∷◌, ◌++◌, length, get_or, Option, Some, None, Result, IfOk, string_bytes, IfErr, ⊤}
use Rattle.std.specs.Io.KnownBytes.{Consumes}
use Rattle.asn_values.specs.View.{shape_of}
use Rattle.asn_values.specs.declared.types.AsnType.{AsnType}
use Rattle.asn_rules.specs.Answer.{Ruling}
use Rattle.asn_rules.specs.Faults.{State, Rose, inner_of, state_of}
use Rattle.asn_rules.specs.declared.counting.Counted.{Counted}
use Rattle.asn_module.specs.Accepted.{ModuleTypes, type_in}
use Rattle.asn_module.specs.declared.module.Module.{Module}
use Rattle.asn_newer.specs.Loose.{LooseCoding}
use Rattle.asn_convert.specs.Answers.{Rulings, rulings}
use Rattle.asn_jobs.specs.Lines.{lines_of, module_text}
use Rattle.asn_convert.specs.Parts.{Known, ModuleTold, ModuleBegun, LinesTold, LinesBegun}
use Rattle.asn_convert.specs.Text.{IsFront, IsModule, IsRefusal, Tells, TellsBegun, IsGiven, Writes, Stops}
use Rattle.asn_jobs.specs.declared.job.Job.{Job}
use Rattle.asn_jobs.specs.declared.job.Job.TheVariants as job
use Rattle.asn_jobs.specs.declared.job.Order.{Order}
use Rattle.asn_jobs.specs.declared.job.RuleName.{RuleName}
use Rattle.asn_jobs.specs.declared.job.RunFault.{RunFault}
use Rattle.asn_jobs.specs.declared.job.RunFault.TheVariants as fault
use Rattle.asn_jobs.specs.declared.job.Status.{Status}
use Rattle.asn_jobs.specs.declared.job.Status.TheVariants as status

-- ---- whole lines

-- nothing, or octets of which the last is an LF
abbrev pub AreWholeLines : List ℕ → Type 0
AreWholeLines octets = (octets ≡ []) ⊎ ((front : List ℕ) × (octets ≡ front ++ 10 ∷ []))

-- no octet is an LF
abbrev pub HasNoEnd : List ℕ → Type 0
HasNoEnd octets = (k : ℕ) → k < length octets → get_or octets k 0 ≢ 10

-- ---- the text of a job

-- what is made of the text of a module and of the lines that come after it
abbrev pub TextOf : Rulings → Job → List ℕ → List ℕ → List ℕ → Status → Type 0
TextOf w j text lines out s =
    (IsRefusal text out × (s ≡ status.NoModule))
    ⊎ ((m : ModuleTypes) × IsModule text m × Tells w j m (lines_of lines) out s)

-- a beginning of it
abbrev pub BegunOf : Rulings → Job → List ℕ → List ℕ → List ℕ → Type 0
BegunOf w j text lines out =
    (out ≡ [])
    ⊎ ((line : List ℕ) × IsRefusal text line × IsFront out line)
    ⊎ ((m : ModuleTypes) × IsModule text m × TellsBegun w j m (lines_of lines) out)

-- ---- runs

-- to the end of the input: what was written is of this kind, for the octets that the reader was to give
abbrev pub Ends : (List ℕ → List ℕ → Type 0) → Option (List ℕ) → State → State → Type 0
Ends Kind given old new = (lines : List ℕ) × IsGiven given lines × Writes (Kind lines) old new

-- why it stopped, and what was written until then
abbrev pub StopsBy : RunFault → (List ℕ → Type 0) → State → State → State → State → Type 0
StopsBy fault.Read Kind from after old new = Writes Kind old new × Rose from.faults after.faults
StopsBy why Kind from after old new = Stops why Kind old new

-- stopped on the way: what was written is of this kind, for the octets that were read
abbrev pub StopsWithin : RunFault → (List ℕ → List ℕ → Type 0) → State → State → State → State → Type 0
StopsWithin why Kind from after old new =
    (lines : List ℕ) × Consumes from.octets after.octets lines × StopsBy why (Kind lines) from after old new

-- with Ok, what was written is what belongs to the answer, for the octets that the reader was to give
abbrev pub Ended :
    {A R W : Type 0} → Result A RunFault → Known R → Counted R → Known W → Counted W → Counted W
    → (A → List ℕ → List ℕ → Type 0) → Type 0
Ended r left reader contents old new Kind =
    IfOk r (λ a. Ends (Kind a) (left (inner_of reader)) (state_of contents old) (state_of contents new))

-- with Err, what was written is a beginning, for what was read
abbrev pub Stopped :
    {A R W : Type 0} → Result A RunFault → Known R → Counted R → Counted R → Known W → Counted W → Counted W
    → (List ℕ → List ℕ → Type 0) → Type 0
Stopped r left before after contents old new Kind =
    IfErr r (λ why.
    StopsWithin why Kind (state_of left before) (state_of left after) (state_of contents old) (state_of contents new))

-- ---- a piece

-- with Ok, what was held and the piece are whole lines, whose answers were written, and what is held then
abbrev pub Took :
    {W : Type 0} → Result Bool RunFault → Known W → Counted W → Counted W → List ℕ → List ℕ → List ℕ
    → (List ℕ → Bool → List ℕ → Type 0) → Type 0
Took r contents old new held piece kept Kind =
    IfOk r (λ good. (front : List ℕ) × AreWholeLines front × (held ++ piece ≡ front ++ kept)
    × Writes (Kind front good) (state_of contents old) (state_of contents new))

-- with Err, a beginning of answers to whole lines of them was written
abbrev pub TookPart :
    {W : Type 0} → Result Bool RunFault → Known W → Counted W → Counted W → List ℕ → List ℕ
    → (List ℕ → List ℕ → Type 0) → Type 0
TookPart r contents old new held piece Kind =
    IfErr r (λ why. (front back : List ℕ) × AreWholeLines front × (held ++ piece ≡ front ++ back)
    × Stops why (Kind front) (state_of contents old) (state_of contents new))

-- ---- the type of a job

-- the module has no type that the job's lines are answered for
abbrev pub HasNoTypeFor : Job → ModuleTypes → Type 0
HasNoTypeFor job.Module m = ⊤
HasNoTypeFor (job.Lines by name rules) m = type_in m.types (string_bytes name) ≡ None

-- it has this one, and this is made of a line by these rules
abbrev pub IsTypeFor : Job → ModuleTypes → AsnType → Order → RuleName → Type 0
IsTypeFor job.Module m t order by_rules = ⊥
IsTypeFor (job.Lines by name rules) m t order by_rules =
    (type_in m.types (string_bytes name) ≡ Some (shape_of t)) × (by ≡ order) × (rules ≡ by_rules)

-- ---- by rules

-- the text of the job for the module in front of the mark and the lines that come, and a beginning of it
abbrev pub TextBy : Ruling → Ruling → LooseCoding → Job → List ℕ → Status → List ℕ → List ℕ → Type 0
TextBy a b l j head s lines out = TextOf (rulings a b l) j (module_text head) lines out s

abbrev pub BegunBy : Ruling → Ruling → LooseCoding → Job → List ℕ → List ℕ → List ℕ → Type 0
BegunBy a b l j head lines out = BegunOf (rulings a b l) j (module_text head) lines out

-- what is told of an accepted module and of the lines that come, and a beginning of it
abbrev pub ModuleBy : Ruling → Ruling → LooseCoding → Job → Module → Status → List ℕ → List ℕ → Type 0
ModuleBy a b l j m s lines out = ModuleTold a b l j m lines s out

abbrev pub ModuleBegunBy : Ruling → Ruling → LooseCoding → Job → Module → List ℕ → List ℕ → Type 0
ModuleBegunBy a b l j m lines out = ModuleBegun a b l j m lines out

-- the answers to the lines that come, and a beginning of them
abbrev pub LinesBy : Ruling → Ruling → LooseCoding → RuleName → Order → AsnType → Bool → List ℕ → List ℕ → Type 0
LinesBy a b l name by t good lines out = LinesTold a b l name by t lines good out

abbrev pub LinesBegunBy : Ruling → Ruling → LooseCoding → RuleName → Order → AsnType → List ℕ → List ℕ → Type 0
LinesBegunBy a b l name by t lines out = LinesBegun a b l name by t lines out
