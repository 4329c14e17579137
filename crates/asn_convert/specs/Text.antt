-- The text of a job, and what of it is written before a fault.
use Rattle.std.specs.Prelude.{◌≡◌, ◌<◌, ◌⊎◌, ◌&&◌, ℕ, Bool, true, false, List, [], ◌∷◌, ◌++◌, codes, string_bytes, Option, Some, None, IfSome, IsUtf8, ⊤}
use Rattle.std.specs.List.{AllByRecursion}
use Rattle.std.specs.Io.KnownBytes.{Appends, Keeps}
use Rattle.asn_values.specs.Shape.{Shape}
use Rattle.asn_rules.specs.Faults.{Rose, State}
use Rattle.asn_module.specs.Accepted.{ModuleTypes, Accepted, type_in}
use Rattle.asn_module.specs.Sizes.{most_size, types_size}
use Rattle.asn_module.specs.Printing.{printed}
use Rattle.asn_module.specs.declared.fault.ModuleFault.{ModuleFault}
use Rattle.asn_module.specs.declared.fault.ModuleFault.TheVariants as module_fault
use Rattle.asn_convert.specs.Answers.{Rulings, Terms, Answers}
use Rattle.asn_jobs.specs.Lines.{IsOneLine, module_text, job_lines}
use Rattle.asn_jobs.specs.declared.job.Order.{Order}
use Rattle.asn_jobs.specs.declared.job.RuleName.{RuleName}
use Rattle.asn_jobs.specs.declared.job.Job.{Job}
use Rattle.asn_jobs.specs.declared.job.Job.TheVariants as job
use Rattle.asn_jobs.specs.declared.job.Status.{Status}
use Rattle.asn_jobs.specs.declared.job.Status.TheVariants as status
use Rattle.asn_jobs.specs.declared.job.RunFault.{RunFault}
use Rattle.asn_jobs.specs.declared.job.RunFault.TheVariants as fault

-- ---- all lines

-- a text and its LF
abbrev pub ended : List ℕ → List ℕ
ended text = text ++ 10 ∷ []

-- a front of the octets
abbrev pub IsFront : List ℕ → List ℕ → Type 0
IsFront front octets = (rest : List ℕ) × (front ++ rest ≡ octets)

-- a line is answered, with an LF
abbrev pub IsAnswered : Terms → List ℕ → List ℕ → Bool → Type 0
IsAnswered w line out good = (text : List ℕ) × Answers w line text good × (out ≡ ended text)

-- nothing, or a front of an answer
abbrev pub IsAnswerBegun : Terms → List ℕ → List ℕ → Type 0
IsAnswerBegun w line out =
    (out ≡ []) ⊎ ((text : List ℕ) × (good : Bool) × Answers w line text good × IsFront out (ended text))

-- each line is answered, in order: the status is good where each answer is
abbrev pub Told : Terms → List (List ℕ) → List ℕ → Bool → Type 0
Told w [] out all_good = (out ≡ []) × (all_good ≡ true)
Told w (line ∷ lines) out all_good =
    (text rest : List ℕ) × (good later : Bool) × Answers w line text good × Told w lines rest later
    × (out ≡ ended text ++ rest) × (all_good ≡ (good && later))

-- a line has an answer: it cannot be that no text is one
abbrev pub HasAnswer : Terms → List ℕ → Type 0
HasAnswer w line = ((text : List ℕ) (good : Bool) → Answers w line text good → ⊥) → ⊥

-- a beginning of such answers: some whole ones, and then nothing or a front of one more; each line that is left has one
abbrev pub IsBegun : Terms → List (List ℕ) → List ℕ → Type 0
IsBegun w [] out = out ≡ []
IsBegun w (line ∷ lines) out =
    (IsAnswerBegun w line out × AllByRecursion (λ left. HasAnswer w left) (line ∷ lines))
    ⊎ ((text rest : List ℕ) × (good : Bool) × Answers w line text good × IsBegun w lines rest
    × (out ≡ ended text ++ rest))

-- ---- the module

-- the text is of the characters that a text has, and is that module
pub record IsModule (text : List ℕ) (m : ModuleTypes) : Type 0 where
  pub utf8 : IsUtf8 text
  pub accepted : Accepted text m

-- it is no module
abbrev pub IsNoModule : List ℕ → Type 0
IsNoModule text = (m : ModuleTypes) → IsModule text m → ⊥

-- what is told of a text that is no module: some words on the module, in one line
abbrev pub TellsNoModule : List ℕ → Type 0
TellsNoModule words = (rest : List ℕ) × (words ≡ codes "! module " ++ rest) × IsOneLine rest

-- that it is no text
abbrev pub not_text : List ℕ
not_text = codes "! module not text"

-- it is no module, or one that is larger than is read
abbrev pub IsPastMost : List ℕ → Type 0
IsPastMost text = (m : ModuleTypes) → IsModule text m → most_size < types_size m.types

-- that is what the fault says
abbrev pub is_past_most : ModuleFault → Bool
is_past_most (module_fault.TooLarge most size name) = true
is_past_most _ = false

-- the line for such a text
abbrev pub TellsPastMost : List ℕ → Type 0
TellsPastMost words = (rest : List ℕ) × (words ≡ codes "! module too large: " ++ rest) × IsOneLine rest

-- the line for a text that is no module, or too large
abbrev pub RefusesModule : List ℕ → List ℕ → Type 0
RefusesModule text words =
    (IsNoModule text × (((IsUtf8 text → ⊥) × (words ≡ not_text)) ⊎ (IsUtf8 text × TellsNoModule words)))
    ⊎ (IsUtf8 text × IsPastMost text × TellsPastMost words)

-- such a line with its LF
abbrev pub IsRefusal : List ℕ → List ℕ → Type 0
IsRefusal text out = (words : List ℕ) × RefusesModule text words × (out ≡ ended words)

-- the line for a name without a type
abbrev pub no_type : List ℕ → List ℕ
no_type name = codes "! no type " ++ name

-- ---- the whole text

abbrev pub status_of : Bool → Status
status_of true = status.Good
status_of false = status.Marked

-- what lines are answered by, for a type
abbrev pub terms : Rulings → RuleName → Order → Shape → Terms
terms w name by t = record { rulings = w; name = name; shape = t; order = by }

-- the module has no type of the name, and that is told
abbrev pub TellsNoType : List ℕ → ModuleTypes → List ℕ → Status → Type 0
TellsNoType name m out s = (type_in m.types name ≡ None) × (out ≡ ended (no_type name)) × (s ≡ status.NoModule)

-- it has one, and the lines are answered for it
abbrev pub TellsLines : (Shape → Terms) → List ℕ → ModuleTypes → List (List ℕ) → List ℕ → Status → Type 0
TellsLines terms_for name m lines out s =
    (t : Shape) × (type_in m.types name ≡ Some t) × (good : Bool) × Told (terms_for t) lines out good
    × (s ≡ status_of good)

-- what a job makes of an accepted module and of the lines, octets being those of these rules
abbrev pub Tells : Rulings → Job → ModuleTypes → List (List ℕ) → List ℕ → Status → Type 0
Tells w job.Module m lines out s = (out ≡ printed m) × (s ≡ status.Good)
Tells w (job.Lines by name rules) m lines out s =
    TellsNoType (string_bytes name) m out s ⊎ TellsLines (λ t. terms w rules by t) (string_bytes name) m lines out s

abbrev pub Text : Rulings → Job → List ℕ → List ℕ → Status → Type 0
Text w j input out s =
    (IsRefusal (module_text input) out × (s ≡ status.NoModule))
    ⊎ ((m : ModuleTypes) × IsModule (module_text input) m × Tells w j m (job_lines input) out s)

-- a beginning of such texts
abbrev pub BeginsNoType : List ℕ → ModuleTypes → List ℕ → Type 0
BeginsNoType name m out = (type_in m.types name ≡ None) × IsFront out (ended (no_type name))

abbrev pub BeginsLines : (Shape → Terms) → List ℕ → ModuleTypes → List (List ℕ) → List ℕ → Type 0
BeginsLines terms_for name m lines out = (t : Shape) × (type_in m.types name ≡ Some t) × IsBegun (terms_for t) lines out

abbrev pub TellsBegun : Rulings → Job → ModuleTypes → List (List ℕ) → List ℕ → Type 0
TellsBegun w job.Module m lines out = IsFront out (printed m)
TellsBegun w (job.Lines by name rules) m lines out =
    BeginsNoType (string_bytes name) m out ⊎ BeginsLines (λ t. terms w rules by t) (string_bytes name) m lines out

abbrev pub Begun : Rulings → Job → List ℕ → List ℕ → Type 0
Begun w j input out =
    (out ≡ [])
    ⊎ ((line : List ℕ) × IsRefusal (module_text input) line × IsFront out line)
    ⊎ ((m : ModuleTypes) × IsModule (module_text input) m × TellsBegun w j m (job_lines input) out)

-- ---- what was read, and faults

-- the octets are those that the reader was to give, where these are known
abbrev pub IsGiven : Option (List ℕ) → List ℕ → Type 0
IsGiven known octets = IfSome known (λ xs. octets ≡ xs)

-- why not all was read: the reader answered a fault, or memory
abbrev pub IsReadFault : RunFault → ℕ → ℕ → Type 0
IsReadFault fault.Read old new = Rose old new
IsReadFault fault.Write old new = ⊥
IsReadFault fault.Memory old new = ⊤

-- some octets of this kind were written, and no fault was answered
abbrev pub Writes : (List ℕ → Type 0) → State → State → Type 0
Writes Kind old new = (out : List ℕ) × Kind out × Appends old.octets new.octets out × (new.faults ≡ old.faults)

-- some octets of this kind were written before a fault of the writer, or of memory
abbrev pub Stops : RunFault → (List ℕ → Type 0) → State → State → Type 0
Stops fault.Read Kind old new = ⊥
Stops fault.Write Kind old new =
    (out : List ℕ) × Kind out × Appends old.octets new.octets out × Rose old.faults new.faults
Stops fault.Memory Kind old new = (out : List ℕ) × Kind out × Appends old.octets new.octets out

-- a run to its end: what was written is a text of the job, for what the reader was to give
abbrev pub Runs : Rulings → Job → Status → Option (List ℕ) → State → State → Type 0
Runs w j s given old new = (input : List ℕ) × IsGiven given input × Writes (λ out. Text w j input out s) old new

-- a run that failed: nothing was written where the reader failed, else a beginning of a text of the job
abbrev pub Fails : Rulings → Job → RunFault → State → State → State → State → Type 0
Fails w j fault.Read from after old new = Keeps old.octets new.octets × Rose from.faults after.faults
Fails w j why from after old new =
    (input : List ℕ) × IsGiven from.octets input × Stops why (λ out. Begun w j input out) old new
