-- The encoding rules that a name stands for.
use Rattle.std.specs.Prelude.{Result, ℕ, Bool, List}
use Rattle.asn_values.specs.View.{shape_of}
use Rattle.asn_values.specs.declared.types.AsnType.{AsnType}
use Rattle.asn_rules.specs.declared.counting.Counted.{Counted}
use Rattle.asn_per.specs.Rules.{per_ruling}
use Rattle.asn_oer.specs.Rules.{oer_ruling}
use Rattle.asn_newer.specs.Rules.{per_loose, oer_loose}
use Rattle.asn_convert.specs.Answers.{Rulings, rulings}
use Rattle.asn_convert.specs.Coming.{Ended, Stopped, TextOf, BegunOf}
use Rattle.asn_jobs.specs.Lines.{module_text}
use Rattle.asn_jobs.specs.declared.job.Job.{Job}
use Rattle.asn_jobs.specs.declared.job.Job.TheVariants as job
use Rattle.asn_jobs.specs.declared.job.Order.{Order}
use Rattle.asn_jobs.specs.declared.job.RuleName.{RuleName}
use Rattle.asn_jobs.specs.declared.job.RuleName.TheVariants as rule_name
use Rattle.asn_jobs.specs.declared.job.RunFault.{RunFault}
use Rattle.asn_jobs.specs.declared.job.Status.{Status}
use Rattle.asn_convert.specs.Parts.{Known, RanWith, FailedWith}
use Rattle.asn_convert.specs.Text.{IsAnswered, IsAnswerBegun, terms}

-- what is converted, is converted to the other
abbrev pub rulings_of : RuleName → Rulings
rulings_of rule_name.Per = rulings per_ruling oer_ruling per_loose
rulings_of rule_name.Oer = rulings oer_ruling per_ruling oer_loose

-- the rules that a job names; PER stands where it has no octets
abbrev pub rules_of : Job → RuleName
rules_of job.Module = rule_name.Per
rules_of (job.Lines by name rules) = rules

-- what is told of a run: with Ok, the text of the job was written, for the octets that the reader was to give
abbrev pub Ran :
    {R W : Type 0} → Job → Result Status RunFault → Known R → Counted R → Known W → Counted W → Counted W → Type 0
Ran j r left reader contents old new = RanWith (rulings_of (rules_of j)) j r left reader contents old new

-- with Err, nothing was written, or a beginning of a text of the job
abbrev pub Failed :
    {R W : Type 0} → Job → Result Status RunFault → Known R → Counted R → Counted R
    → Known W → Counted W → Counted W → Type 0
Failed j r left before after contents old new =
    FailedWith (rulings_of (rules_of j)) j r left before after contents old new

-- the same of a run whose module stands in front of a mark, and whose lines are what the reader was to give
abbrev pub RanOnLines :
    {R W : Type 0} → Job → List ℕ → Result Status RunFault → Known R → Counted R
    → Known W → Counted W → Counted W → Type 0
RanOnLines j head r left reader contents old new =
    Ended r left reader contents old new
    (λ s lines out. TextOf (rulings_of (rules_of j)) j (module_text head) lines out s)

-- with Err, what was written is a beginning of a text of the job for the lines that were read
abbrev pub StoppedOnLines :
    {R W : Type 0} → Job → List ℕ → Result Status RunFault → Known R → Counted R → Counted R
    → Known W → Counted W → Counted W → Type 0
StoppedOnLines j head r left before after contents old new =
    Stopped r left before after contents old new
    (λ lines out. BegunOf (rulings_of (rules_of j)) j (module_text head) lines out)

-- the answer to one line, by the rules of this name, with its LF, and nothing or a front of it
abbrev pub OneTold : RuleName → Order → AsnType → List ℕ → Bool → List ℕ → Type 0
OneTold name by t line good out = IsAnswered (terms (rulings_of name) name by (shape_of t)) line out good

abbrev pub OneBegun : RuleName → Order → AsnType → List ℕ → List ℕ → Type 0
OneBegun name by t line out = IsAnswerBegun (terms (rulings_of name) name by (shape_of t)) line out
