-- What request_of cites at its exits: which faults clap's errors are, and what clap finds where it tells none.
use Rattle.std.proofs.Common.{◌≡◌, ◌≢◌, ◌⊎◌, ◌∙◌, ap, sym, subst, refl, inl, inr, true, false, true≢false, Bool, List, []}
use Rattle.clap.specs.Words.{App, Text, HasMatchesOf, HasKind, fault_of, kind_of, subcommand_of, subcommand_rows_of}
use Rattle.clap.specs.declared.error.Error.{Error}
use Rattle.clap.specs.declared.error.ErrorKind.{ErrorKind}
use Rattle.clap.specs.declared.error.ErrorKind.TheVariants as kind
use Rattle.clap.specs.declared.parser.matches.ArgMatches.{ArgMatches}
use Rattle.asn_request.specs.declared.request.LineFault.TheVariants as line
use Rattle.asn_request.specs.declared.request.Request.{Request}
use Rattle.asn_request.specs.Command.{IsTaken, IsTool}
use Rattle.asn_request.specs.Request.{HasRequest, Told, fault_by, of_kind}
use Rattle.asn_request.proofs.Taken.{taken, tool_simple}

abbrev is_memory : ErrorKind → Bool
is_memory kind.OutOfMemory = true
is_memory _ = false

-- an error of another kind than want of memory is told as it is
abbrev Other : ErrorKind → Type 0
Other k = (k ≢ kind.OutOfMemory) × ((e : Error) → line.Line e ≡ of_kind k e)

differs : (k : ErrorKind) → is_memory k ≡ false → k ≢ kind.OutOfMemory
differs k other is = true≢false (sym (ap is_memory is) ∙ other)

memory_or : (k : ErrorKind) → (k ≡ kind.OutOfMemory) ⊎ Other k
memory_or kind.OutOfMemory = inl refl
memory_or kind.InvalidValue = inr (differs kind.InvalidValue refl, λ e. refl)
memory_or kind.UnknownArgument = inr (differs kind.UnknownArgument refl, λ e. refl)
memory_or kind.InvalidSubcommand = inr (differs kind.InvalidSubcommand refl, λ e. refl)
memory_or kind.NoEquals = inr (differs kind.NoEquals refl, λ e. refl)
memory_or kind.ValueValidation = inr (differs kind.ValueValidation refl, λ e. refl)
memory_or kind.TooManyValues = inr (differs kind.TooManyValues refl, λ e. refl)
memory_or kind.TooFewValues = inr (differs kind.TooFewValues refl, λ e. refl)
memory_or kind.WrongNumberOfValues = inr (differs kind.WrongNumberOfValues refl, λ e. refl)
memory_or kind.ArgumentConflict = inr (differs kind.ArgumentConflict refl, λ e. refl)
memory_or kind.MissingRequiredArgument = inr (differs kind.MissingRequiredArgument refl, λ e. refl)
memory_or kind.MissingSubcommand = inr (differs kind.MissingSubcommand refl, λ e. refl)
memory_or kind.DisplayHelp = inr (differs kind.DisplayHelp refl, λ e. refl)
memory_or kind.DisplayHelpOnMissingArgumentOrSubcommand = inr (differs kind.DisplayHelpOnMissingArgumentOrSubcommand refl, λ e. refl)
memory_or kind.DisplayVersion = inr (differs kind.DisplayVersion refl, λ e. refl)
memory_or kind.Io = inr (differs kind.Io refl, λ e. refl)
memory_or kind.Format = inr (differs kind.Format refl, λ e. refl)

told_kind : (words : List Text) (e : Error) (a : App) (k : ErrorKind) → kind_of e ≡ k → IsTool a → HasKind (fault_of a words) e → (k ≡ kind.OutOfMemory) ⊎ Other k → Told words (of_kind k e)
told_kind words e a k is t h (inl memory) = subst (λ x. Told words (of_kind x e)) (sym memory) tt
told_kind words e a k is t (inl memory) (inr other) = absurd (other.0 (sym is ∙ memory))
told_kind words e a k is t (inr among) (inr other) = subst (Told words) (other.1 e) ((λ bad. other.0 (sym is ∙ bad)), (a, t, among))

-- an error of clap is told by its kind
pub told_by : (words : List Text) (e : Error) (a : App) → IsTool a → HasKind (fault_of a words) e → Told words (fault_by e)
told_by words e a t h = told_kind words e a (kind_of e) refl t h (memory_or (kind_of e))

-- matches of words of which clap tells no fault
pub found_taken : (words : List Text) (a : App) (m : ArgMatches) → IsTool a → HasMatchesOf a words m → fault_of a words ≡ [] → IsTaken (subcommand_rows_of m)
found_taken words a m t h none = subst IsTaken (sym (h (tool_simple a t)).1) (taken a words t none)

pub found_request : (words : List Text) (a : App) (m : ArgMatches) (r : Request) → IsTool a → HasMatchesOf a words m → HasRequest (subcommand_rows_of m) r → HasRequest (subcommand_of a words) r
found_request words a m r t h has = subst (λ o. HasRequest o r) (h (tool_simple a t)).1 has
