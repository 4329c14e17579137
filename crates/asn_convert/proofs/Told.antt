-- Answers to the lines so far, and to those that are left.
use Rattle.std.proofs.Common.{◌≡◌, ◌<◌, ◌-◌, ◌^◌, ◌++◌, ◌&&◌, ℕ, Bool, true, false, List, [], ◌∷◌, Option, Some, None, refl, sym, ap, ◌∙◌, subst, append_assoc, arith, ◌+◌, rules, inl, inr}
use Rattle.std.proofs.lemmas.Grind.{common_steps}
use Rattle.std.specs.Io.KnownBytes.{Appends, Keeps, Consumes, IsAtEnd}
use Rattle.asn_rules.specs.Faults.{State, Rose}
use Rattle.asn_rules.proofs.Known.{appends_twice, appends_nothing}
use Rattle.asn_convert.specs.Answers.{Rulings, Terms}
use Rattle.asn_jobs.specs.declared.job.Order.{Order}
use Rattle.asn_jobs.specs.declared.job.RuleName.{RuleName}
use Rattle.asn_module.specs.Accepted.{ModuleTypes, type_in}
use Rattle.asn_module.specs.Printing.{printed}
use Rattle.asn_rules.proofs.Known.{appends_then_keeps}
use Rattle.asn_jobs.specs.declared.job.Job.{Job}
use Rattle.asn_jobs.specs.declared.job.Job.TheVariants as job
use Rattle.asn_jobs.specs.declared.job.RunFault.{RunFault}
use Rattle.asn_jobs.specs.declared.job.RunFault.TheVariants as fault
use Rattle.asn_jobs.specs.Lines.{lines_of, IsFirstLine, module_text, job_lines}
use Rattle.asn_convert.specs.Text.{Told, IsBegun, HasAnswer, IsAnswered, IsAnswerBegun, IsFront, ended, Writes, Stops, Fails, Text, Tells, TellsBegun, Begun, IsGiven, IsReadFault, IsModule, IsRefusal, no_type, terms}
use Rattle.asn_jobs.specs.declared.job.Status.{Status}
use Rattle.asn_jobs.specs.declared.job.Status.TheVariants as status
use Rattle.std.specs.Prelude.{Result, Ok, Err, IfErr, String, string_bytes, min}
use Rattle.asn_convert.proofs.Answered.{have_answers}
use Rattle.std.specs.Global.{Global}

-- these octets were written for the lines before `left`, with no fault: with answers to the lines left they are answers to all
pub record Sofar (o : Terms) (all left : List (List ℕ)) (good : Bool) (old new : State) (written : List ℕ) : Type 0 where
  pub grown : Appends old.octets new.octets written
  pub told : (out : List ℕ) (later : Bool) → Told o left out later → Told o all (written ++ out) (good && later)
  pub begun : (out : List ℕ) → IsBegun o left out → IsBegun o all (written ++ out)
  pub same : new.faults ≡ old.faults

abbrev pub IsSoFar : Terms → List (List ℕ) → List (List ℕ) → Bool → State → State → Type 0
IsSoFar o all left good old new = (written : List ℕ) × Sofar o all left good old new written

-- before the first line
pub none_yet : (o : Terms) (all : List (List ℕ)) (old : State) → IsSoFar o all all true old old
none_yet o all old = ([], record { grown = appends_nothing old.octets; told = λ out later h. h; begun = λ out h. h; same = refl })

pub and_assoc : (a b c : Bool) → ((a && b) && c) ≡ (a && (b && c))
and_assoc true b c = refl
and_assoc false b c = refl

-- one more line was answered
pub one_more : (o : Terms) (all : List (List ℕ)) (rest line after : List ℕ) (so_far good : Bool) (old mid new : State) → IsFirstLine rest line after → IsSoFar o all (lines_of rest) so_far old mid → Writes (λ out. IsAnswered o line out good) mid new
    → IsSoFar o all (lines_of after) (so_far && good) old new
one_more o all rest line after so_far good old mid new first before wrote =
    let text = wrote.1.0 in
    let here = before.1 in (
      before.0 ++ wrote.0,
      record {
        grown = appends_twice old.octets mid.octets new.octets before.0 wrote.0 here.grown wrote.2;
        told = λ out later h.
            let next : Told o (line ∷ lines_of after) (wrote.0 ++ out) (good && later) = (text, out, good, later, wrote.1.1, h, ap (λ xs. xs ++ out) wrote.1.2, refl) in
            let all_told : Told o all (before.0 ++ (wrote.0 ++ out)) (so_far && (good && later)) = here.told (wrote.0 ++ out) (good && later) (subst (λ ls. Told o ls (wrote.0 ++ out) (good && later)) (sym first.lines) next) in
            subst (λ b. Told o all ((before.0 ++ wrote.0) ++ out) b) (sym (and_assoc so_far good later)) (subst (λ xs. Told o all xs (so_far && (good && later))) (sym (append_assoc before.0 wrote.0 out)) all_told);
        begun = λ out h.
            let next : IsBegun o (line ∷ lines_of after) (wrote.0 ++ out) = inr (text, out, good, wrote.1.1, h, ap (λ xs. xs ++ out) wrote.1.2) in
            subst (λ xs. IsBegun o all xs) (sym (append_assoc before.0 wrote.0 out)) (here.begun (wrote.0 ++ out) (subst (λ ls. IsBegun o ls (wrote.0 ++ out)) (sym first.lines) next));
        same = wrote.3 ∙ here.same;
      },
    )

and_true : (b : Bool) → (b && true) ≡ b
and_true true = refl
and_true false = refl

pub append_none : (xs : List ℕ) → xs ++ [] ≡ xs
append_none xs = search (rules, common_steps)

-- all lines were answered
pub all_told : (o : Terms) (all : List (List ℕ)) (rest : List ℕ) (good : Bool) (old new : State) → rest ≡ [] → IsSoFar o all (lines_of rest) good old new → Writes (λ out. Told o all out good) old new
all_told o all rest good old new none before =
    let end : Told o (lines_of rest) [] true = rw none (refl, refl) in
    let told : Told o all (before.0 ++ []) (good && true) = before.1.told [] true end in
    (before.0, subst (λ b. Told o all before.0 b) (and_true good) (subst (λ xs. Told o all xs (good && true)) (append_none before.0) told), before.1.grown, before.1.same)

-- the run stopped within a line
pub stopped : (o : Terms) → ((left : List ℕ) → HasAnswer o left) → (all : List (List ℕ)) (rest line after : List ℕ) (good : Bool) (old mid new : State) (why : RunFault) → IsFirstLine rest line after → IsSoFar o all (lines_of rest) good old mid
    → Stops why (λ out. IsAnswerBegun o line out) mid new → Stops why (λ out. IsBegun o all out) old new
stopped o each all rest line after good old mid new fault.Read first before s = s
stopped o each all rest line after good old mid new fault.Write first before s =
    let here : IsBegun o (lines_of rest) s.0 = subst (λ ls. IsBegun o ls s.0) (sym first.lines) (inl (s.1, have_answers o each (line ∷ lines_of after))) in
    (before.0 ++ s.0, before.1.begun s.0 here, appends_twice old.octets mid.octets new.octets before.0 s.0 before.1.grown s.2, λ below. subst (λ n. n < new.faults) before.1.same (s.3 (subst (λ n. n < 2 ^ 64 - 1) (sym before.1.same) below)))
stopped o each all rest line after good old mid new fault.Memory first before s =
    let here : IsBegun o (lines_of rest) s.0 = subst (λ ls. IsBegun o ls s.0) (sym first.lines) (inl (s.1, have_answers o each (line ∷ lines_of after))) in
    (before.0 ++ s.0, before.1.begun s.0 here, appends_twice old.octets mid.octets new.octets before.0 s.0 before.1.grown s.2)

-- what is written of one kind is of another
pub writes_so : (P Q : List ℕ → Type 0) (old new : State) → ((out : List ℕ) → P out → Q out) → Writes P old new → Writes Q old new
writes_so P Q old new f w = (w.0, f w.0 w.1, w.2, w.3)

pub stops_so : (why : RunFault) (P Q : List ℕ → Type 0) (old new : State) → ((out : List ℕ) → P out → Q out) → Stops why P old new → Stops why Q old new
stops_so fault.Read P Q old new f s = s
stops_so fault.Write P Q old new f s = (s.0, f s.0 s.1, s.2, s.3)
stops_so fault.Memory P Q old new f s = (s.0, f s.0 s.1, s.2)

-- ---- whole texts are beginnings

pub whole_front : (out : List ℕ) → IsFront out out
whole_front out = ([], append_none out)

pub told_begun : (o : Terms) (lines : List (List ℕ)) (out : List ℕ) (good : Bool) → Told o lines out good → IsBegun o lines out
told_begun o [] out good h = h.0
told_begun o (line ∷ lines) out good (text, rest, here, later, answer, told, is, all) = inr (text, rest, here, answer, told_begun o lines rest later told, is)

pub tells_begun : (w : Rulings) (j : Job) (m : ModuleTypes) (lines : List (List ℕ)) (out : List ℕ) (s : Status) → Tells w j m lines out s → TellsBegun w j m lines out
tells_begun w job.Module m lines out s h = ([], append_none out ∙ h.0)
tells_begun w (job.Lines by name rules) m lines out s (inl h) = inl (h.0, ([], append_none out ∙ h.1))
tells_begun w (job.Lines by name rules) m lines out s (inr (t, has, good, told, is)) = inr (t, has, told_begun (terms w rules by t) lines out good told)

pub text_begun : (w : Rulings) (j : Job) (input out : List ℕ) (s : Status) → Text w j input out s → Begun w j input out
text_begun w j input out s (inl h) = inr (inl (out, h.0, whole_front out))
text_begun w j input out s (inr (m, is, tells)) = inr (inr (m, is, tells_begun w j m (job_lines input) out s tells))

-- a writer that holds nothing back has what was written
pub flushed : (P : List ℕ → Type 0) (old mid new : State) → Writes P old mid → Keeps mid.octets new.octets → new.faults ≡ mid.faults → Writes P old new
flushed P old mid new w keeps same = (w.0, w.1, appends_then_keeps old.octets mid.octets new.octets w.0 w.2 keeps, same ∙ w.3)

pub flush_fails : (P Q : List ℕ → Type 0) (old mid new : State) → ((out : List ℕ) → P out → Q out) → Writes P old mid → Keeps mid.octets new.octets → Rose mid.faults new.faults → Stops fault.Write Q old new
flush_fails P Q old mid new f w keeps rose = (w.0, f w.0 w.1, appends_then_keeps old.octets mid.octets new.octets w.0 w.2 keeps, λ below. subst (λ n. n < new.faults) w.3 (rose (subst (λ n. n < 2 ^ 64 - 1) (sym w.3) below)))

-- ---- the ends of a run

-- octets that may be those of a reader
pub given_some : (known : Option (List ℕ)) → (input : List ℕ) × IsGiven known input
given_some None = ([], tt)
given_some (Some xs) = (xs, refl)

keeps_same : (a : Option (List ℕ)) → Keeps a a
keeps_same None = tt
keeps_same (Some xs) = refl

-- reading failed
pub read_fails : (w : Rulings) (j : Job) (why : RunFault) (from after old : State) → IsReadFault why from.faults after.faults → Fails w j why from after old old
read_fails w j fault.Read from after old h = (keeps_same old.octets, h)
read_fails w j fault.Write from after old h = absurd h
read_fails w j fault.Memory from after old h = let given = given_some from.octets in (given.0, given.1, ([], inl refl, appends_nothing old.octets))

-- ---- parts of a run that stop

-- want of memory before anything was written
pub stops_memory : (why : RunFault) (Q : List ℕ → Type 0) (old : State) → why ≡ fault.Memory → Q [] → Stops why Q old old
stops_memory why Q old e q = rw e ([], q, appends_nothing old.octets)

-- what stopped a part stops the whole
pub err_stops_so : {T : Type 0} (r : Result T RunFault) (P Q : List ℕ → Type 0) (old new : State) → ((out : List ℕ) → P out → Q out) → IfErr r (λ why. Stops why P old new) → IfErr r (λ why. Stops why Q old new)
err_stops_so (Ok x) P Q old new f s = tt
err_stops_so (Err why) P Q old new f s = stops_so why P Q old new f s

-- a front of the module that is printed
pub begun_printed : (w : Rulings) (j : Job) (m : ModuleTypes) (lines : List (List ℕ)) (out : List ℕ) → j ≡ job.Module → IsFront out (printed m) → TellsBegun w j m lines out
begun_printed w j m lines out is front = rw is front

-- a front of the refusal of a name
pub begun_no_type : (w : Rulings) (j : Job) (m : ModuleTypes) (lines : List (List ℕ)) (out : List ℕ) (by : Order) (name : String Global) (rules : RuleName) → j ≡ job.Lines by name rules → type_in m.types (string_bytes name) ≡ None
    → IsFront out (ended (no_type (string_bytes name))) → TellsBegun w j m lines out
begun_no_type w j m lines out by name rules is none front = rw is (inl (none, front))

-- a front of the refusal of a module
pub begun_refusal : (w : Rulings) (j : Job) (input text line out : List ℕ) → text ≡ module_text input → IsRefusal text line → IsFront out line → Begun w j input out
begun_refusal w j input text line out same refused front = inr (inl (line, subst (λ t. IsRefusal t line) same refused, front))

-- a beginning for the module that the text is
pub begun_module : (w : Rulings) (j : Job) (input text : List ℕ) (lines : List (List ℕ)) (m : ModuleTypes) (out : List ℕ) → text ≡ module_text input → lines ≡ job_lines input → IsModule text m → TellsBegun w j m lines out → Begun w j input out
begun_module w j input text lines m out same rest is tells = inr (inr (m, subst (λ t. IsModule t m) same is, subst (λ ls. TellsBegun w j m ls out) rest tells))

-- the refusal of a module is the whole text
pub text_refusal : (w : Rulings) (j : Job) (input text line out : List ℕ) → text ≡ module_text input → IsRefusal text line → out ≡ line → Text w j input out status.NoModule
text_refusal w j input text line out same refused is = inl (subst (λ t. IsRefusal t out) same (rw is refused), refl)

-- a count that went up by one rose
pub flush_rose : (old new : ℕ) → new ≡ min (old + 1) (2 ^ 64 - 1) → Rose old new
flush_rose old new e = λ below. omega arith

-- ---- reading

pub consumes_nothing : (a : Option (List ℕ)) → Consumes a a []
consumes_nothing None = tt
consumes_nothing (Some xs) = refl

pub consumes_twice : (a b c : Option (List ℕ)) (x y : List ℕ) → Consumes a b x → Consumes b c y → Consumes a c (x ++ y)
consumes_twice None b c x y p q = tt
consumes_twice (Some a) None c x y p q = absurd p
consumes_twice (Some a) (Some b) None x y p q = absurd q
consumes_twice (Some a) (Some b) (Some c) x y p q = p ∙ (ap (λ ys. x ++ ys) q ∙ sym (append_assoc x y c))

-- at the end, what was read is what the reader was to give
pub read_whole : (a b c : Option (List ℕ)) (x y : List ℕ) → Consumes a b x → Consumes b c y → y ≡ [] → IsAtEnd c → IsGiven a x
read_whole None b c x y p q none end = tt
read_whole (Some a) None c x y p q none end = absurd p
read_whole (Some a) (Some b) None x y p q none end = absurd q
read_whole (Some a) (Some b) (Some c) x y p q none end = sym (p ∙ (ap (λ ys. x ++ ys) (q ∙ (ap (λ ys. ys ++ c) none ∙ end)) ∙ append_none x))

-- the room left shrinks with each piece
pub less_room : (before after_ count : ℕ) → after_ ≡ before + count → (count ≡ 0 → ⊥) → after_ < 2 ^ 63 → 2 ^ 64 - after_ < 2 ^ 64 - before
less_room before after_ count e some small = omega arith
