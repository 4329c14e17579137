-- Lines that are answered as they come: what was read and written so far, and one piece more.
use Rattle.std.proofs.Common.{◌≡◌, ◌++◌, ◌&&◌, ◌==◌, ◌⊎◌, ℕ, Bool, true, false, List, [], ◌∷◌, Option, Some, None, refl, sym, ap, ◌∙◌, subst, append_assoc, append-nil, inl, inr}
use Rattle.std.specs.Prelude.{Result, Ok, Err, IfErr}
use Rattle.std.specs.Io.KnownBytes.{Appends, Keeps, Consumes, IsAtEnd}
use Rattle.asn_rules.specs.Faults.{State, Rose}
use Rattle.asn_rules.proofs.Known.{appends_twice, appends_nothing}
use Rattle.asn_convert.specs.Answers.{Terms}
use Rattle.asn_values.specs.View.{shape_of}
use Rattle.asn_values.specs.declared.types.AsnType.{AsnType}
use Rattle.asn_module.specs.Accepted.{ModuleTypes}
use Rattle.asn_convert.specs.Answers.{Rulings}
use Rattle.asn_convert.specs.Coming.{AreWholeLines, Ends, StopsBy, StopsWithin, HasNoTypeFor, IsTypeFor, TextOf, BegunOf}
use Rattle.asn_jobs.specs.declared.job.Job.{Job}
use Rattle.asn_jobs.specs.declared.job.Job.TheVariants as job
use Rattle.asn_jobs.specs.declared.job.Order.{Order}
use Rattle.asn_jobs.specs.declared.job.RuleName.{RuleName}
use Rattle.asn_jobs.specs.declared.job.Status.{Status}
use Rattle.asn_jobs.specs.declared.job.Status.TheVariants as status
use Rattle.asn_jobs.specs.Lines.{lines_of, module_text, begun}
use Rattle.asn_convert.specs.Text.{Told, IsBegun, HasAnswer, Writes, Stops, Tells, TellsBegun, IsFront, IsModule, IsRefusal, ended, status_of, terms}
use Rattle.asn_jobs.specs.declared.job.RunFault.{RunFault}
use Rattle.asn_jobs.specs.declared.job.RunFault.TheVariants as fault
use Rattle.asn_convert.proofs.Answered.{have_answers}
use Rattle.asn_convert.proofs.Told.{and_assoc, append_none, consumes_twice, given_some, read_whole, tells_begun, told_begun, writes_so}

-- ---- lines of whole lines and more

begun_append : (x : ℕ) (line : List ℕ) (ls ms : List (List ℕ)) → begun x ((line ∷ ls) ++ ms) ≡ begun x (line ∷ ls) ++ ms
begun_append x line ls ms = refl

-- octets that end with an LF have a line
record Some_line (octets : List ℕ) : Type 0 where
  pub first : List ℕ
  pub others : List (List ℕ)
  pub are : lines_of octets ≡ first ∷ others

some_line : (front : List ℕ) → Some_line (front ++ 10 ∷ [])
some_line [] = record { first = []; others = []; are = refl }
some_line (x ∷ front) = by_test (x == 10) refl (some_line front)
  where
    by_test : (b : Bool) → (x == 10) ≡ b → Some_line (front ++ 10 ∷ []) → Some_line ((x ∷ front) ++ 10 ∷ [])
    by_test true e rest = record { first = []; others = lines_of (front ++ 10 ∷ []); are = rw e refl }
    by_test false e rest = record { first = x ∷ rest.first; others = rest.others; are = rw (e, rest.are) refl }

-- what follows an LF is lines of its own
lines_after : (front more : List ℕ) → lines_of ((front ++ 10 ∷ []) ++ more) ≡ lines_of (front ++ 10 ∷ []) ++ lines_of more
lines_after [] more = refl
lines_after (x ∷ front) more = by_test (x == 10) refl (lines_after front more)
  where
    by_test : (b : Bool) → (x == 10) ≡ b → lines_of ((front ++ 10 ∷ []) ++ more) ≡ lines_of (front ++ 10 ∷ []) ++ lines_of more → lines_of (((x ∷ front) ++ 10 ∷ []) ++ more) ≡ lines_of ((x ∷ front) ++ 10 ∷ []) ++ lines_of more
    by_test true e after = rw e (ap (λ ls. [] ∷ ls) after)
    by_test false e after =
        let rest = some_line front in
        rw (e, after, rest.are) refl

whole_lines : (octets more : List ℕ) → AreWholeLines octets → lines_of (octets ++ more) ≡ lines_of octets ++ lines_of more
whole_lines octets more (inl none) = rw none refl
whole_lines octets more (inr (front, is)) = rw is (lines_after front more)

-- what is held and then whole lines are whole lines
pub held_whole : (held octets : List ℕ) → (octets ≡ [] → ⊥) → AreWholeLines octets → AreWholeLines (held ++ octets)
held_whole held octets some (inl none) = absurd (some none)
held_whole held octets some (inr (front, is)) = inr (held ++ front, ap (λ xs. held ++ xs) is ∙ sym (append_assoc held front (10 ∷ [])))

-- ---- answers to lines and more lines

told_append : (o : Terms) (ls ms : List (List ℕ)) (a b : List ℕ) (good later : Bool) → Told o ls a good → Told o ms b later → Told o (ls ++ ms) (a ++ b) (good && later)
told_append o [] ms a b good later p q = rw (p.0, p.1) q
told_append o (line ∷ ls) ms a b good later (text, rest, here, next, answer, told, is, all) q =
    (text, rest ++ b, here, next && later, answer, told_append o ls ms rest b next later told q, ap (λ xs. xs ++ b) is ∙ append_assoc (ended text) rest b, ap (λ g. g && later) all ∙ and_assoc here next later)

-- answers to lines, and a beginning of those to more
begun_append_told : (o : Terms) (ls ms : List (List ℕ)) (a b : List ℕ) (good : Bool) → Told o ls a good → IsBegun o ms b → IsBegun o (ls ++ ms) (a ++ b)
begun_append_told o [] ms a b good p q = rw p.0 q
begun_append_told o (line ∷ ls) ms a b good (text, rest, here, next, answer, told, is, all) q =
    inr (text, rest ++ b, here, answer, begun_append_told o ls ms rest b next told q, ap (λ xs. xs ++ b) is ∙ append_assoc (ended text) rest b)

-- nothing is a beginning of any answers
pub nothing_begun : (o : Terms) → ((left : List ℕ) → HasAnswer o left) → (ls : List (List ℕ)) → IsBegun o ls []
nothing_begun o each [] = refl
nothing_begun o each (line ∷ ls) = inl (inl refl, have_answers o each (line ∷ ls))

-- a beginning of answers to lines is one of answers to these and more
begun_more : (o : Terms) → ((left : List ℕ) → HasAnswer o left) → (ls ms : List (List ℕ)) (out : List ℕ) → IsBegun o ls out → IsBegun o (ls ++ ms) out
begun_more o each [] ms out e = rw e (nothing_begun o each ms)
begun_more o each (line ∷ ls) ms out (inl here) = inl (here.0, have_answers o each (line ∷ (ls ++ ms)))
begun_more o each (line ∷ ls) ms out (inr (text, rest, good, answer, later, is)) = inr (text, rest, good, answer, begun_more o each ls ms rest later, is)

-- ---- what was read and written so far

-- of what was read the octets held are not answered yet: what answers them and more answers all
pub record Coming (o : Terms) (read held : List ℕ) (good : Bool) (old new : State) (written : List ℕ) : Type 0 where
  pub grown : Appends old.octets new.octets written
  pub told : (more out : List ℕ) (later : Bool) → Told o (lines_of (held ++ more)) out later → Told o (lines_of (read ++ more)) (written ++ out) (good && later)
  pub begun : (more out : List ℕ) → IsBegun o (lines_of (held ++ more)) out → IsBegun o (lines_of (read ++ more)) (written ++ out)
  pub same : new.faults ≡ old.faults

pub record Come (o : Terms) (from after : State) (held : List ℕ) (good : Bool) (old new : State) (read written : List ℕ) : Type 0 where
  pub taken : Consumes from.octets after.octets read
  pub quiet : after.faults ≡ from.faults
  pub coming : Coming o read held good old new written

abbrev pub HasCome : Terms → State → State → List ℕ → Bool → State → State → Type 0
HasCome o from after held good old new = (read written : List ℕ) × Come o from after held good old new read written

consumes_none : (a : Option (List ℕ)) → Consumes a a []
consumes_none None = tt
consumes_none (Some xs) = refl

-- before anything was read
pub none_come : (o : Terms) (from old : State) → HasCome o from from [] true old old
none_come o from old = (
  [],
  [],
  record {
    taken = consumes_none from.octets;
    quiet = refl;
    coming = record { grown = appends_nothing old.octets; told = λ more out later h. h; begun = λ more out h. h; same = refl };
  },
)

-- more was read, which is held
pub more_held : (o : Terms) (from mid after : State) (held piece : List ℕ) (good : Bool) (old new : State) → HasCome o from mid held good old new → Consumes mid.octets after.octets piece → after.faults ≡ mid.faults
    → HasCome o from after (held ++ piece) good old new
more_held o from mid after held piece good old new (read, written, come) taken same = (
  read ++ piece,
  written,
  record {
    taken = consumes_twice from.octets mid.octets after.octets read piece come.taken taken;
    quiet = same ∙ come.quiet;
    coming = record {
      grown = come.coming.grown;
      told = λ more out later h.
          subst (λ xs. Told o (lines_of xs) (written ++ out) (good && later)) (sym (append_assoc read piece more))
          (come.coming.told (piece ++ more) out later (subst (λ xs. Told o (lines_of xs) out later) (append_assoc held piece more) h));
      begun = λ more out h.
          subst (λ xs. IsBegun o (lines_of xs) (written ++ out)) (sym (append_assoc read piece more))
          (come.coming.begun (piece ++ more) out (subst (λ xs. IsBegun o (lines_of xs) out) (append_assoc held piece more) h));
      same = come.coming.same;
    };
  },
)

-- whole lines that were held in front were answered
pub lines_answered : (o : Terms) (from after : State) (front back : List ℕ) (good here : Bool) (old mid new : State) → AreWholeLines front → HasCome o from after (front ++ back) good old mid → Writes (λ out. Told o (lines_of front) out here) mid new
    → HasCome o from after back (good && here) old new
lines_answered o from after front back good here old mid new whole (read, written, come) (out, told, grown, same) = (
  read,
  written ++ out,
  record {
    taken = come.taken;
    quiet = come.quiet;
    coming = record {
      grown = appends_twice old.octets mid.octets new.octets written out come.coming.grown grown;
      told = λ more rest later h.
          let joined = told_append o (lines_of front) (lines_of (back ++ more)) out rest here later told h in
          let placed : Told o (lines_of ((front ++ back) ++ more)) (out ++ rest) (here && later) =
          subst (λ xs. Told o (lines_of xs) (out ++ rest) (here && later)) (sym (append_assoc front back more))
          (subst (λ ls. Told o ls (out ++ rest) (here && later)) (sym (whole_lines front (back ++ more) whole)) joined) in
          rw (append_assoc written out rest, and_assoc good here later) (come.coming.told more (out ++ rest) (here && later) placed);
      begun = λ more rest h.
          let joined = begun_append_told o (lines_of front) (lines_of (back ++ more)) out rest here told h in
          let placed : IsBegun o (lines_of ((front ++ back) ++ more)) (out ++ rest) =
          subst (λ xs. IsBegun o (lines_of xs) (out ++ rest)) (sym (append_assoc front back more))
          (subst (λ ls. IsBegun o ls (out ++ rest)) (sym (whole_lines front (back ++ more) whole)) joined) in
          rw (append_assoc written out rest) (come.coming.begun more (out ++ rest) placed);
      same = same ∙ come.coming.same;
    };
  },
)

-- ---- where it ends

rose_since : (a b c : ℕ) → b ≡ a → Rose b c → Rose a c
rose_since a b c same rose = subst (λ n. Rose n c) same rose

-- nothing is left, and what was held is answered
pub all_come : (o : Terms) (from mid after : State) (held piece : List ℕ) (good here : Bool) (old now new : State) → HasCome o from mid held good old now → Consumes mid.octets after.octets piece → piece ≡ [] → IsAtEnd after.octets
    → Writes (λ out. Told o (lines_of held) out here) now new → Ends (λ lines out. Told o (lines_of lines) out (good && here)) from.octets old new
all_come o from mid after held piece good here old now new (read, written, come) taken none end (out, told, grown, same) = (
  read,
  read_whole from.octets mid.octets after.octets read piece come.taken taken none end,
  (
    written ++ out,
    subst (λ xs. Told o (lines_of xs) (written ++ out) (good && here)) (append-nil read)
        (come.coming.told [] out here (subst (λ xs. Told o (lines_of xs) out here) (sym (append-nil held)) told)),
    appends_twice old.octets now.octets new.octets written out come.coming.grown grown,
    same ∙ come.coming.same,
  ),
)

-- a part that stopped stops the whole
pub stopped_by : (o : Terms) → ((left : List ℕ) → HasAnswer o left) → (from after : State) (front back : List ℕ) (good : Bool) (old mid new : State) (why : RunFault) → AreWholeLines front ⊎ (back ≡ []) → HasCome o from after (front ++ back) good old mid
    → Stops why (λ out. IsBegun o (lines_of front) out) mid new → StopsWithin why (λ lines out. IsBegun o (lines_of lines) out) from after old new
stopped_by o each from after front back good old mid new why whole (read, written, come) stops = (read, come.taken, by_fault why stops)
  where
    here : (out : List ℕ) → IsBegun o (lines_of front) out → IsBegun o (lines_of read) (written ++ out)
    here out h =
        subst (λ xs. IsBegun o (lines_of xs) (written ++ out)) (append-nil read)
        (come.coming.begun [] out (subst (λ xs. IsBegun o (lines_of xs) out) (sym (append-nil (front ++ back))) (with_back whole out h)))
      where
        with_back : AreWholeLines front ⊎ (back ≡ []) → (out : List ℕ) → IsBegun o (lines_of front) out → IsBegun o (lines_of (front ++ back)) out
        with_back (inl are) out h = subst (λ ls. IsBegun o ls out) (sym (whole_lines front back are)) (begun_more o each (lines_of front) (lines_of back) out h)
        with_back (inr none) out h = subst (λ xs. IsBegun o (lines_of xs) out) (sym (ap (λ ys. front ++ ys) none ∙ append-nil front)) h

    by_fault : (w : RunFault) → Stops w (λ out. IsBegun o (lines_of front) out) mid new → StopsBy w (λ out. IsBegun o (lines_of read) out) from after old new
    by_fault fault.Read s = absurd s
    by_fault fault.Write (out, h, grown, rose) = (written ++ out, here out h, appends_twice old.octets mid.octets new.octets written out come.coming.grown grown, rose_since old.faults mid.faults new.faults come.coming.same rose)
    by_fault fault.Memory (out, h, grown) = (written ++ out, here out h, appends_twice old.octets mid.octets new.octets written out come.coming.grown grown)

begun_here : (o : Terms) → ((left : List ℕ) → HasAnswer o left) → (held : List ℕ) (good : Bool) (old new : State) (read written : List ℕ) → Coming o read held good old new written → IsBegun o (lines_of read) written
begun_here o each held good old new read written c =
    subst (λ xs. IsBegun o (lines_of read) xs) (append-nil written)
    (subst (λ xs. IsBegun o (lines_of xs) (written ++ [])) (append-nil read) (c.begun [] [] (nothing_begun o each (lines_of (held ++ [])))))

-- nothing more was written where an allocation failed
pub out_of_memory : (o : Terms) → ((left : List ℕ) → HasAnswer o left) → (from after : State) (held : List ℕ) (good : Bool) (old new : State) (why : RunFault) → why ≡ fault.Memory → HasCome o from after held good old new
    → StopsWithin why (λ lines out. IsBegun o (lines_of lines) out) from after old new
out_of_memory o each from after held good old new why is (read, written, come) =
    rw is (read, come.taken, (written, begun_here o each held good old new read written come.coming, come.coming.grown))

-- the reader answered a fault
pub reading_failed : (o : Terms) → ((left : List ℕ) → HasAnswer o left) → (from mid after : State) (held : List ℕ) (good : Bool) (old new : State) → HasCome o from mid held good old new → Keeps mid.octets after.octets → Rose mid.faults after.faults
    → StopsWithin fault.Read (λ lines out. IsBegun o (lines_of lines) out) from after old new
reading_failed o each from mid after held good old new (read, written, come) keeps rose = (
  read,
  consumes_kept from.octets mid.octets after.octets read come.taken keeps,
  ((written, begun_here o each held good old new read written come.coming, come.coming.grown, come.coming.same), rose_since from.faults mid.faults after.faults come.quiet rose),
)
  where
    consumes_kept : (a b c : Option (List ℕ)) (x : List ℕ) → Consumes a b x → Keeps b c → Consumes a c x
    consumes_kept None b c x p k = tt
    consumes_kept (Some a) None c x p k = absurd p
    consumes_kept (Some a) (Some b) None x p k = absurd k
    consumes_kept (Some a) (Some b) (Some c) x p k = p ∙ ap (λ ys. x ++ ys) (sym k)

-- ---- a piece

-- the lines that a piece ends are answered, and what begins the next is held
pub piece_taken : (o : Terms) (from mid after : State) (held piece front kept : List ℕ) (good here : Bool) (old now new : State) → HasCome o from mid held good old now → Consumes mid.octets after.octets piece → after.faults ≡ mid.faults
    → AreWholeLines front → held ++ piece ≡ front ++ kept → Writes (λ out. Told o (lines_of front) out here) now new → HasCome o from after kept (good && here) old new
piece_taken o from mid after held piece front kept good here old now new come taken same whole is wrote =
    lines_answered o from after front kept good here old now new whole (subst (λ xs. HasCome o from after xs good old now) is (more_held o from mid after held piece good old now come taken same)) wrote

pub piece_stopped : (o : Terms) → ((left : List ℕ) → HasAnswer o left) → (from mid after : State) (held piece front back : List ℕ) (good : Bool) (old now new : State) (why : RunFault) → HasCome o from mid held good old now → Consumes mid.octets after.octets piece → after.faults ≡ mid.faults
    → AreWholeLines front → held ++ piece ≡ front ++ back → Stops why (λ out. IsBegun o (lines_of front) out) now new → StopsWithin why (λ lines out. IsBegun o (lines_of lines) out) from after old new
piece_stopped o each from mid after held piece front back good old now new why come taken same whole is stops =
    stopped_by o each from after front back good old now new why (inl whole) (subst (λ xs. HasCome o from after xs good old now) is (more_held o from mid after held piece good old now come taken same)) stops

-- the last line stopped
pub last_stopped : (o : Terms) → ((left : List ℕ) → HasAnswer o left) → (from mid after : State) (held piece : List ℕ) (good : Bool) (old now new : State) (why : RunFault) → HasCome o from mid held good old now → Consumes mid.octets after.octets piece → after.faults ≡ mid.faults → piece ≡ []
    → Stops why (λ out. IsBegun o (lines_of held) out) now new → StopsWithin why (λ lines out. IsBegun o (lines_of lines) out) from after old new
last_stopped o each from mid after held piece good old now new why come taken same none stops =
    stopped_by o each from after held piece good old now new why (inr none) (more_held o from mid after held piece good old now come taken same) stops

-- ---- parts of a run

-- what was written is kept where the writer then holds nothing back, or fails
pub stopped_after : (P Q : List ℕ → Type 0) (old mid new : State) (why : RunFault) → ((out : List ℕ) → P out → Q out) → Writes P old mid → Stops why (λ out. out ≡ []) mid new → Stops why Q old new
stopped_after P Q old mid new fault.Read f (out, h, grown, same) s = absurd s
stopped_after P Q old mid new fault.Write f (out, h, grown, same) (more, none, wrote, rose) =
    (out, f out h, subst (λ xs. Appends old.octets new.octets xs) (ap (λ xs. out ++ xs) none ∙ append_none out) (appends_twice old.octets mid.octets new.octets out more grown wrote), rose_since old.faults mid.faults new.faults same rose)
stopped_after P Q old mid new fault.Memory f (out, h, grown, same) (more, none, wrote) =
    (out, f out h, subst (λ xs. Appends old.octets new.octets xs) (ap (λ xs. out ++ xs) none ∙ append_none out) (appends_twice old.octets mid.octets new.octets out more grown wrote))

pub written_then_nothing : (P Q : List ℕ → Type 0) (old mid new : State) → ((out : List ℕ) → P out → Q out) → Writes P old mid → Writes (λ out. out ≡ []) mid new → Writes Q old new
written_then_nothing P Q old mid new f (out, h, grown, same) (more, none, wrote, still) =
    (out, f out h, subst (λ xs. Appends old.octets new.octets xs) (ap (λ xs. out ++ xs) none ∙ append_none out) (appends_twice old.octets mid.octets new.octets out more grown wrote), still ∙ same)

-- a run of one kind is one of another
pub ends_so : (P Q : List ℕ → List ℕ → Type 0) (given : Option (List ℕ)) (old new : State) → ((lines out : List ℕ) → P lines out → Q lines out) → Ends P given old new → Ends Q given old new
ends_so P Q given old new f (lines, is, wrote) = (lines, is, writes_so (P lines) (Q lines) old new (f lines) wrote)

pub within_so : (P Q : List ℕ → List ℕ → Type 0) (why : RunFault) (from after old new : State) → ((lines out : List ℕ) → P lines out → Q lines out) → StopsWithin why P from after old new → StopsWithin why Q from after old new
within_so P Q fault.Read from after old new f (lines, taken, (wrote, rose)) = (lines, taken, (writes_so (P lines) (Q lines) old new (f lines) wrote, rose))
within_so P Q fault.Write from after old new f (lines, taken, (out, h, grown, rose)) = (lines, taken, (out, f lines out h, grown, rose))
within_so P Q fault.Memory from after old new f (lines, taken, (out, h, grown)) = (lines, taken, (out, f lines out h, grown))

pub err_within_so : {T : Type 0} (r : Result T RunFault) (P Q : List ℕ → List ℕ → Type 0) (from after old new : State) → ((lines out : List ℕ) → P lines out → Q lines out) → IfErr r (λ why. StopsWithin why P from after old new) → IfErr r (λ why. StopsWithin why Q from after old new)
err_within_so (Ok x) P Q from after old new f s = tt
err_within_so (Err why) P Q from after old new f s = within_so P Q why from after old new f s

-- nothing was read
pub ends_at_once : (Kind : List ℕ → List ℕ → Type 0) (P : List ℕ → Type 0) (given : Option (List ℕ)) (old new : State) → ((lines out : List ℕ) → P out → Kind lines out) → Writes P old new → Ends Kind given old new
ends_at_once Kind P given old new f wrote = let known = given_some given in (known.0, known.1, writes_so P (Kind known.0) old new (f known.0) wrote)

pub within_at_once : (Kind : List ℕ → List ℕ → Type 0) (P : List ℕ → Type 0) (why : RunFault) (from old new : State) → ((out : List ℕ) → P out → Kind [] out) → Stops why P old new → StopsWithin why Kind from from old new
within_at_once Kind P fault.Read from old new f s = absurd s
within_at_once Kind P fault.Write from old new f (out, h, grown, rose) = ([], consumes_none from.octets, (out, f out h, grown, rose))
within_at_once Kind P fault.Memory from old new f (out, h, grown) = ([], consumes_none from.octets, (out, f out h, grown))

-- where no line is answered, what is told is told whatever the lines
tells_of_none : (w : Rulings) (j : Job) (m : ModuleTypes) (ls ks : List (List ℕ)) (out : List ℕ) (s : Status) → HasNoTypeFor j m → Tells w j m ls out s → Tells w j m ks out s
tells_of_none w job.Module m ls ks out s none h = h
tells_of_none w (job.Lines by name named) m ls ks out s none (inl h) = inl h
tells_of_none w (job.Lines by name named) m ls ks out s none (inr (t, has, good, told, same)) = let no = sym none ∙ has in absurd (cc)

-- the module is told, and no line is read
pub module_told : (w : Rulings) (j : Job) (m : ModuleTypes) (ls : List (List ℕ)) (s : Status) (given : Option (List ℕ)) (old mid new : State) → HasNoTypeFor j m → Writes (λ out. Tells w j m ls out s) old mid → Writes (λ out. out ≡ []) mid new
    → Ends (λ lines out. Tells w j m (lines_of lines) out s) given old new
module_told w j m ls s given old mid new none wrote through =
    ends_at_once (λ lines out. Tells w j m (lines_of lines) out s) (λ out. Tells w j m ls out s) given old new (λ lines out h. tells_of_none w j m ls (lines_of lines) out s none h)
    (written_then_nothing (λ out. Tells w j m ls out s) (λ out. Tells w j m ls out s) old mid new (λ out h. h) wrote through)

pub module_stopped : (w : Rulings) (j : Job) (m : ModuleTypes) (ls : List (List ℕ)) (s : Status) (why : RunFault) (from old mid new : State) → HasNoTypeFor j m → Writes (λ out. Tells w j m ls out s) old mid → Stops why (λ out. out ≡ []) mid new
    → StopsWithin why (λ lines out. TellsBegun w j m (lines_of lines) out) from from old new
module_stopped w j m ls s why from old mid new none wrote stops =
    within_at_once (λ lines out. TellsBegun w j m (lines_of lines) out) (λ out. Tells w j m ls out s) why from old new (λ out h. tells_begun w j m (lines_of []) out s (tells_of_none w j m ls (lines_of []) out s none h))
    (stopped_after (λ out. Tells w j m ls out s) (λ out. Tells w j m ls out s) old mid new why (λ out h. h) wrote stops)

-- the answers to lines are what is told for the type
pub tells_lines : (w : Rulings) (j : Job) (m : ModuleTypes) (t : AsnType) (by : Order) (named : RuleName) (ls : List (List ℕ)) (out : List ℕ) (good : Bool) → IsTypeFor j m t by named → Told (terms w named by (shape_of t)) ls out good → Tells w j m ls out (status_of good)
tells_lines w job.Module m t by named ls out good is h = absurd is
tells_lines w (job.Lines other name others) m t by named ls out good (has, same, also) h = inr (shape_of t, has, good, rw (same, also) h, refl)

pub begun_lines : (w : Rulings) (j : Job) (m : ModuleTypes) (t : AsnType) (by : Order) (named : RuleName) (ls : List (List ℕ)) (out : List ℕ) → IsTypeFor j m t by named → IsBegun (terms w named by (shape_of t)) ls out → TellsBegun w j m ls out
begun_lines w job.Module m t by named ls out is h = absurd is
begun_lines w (job.Lines other name others) m t by named ls out (has, same, also) h = inr (shape_of t, has, rw (same, also) h)

-- ---- the module

pub refusal_begun : (w : Rulings) (j : Job) (head text line lines out : List ℕ) → text ≡ module_text head → IsRefusal text line → IsFront out line → BegunOf w j (module_text head) lines out
refusal_begun w j head text line lines out same refused front = inr (inl (line, subst (λ t. IsRefusal t line) same refused, front))

pub refusal_text : (w : Rulings) (j : Job) (head text line lines out : List ℕ) → text ≡ module_text head → IsRefusal text line → out ≡ line → TextOf w j (module_text head) lines out status.NoModule
refusal_text w j head text line lines out same refused is = inl (subst (λ t. IsRefusal t out) same (rw is refused), refl)

pub module_begun : (w : Rulings) (j : Job) (head text lines : List ℕ) (m : ModuleTypes) (out : List ℕ) → text ≡ module_text head → IsModule text m → TellsBegun w j m (lines_of lines) out → BegunOf w j (module_text head) lines out
module_begun w j head text lines m out same is h = inr (inr (m, subst (λ t. IsModule t m) same is, h))

-- ---- what is held of a piece

pub cut_held : (held piece ended_ begun_ front : List ℕ) → piece ≡ ended_ ++ begun_ → front ≡ held ++ ended_ → held ++ piece ≡ front ++ begun_
cut_held held piece ended_ begun_ front parts is = ap (λ xs. held ++ xs) parts ∙ (sym (append_assoc held ended_ begun_) ∙ ap (λ xs. xs ++ begun_) (sym is))

pub stops_at_memory : (o : Terms) (ls : List (List ℕ)) (good : Bool) (old new : State) (why : RunFault) → why ≡ fault.Memory → Writes (λ out. Told o ls out good) old new → Stops why (λ out. IsBegun o ls out) old new
stops_at_memory o ls good old new why is (out, told, grown, same) = rw is (out, told_begun o ls out good told, grown)
