-- The words are those of a refusal, so the text is no module that is read; or the text is one, and its lines are looked at.
use Rattle.std.proofs.Common.{◌≡◌, ◌⊎◌, ◌<◌, inl, inr, ℕ, List, Option, Result, Ok, Err, IfOk}
use Rattle.asn_module.specs.Accepted.{ModuleTypes}
use Rattle.asn_module.specs.Bounded.{IsPastMost}
use Rattle.asn_module.specs.Sizes.{most_size, types_size}
use Rattle.asn_module.specs.declared.fault.ModuleFault.{ModuleFault}
use Rattle.asn_module.specs.declared.fault.ModuleFault.TheVariants as fault
use Rattle.tulvorn_c.specs.Answers.{HoldsNoRefusal, HoldsRefusal, HoldsBadLine}
use Rattle.tulvorn_c.specs.Misfits.{HoldsWords}
use Rattle.tulvorn_c.specs.declared.object.Object.{Object}
use Rattle.tulvorn_c.proofs.modules.text_explained.Goals as goal

under_ok : {A E : Type 0} (r : Result A E) (P Q : A → Type 0) → ((x : A) → P x → Q x) → IfOk r P → IfOk r Q
under_ok (Ok x) P Q f p = f x p
under_ok (Err e) P Q f p = tt

both_ok : {A E : Type 0} (r : Result A E) (P : A → Type 0) (Q : Type 0) (R : A → Type 0) → ((x : A) → P x → Q → R x) → IfOk r P → IfOk r (λ x. Q) → IfOk r R
both_ok (Ok x) P Q R f p q = f x p q
both_ok (Err e) P Q R f p q = tt

of_lines : (text : List ℕ) (new : Option Object) → HoldsNoRefusal text new ⊎ HoldsBadLine text new → HoldsNoRefusal text new ⊎ HoldsRefusal text new ⊎ HoldsBadLine text new
of_lines text new (inl none) = inl none
of_lines text new (inr bad) = inr (inr bad)

-- a module that is not read for its size is larger than is read
past_most : (e : ModuleFault) (m : ModuleTypes) → IsPastMost e m → most_size < types_size m.types
past_most (fault.TooLarge most size name) m h = h.1
past_most (fault.Character at) m h = absurd h
past_most (fault.Unexpected at) m h = absurd h
past_most (fault.Unknown name) m h = absurd h
past_most (fault.Cycle name) m h = absurd h
past_most (fault.Twice name) m h = absurd h
past_most (fault.BadType name why) m h = absurd h
past_most (fault.OutOfProfile at) m h = absurd h
past_most fault.Memory m h = absurd h

pub returns-in-Ok : goal.returns-in-Ok
returns-in-Ok c =
    under_ok c.lines_explained.result
    (λ h. HoldsNoRefusal c.args.text.now h.kept ⊎ HoldsBadLine c.args.text.now h.kept)
    (λ h. HoldsNoRefusal c.args.text.now h.kept ⊎ HoldsRefusal c.args.text.now h.kept ⊎ HoldsBadLine c.args.text.now h.kept)
    (λ h. of_lines c.args.text.now h.kept) (c.lines_explained.ensures c.in-Ok.ensures.accepted)

pub returns-in-Err : goal.returns-in-Err
returns-in-Err c =
    both_ok c.refusal_explained.result (λ h. HoldsWords h.kept)
    (c.in-Err.refused.fault ≡ fault.Memory → ⊥)
    (λ h. HoldsNoRefusal c.args.text.now h.kept ⊎ HoldsRefusal c.args.text.now h.kept ⊎ HoldsBadLine c.args.text.now h.kept)
    (λ h told memory.
    inr (inl (record {
      words = told.words;
      held = told.held;
      not_empty = told.some;
      refused = λ m accepted. past_most c.in-Err.refused.fault m (c.in-Err.ensures.refused memory m accepted);
    }))) c.refusal_explained.ensures.words c.refusal_explained.ensures.told
