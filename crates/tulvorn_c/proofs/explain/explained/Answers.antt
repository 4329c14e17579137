-- What is held tells what the decoder answered.
use Rattle.std.proofs.Common.{◌≡◌, inl, inr, Result, Ok, Err, IfOk, Some, string_bytes}
use Rattle.asn_rules.specs.Reasons.{name_of_unit}
use Rattle.asn_explain.specs.Texts.{text_in}
use Rattle.tulvorn_c.specs.Held.{constrained_of, held_octets}
use Rattle.tulvorn_c.specs.Misfits.{HoldsWords}
use Rattle.tulvorn_c.specs.Words.{IsExplained}
use Rattle.tulvorn_c.proofs.explain.explained.Goals as goal

under_ok : {A E : Type 0} (r : Result A E) (P Q : A → Type 0) → ((x : A) → P x → Q x) → IfOk r P → IfOk r Q
under_ok (Ok x) P Q f p = f x p
under_ok (Err e) P Q f p = tt

pub returns-in-Err-Type : goal.returns-in-Err-Type
returns-in-Err-Type g c =
    let told = c.in_ok-told-in-Err-Type.told in
    under_ok c.explanation_held.result
    (λ h. held_octets h.kept ≡ Some (text_in (name_of_unit c.args.unit) (string_bytes told.path) told.fault))
    (λ h. IsExplained c.args.unit c.args.octets.now h.kept g.R.Rules.ruling (constrained_of c.args.ty.now))
    (λ h held. inr (inl (record { explained = told; held = held; told = rw c.in_ok-told-in-Err-Type.ensures (rw c.in-Err-Type.field-0-is at c.in-Err-Type.ensures); not_memory = rw c.in_ok-told-in-Err-Type.ensures c.in_default.not-Memory })))
    c.explanation_held.ensures

pub returns : goal.returns
returns g c =
    under_ok c.broken_held.result
    (λ h. HoldsWords h.kept)
    (λ h. IsExplained c.args.unit c.args.octets.now h.kept g.R.Rules.ruling (constrained_of c.args.ty.now))
    (λ h w. inr (inr (record {
      words = w.words;
      held = w.held;
      not_empty = w.some;
      used = c.in-Err-Broken.used;
      broken = c.in-Err-Broken.broken;
      told = rw c.in-Err-Broken.field-0-is at c.in-Err-Broken.ensures;
    })))
    c.broken_held.ensures
