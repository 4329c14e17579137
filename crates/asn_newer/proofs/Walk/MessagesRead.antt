-- From a complete encoding that was read, or was not, to the answer of the reader of messages.
use Rattle.std.proofs.Common.{◌≡◌, ◌≤◌, ℕ, List, [], ◌++◌, length, sym, ap, subst, ◌∙◌}
use Rattle.asn_values.specs.Datum.{Datum}
use Rattle.asn_values.specs.Shape.{Shape}
use Rattle.asn_rules.specs.Answer.{max_octets}
use Rattle.asn_newer.specs.Skipped.{SkippedAt}
use Rattle.asn_newer.specs.Loose.{LooseCoding, Complete, Loose, IsLooseAt}
use Rattle.asn_newer.specs.Reading.{NotNewer, fault_of}
use Rattle.asn_newer.specs.Walking.{SameReadings, ReadsContent, HaltsContent}
use Rattle.asn_newer.specs.declared.halt.Halt.{Halt}
use Rattle.asn_newer.specs.declared.halt.Halt.TheVariants as halt

module _ (l m : LooseCoding) (same : SameReadings l m) (t : Shape) (o : List ℕ) where
  -- nothing was skipped before
  pub message_read : (before : List SkippedAt) (v : Datum) (after : List SkippedAt) → before ≡ [] → ReadsContent l t before v after o → IsLooseAt m t v after o
  message_read before v after e h =
      let s : after ≡ h.skipped = h.same ∙ ap (λ (b : List SkippedAt). b ++ h.skipped) e in
      same.to t v after o (subst (λ (k : List SkippedAt). Complete l.coding (Loose l t) (v, k) o) (sym s) h.complete)

  pub no_message : length o ≤ max_octets → (why : Halt) → HaltsContent l t o why → NotNewer m t o (fault_of why)
  no_message few halt.Refused h = (few, λ rest fits v s x. h.told rest fits (v, x.skipped) (same.from t v x.skipped (o ++ rest) x.read))
  no_message few halt.Short h = (few, λ v s x. h.told (v, x.skipped) (same.from t v x.skipped o x.read))
  no_message few halt.TooMany h = (few, λ rest fits v s x. h.told rest fits (v, x.skipped) (same.from t v x.skipped (o ++ rest) x.read))
  no_message few halt.Memory h = few
