-- What a writer of a part tells of the value of the part is what one of the whole tells of the whole.
use Rattle.std.proofs.Common.{◌≡◌, ◌↔◌, Result, Ok, Err, IsErrAnd, OnOk, subst, sym}
use Rattle.asn_rules.specs.declared.fault.Unwritten.{Unwritten}
use Rattle.asn_rules.specs.declared.fault.Unwritten.TheVariants as unwritten
use Rattle.asn_walk.specs.Writing.{IsUnwritten, TellsWhether}

-- it stops at a part: where the whole is a value of its type, so is the part
pub unwritten_by : {F : Type 0} (why : Unwritten F) {P Q : Type 0} → (Q → P) → IsUnwritten why P → IsUnwritten why Q
unwritten_by unwritten.NotOfType back h = λ q. h (back q)
unwritten_by (unwritten.Full fault) back h = h

pub tells_err : {A F : Type 0} (r : Result A (Unwritten F)) (why : Unwritten F) {P Q : Type 0} → IsErrAnd r (λ y. y ≡ why)
    → (Q → P) → IsUnwritten why P → TellsWhether r Q
tells_err (Ok x) why e back h = absurd e
tells_err (Err y) why {P = P} e back h = unwritten_by y back (subst (λ x. IsUnwritten x P) (sym e) h)

-- the last part is written: then the whole is a value of its type where the part is
pub tells_by : {A F : Type 0} (r : Result A (Unwritten F)) {P Q : Type 0} → P ↔ Q → TellsWhether r P → TellsWhether r Q
tells_by (Ok x) both h = both.0 h
tells_by (Err why) both h = unwritten_by why both.1 h

-- what holds of a part that is written, which is a value of its type
pub written_by : {A F : Type 0} (r : Result A (Unwritten F)) {P X Y : Type 0} → TellsWhether r P → (P → X → Y) → OnOk r X
    → OnOk r Y
written_by (Ok x) h f w = f h w
written_by (Err why) h f w = tt
