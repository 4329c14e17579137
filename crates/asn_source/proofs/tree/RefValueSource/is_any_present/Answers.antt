use Rattle.std.proofs.Common.{rules, ◌≡◌, is_some, true, false}
use Rattle.std.specs.List.{Any, All}
use Rattle.std.proofs.iter.runs.Made.{chains}
use Rattle.asn_values.specs.View.{datum_of}
use Rattle.asn_source.proofs.Present.{present_test}
use Rattle.asn_source.proofs.tree.RefValueSource.is_any_present.Goals as goal

pub returns : goal.returns
returns c =
    let some : c.any.result ≡ true → Any (λ e. is_some e ≡ true) c.args.entries.now = λ h. search (rules, chains) in
    let none : c.any.result ≡ false → All (λ e. is_some e ≡ false) c.args.entries.now = λ h. search (rules, chains) in
    present_test datum_of c.args.entries.now c.any.result some none
