use Rattle.std.proofs.Common.{◌≡◌, ℕ, List, refl, sym, subst, ◌∙◌}
use Rattle.std.specs.Prelude.{string_bytes}
use Rattle.asn_module.specs.Accepted.{Accepted}
use Rattle.asn_module.specs.ModuleView.{types_view}
use Rattle.asn_module.specs.Printing.{printed}
use Rattle.asn_module.proofs.PrintedModules.{printed_again}
use Rattle.asn_module.proofs.module.Module.print.Goals as goal

pub returns : goal.returns
returns c =
    let text : string_bytes c.push_str.new.self ≡ printed (types_view c.args.self.now) =
    c.in_ok-push_str.ensures.bytes ∙ rw (c.in_ok-write_assignments.ensures, c.in_ok-write_heading.ensures, c.new-out.ensures.bytes, c.as_str.ensures.value, c.deref.ensures.value) refl in
    record {
      printed = text;
      read_again = λ source h. subst (λ (l : List ℕ). Accepted l (types_view c.args.self.now)) (sym text) (printed_again source (types_view c.args.self.now) h);
    }
