use Rattle.std.proofs.Common.{rules, ◌≡◌, false}
use Rattle.std.specs.Prelude.{string_bytes}
use Rattle.asn_convert.specs.Text.{is_past_most}
use Rattle.asn_convert.proofs.Modules.{no_text, no_module, past_most, larger, not_larger}
use Rattle.asn_convert.proofs.running.module_in.Goals as goal

pub returns-in_default-clause-refused : goal.returns-in_default-clause-refused
returns-in_default-clause-refused c = no_text c.args.text.now _ c.in_default.ensures.cases.0 c.in_ok-from_str.ensures.ok

pub returns-then-is_larger-clause-refused : goal.returns-then-is_larger-clause-refused
returns-then-is_larger-clause-refused c =
    past_most c.args.text.now c.in-Ok.text.now (string_bytes c.in_ok-words-in-Err.words) (string_bytes c.in_ok-line-in-Err.line) c.in-Ok.ensures.cases.0 c.in-Ok.ensures.cases.1
    (λ m accepted. larger c.in-Err.fault m (c.in-Err.ensures.refused c.in_ok-words-in-Err.ensures.told m accepted))
    c.in_ok-words-in-Err.ensures.one_line c.in_ok-line-in-Err.ensures.ok

pub returns-in_ok-line-in-Err-2-clause-refused : goal.returns-in_ok-line-in-Err-2-clause-refused
returns-in_ok-line-in-Err-2-clause-refused c =
    let none : is_past_most c.in-Err.fault ≡ false = search rules in
    no_module c.args.text.now c.in-Ok.text.now (string_bytes c.in_ok-words-in-Err.words) (string_bytes c.in_ok-line-in-Err-2.line) c.in-Ok.ensures.cases.0 c.in-Ok.ensures.cases.1
    (λ m accepted. not_larger c.in-Err.fault none m (c.in-Err.ensures.refused c.in_ok-words-in-Err.ensures.told m accepted))
    c.in_ok-words-in-Err.ensures.one_line c.in_ok-line-in-Err-2.ensures.ok
