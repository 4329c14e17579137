use Rattle.std.proofs.Common.{◌≡◌, ◌∙◌, ap, rules, string_bytes}
use Rattle.std.specs.Result.{result_ok}
use Rattle.base64.specs.Engines.{standard}
use Rattle.base64.specs.GeneralPurpose.{decode_of}
use Rattle.asn_jobs.proofs.texts.base64_of.Goals as goal

pub returns-clause-read_again : goal.returns-clause-read_again
returns-clause-read_again c =
    let is : c.in_ok-text.text.items ≡ string_bytes c.in_ok-coded.coded = search rules in
    ap (λ t. result_ok (decode_of standard t)) is ∙ ap result_ok (c.in_ok-coded.ensures.round_trip (search rules))
