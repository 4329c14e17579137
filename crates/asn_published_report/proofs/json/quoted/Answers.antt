use Rattle.std.proofs.Common.{◌≡◌, ◌++◌, ◌∙◌, ap, chars, codes, flat_map, map-id, sym}
use Rattle.std.proofs.lemmas.Iterator.{YieldsList-from_chars}
use Rattle.std.proofs.lemmas.Iterator.Consumers.{YieldsList-end}
use Rattle.asn_published_report.specs.Telling.{escaped}
use Rattle.asn_published_report.proofs.json.quoted.Goals as goal

pub returns : goal.returns
returns c =
    let end = YieldsList-end (YieldsList-from_chars c.args.text.now c.utf8.text cc) c.loop-letter.yielded _ c.loop-letter.yielded_by _ _ c.in-None.is c.next.ensures.steps in
    let all : c.loop-letter.yielded ≡ chars c.args.text.now = sym (map-id c.loop-letter.yielded) ∙ end.0 in
    c.in_ok-push_str-2.ensures.bytes
    ∙ (ap (λ xs. xs ++ codes "\"") c.loop-letter.invariant ∙ ap (λ cs. codes "\"" ++ (flat_map escaped cs ++ codes "\"")) all)
