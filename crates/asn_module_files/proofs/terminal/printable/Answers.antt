use Rattle.std.proofs.Common.{◌≡◌, ◌∙◌, ap, chars, encode_utf8, flat_map, map-id, sym}
use Rattle.std.proofs.lemmas.Iterator.{YieldsList-from_chars}
use Rattle.std.proofs.lemmas.Iterator.Consumers.{YieldsList-end}
use Rattle.asn_module_files.specs.Terminal.{printed}
use Rattle.asn_module_files.proofs.terminal.printable.Goals as goal

pub returns : goal.returns
returns c =
    let end = YieldsList-end (YieldsList-from_chars c.args.words.now c.utf8.words cc) c.loop-character.yielded _ c.loop-character.yielded_by _ _ c.in-None.is c.next.ensures.steps in
    let all : c.loop-character.yielded ≡ chars c.args.words.now = sym (map-id c.loop-character.yielded) ∙ end.0 in
    c.loop-character.invariant ∙ ap (λ cs. flat_map (λ x. encode_utf8 (printed x)) cs) all
