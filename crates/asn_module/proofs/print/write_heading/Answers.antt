use Rattle.std.proofs.Common.{◌∷◌, []}
use Rattle.asn_notation.specs.declared.token.Word.TheVariants as reserved
use Rattle.asn_notation.specs.Token.{name, word}
use Rattle.asn_notation.specs.Grammar.{becomes}
use Rattle.asn_module.proofs.Adding.{adds_token, adds_then}
use Rattle.asn_module.proofs.PrintedModules.{line_written}
use Rattle.asn_module.proofs.print.write_heading.Goals as goal

pub returns : goal.returns
returns c =
    let a = adds_token (word reserved.Definitions) _ _ c.in_ok-write_token.ensures in
    let b = adds_token (word reserved.Automatic) _ _ (c.in_ok-write_token-2).ensures in
    let d = adds_token (word reserved.Tags) _ _ (c.in_ok-write_token-3).ensures in
    let e = adds_token becomes _ _ (c.in_ok-write_token-4).ensures in
    let f = adds_token (word reserved.Begin) _ _ (c.in_ok-write_token-5).ensures in
    let last = adds_then (becomes ∷ []) (word reserved.Begin ∷ []) _ _ _ e f in
    let tags = adds_then (word reserved.Tags ∷ []) (becomes ∷ word reserved.Begin ∷ []) _ _ _ d last in
    let automatic = adds_then (word reserved.Automatic ∷ []) (word reserved.Tags ∷ becomes ∷ word reserved.Begin ∷ []) _ _ _ b tags in
    let all = adds_then (word reserved.Definitions ∷ []) (word reserved.Automatic ∷ word reserved.Tags ∷ becomes ∷ word reserved.Begin ∷ []) _ _ _ a automatic in
    line_written (c.push_str-2).result (name c.args.name.now) (word reserved.Definitions ∷ word reserved.Automatic ∷ word reserved.Tags ∷ becomes ∷ word reserved.Begin ∷ []) _ _ _ _ c.in_ok-push_str.ensures.bytes all (c.push_str-2).ensures.bytes
