use Rattle.std.proofs.Common.{◌∷◌, []}
use Rattle.asn_values.specs.View.{shape_of}
use Rattle.asn_notation.specs.Token.{name}
use Rattle.asn_notation.specs.Grammar.{becomes, written}
use Rattle.asn_module.specs.Printing.{type_printed}
use Rattle.asn_module.proofs.Adding.{adds_token, adds_then}
use Rattle.asn_module.proofs.PrintedModules.{line_written}
use Rattle.asn_module.proofs.print.write_assignment.Goals as goal

pub returns : goal.returns
returns c =
    let ty = written (type_printed (shape_of c.args.ty.now)) in
    line_written (c.push_str-2).result (name c.args.name.now) (becomes ∷ ty) _ _ _ _ c.in_ok-push_str.ensures.bytes
    (adds_then (becomes ∷ []) ty _ _ _ (adds_token becomes _ _ c.in_ok-write_token.ensures) c.in_ok-write_type.ensures) (c.push_str-2).ensures.bytes
