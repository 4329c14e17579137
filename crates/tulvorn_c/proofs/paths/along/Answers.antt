use Rattle.std.proofs.Common.{◌≡◌, ◌∙◌, ◌<◌, ◌+◌, false, true, [], length, drop, get_or, Some, None, sym, ap, arith}
use Rattle.asn_values.specs.View.{shape_of}
use Rattle.asn_view.specs.Paths.{is_separator}
use Rattle.tulvorn_c.specs.Paths.{shape_after, shape_at_step}
use Rattle.tulvorn_c.proofs.TypePieces.{piece_of, piece_goes_on, piece_ends, nothing_after}
use Rattle.tulvorn_c.proofs.paths.along.Goals as goal

pub loop-index-preserved-then-not-is_separator : goal.loop-index-preserved-then-not-is_separator
loop-index-preserved-then-not-is_separator c =
    let path = c.args.path.now in
    let i = c.loop-index.index in
    let within : i < length path = c.loop-index-test.true in
    let inside : is_separator (get_or path i 0) ≡ false = sym c.is_separator.ensures ∙ c.if-not-is_separator.true in
    (omega arith, piece_goes_on path c.loop-index.start i (Some (shape_of c.loop-index.here.now)) c.loop-index.invariant.0 within inside ∙ c.loop-index.invariant.1)

pub returns-in_err-here : goal.returns-in_err-here
returns-in_err-here c =
    let path = c.args.path.now in
    let i = c.loop-index.index in
    let within : i < length path = c.loop-index-test.true in
    let ends : is_separator (get_or path i 0) ≡ true = sym c.is_separator.ensures ∙ c.if-not-is_separator.false in
    let none : shape_at_step (piece_of path c.loop-index.start i) (shape_of c.loop-index.here.now) ≡ None = sym c.in_err-here.ensures in
    rw c.from_residual.ensures
    (sym (nothing_after [] (drop (i + 1) path)) ∙ ap (λ t. shape_after [] (drop (i + 1) path) t) (sym none)
    ∙ sym (piece_ends path c.loop-index.start i (Some (shape_of c.loop-index.here.now)) within ends) ∙ c.loop-index.invariant.1)
