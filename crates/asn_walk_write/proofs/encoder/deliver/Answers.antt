-- The window was begun before the output, took all bits of the encoding, and wrote those that waited.
use Rattle.std.proofs.Common.{◌≡◌, ◌≤◌, ◌<◌, ◌^◌, ◌++◌, ℕ, List, [], length, length-append, refl, sym, subst, ◌∙◌, arith}
use Rattle.std.proofs.lemmas.List.{append-nil}
use Rattle.asn_values.specs.View.{shape_of, datum_of}
use Rattle.asn_bits.specs.Numbers.{unpacked}
use Rattle.asn_bits.proofs.Splits.{length-unpacked}
use Rattle.asn_rules.specs.Answer.{max_octets}
use Rattle.asn_window.specs.Written.{Wrote, Broke}
use Rattle.asn_window.specs.WindowEnds.{start_of}
use Rattle.asn_window.specs.Windows.{WindowStands}
use Rattle.asn_walk_write.proofs.Levels.{profile_deep}
use Rattle.asn_walk_write.proofs.Deliveries.{on_ok, on_err}
use Rattle.asn_walk_write.proofs.encoder.deliver.Goals as goal

pub write_complete-requires-clause-deep : goal.write_complete-requires-clause-deep
write_complete-requires-clause-deep g c = (let d = profile_deep (shape_of c.args.ty.now) c.requires.of_profile in omega (arith, d))

pub returns-clause-ok : goal.returns-clause-ok
returns-clause-ok g c =
    let r = g.R.WriteLeaves.rules in
    let os = r.complete (r.code (shape_of c.args.ty.now) (datum_of c.args.value.now)) in
    let bits = unpacked os in
    let few : length os ≤ max_octets = c.requires.within in
    let short : length (bits ++ []) < 2 ^ 63 = omega (arith, few, length-append bits [], length-unpacked os) in
    let name = c.over-window.result.output.ghost_name in
    let held = g.O.Output.held c.args.output.now in
    let begun : WindowStands g.O.Output.held c.over-window.result (start_of name held bits) [] (bits ++ []) =
    subst (λ (xs : List ℕ). WindowStands g.O.Output.held c.over-window.result (start_of name held bits) [] xs) (sym (append-nil bits)) (c.over-window.ensures.told bits) in
    let stands : WindowStands g.O.Output.held c.write_complete.new.sink (start_of name held bits) bits [] =
    c.in-Ok.ensures.written (start_of name held bits) [] refl (λ w. short) begun in
    let same : c.finish.new.self.output.ghost_name ≡ name = c.finish.ensures.name ∙ stands.name in
    let last : c.finish.new.self.output.now ≡ _ = sym (c.output-1.given.1 (sym (same ∙ c.over-window.ensures.name))) in
    on_ok c.finish.result (λ told. subst (λ w. Wrote held (g.O.Output.held w) bits) last (told name held bits bits (omega (arith, length-unpacked os)) stands)) c.finish.ensures.ok

pub returns-clause-err : goal.returns-clause-err
returns-clause-err g c =
    let r = g.R.WriteLeaves.rules in
    let os = r.complete (r.code (shape_of c.args.ty.now) (datum_of c.args.value.now)) in
    let bits = unpacked os in
    let few : length os ≤ max_octets = c.requires.within in
    let short : length (bits ++ []) < 2 ^ 63 = omega (arith, few, length-append bits [], length-unpacked os) in
    let name = c.over-window.result.output.ghost_name in
    let held = g.O.Output.held c.args.output.now in
    let begun : WindowStands g.O.Output.held c.over-window.result (start_of name held bits) [] (bits ++ []) =
    subst (λ (xs : List ℕ). WindowStands g.O.Output.held c.over-window.result (start_of name held bits) [] xs) (sym (append-nil bits)) (c.over-window.ensures.told bits) in
    let stands : WindowStands g.O.Output.held c.write_complete.new.sink (start_of name held bits) bits [] =
    c.in-Ok.ensures.written (start_of name held bits) [] refl (λ w. short) begun in
    let same : c.finish.new.self.output.ghost_name ≡ name = c.finish.ensures.name ∙ stands.name in
    let last : c.finish.new.self.output.now ≡ _ = sym (c.output-1.given.1 (sym (same ∙ c.over-window.ensures.name))) in
    on_err c.finish.result (λ sent told. subst (λ w. Broke held (g.O.Output.held w) sent bits) last (told name held bits bits stands)) c.finish.ensures.err
