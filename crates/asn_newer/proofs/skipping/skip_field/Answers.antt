use Rattle.std.proofs.Common.{◌≡◌, [], ◌∷◌, ◌++◌, ap, ◌∙◌}
use Rattle.std.proofs.lemmas.List.{map-append}
use Rattle.std.proofs.lemmas.Result.{err_from_is_err_and}
use Rattle.asn_walk.proofs.Parts.{fields_part_of}
use Rattle.asn_newer.specs.Reading.{skipped_at_of, skipped_at_seen}
use Rattle.asn_newer.specs.Skipped.{skipped_here}
use Rattle.asn_newer.proofs.Walk.Following.{field_skipped, none_skipped}
use Rattle.asn_newer.proofs.Walk.Halts.{stops_on}
use Rattle.asn_newer.proofs.skipping.skip_field.Goals as goal

pub returns-in_err-octets-clause-stop : goal.returns-in_err-octets-clause-stop
returns-in_err-octets-clause-stop g c =
    let p = err_from_is_err_and c.from_residual.result c.from_residual.ensures.1 in
    rw (p.1, p.2) (stops_on (fields_part_of g.R.ReadLeaves.rules c.keep_laws.ensures) _ (λ after. none_skipped g.R.ReadLeaves.rules c.args.place) c.in_err-octets.ensures.stop)

pub returns-clause-done : goal.returns-clause-done
returns-clause-done g c =
    let items : skipped_at_seen c.push.new.self.items ≡ skipped_at_seen c.args.skipped.now.items ++ skipped_here c.args.place c.in_ok-octets.octets.items ∷ [] =
    ap skipped_at_seen c.in_ok-push.ensures.items ∙ map-append skipped_at_of c.args.skipped.now.items _ ∙ ap (λ k. skipped_at_seen c.args.skipped.now.items ++ k ∷ []) c.here.ensures in
    rw items (field_skipped g.R.ReadLeaves.rules c.args.place (skipped_at_seen c.args.skipped.now.items) c.in_ok-octets.ensures.done)
