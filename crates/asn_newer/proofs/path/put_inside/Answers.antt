use Rattle.std.proofs.Common.{◌≡◌, ◌++◌, List, map, take, drop, sym, ap, ◌∙◌}
use Rattle.std.proofs.lemmas.List.{take-map, drop-map}
use Rattle.std.proofs.lemmas.Result.{IfOk-weaker}
use Rattle.asn_newer.specs.Reading.{skipped_at_of, skipped_at_seen}
use Rattle.asn_newer.specs.Skipped.{inside}
use Rattle.asn_newer.specs.Skipped as fields
use Rattle.asn_newer.proofs.path.put_inside.Goals as goal

pub returns : goal.returns
returns c =
    let old = c.args.skipped.now.items in
    let front : skipped_at_seen c.split_off.new.self.items ≡ take c.args.from (skipped_at_seen old) = ap skipped_at_seen c.in_ok-inner.ensures.items ∙ sym (take-map skipped_at_of c.args.from old) in
    let back : skipped_at_seen c.in_ok-inner.inner.items ≡ drop c.args.from (skipped_at_seen old) = ap skipped_at_seen c.in_ok-inner.ensures.tail ∙ sym (drop-map skipped_at_of c.args.from old) in
    IfOk-weaker c.push_inside.result _ _ (λ _ e. e ∙ ap (λ (x : List fields.SkippedAt). x ++ map (inside c.args.step) (skipped_at_seen c.in_ok-inner.inner.items)) front ∙ ap (λ (x : List fields.SkippedAt). take c.args.from (skipped_at_seen old) ++ map (inside c.args.step) x) back) c.push_inside.ensures
