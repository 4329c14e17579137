use Rattle.std.proofs.Common.{rules, ◌≡◌, ◌-◌, suc, get_or, ap, arith}
use Rattle.std.specs.Prelude.{string_bytes}
use Rattle.std.specs.HashMap as hash
use Rattle.std.proofs.lemmas.Map.Text.{hash_map_updates_text}
use Rattle.asn_module.specs.Lookup.{names_in}
use Rattle.asn_module.proofs.Lookups.{found_step, named_first}
use Rattle.asn_module.proofs.module.index_names.Goals as goal

pub names-preserved : goal.names-preserved
names-preserved c =
    let l = c.names in
    let types = c.args.types.now in
    let x = get_or types (l.index - 1) c.index-types-index.result in
    let ex = ap (get_or types (l.index - 1)) c.index-types-index.is in
    let back : l.index ≡ suc (l.index - 1) = omega (arith, c.names-test.true) in
    let first = named_first types (l.index - 1) x (omega (arith, l.invariant.inside, c.names-test.true)) ex in
    let same : string_bytes c.in_ok-name.name ≡ string_bytes x.name = search rules in
    record {
      inside = omega (arith, l.invariant.inside);
      finds = found_step (names_in types) l.index (l.index - 1) (string_bytes x.name) (λ q. hash.get_by_text l.indices q) (λ q. hash.get_by_text c.insert.new.self q) back first l.invariant.finds
          (λ q. rw same at (hash_map_updates_text (string_bytes c.in_ok-name.name) l.indices c.insert.new.self _ c.in_ok-insert.ensures.updates q));
    }
