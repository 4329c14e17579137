use Rattle.std.specs.Prelude.{string_bytes}
use Rattle.asn_look.proofs.Refusals.{shape_in_one_line}
use Rattle.asn_look.proofs.newer_json.key_twice_at.Goals as goal

pub returns : goal.returns
returns c = shape_in_one_line c.args.path.now (string_bytes c.in_ok-refusal.refusal) c.requires c.in_ok-refusal.ensures.ok
