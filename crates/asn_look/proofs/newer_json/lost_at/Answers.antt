use Rattle.std.specs.Prelude.{string_bytes}
use Rattle.asn_look.proofs.Refusals.{told_in_one_line}
use Rattle.asn_look.proofs.newer_json.lost_at.Goals as goal

pub returns : goal.returns
returns c = told_in_one_line c.args.path.now (string_bytes c.in_ok-refusal.refusal) c.requires c.in_ok-refusal.ensures.ok
