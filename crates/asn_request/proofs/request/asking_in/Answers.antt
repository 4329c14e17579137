use Rattle.std.proofs.Common.{codes}
use Rattle.clap.specs.Words.{found_of}
use Rattle.asn_request.proofs.Given.{flag}
use Rattle.asn_request.proofs.request.asking_in.Goals as goal

pub returns : goal.returns
returns c = (
  flag (found_of c.args.options.now) (codes "explain") c.get_flag.result c.get_flag.ensures.none c.get_flag.ensures.value c.get_flag.ensures.other,
  c.in_ok-files_in.ensures,
  c.forms_in.ensures,
  c.layout_in.ensures,
  c.is_order_named_in.ensures,
  c.versions_in.ensures,
  flag (found_of c.args.options.now) (codes "stats") c.get_flag-2.result c.get_flag-2.ensures.none c.get_flag-2.ensures.value c.get_flag-2.ensures.other,
  c.budget_in.ensures,
  flag (found_of c.args.options.now) (codes "accept-wider") c.get_flag-3.result c.get_flag-3.ensures.none c.get_flag-3.ensures.value c.get_flag-3.ensures.other,
)
