use Rattle.std.proofs.Common.{codes}
use Rattle.clap.specs.Words.{found_of}
use Rattle.asn_request.proofs.Given.{flag}
use Rattle.asn_request.proofs.request.layout_in.Goals as goal

pub returns : goal.returns
returns c = (
  c.is_declared_in.ensures,
  flag (found_of c.args.options.now) (codes "pretty") c.get_flag.result c.get_flag.ensures.none c.get_flag.ensures.value c.get_flag.ensures.other,
)
