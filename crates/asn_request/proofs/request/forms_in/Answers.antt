use Rattle.std.proofs.Common.{codes}
use Rattle.clap.specs.Words.{found_of}
use Rattle.asn_request.proofs.Given.{flag}
use Rattle.asn_request.proofs.request.forms_in.Goals as goal

pub returns : goal.returns
returns c = (
  c.octet_form_in.ensures,
  c.octet_form_in-2.ensures,
  flag (found_of c.args.options.now) (codes "split") c.get_flag.result c.get_flag.ensures.none c.get_flag.ensures.value c.get_flag.ensures.other,
)
