use Rattle.std.proofs.Common.{codes}
use Rattle.std.specs.Str.Parse.{ExplainsUnsignedError, HasUnsignedDigitsIfOk, ParsesUnsigned}
use Rattle.clap.specs.Words.{found_of}
use Rattle.asn_request.proofs.Given.{number_of}
use Rattle.asn_request.proofs.request.budget_in.Goals as goal

pub returns : goal.returns
returns c =
    number_of (λ bs r. ParsesUnsigned 32 10 bs r × ExplainsUnsignedError 10 bs r × HasUnsignedDigitsIfOk bs r) (λ bs r g. g.0) (found_of c.args.options.now) (codes "budget") c.get_one.result c.get_one.ensures.none c.get_one.ensures.value
