use Rattle.std.proofs.Common.{codes, ◌∙◌, ap}
use Rattle.std.specs.Str.Parse.{ExplainsUnsignedError, HasUnsignedDigitsIfOk, ParsesUnsigned}
use Rattle.clap.specs.Words.{first_of, found_of, rows_of}
use Rattle.asn_request.proofs.Given.{flag, number_of}
use Rattle.asn_request.proofs.look.look_of.Goals as goal

pub returns-clause-look : goal.returns-clause-look
returns-clause-look c =
    let f = found_of c.args.options.now in (
      c.in_ok-text_in.ensures ∙ ap (λ i. first_of i (rows_of f)) c.name_id.ensures,
      c.rules_in.ensures,
      flag f (codes "html") c.get_flag.result c.get_flag.ensures.none c.get_flag.ensures.value c.get_flag.ensures.other,
      number_of (λ bs r. ParsesUnsigned 32 10 bs r × ExplainsUnsignedError 10 bs r × HasUnsignedDigitsIfOk bs r) (λ bs r g. g.0) f (codes "seed") c.get_one.result c.get_one.ensures.none c.get_one.ensures.value,
      number_of (λ bs r. ParsesUnsigned 32 10 bs r × ExplainsUnsignedError 10 bs r × HasUnsignedDigitsIfOk bs r) (λ bs r g. g.0) f (codes "count") c.get_one-2.result c.get_one-2.ensures.none c.get_one-2.ensures.value,
    )
