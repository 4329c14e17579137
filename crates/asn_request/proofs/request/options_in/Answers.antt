use Rattle.std.proofs.Common.{codes, subst, sym}
use Rattle.std.specs.Str.Parse.{ExplainsUnsignedError, HasUnsignedDigitsIfOk, ParsesUnsigned}
use Rattle.clap.specs.Words.{found_of, rows_of}
use Rattle.asn_request.specs.Request.{AreLevels}
use Rattle.asn_request.proofs.Given.{flag, levels, number_of}
use Rattle.asn_request.proofs.request.options_in.Goals as goal

pub returns : goal.returns
returns c =
    let f = found_of c.args.options.now in
    let given = number_of (λ bs r. ParsesUnsigned 32 10 bs r × ExplainsUnsignedError 10 bs r × HasUnsignedDigitsIfOk bs r) (λ bs r g. g.0) f (codes "levels") c.get_one.result c.get_one.ensures.none c.get_one.ensures.value in
    let depth = levels (rows_of f) c.get_one.result given in (
      flag f (codes "plain-bits") c.get_flag.result c.get_flag.ensures.none c.get_flag.ensures.value c.get_flag.ensures.other,
      flag f (codes "octets") c.get_flag-2.result c.get_flag-2.ensures.none c.get_flag-2.ensures.value c.get_flag-2.ensures.other,
      subst (AreLevels (rows_of f)) (sym c.unwrap_or.ensures) depth,
      flag f (codes "strict") c.get_flag-3.result c.get_flag-3.ensures.none c.get_flag-3.ensures.value c.get_flag-3.ensures.other,
    )
