use Rattle.asn_values.specs.View.{shape_of}
use Rattle.asn_convert.specs.Answers.{rulings}
use Rattle.asn_convert.specs.Text.{terms}
use Rattle.asn_convert.proofs.Answered.{each_answered}
use Rattle.asn_convert.proofs.laws.lines_have_answers.Goals as goal

pub returns : goal.returns
returns g c = λ by name line.
    let w = terms (rulings g.A.Rules.ruling g.B.Rules.ruling g.A.OtherVersions.loose) name by (shape_of c.args.ty.now) in
    each_answered w c.keep_laws.ensures.laws c.keep_laws.ensures.tells c.keep_laws-2.ensures.laws c.keep_laws-2.ensures.tells c.get-of_profile.ensures.of_profile line
