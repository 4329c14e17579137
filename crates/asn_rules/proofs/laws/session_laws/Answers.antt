use Rattle.asn_rules.proofs.Feeding.Pieces.{keeps_all, answers_all, settles_later, cuts_do_not_matter}
use Rattle.asn_rules.proofs.laws.session_laws.Goals as goal

pub returns-clause-keeps_all : goal.returns-clause-keeps_all
returns-clause-keeps_all g c = keeps_all g.R.Rules.ruling g.R.Rules.took

pub returns-clause-answers_all : goal.returns-clause-answers_all
returns-clause-answers_all g c = answers_all g.R.Rules.ruling g.R.Rules.took

pub returns-clause-settles_later : goal.returns-clause-settles_later
returns-clause-settles_later g c = settles_later g.R.Rules.ruling g.R.Rules.took

pub returns-clause-cuts_do_not_matter : goal.returns-clause-cuts_do_not_matter
returns-clause-cuts_do_not_matter g c = cuts_do_not_matter g.R.Rules.ruling g.R.Rules.took c.keep_laws.ensures.laws
