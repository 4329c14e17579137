-- The encoding rules that a name stands for.
use Rattle.asn_rules.specs.Answer.{Ruling}
use Rattle.asn_per.specs.Rules.{per_ruling}
use Rattle.asn_oer.specs.Rules.{oer_ruling}
use Rattle.asn_jobs.specs.declared.job.RuleName.{RuleName}
use Rattle.asn_jobs.specs.declared.job.RuleName.TheVariants as rule_name

abbrev pub ruling_of : RuleName → Ruling
ruling_of rule_name.Per = per_ruling
ruling_of rule_name.Oer = oer_ruling
