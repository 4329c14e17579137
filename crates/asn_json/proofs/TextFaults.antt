-- What the faults of a text say, for those who report them in words of their own.
use Rattle.std.proofs.Common.{◌≡◌, ℕ, List, subst}
use Rattle.std.specs.Prelude.{String}
use Rattle.std.specs.Global.{Global}
use Rattle.asn_json.specs.Texts.{IsNoJson, RefusesText, RepeatsKey}
use Rattle.asn_json.specs.declared.fault.TextFault.{TextFault}
use Rattle.asn_json.specs.declared.fault.TextFault.TheVariants as fault

pub is_no_json : (text : List ℕ) (why : TextFault) → RefusesText text why → why ≡ fault.NotJson → IsNoJson text
is_no_json text why refused e = (subst (λ w. RefusesText text w) e refused).told

pub has_key_twice : (text : List ℕ) (why : TextFault) (path : String Global) → RefusesText text why → why ≡ fault.KeyTwice path → RepeatsKey text
has_key_twice text why path refused e = (subst (λ w. RefusesText text w) e refused).told.0
