use Rattle.std.proofs.Common.{take, IsTrue}
use Rattle.std.specs.List.{AllByRecursion}
use Rattle.asn_values.specs.Fits.{is_of_kind}
use Rattle.asn_values.specs.View.{alphabet_of}
use Rattle.asn_oer.proofs.item_runs.are_characters.Given as goal

abbrev pub invariant-loop-octet : goal.invariant-loop-octet
invariant-loop-octet l = AllByRecursion (λ c. IsTrue (is_of_kind (alphabet_of l.kind) c)) (take l.octet-index l.octets)
