-- The parts that OER reads by itself are those of its rules.
use Rattle.std.specs.Prelude.{◌≡◌, refl}
use Rattle.asn_oer.specs.Rules.{oer_ruling}
use Rattle.asn_oer.specs.Walk.{oer_coding}

pub oer_parts : oer_coding.ruling ≡ oer_ruling
unfolding oer_coding
oer_parts = refl
