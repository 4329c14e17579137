-- The parts that PER reads by itself are those of its rules.
use Rattle.std.specs.Prelude.{◌≡◌, refl}
use Rattle.asn_per.specs.Rules.{per_ruling}
use Rattle.asn_per.specs.Walk.{per_coding}

pub per_parts : per_coding.ruling ≡ per_ruling
unfolding per_coding
per_parts = refl
