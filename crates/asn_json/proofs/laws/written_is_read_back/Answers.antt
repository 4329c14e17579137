use Rattle.std.proofs.Common.{codes, ap}
use Rattle.asn_json.specs.Paths.{below}
use Rattle.asn_json.proofs.ReadBack.{is_back}
use Rattle.asn_json.proofs.laws.written_is_read_back.Goals as goal

pub returns : goal.returns
returns c = λ t v j good fit w.
    let back = is_back t v good fit in
    rw w.is (record { no_errors = ap (below (codes "$")) back.no_errors; is = back.is })
