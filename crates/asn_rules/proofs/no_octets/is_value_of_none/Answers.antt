use Rattle.asn_rules.proofs.no_octets.is_value_of_none.Goals as goal

pub returns-in-Err : goal.returns-in-Err
returns-in-Err c r t h = c.no_value.ensures r t (rw c.in-Err.is at h)
