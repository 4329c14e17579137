use Rattle.asn_module.proofs.reading.module_of.Goals as goal

pub invariant_of-result : goal.invariant_of-result
invariant_of-result c = record {
  built = rw c.in-Some-2.is at c.in_ok-types.ensures.built;
  finds = rw c.deref-in-Some-2.ensures.value at c.in_ok-indices-in-Some-2.ensures;
}
