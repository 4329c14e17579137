use Rattle.std.proofs.Common.{rules, ◌≡◌, ◌<◌, length, ◌++◌, take, ap, refl, ◌∙◌, append_assoc, take-append-drop, Ok}
use Rattle.std.specs.Io.KnownBytes.{Appends}
use Rattle.asn_rules.specs.Faults.{inner_of, faults_of, count_after, write_failed}
use Rattle.asn_rules.proofs.Known.{rose_after, appends_twice, failed_at_none, same_at_some}
use Rattle.asn_rules.proofs.counting.CountedWrite.write_all.Goals as goal

pub returns-in_err-count-clause-fault : goal.returns-in_err-count-clause-fault
returns-in_err-count-clause-fault g c =
    let rose = rose_after c.write.result c.loop-rest.rest.now _ _ _ c.loop-rest.invariant.same c.write.ensures.faults (rw c.in_err-count.was refl) in
    search rules

pub returns-then-count-eq0-clause-fault : goal.returns-then-count-eq0-clause-fault
returns-then-count-eq0-clause-fault g c =
    let was : c.write.result ≡ Ok c.in_ok-count.count = c.in_ok-count.was in
    let some : 0 < length c.loop-rest.rest.now = search rules in
    rose_after c.write.result c.loop-rest.rest.now _ _ _ c.loop-rest.invariant.same c.write.ensures.faults
    (ap (λ r. write_failed r c.loop-rest.rest.now) was ∙ failed_at_none c.in_ok-count.count c.loop-rest.rest.now c.if-count-eq0.true some)

pub loop-rest-preserved : goal.loop-rest-preserved
loop-rest-preserved g c =
    let before = c.loop-rest.invariant.written in
    let was : c.write.result ≡ Ok c.in_ok-count.count = c.in_ok-count.was in
    let taken : Appends (g.W.Write.contents (inner_of c.loop-rest.self)) (g.W.Write.contents (inner_of c.write.new.self)) (take c.in_ok-count.count c.loop-rest.rest.now) = c.in_ok-count.ensures.bytes in
    record {
      written = (
        before.0 ++ take c.in_ok-count.count c.loop-rest.rest.now,
        appends_twice _ _ _ _ _ before.1 taken,
        ap (λ bs. (before.0 ++ take c.in_ok-count.count c.loop-rest.rest.now) ++ bs) c.after-rest.ensures
            ∙ (append_assoc before.0 _ _ ∙ (ap (λ bs. before.0 ++ bs) (take-append-drop c.in_ok-count.count c.loop-rest.rest.now) ∙ before.2)),
      );
      same = c.write.ensures.faults ∙ (ap (λ r. count_after (write_failed r c.loop-rest.rest.now) (faults_of c.loop-rest.self)) was
          ∙ (same_at_some c.in_ok-count.count c.loop-rest.rest.now _ c.if-count-eq0.false ∙ c.loop-rest.invariant.same));
    }
