use Rattle.std.proofs.Common.{refl}
use Rattle.asn_plan.specs.Placed.{IsPutIn}
use Rattle.asn_plan.proofs.StringsPut.{of_bits}
use Rattle.asn_plan.proofs.reused.ReusedBuild.string.Goals as goal

pub returns : goal.returns
returns c d is =
    let r = c.args.room.now in
    of_bits c.args.fixed.now c.args.number d (λ x. IsPutIn r (record { here = c.put_low_bits.new.self; around = r.around; kept = r.kept }) x) c.if-fixed.false is (λ bs e. record { put = c.in_ok-put_low_bits.ensures refl bs e; around_same = refl })
