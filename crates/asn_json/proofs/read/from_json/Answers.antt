use Rattle.std.proofs.Common.{sym}
use Rattle.std.proofs.lemmas.Bool.{true≢false}
use Rattle.serde_json.specs.View.{view}
use Rattle.asn_values.specs.View.{shape_of, datum_of}
use Rattle.asn_json.proofs.Older.{value_before, unfit_before, fault_before}
use Rattle.asn_json.proofs.read.from_json.Goals as goal

pub returns-then-fits-clause-older : goal.returns-then-fits-clause-older
returns-then-fits-clause-older c = λ v before.
    value_before (shape_of c.args.ty.now) (view c.args.json.now) (datum_of c.in-Ok.value) v c.in-Ok.ensures.shown before

pub returns-else-fits-clause-older : goal.returns-else-fits-clause-older
returns-else-fits-clause-older c = λ v before.
    absurd (unfit_before (shape_of c.args.ty.now) (view c.args.json.now) (datum_of c.in-Ok.value) v c.in-Ok.ensures.shown (λ f. true≢false (sym (c.if-fits.ensures.1 f))) before)

pub returns-in-Err-clause-older : goal.returns-in-Err-clause-older
returns-in-Err-clause-older c = λ v before.
    fault_before (shape_of c.args.ty.now) (view c.args.json.now) c.in-Err.fault c.in-Err.ensures.refused v before
