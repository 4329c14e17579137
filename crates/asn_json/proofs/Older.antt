-- JSON that showed a value under the limits of the profile before shows it, and readers keep it.
use Rattle.std.proofs.Common.{◌≡◌, ℕ, List, [], Some, None, string_bytes, codes, refl, sym, ap, ◌∙◌}
use Rattle.serde_json.specs.Data.{Data}
use Rattle.asn_values.specs.Datum.{Datum}
use Rattle.asn_values.specs.Fits.{limits, Fits}
use Rattle.asn_values.specs.Older.{older_limits}
use Rattle.asn_values.specs.Shape.{Shape}
use Rattle.asn_values.proofs.Older.{limits_wider}
use Rattle.asn_values.proofs.Wider.{values_wider}
use Rattle.asn_json.specs.declared.fault.JsonFault.{JsonFault}
use Rattle.asn_json.specs.declared.fault.JsonFault.TheVariants as fault
use Rattle.asn_json.specs.Errors.{Shown, Refused, bad, errors_under}
use Rattle.asn_json.specs.Older.{ShownBefore}
use Rattle.asn_json.specs.Paths.{below}
use Rattle.asn_json.proofs.Wider.{none_below, stays_shown}

shown_before : (t : Shape) (j : Data) (v : Datum) → ShownBefore t j v → Shown t j v
shown_before t j v s =
    let now = stays_shown older_limits limits limits_wider t j (none_below (codes "$") (errors_under older_limits t j) s.shown.no_errors) in
    record { no_errors = ap (below (codes "$")) now.0; is = s.shown.is ∙ sym now.1 }

fits_before : (t : Shape) (j : Data) (v : Datum) → ShownBefore t j v → Fits t v
fits_before t j v s = values_wider older_limits limits limits_wider t v s.fits

-- ---- of a reader

pub value_before : (t : Shape) (j : Data) (w v : Datum) → Shown t j w → ShownBefore t j v → w ≡ v
value_before t j w v shown s = shown.is ∙ sym (shown_before t j v s).is

pub unfit_before : (t : Shape) (j : Data) (w v : Datum) → Shown t j w → ¬ Fits t w → ShownBefore t j v → ⊥
unfit_before t j w v shown unfit s =
    let same : v ≡ w = sym (value_before t j w v shown s) in
    unfit (rw (← same) (fits_before t j v s))

pub fault_before : (t : Shape) (j : Data) (f : JsonFault) → Refused t j f → (v : Datum) → ShownBefore t j v → f ≡ fault.Memory
fault_before t j (fault.Shape path) h v s =
    let none : bad t j ≡ [] = (shown_before t j v s).no_errors in
    let told : None ≡ Some (string_bytes path) = rw none at h in
    absurd cc
fault_before t j fault.NotOfType h v s = absurd (h.1 v (shown_before t j v s) (fits_before t j v s))
fault_before t j fault.Memory h v s = refl
