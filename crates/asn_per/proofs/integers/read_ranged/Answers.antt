use Rattle.std.proofs.Common.{◌≡◌, ◌∙◌, ◌+◌, ◌+ℤ◌, pos, Some}
use Rattle.std.specs.Option.{option_map}
use Rattle.std.proofs.lemmas.Result.{err_from_is_err_and}
use mir.Syntax.{w128}
use mir.Val.{to_z, of_z}
use Rattle.asn_values.specs.Datum.{number}
use Rattle.asn_values.specs.Profile.{InProfile}
use Rattle.asn_values.specs.Shape.{integer}
use Rattle.asn_bits.specs.Numbers.{above, width}
use Rattle.asn_rules.specs.Languages.{Spells, Plain, Inhabited}
use Rattle.asn_rules.specs.Listed.{Spelt}
use Rattle.asn_bits.specs.Sets.{InSet}
use Rattle.asn_rules.specs.Stops.{Stops}
use Rattle.asn_rules.proofs.Languages.Leads.{stops_by}
use Rattle.asn_per.specs.Per.{per, per_fields}
use Rattle.asn_rules.specs.NumberSets.{Admits, up_to}
use Rattle.asn_per.proofs.Types.IntegerLanguages.{offset_of, constrained_leads, constrained_some}
use Rattle.asn_rules.specs.IntegerSets.{IsWithin}
use Rattle.asn_plan.proofs.IntegerRanges.{ranging, low_above_lowest, low_below_highest, high_below_highest, low_below_high, low_kept, high_kept}
use Rattle.asn_bits.proofs.Above.{kept}
use Rattle.asn_per.proofs.integers.read_ranged.Goals as goal

pub wide_offset_from-highest-requires-clause-ordered : goal.wide_offset_from-highest-requires-clause-ordered
wide_offset_from-highest-requires-clause-ordered c =
    let l = c.in-Some-Some.low in
    let h = c.in-Some-Some.high in
    let good : InProfile (integer (ranging l (Some h))) = rw (c.in-Some-Some.is-0, c.in-Some-Some.is-1) at c.requires.of_profile in
    rw (low_kept l (Some h) good, high_kept l h good) (low_below_high l h good)

pub wide_offset_from-highest-requires-clause-within_low : goal.wide_offset_from-highest-requires-clause-within_low
wide_offset_from-highest-requires-clause-within_low c =
    let l = c.in-Some-Some.low in
    let h = c.in-Some-Some.high in
    let good : InProfile (integer (ranging l (Some h))) = rw (c.in-Some-Some.is-0, c.in-Some-Some.is-1) at c.requires.of_profile in
    rw (low_kept l (Some h) good) (low_above_lowest l (Some h) good)

pub wide_offset_from-highest-requires-clause-within_high : goal.wide_offset_from-highest-requires-clause-within_high
wide_offset_from-highest-requires-clause-within_high c =
    let l = c.in-Some-Some.low in
    let h = c.in-Some-Some.high in
    let good : InProfile (integer (ranging l (Some h))) = rw (c.in-Some-Some.is-0, c.in-Some-Some.is-1) at c.requires.of_profile in
    rw (high_kept l h good) (high_below_highest l h good)

pub read_constrained-requires : goal.read_constrained-requires
read_constrained-requires c =
    let l = c.in-Some-Some.low in
    let h = c.in-Some-Some.high in
    let good : InProfile (integer (ranging l (Some h))) = rw (c.in-Some-Some.is-0, c.in-Some-Some.is-1) at c.requires.of_profile in
    let within : IsWithin (ranging l (Some h)) c.args.excluded = rw (c.in-Some-Some.is-0, c.in-Some-Some.is-1) at c.requires.within in
    let top : c.wide_offset_from-highest.result ≡ above l h = rw (low_kept l (Some h) good, high_kept l h good) at c.wide_offset_from-highest.ensures.is in
    let wide : c.excluded_offset.result ≡ offset_of l c.args.excluded = rw (low_kept l (Some h) good) at c.excluded_offset.ensures in
    let out : c.narrow-left_out.result ≡ offset_of l c.args.excluded = c.narrow-left_out.ensures ∙ wide in
    let some : Inhabited (Spelt per (option_map number c.args.excluded) (integer (ranging l (Some h)))) = rw (c.in-Some-Some.is-0, c.in-Some-Some.is-1) at c.requires.some in
    rw (top, out) (constrained_some l h c.args.excluded good within some)

pub at_offset-requires-clause-within_low : goal.at_offset-requires-clause-within_low
at_offset-requires-clause-within_low c =
    let l = c.in-Some-Some.low in
    let h = c.in-Some-Some.high in
    let good : InProfile (integer (ranging l (Some h))) = rw (c.in-Some-Some.is-0, c.in-Some-Some.is-1) at c.requires.of_profile in
    rw (low_kept l (Some h) good) (low_above_lowest l (Some h) good)

pub at_offset-requires-clause-within_high : goal.at_offset-requires-clause-within_high
at_offset-requires-clause-within_high c =
    let l = c.in-Some-Some.low in
    let h = c.in-Some-Some.high in
    let good : InProfile (integer (ranging l (Some h))) = rw (c.in-Some-Some.is-0, c.in-Some-Some.is-1) at c.requires.of_profile in
    rw (low_kept l (Some h) good) (low_below_highest l (Some h) good)

pub returns-in_err-offset-clause-stop : goal.returns-in_err-offset-clause-stop
returns-in_err-offset-clause-stop c =
    let l = c.in-Some-Some.low in
    let h = c.in-Some-Some.high in
    let good : InProfile (integer (ranging l (Some h))) = rw (c.in-Some-Some.is-0, c.in-Some-Some.is-1) at c.requires.of_profile in
    let within : IsWithin (ranging l (Some h)) c.args.excluded = rw (c.in-Some-Some.is-0, c.in-Some-Some.is-1) at c.requires.within in
    let top : c.wide_offset_from-highest.result ≡ above l h = rw (low_kept l (Some h) good, high_kept l h good) at c.wide_offset_from-highest.ensures.is in
    let wide : c.excluded_offset.result ≡ offset_of l c.args.excluded = rw (low_kept l (Some h) good) at c.excluded_offset.ensures in
    let out : c.narrow-left_out.result ≡ offset_of l c.args.excluded = c.narrow-left_out.ensures ∙ wide in
    let p = err_from_is_err_and c.from_residual.result c.from_residual.ensures.1 in
    let stop : Stops per_fields (Plain (InSet (width (above l h + 1)) (λ n. Admits (up_to (above l h) (offset_of l c.args.excluded)) n))) c.args.bits.now c.in_err-offset.field-0.0 =
    rw (top, out) at (c.in_err-offset.ensures.stop per_fields) in
    rw (p.1, p.2, c.in-Some-Some.is-0, c.in-Some-Some.is-1) (stops_by _ (constrained_leads l h c.args.excluded good within c.args.bits.now).stops stop)

pub returns-then-highest-lt-WORD-clause-done : goal.returns-then-highest-lt-WORD-clause-done
returns-then-highest-lt-WORD-clause-done c =
    let l = c.in-Some-Some.low in
    let h = c.in-Some-Some.high in
    let good : InProfile (integer (ranging l (Some h))) = rw (c.in-Some-Some.is-0, c.in-Some-Some.is-1) at c.requires.of_profile in
    let within : IsWithin (ranging l (Some h)) c.args.excluded = rw (c.in-Some-Some.is-0, c.in-Some-Some.is-1) at c.requires.within in
    let top : c.wide_offset_from-highest.result ≡ above l h = rw (low_kept l (Some h) good, high_kept l h good) at c.wide_offset_from-highest.ensures.is in
    let wide : c.excluded_offset.result ≡ offset_of l c.args.excluded = rw (low_kept l (Some h) good) at c.excluded_offset.ensures in
    let out : c.narrow-left_out.result ≡ offset_of l c.args.excluded = c.narrow-left_out.ensures ∙ wide in
    let n = c.in_ok-offset.offset in
    let spelt : Spells per_fields (Plain (InSet (width (above l h + 1)) (λ n. Admits (up_to (above l h) (offset_of l c.args.excluded)) n))) n c.args.bits.now c.read_constrained.new.bits =
    rw (top, out) at (c.in_ok-offset.ensures.done per_fields) in
    let whole = (constrained_leads l h c.args.excluded good within c.args.bits.now).done n c.read_constrained.new.bits spelt in
    let value : c.at_offset.result ≡ l +ℤ pos n = rw (low_kept l (Some h) good) at c.at_offset.ensures in
    let same : to_z w128 (of_z w128 (l +ℤ pos n)) ≡ l +ℤ pos n = kept (l +ℤ pos n) whole.spelt.fits.0.0 whole.spelt.fits.0.1 in
    rw (c.in-Some-Some.is-0, c.in-Some-Some.is-1, value, same) whole
