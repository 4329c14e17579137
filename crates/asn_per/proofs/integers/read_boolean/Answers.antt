use Rattle.std.proofs.Common.{◌≡◌, ◌∙◌, ℕ, Bool, Option, Some, sym, ap}
use Rattle.std.specs.Option.{option_map}
use Rattle.std.proofs.lemmas.Result.{err_from_is_err_and}
use Rattle.asn_bits.specs.Sink.{bit_of}
use Rattle.asn_bits.proofs.Prefixes.{bool_byte-is}
use Rattle.asn_rules.proofs.Languages.Leads.{stops_by}
use Rattle.asn_per.specs.Per.{per_fields}
use Rattle.asn_per.proofs.Types.BooleanLanguage.{boolean_leads, some_truth}
use Rattle.asn_per.proofs.integers.read_boolean.Goals as goal
use Rattle.asn_per.proofs.integers.read_boolean.Goals.{in-Some, in-None}

pub read_constrained-requires : goal.read_constrained-requires
read_constrained-requires c =
    let out : c.match-excluded.left_out ≡ option_map (λ b. bit_of b) c.args.excluded = elim c.match-excluded.branch [
      | in-Some w ↦ w.left_out-is ∙ ap (λ (n : ℕ). Some n) (w.from.ensures ∙ bool_byte-is w.in-Some.truth) ∙ sym (ap (λ (e : Option Bool). option_map (λ b. bit_of b) e) w.in-Some.is)
      | in-None w ↦ w.left_out-is ∙ sym (ap (λ (e : Option Bool). option_map (λ b. bit_of b) e) w.in-None.is)
    ] in
    rw out (some_truth c.args.excluded)

pub returns-in_err-read_constrained-clause-stop : goal.returns-in_err-read_constrained-clause-stop
returns-in_err-read_constrained-clause-stop c =
    let out : c.match-excluded.left_out ≡ option_map (λ b. bit_of b) c.args.excluded = elim c.match-excluded.branch [
      | in-Some w ↦ w.left_out-is ∙ ap (λ (n : ℕ). Some n) (w.from.ensures ∙ bool_byte-is w.in-Some.truth) ∙ sym (ap (λ (e : Option Bool). option_map (λ b. bit_of b) e) w.in-Some.is)
      | in-None w ↦ w.left_out-is ∙ sym (ap (λ (e : Option Bool). option_map (λ b. bit_of b) e) w.in-None.is)
    ] in
    let p = err_from_is_err_and c.from_residual.result c.from_residual.ensures.1 in
    rw (p.1, p.2) (stops_by _ (boolean_leads c.args.excluded c.args.bits.now).stops (rw out at (c.in_err-read_constrained.ensures.stop per_fields)))

pub returns-clause-done : goal.returns-clause-done
returns-clause-done c =
    let out : c.match-excluded.left_out ≡ option_map (λ b. bit_of b) c.args.excluded = elim c.match-excluded.branch [
      | in-Some w ↦ w.left_out-is ∙ ap (λ (n : ℕ). Some n) (w.from.ensures ∙ bool_byte-is w.in-Some.truth) ∙ sym (ap (λ (e : Option Bool). option_map (λ b. bit_of b) e) w.in-Some.is)
      | in-None w ↦ w.left_out-is ∙ sym (ap (λ (e : Option Bool). option_map (λ b. bit_of b) e) w.in-None.is)
    ] in
    (boolean_leads c.args.excluded c.args.bits.now).done c.in_ok-read_constrained.field-0 c.read_constrained.new.bits (rw out at (c.in_ok-read_constrained.ensures.done per_fields))
