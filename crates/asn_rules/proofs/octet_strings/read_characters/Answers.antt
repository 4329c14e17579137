use Rattle.std.proofs.Common.{◌≡◌, ◌<◌, ◌+◌, ◌-◌, ℕ, List, ◌∷◌, ◌++◌, length, length-append, ap, ◌∙◌, subst, append-nil, arith}
use Rattle.std.proofs.lemmas.Result.{err_from_is_err_and}
use Rattle.asn_values.specs.View.{alphabet_of}
use Rattle.asn_bits.specs.Numbers.{packed}
use Rattle.asn_bits.proofs.Octets.{packed_octets}
use Rattle.asn_rules.specs.Languages.{Row, Refused}
use Rattle.asn_rules.proofs.Live.Lists.{no_length}
use Rattle.asn_rules.specs.OctetStrings.{Character, IsValidCount}
use Rattle.asn_rules.proofs.Octets.Characters.{row_front, memory_alone, text_spells, text_short, text_refused, all_valid, some_other}
use Rattle.asn_rules.specs.Fields.{octet_fields}
use Rattle.asn_rules.proofs.octet_strings.read_characters.Goals as goal

pub returns-in_err-characters-clause-stop : goal.returns-in_err-characters-clause-stop
returns-in_err-characters-clause-stop c =
    let p = err_from_is_err_and c.from_residual.result c.from_residual.ensures.1 in
    let us = packed c.args.units.now in
    rw (p.1, p.2) (memory_alone (Row (Character (alphabet_of c.args.kind)) c.args.count) c.min-present.result us _ (packed_octets c.args.units.now c.octets_left.ensures.bits) (omega (arith, c.min-present.ensures, c.octets_left.ensures.count)) c.in_err-characters.ensures.stop)

pub returns-then-valid-len-clause-stop : goal.returns-then-valid-len-clause-stop
returns-then-valid-len-clause-stop c =
    let k = alphabet_of c.args.kind in
    let os = c.in_ok-characters.characters.items in
    let us = packed c.args.units.now in
    let r = packed c.read_row.new.units in
    let w = row_front c.min-present.result os us r c.in_ok-characters.ensures.done in
    let v : IsValidCount k os c.valid_count-valid.result = rw c.as_slice.ensures.value at c.valid_count-valid.ensures in
    let some = some_other k os c.valid_count-valid.result v (omega (arith, c.if-valid-len.true, c.len.ensures)) in
    let e : us ≡ (some.0 ++ some.1 ∷ some.2) ++ r = w.0 ∙ ap (λ (t : List ℕ). t ++ r) some.3 in
    let fewer : length some.0 < c.args.count = omega (arith, w.1, c.min-present.ensures, ap length some.3, length-append some.0 (some.1 ∷ some.2)) in
    let left : length some.2 + length r ≡ c.octets_left-then-valid-len.result + (c.len-then-valid-len.result - c.valid_count-valid.result - 1) =
    omega (arith, ap length some.3, length-append some.0 (some.1 ∷ some.2), some.4, c.octets_left-then-valid-len.ensures.count, c.len-then-valid-len.ensures) in
    record { told = subst (λ (i : ℕ). Refused octet_fields (Row (Character k) c.args.count) us i) left (text_refused k c.args.count some.0 some.2 some.1 us r e fewer some.5 some.6) }

pub returns-then-present-count-clause-stop : goal.returns-then-present-count-clause-stop
returns-then-present-count-clause-stop c =
    let k = alphabet_of c.args.kind in
    let os = c.in_ok-characters.characters.items in
    let us = packed c.args.units.now in
    let r = packed c.read_row.new.units in
    let w = row_front c.min-present.result os us r c.in_ok-characters.ensures.done in
    let v : IsValidCount k os c.valid_count-valid.result = rw c.as_slice.ensures.value at c.valid_count-valid.ensures in
    let none : length r ≡ 0 = omega (arith, ap length w.0, length-append os r, w.1, c.min-present.ensures, c.octets_left.ensures.count, c.if-present-count.true) in
    let all : us ≡ os = w.0 ∙ ap (λ (t : List ℕ). os ++ t) (no_length r none) ∙ append-nil os in
    record { told = text_short k c.args.count os us all (omega (arith, w.1, c.if-present-count.true)) (all_valid k os c.valid_count-valid.result v (omega (arith, c.len.ensures, c.if-valid-len.false))) }

pub returns-clause-done : goal.returns-clause-done
returns-clause-done c =
    let k = alphabet_of c.args.kind in
    let os = c.in_ok-characters.characters.items in
    let us = packed c.args.units.now in
    let r = packed c.read_row.new.units in
    let w = row_front c.min-present.result os us r c.in_ok-characters.ensures.done in
    let v : IsValidCount k os c.valid_count-valid.result = rw c.as_slice.ensures.value at c.valid_count-valid.ensures in
    text_spells k c.args.count os us r w.0 (omega (arith, w.1, c.min-present.ensures, c.if-present-count.false)) (all_valid k os c.valid_count-valid.result v (omega (arith, c.len.ensures, c.if-valid-len.false)))
