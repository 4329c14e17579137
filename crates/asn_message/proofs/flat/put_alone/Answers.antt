use Rattle.std.proofs.Common.{◌≡◌, ℤ, ◌≤ℤ◌, sym, ap, ◌∙◌, arith, rules}
use Rattle.std.proofs.lemmas.Int.{ints}
use Rattle.asn_values.specs.Datum.{number}
use Rattle.asn_values.specs.Fits.{lowest_integer, highest_integer}
use Rattle.asn_values.specs.View.{datum_of}
use Rattle.asn_walk.specs.Integers.{IsOfProfile}
use Rattle.asn_values.specs.declared.value.Value as values
use mir.Syntax.{w128}
use mir.Val.{to_z, of_z}
use Rattle.asn_values.specs.declared.value.Value.TheVariants as value
use Rattle.asn_message.proofs.Filled.{of_same}
use Rattle.asn_message.proofs.flat.put_alone.Goals as goal

datum_of-Int : (z : ℤ) → datum_of (value.Int z) ≡ number z
datum_of-Int z = search (rules, values.the_lemmas)

-- a number of the profile is kept in 128 bits
kept : (n z : ℤ) → (n ≡ z) × IsOfProfile n → to_z w128 (of_z w128 n) ≡ z
kept n z h =
    let low : lowest_integer ≤ℤ n = h.1.0 in
    let high : n ≤ℤ highest_integer = h.1.1 in
    let same : to_z w128 (of_z w128 n) ≡ n = omega (arith, ints) in
    same ∙ h.0

pub returns-in_ok-number-in-Int : goal.returns-in_ok-number-in-Int
returns-in_ok-number-in-Int c some =
    let whole = kept c.in_ok-number-in-Int.number c.in-Int.number c.in_ok-number-in-Int.ensures in
    let is = ap datum_of c.in-Int.is ∙ datum_of-Int c.in-Int.number ∙ ap number (sym whole) in
    of_same _ _ _ _ is (c.put_number.ensures some)
