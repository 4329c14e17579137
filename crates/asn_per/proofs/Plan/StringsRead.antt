-- Strings of one length that are told by bits taken at once, by PER.
use Rattle.std.proofs.Common.{◌≡◌, ◌≤◌, ◌<◌, ◌++◌, ◌^◌, ℕ, Bool, false, length, map, List, None, refl, sym, ap, subst, ◌∙◌, append_assoc, arith}
use Rattle.std.proofs.lemmas.List.{length-map}
use Rattle.asn_values.specs.Datum.{Datum, bit_list, octet_list}
use Rattle.asn_values.specs.Profile.{InProfile}
use Rattle.asn_values.specs.Shape.{Shape, bit_string, octet_string}
use Rattle.asn_bits.specs.Numbers.{bits, octets, unpacked}
use Rattle.asn_bits.specs.Sink.{bit_of}
use Rattle.asn_bits.proofs.Octets.{length-digits, all_octets}
use Rattle.asn_bits.proofs.Splits.{unpacked-octets}
use Rattle.asn_bits.proofs.Weights.{are_digits}
use Rattle.asn_rules.specs.Components.{extension_bit}
use Rattle.asn_rules.specs.Languages.{Spells}
use Rattle.asn_rules.specs.Listed.{Spelt}
use Rattle.asn_rules.specs.OctetStrings.{is_one}
use Rattle.asn_rules.proofs.Octets.BitStrings.{bits_again}
use Rattle.asn_walk.specs.AtOnce.{IsOnlyLength}
use Rattle.asn_walk.proofs.AtOnce.{after_no_mark}
use Rattle.asn_plan.specs.FixedStrings.{IsFixedString, IsStringOf}
use Rattle.asn_plan.specs.declared.fixed.FixedString.{FixedString}
use Rattle.asn_per.specs.Per.{per, per_fields}
use Rattle.asn_per.proofs.Read.AtOnce.{bits_first, octets_first}

-- a string whose bits are those of the number, whatever stands after them
pub record IsFixedFirst (f : FixedString) (t : Shape) (n : ℕ) : Type 0 where
  pub value : Datum
  pub is : IsStringOf f n value
  pub read : (us r : List ℕ) → us ≡ bits f.bits n ++ r → Spells per_fields (Spelt per None t) value us r

pub fixed_first : (f : FixedString) (t : Shape) (n : ℕ) → InProfile t → IsFixedString f t → n ≤ f.highest
    → IsFixedFirst f t n
fixed_first f (bit_string s) n good is few =
    let bs = bits f.length n in
    let ts : List Bool = map is_one bs in
    let same : map bit_of ts ≡ bs = bits_again bs (are_digits 2 f.length n (omega arith)) in
    let many : length ts ≡ f.length = length-map bs is_one ∙ length-digits 2 f.length n in
    let only : IsOnlyLength s (length ts) = subst (IsOnlyLength s) (sym many) is.1 in
    let fits : n < 2 ^ f.length = omega (arith, few, is.3) in
    let front : bits f.bits n ≡ extension_bit s.extensible false ++ map bit_of ts = ap (λ (k : ℕ). bits k n) is.2 ∙ after_no_mark s.extensible f.length n fits ∙ ap (λ (l : List ℕ). extension_bit s.extensible false ++ l) (sym same) in
    record {
      value = bit_list ts;
      is = (is.0, same);
      read = λ us r e. bits_first s (bit_list ts) us r good (record {
        truths = ts;
        is = refl;
        only = only;
        few = omega (arith, many, is.4.few);
        split = e ∙ ap (λ (l : List ℕ). l ++ r) front ∙ append_assoc (extension_bit s.extensible false) (map bit_of ts) r;
      });
    }
fixed_first f (octet_string s) n good is few =
    let os = octets f.length n in
    let many : length os ≡ f.length = length-digits 256 f.length n in
    let only : IsOnlyLength s (length os) = subst (IsOnlyLength s) (sym many) is.1 in
    let front : bits f.bits n ≡ unpacked os = ap (λ (k : ℕ). bits k n) is.3 ∙ sym (unpacked-octets f.length n) in
    record {
      value = octet_list os;
      is = (is.0, refl);
      read = λ us r e. octets_first s (octet_list os) us r good (record {
        octets = os;
        is = refl;
        only = only;
        few = omega (arith, many, is.5.few);
        unmarked = is.2;
        each = all_octets f.length n;
        split = e ∙ ap (λ (l : List ℕ). l ++ r) front;
      });
    }
fixed_first f _ n good is few = absurd is
