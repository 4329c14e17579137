-- A value that is made of the same parts is the same value.
use Rattle.std.proofs.Common.{◌≡◌, ℕ, Bool, map, option_map, Option, Vec, Global, ap, ◌∙◌, sym}
use Rattle.asn_values.specs.declared.value.Value.{Value}
use Rattle.asn_values.specs.declared.value.Value.TheVariants as value
use Rattle.asn_values.specs.Datum.{components, components_of, bit_list, octet_list, characters}
use Rattle.asn_values.specs.View.{datum_of}
use Rattle.asn_values.proofs.Views.{datum_of-Bits, datum_of-Octets, datum_of-Text, datum_of-Seq}

pub copied_bits : (x : Value) (v w : Vec Bool Global) → x ≡ value.Bits v → w.items ≡ v.items → datum_of (value.Bits w) ≡ datum_of x
copied_bits x v w e same = rw e (datum_of-Bits w ∙ ap bit_list same ∙ sym (datum_of-Bits v))

pub copied_octets : (x : Value) (v w : Vec ℕ Global) → x ≡ value.Octets v → w.items ≡ v.items → datum_of (value.Octets w) ≡ datum_of x
copied_octets x v w e same = rw e (datum_of-Octets w ∙ ap octet_list same ∙ sym (datum_of-Octets v))

pub copied_text : (x : Value) (v w : Vec ℕ Global) → x ≡ value.Text v → w.items ≡ v.items → datum_of (value.Text w) ≡ datum_of x
copied_text x v w e same = rw e (datum_of-Text w ∙ ap characters same ∙ sym (datum_of-Text v))

pub copied_entries :
    (x : Value) (v w : Vec (Option Value) Global) → x ≡ value.Seq v →
    map (option_map datum_of) w.items ≡ map (option_map datum_of) v.items → datum_of (value.Seq w) ≡ datum_of x
copied_entries x v w e same = rw e (datum_of-Seq w ∙ ap (λ es. components (components_of es)) same ∙ sym (datum_of-Seq v))
