-- Values of types without others inside them: from what was made to a value that fits.
use Rattle.std.proofs.Common.{◌≡◌, ◌<◌, ℕ, length, Vec, Global, String, sym, subst, string_bytes, rules}
use Rattle.std.specs.List.{AllByRecursion}
use Rattle.asn_values.specs.declared.types.AsnType.{AsnType}
use Rattle.asn_values.specs.declared.types.AsnType as asn_type
use Rattle.asn_values.specs.declared.types.Size.{Size}
use Rattle.asn_values.specs.declared.value.Value as values
use Rattle.asn_values.specs.declared.value.Value.TheVariants as value
use Rattle.asn_values.specs.Datum.{unicode}
use Rattle.asn_values.specs.Shape.{utf8_string}
use Rattle.asn_values.specs.Fits.{Fits, FitsLength}
use Rattle.asn_values.specs.View.{shape_of, datum_of, size_range_of}
use Rattle.asn_values.proofs.Views.{shape_of-Octets, shape_of-Utf8, datum_of-Octets}

pub octets_fit : (t : AsnType) (s : Size) (v : Vec ℕ Global) (n : ℕ) → t ≡ asn_type.Octets s → FitsLength (size_range_of s) n → length v.items ≡ n → AllByRecursion (λ o. o < 256) v.items → Fits (shape_of t) (datum_of (value.Octets v))
octets_fit t s v n e f l a = rw (e, shape_of-Octets, datum_of-Octets) (subst (FitsLength (size_range_of s)) (sym l) f, a)

datum_of-Utf8 : (s : String Global) → datum_of (value.Utf8 s) ≡ unicode (string_bytes s)
datum_of-Utf8 s = search (rules, values.the_lemmas)

pub text_fits : (t : AsnType) (s : String Global) → t ≡ asn_type.Utf8 → Fits utf8_string (unicode (string_bytes s)) → Fits (shape_of t) (datum_of (value.Utf8 s))
text_fits t s e f = rw (e, shape_of-Utf8, datum_of-Utf8) f
