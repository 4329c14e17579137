-- A length and what it counts are a code, so sealed fields in octets are told by their units.
use Rattle.std.proofs.Common.{◌≡◌, ◌<◌, ℕ, Bool, true, false, List, ◌++◌, length, refl, sym, ◌∙◌, ap, arith, append_assoc, nat_lt, length-append}
use Rattle.asn_bits.specs.Lengths.{octet_length}
use Rattle.asn_bits.proofs.Codes.{equal_fronts}
use Rattle.asn_bits.proofs.LengthsInOctets.{length_code}
use Rattle.asn_rules.specs.Fields.{spelled, octet_fields}
use Rattle.asn_rules.proofs.Live.Chunks.{FieldsPart}
use Rattle.asn_rules.proofs.Law.PartingFields.{fields_part}

-- a length and its content, of any content
pub spelled_code : (c d r s : List ℕ) → spelled c ++ r ≡ spelled d ++ s → (c ≡ d) × (r ≡ s)
spelled_code c d r s e =
    let w = length_code (length c) (length d) (c ++ r) (d ++ s) (sym (append_assoc (octet_length (length c)) c r) ∙ e ∙ append_assoc (octet_length (length d)) d s) in
    equal_fronts c d r s w.0 w.1

-- a length has at least one octet
some_length : (n : ℕ) → 0 < length (octet_length n)
some_length n = go (nat_lt n 128) refl
  where
    go : (b : Bool) → nat_lt n 128 ≡ b → 0 < length (octet_length n)
    go true e = rw (e, octet_length) (omega arith)
    go false e = rw (e, octet_length) (omega arith)

-- a field has at least one octet
pub some_octets : (c : List ℕ) → 0 < length (spelled c)
some_octets c = omega (arith, length-append (octet_length (length c)) c, some_length (length c))

-- fields are told by their units, whatever was read of them
pub octet_fields_part : FieldsPart octet_fields
octet_fields_part = fields_part octet_fields (λ c d s t p q e. (spelled_code c d s t e).0) (λ c e. omega (arith, some_octets c, ap length e))
