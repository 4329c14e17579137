-- Octets that stand in hexadecimal behind other bytes.
use Rattle.std.specs.Prelude.{ℕ, zero, suc, ◌-◌, ◌*◌, List, [], ◌∷◌, ◌++◌, length, take, drop, Option, Some, None, Result, Ok, Err, bytes_eq, cond}
use Rattle.std.specs.Borrow.{GName}
use Rattle.hex.specs.Hex.{decode_of, encode_lower}
use Rattle.hex.specs.declared.error.FromHexError.{FromHexError}
use Rattle.asn_rules.specs.Faults.{inner_of}
use Rattle.asn_rules.specs.Held.{Held}
use Rattle.asn_rules.specs.declared.counting.Counted.{Counted}

-- a mark between bytes and octets: no octet
abbrev pub mark : ℕ
mark = 256

-- the bytes, the mark and the octets that have these digits, if they are in lower case
abbrev pub marked : List ℕ → List ℕ → Result (List ℕ) FromHexError → Option (List ℕ)
marked bytes digits (Ok octets) = cond (bytes_eq (encode_lower octets) digits) (Some (bytes ++ mark ∷ octets)) None
marked bytes digits (Err e) = None

-- the same where the digits are the last n of the bytes
abbrev pub marked_at : ℕ → List ℕ → Option (List ℕ)
marked_at n bytes =
    marked (take (length bytes - n) bytes) (drop (length bytes - n) bytes) (decode_of (drop (length bytes - n) bytes))

-- the second digit of an octet of which the first stands last
abbrev pub second_digit : Option ℕ → List ℕ
second_digit None = []
second_digit (Some octet) = drop 1 (encode_lower (octet ∷ []))

-- the octet of which so many digits of octets have the first alone
abbrev pub half_of : ℕ → List ℕ → Option ℕ
half_of zero octets = None
half_of n [] = None
half_of (suc zero) (octet ∷ octets) = Some octet
half_of (suc (suc n)) (octet ∷ octets) = half_of n octets

-- what bytes hold, of which the last are the digits of so many octets, the last of them perhaps with one digit alone
abbrev pub octets_in : ℕ → Option ℕ → List ℕ → Option (List ℕ)
octets_in zero (Some octet) bytes = None
octets_in count half bytes = marked_at (2 * count) (bytes ++ second_digit half)

abbrev pub octets_known : Option (List ℕ) → ℕ → Option ℕ → Option (List ℕ)
octets_known None count half = None
octets_known (Some bytes) count half = octets_in count half bytes

-- of a writer of hexadecimal before a writer
abbrev pub held_as_digits : {W : Type 0} → (W → Option (List ℕ)) → GName → Counted W → ℕ → Option ℕ → ℕ → Held
held_as_digits contents name output count half faults = record {
  octets = octets_known (contents (inner_of output)) count half;
  faults = faults;
  through = Some name;
}
