-- Where a reader of a general length stands: which form its first bits tell, and the number so far.
use Rattle.std.specs.Prelude.{◌≡◌, ◌+◌, ◌-◌, ◌*◌, ◌^◌, ◌<◌, ◌≤◌, ℕ, Option, Some, None, List, [], ◌∷◌, ◌++◌, ⊤}
use Rattle.asn_bits.specs.Numbers.{bits}
use Rattle.asn_bits.specs.LengthBits.{CountsLeft, StartsSome}
use Rattle.asn_bits.specs.declared.general_length.Counts.{Counts}
use Rattle.asn_bits.specs.declared.general_length.Form.{Form}
use Rattle.asn_bits.specs.declared.general_length.Form.TheVariants as form
use Rattle.asn_bits.specs.declared.general_length.LengthState.{LengthState}
use Rattle.asn_bits.specs.declared.general_length.LengthState.TheVariants as place

-- a union of one or two intervals
abbrev pub spans : Counts → Option Counts → List (ℕ × Option ℕ)
spans first None = (first.low, Some first.high) ∷ []
spans first (Some second) = (first.low, Some first.high) ∷ (second.low, Some second.high) ∷ []

-- the bits that tell the form
abbrev pub form_bits : Form → List ℕ
form_bits form.Short = 0 ∷ []
form_bits form.Long = 1 ∷ 0 ∷ []
form_bits form.Fragment = 1 ∷ 1 ∷ []

-- how many bits the number after them has
abbrev pub form_width : Form → ℕ
form_width form.Short = 7
form_width form.Long = 14
form_width form.Fragment = 6

-- how many items follow it
abbrev pub form_items : Form → ℕ → ℕ
form_items form.Short n = n
form_items form.Long n = n
form_items form.Fragment m = 16384 * m

-- the bits given of the length
abbrev pub state_bits : LengthState → List ℕ
state_bits place.Start = []
state_bits place.FirstBitSet = 1 ∷ []
state_bits (place.Number f p left) = form_bits f ++ bits (form_width f - left) p

-- all bits of the length are given
abbrev pub IsWhole : LengthState → Type 0
IsWhole place.Start = ⊥
IsWhole place.FirstBitSet = ⊥
IsWhole (place.Number f p left) = left ≡ 0

-- not more bits than the form has
abbrev pub IsLengthState : LengthState → Type 0
IsLengthState place.Start = ⊤
IsLengthState place.FirstBitSet = ⊤
IsLengthState (place.Number f p left) = (left ≤ form_width f) × (p < 2 ^ (form_width f - left))

-- after a whole length: how many items follow it, how many blocks have been read with them, and where the reader stands
abbrev pub AfterLength : ℕ → Form → ℕ → ℕ × ℕ × LengthState → Type 0
AfterLength blocks form.Short p x = (x.0 ≡ p) × (x.1 ≡ blocks) × (x.2 ≡ place.Number form.Short p 0)
AfterLength blocks form.Long p x = (x.0 ≡ p) × (x.1 ≡ blocks) × (x.2 ≡ place.Number form.Long p 0)
AfterLength blocks form.Fragment p x = (x.0 ≡ 16384 * p) × (x.1 ≡ blocks + p) × (x.2 ≡ place.Start)

-- where the reader of the lengths of a list stands: some count of the set goes on so, and no fragment waits for its end
pub record IsReading (counts : List (ℕ × Option ℕ)) (blocks : ℕ) (p : LengthState) : Type 0 where
  pub fits : IsLengthState p
  pub live : StartsSome (CountsLeft counts blocks) (state_bits p)
  pub moved : (n : ℕ) → p ≡ place.Number form.Fragment n 0 → ⊥
