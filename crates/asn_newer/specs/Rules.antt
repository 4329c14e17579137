-- What PER and OER say of items that a type has not.
use Rattle.std.specs.Prelude.{◌≡◌, ◌≢◌, ◌-◌, ◌+◌, ◌^◌, ◌<◌, ◌≤◌, ◌⊎◌, ℕ, ℤ, pos, negsuc, List, ◌∷◌, ◌++◌, length, IsTrue, IsFalse}
use Rattle.std.specs.List.{AllByRecursion}
use Rattle.std.specs.Int.RustNames.{int_lt}
use Rattle.asn_values.specs.Shape.{Label}
use Rattle.asn_values.specs.Profile.{most_item_additions, most_alternatives, most_items, is_not_32_bits}
use Rattle.asn_bits.specs.Numbers.{bits}
use Rattle.asn_rules.specs.Components.{number_at}
use Rattle.asn_rules.specs.IntegerSets.{magnitude_of}
use Rattle.asn_oer.specs.Constructed.{tag_ended}
use Rattle.asn_oer.specs.Oer.{item_number}
use Rattle.asn_oer.specs.Walk.{oer_coding}
use Rattle.asn_per.specs.Per.{small}
use Rattle.asn_per.specs.Walk.{per_coding}
use Rattle.asn_newer.specs.Loose.{LooseCoding}

-- ---- PER: the index among the additions ("encoding the enumerated type")

-- past those of the type, and within the profile: some version of the type has as many additions as this index needs,
-- which with the items of the root are its items
pub record IsIndexToCome (root additions : List Label) (n : ℕ) : Type 0 where
  pub past : length additions ≤ n
  pub few : n < most_item_additions
  pub room : length root + n < most_items

abbrev pub IsUnknownIndex : List Label → List Label → ℤ → Type 0
IsUnknownIndex root additions (pos n) = IsIndexToCome root additions n
IsUnknownIndex root additions (negsuc n) = ⊥

unfoldable pub per_loose : LooseCoding
per_loose = record {
  coding = per_coding;
  IsUnknown = IsUnknownIndex;
  unknown_units = λ z. 1 ∷ small (magnitude_of z);
  told_number = λ root additions p. pos (p - length root);
}

-- a count of additions past the profile begins so: its normally small length is above 64
pub record IsCountPast (us : List ℕ) : Type 0 where
  pub rest : List ℕ
  pub split : us ≡ 1 ∷ rest

-- what normally small numbers from `most` on begin with, and none below: 0, and the number in 6 bits
pub record IsShortPast (most : ℕ) (us : List ℕ) : Type 0 where
  pub number : ℕ
  pub rest : List ℕ
  pub fits : number < 64
  pub past : most ≤ number
  pub split : us ≡ 0 ∷ (bits 6 number ++ rest)

-- 1, where those below all have that form
pub record IsEachLongPast (most : ℕ) (us : List ℕ) : Type 0 where
  pub rest : List ℕ
  pub past : most ≤ 64
  pub split : us ≡ 1 ∷ rest

-- else 1, and two octets, as one number: the length of the number in octets, and the first of these
pub record IsLongPast (most : ℕ) (us : List ℕ) : Type 0 where
  pub number : ℕ
  pub rest : List ℕ
  pub fits : number < 2 ^ 16
  pub some : 64 < most
  pub past : 256 + most ≤ number
  pub split : us ≡ 1 ∷ (bits 16 number ++ rest)

abbrev pub IsSmallPast : ℕ → List ℕ → Type 0
IsSmallPast most us = IsShortPast most us ⊎ (IsEachLongPast most us ⊎ IsLongPast most us)

-- an alternative past the profile: the extension bit, which is 1, and an index among the additions
pub record IsIndexPast (root : ℕ) (us : List ℕ) : Type 0 where
  pub index : List ℕ
  pub past : IsSmallPast (most_alternatives - root) index
  pub split : us ≡ 1 ∷ index

-- ---- OER: the number ("encoding of enumerated types")

-- above those of the additions, none of the root's, and within the profile
pub record IsUnknownNumber (root additions : List Label) (z : ℤ) : Type 0 where
  pub above : AllByRecursion (λ known. IsTrue (int_lt known.number z)) additions
  pub other : AllByRecursion (λ known. known.number ≢ z) root
  pub narrow : IsFalse (is_not_32_bits z)

unfoldable pub oer_loose : LooseCoding
oer_loose = record {
  coding = oer_coding;
  IsUnknown = IsUnknownNumber;
  unknown_units = item_number;
  told_number = λ root additions p. number_at (root ++ additions) p;
}

-- a count of additions past the profile begins so: its presence bits have more octets than those of 64 additions, in a
-- length of one octet, or in one that says of how many it is
pub record IsLengthPast (us : List ℕ) : Type 0 where
  pub length : ℕ
  pub rest : List ℕ
  pub past : 9 < length
  pub definite : length ≢ 128
  pub split : us ≡ length ∷ rest

-- what tags past the profile begin with, and no others: 191, and the tag as one octet of base 128
pub record IsShortTagPast (us : List ℕ) : Type 0 where
  pub tag : ℕ
  pub rest : List ℕ
  pub fits : tag < 128
  pub past : most_alternatives ≤ tag
  pub split : us ≡ 191 ∷ tag ∷ rest

-- or 191, and two octets of base 128: the first goes on with a digit that is not 0, and the second is the last, or goes
-- on as well and so is 128 or more
pub record IsLongTagPast (us : List ℕ) : Type 0 where
  pub first : ℕ
  pub second : ℕ
  pub rest : List ℕ
  pub goes_on : 128 < first
  pub past : most_alternatives ≤ tag_ended first second
  pub split : us ≡ 191 ∷ first ∷ second ∷ rest

-- however many alternatives are of the root, which tags count too
abbrev pub IsTagPast : ℕ → List ℕ → Type 0
IsTagPast root us = IsShortTagPast us ⊎ IsLongTagPast us
