-- Numbers that are told by one field of bits: the index of a CHOICE, and the count of a SEQUENCE OF.
use Rattle.std.specs.Prelude.{◌≡◌, ◌+◌, ◌≤◌, ◌<◌, ◌++◌, ℕ, suc, List, Option, Some, IfSome, is_some}
use Rattle.asn_values.specs.Fits.{FitsLength}
use Rattle.asn_values.specs.Shape.{SizeRange}
use Rattle.asn_bits.specs.Numbers.{bits, width}
use Rattle.asn_bits.specs.Sink.{bit_of}
use Rattle.asn_rules.specs.Languages.{Spells}
use Rattle.asn_walk.specs.Ahead.{Ahead, end, Next}
use Rattle.asn_walk.specs.Coding.{Coding}
use Rattle.asn_plan.specs.declared.field.BitField.{BitField}
use Rattle.asn_plan.specs.declared.field.BitFields.{BitFields}

-- the field tells the number, and these bits stand after it
pub record IsTold (f : BitField) (n : ℕ) (us vs : List ℕ) : Type 0 where
  pub above : ℕ
  pub few : above ≤ f.most
  pub is : n ≡ f.low + above
  pub split : us ≡ bits f.bits (f.first + above) ++ vs

-- ---- CHOICE

-- indexes of a root of this many, of a CHOICE with this many extension additions, in as few bits as tell them apart, after
-- the extension bit 0 ("constrained whole number")
pub record IsIndexInBits (f : BitField) (root : ℕ) (more : Option ℕ) : Type 0 where
  pub first : f.first ≡ 0
  pub low : f.low ≡ 0
  pub most : f.most < root
  pub bits : f.bits ≡ bit_of (is_some more) + width root

-- those whose tag is one octet ("encoding of tags")
pub record IsIndexInOctets (f : BitField) (root : ℕ) : Type 0 where
  pub first : f.first ≡ 128
  pub low : f.low ≡ 0
  pub most : f.most < root
  pub short : f.most < 63
  pub bits : f.bits ≡ 8

-- so are the fields of which there are any
pub record AreIndexFields (fs : BitFields) (root : ℕ) (more : Option ℕ) : Type 0 where
  pub in_bits : IfSome fs.in_bits (λ f. IsIndexInBits f root more)
  pub in_octets : IfSome fs.in_octets (λ f. IsIndexInOctets f root)

-- ---- SEQUENCE OF

-- counts between the two bounds of a size, the high one below 65,536, in as few bits as tell them apart, after the
-- extension bit 0 ("length determinant")
pub record IsCountInBits (f : BitField) (s : SizeRange) : Type 0 where
  pub first : f.first ≡ 0
  pub low : f.low ≡ s.low
  pub high : s.high ≡ Some (f.low + f.most)
  pub few : f.low + f.most < 65536
  pub bits : f.bits ≡ bit_of s.extensible + width (suc f.most)

-- counts of a size whose quantity is one octet after its length ("encoding of sequence-of types")
pub record IsCountInOctets (f : BitField) (s : SizeRange) : Type 0 where
  pub first : f.first ≡ 256 + f.low
  pub few : f.low + f.most < 256
  pub fits : (n : ℕ) → f.low ≤ n → n ≤ f.low + f.most → FitsLength s n
  pub bits : f.bits ≡ 16

-- so are the fields of which there are any
pub record AreCountFields (fs : BitFields) (s : SizeRange) : Type 0 where
  pub in_bits : IfSome fs.in_bits (λ f. IsCountInBits f s)
  pub in_octets : IfSome fs.in_octets (λ f. IsCountInOctets f s)

-- what stands before this many elements of a list under a size, after which no others follow
pub record BeginsList (c : Coding) (s : SizeRange) (n : ℕ) (us vs : List ℕ) : Type 0 where
  pub ahead : Ahead
  pub between : List ℕ
  pub start : Spells c.ruling.fielding (c.list_start s) ahead us between
  pub next : Next c.ruling.fielding ahead (Some n) end between vs
