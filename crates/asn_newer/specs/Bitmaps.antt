-- Presence bitmaps of extension additions, of any count.
use Rattle.std.specs.Prelude.{◌≡◌, ◌+◌, ◌⊎◌, ◌++◌, ℕ, Bool, false, List, [], ◌∷◌}
use Rattle.asn_bits.specs.Numbers.{bits}
use Rattle.asn_bits.specs.Sink.{bit_of}
use Rattle.asn_rules.specs.Languages.{Spells}
use Rattle.asn_walk.specs.Coding.{Coding, fields_of_rules}
use Rattle.asn_walk.specs.declared.presence.PresenceBits.{PresenceBits}
use Rattle.asn_newer.specs.Loose.{AnyBitmap}

-- how many there are, and the bits as a number
abbrev pub bitmap_seen : PresenceBits → ℕ × ℕ
bitmap_seen p = (p.left, p.bitmap)

-- no presence bitmap of n additions stands at the front
abbrev pub NotOfCount : Coding → ℕ → List ℕ → Type 0
NotOfCount c n us = (bitmap : ℕ) (rest : List ℕ) → Spells (fields_of_rules c) (AnyBitmap c) (n, bitmap) us rest → ⊥

-- none stands there, and unless it may still follow none will, whatever follows the units
pub record NoneOfCount (c : Coding) (n : ℕ) (us : List ℕ) (may_follow : Bool) : Type 0 where
  pub none : NotOfCount c n us
  pub never : may_follow ≡ false → (after : List ℕ) → NotOfCount c n (us ++ after)

-- the presence bits that are left
abbrev pub bits_left : PresenceBits → List ℕ
bits_left p = bits p.left p.bitmap

-- the next one is taken, or none is left
pub record NextBit (old new : PresenceBits) (bit : Bool) : Type 0 where
  pub next :
      ((bits_left old ≡ []) × (bits_left new ≡ []) × (bit ≡ false)) ⊎ (bits_left old ≡ bit_of bit ∷ bits_left new)
  pub count : (old.left ≡ 0) × (new.left ≡ 0) ⊎ (new.left + 1 ≡ old.left)
