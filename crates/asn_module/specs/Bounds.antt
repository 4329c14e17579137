-- The bounds that a constraint writes, and those of two constraints together (X.680, "value range", "size constraint").
use Rattle.std.specs.Prelude.{ℕ, ℤ, false, Option, Some, None, nat_lt, if◌then◌else◌, int_lt}
use Rattle.asn_values.specs.Shape.{Range, SizeRange}
use Rattle.asn_notation.specs.declared.notation.Limits.{Limits}
use Rattle.asn_notation.specs.declared.notation.Limits.TheVariants.{One, Between}
use Rattle.asn_notation.specs.declared.notation.RangeNotation.{RangeNotation}
use Rattle.asn_notation.specs.declared.notation.SizeNotation.{SizeNotation}
use Rattle.asn_notation.specs.declared.notation.SizeEnd.{SizeEnd}
use Rattle.asn_notation.specs.declared.notation.SizeEnd.TheVariants.{Same, To, ToMax}

-- ---- of an INTEGER

-- no bounds
abbrev pub any_range : Range
any_range = record { low = None; high = None; extensible = false }

abbrev pub low_limit : Limits → Option ℤ
low_limit (One z) = Some z
low_limit (Between low high) = low

abbrev pub high_limit : Limits → Option ℤ
high_limit (One z) = Some z
high_limit (Between low high) = high

abbrev pub range_meant : RangeNotation → Range
range_meant r = record { low = low_limit r.limits; high = high_limit r.limits; extensible = r.marked }

abbrev pub greater : Option ℤ → Option ℤ → Option ℤ
greater None b = b
greater (Some x) None = Some x
greater (Some x) (Some y) = if int_lt x y then Some y else Some x

abbrev pub lesser : Option ℤ → Option ℤ → Option ℤ
lesser None b = b
lesser (Some x) None = Some x
lesser (Some x) (Some y) = if int_lt x y then Some x else Some y

-- the bounds that both allow; the mark is that of the second
abbrev pub ranges_meet : Range → Range → Range
ranges_meet a b = record { low = greater a.low b.low; high = lesser a.high b.high; extensible = b.extensible }

-- ---- of a length

-- no bounds
abbrev pub any_size : SizeRange
any_size = record { low = 0; high = None; extensible = false }

-- a bound above 2 ^ 28 - 1 is none of the profile, whichever it is; 2 ^ 28 stands for them all
abbrev pub size_bound : ℕ → ℕ
size_bound n = if nat_lt 268435455 n then 268435456 else n

abbrev pub high_size : ℕ → SizeEnd → Option ℕ
high_size low Same = Some (size_bound low)
high_size low (To n) = Some (size_bound n)
high_size low ToMax = None

abbrev pub size_meant : SizeNotation → SizeRange
size_meant s = record { low = size_bound s.low; high = high_size s.low s.high; extensible = s.marked }

abbrev pub lesser_size : Option ℕ → Option ℕ → Option ℕ
lesser_size None b = b
lesser_size (Some x) None = Some x
lesser_size (Some x) (Some y) = if nat_lt x y then Some x else Some y

abbrev pub sizes_meet : SizeRange → SizeRange → SizeRange
sizes_meet a b =
    record {
      low = if nat_lt a.low b.low then b.low else a.low;
      high = lesser_size a.high b.high;
      extensible = b.extensible;
    }
