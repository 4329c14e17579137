-- Which text a fault is one of.
use Rattle.std.specs.Prelude.{ℕ, ⊤, ◌<◌}
use Rattle.asn_published_read.specs.declared.texts.Misread.{Misread}
use Rattle.asn_published_read.specs.declared.texts.Misread.TheVariants as misread

-- a fault of a text is one of so many texts, counted from 0
abbrev pub IsOneOf : ℕ → Misread → Type 0
IsOneOf texts (misread.Text text line wrong) = text < texts
IsOneOf texts misread.Memory = ⊤
