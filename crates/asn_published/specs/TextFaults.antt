-- Which text a fault is one of.
use Rattle.std.specs.Prelude.{ℕ, ⊤, ◌<◌}
use Rattle.asn_published.specs.declared.fault.PublishedFault.{PublishedFault}
use Rattle.asn_published.specs.declared.fault.PublishedFault.TheVariants as fault

-- a fault of a text is one of so many texts, counted from 0; of 0 texts there is none
abbrev pub IsOneOf : ℕ → PublishedFault → Type 0
IsOneOf texts (fault.Text text line w) = text < texts
IsOneOf texts (fault.Unread why) = ⊤
IsOneOf texts (fault.TooLarge most name) = ⊤
IsOneOf texts fault.Memory = ⊤
