-- What a remark makes of its type, and how far a status is from the same.
use Rattle.std.specs.Prelude.{ℕ, Bool, true, false, List, codes}
use Rattle.asn_published_types.specs.declared.report.Status.{Status}
use Rattle.asn_published_types.specs.declared.report.Status.TheVariants as status
use Rattle.asn_published_types.specs.declared.report.Remark.{Remark}
use Rattle.asn_published_types.specs.declared.report.Remark.TheVariants as remark

abbrev pub status_of : Remark → Status
-- the octets that are encodings are known
status_of remark.Contents = status.Same
-- others are taken too
status_of remark.Gap = status.Wider
status_of remark.Dropped = status.Wider
status_of remark.Default = status.Wider
status_of remark.SizeToMax = status.Wider
status_of remark.Characters = status.Wider
status_of remark.OpenType = status.Wider
status_of remark.Level = status.Wider
status_of (remark.Content what) = status.Wider
-- numbers are refused
status_of remark.Unbounded = status.Narrower
-- the writer keeps a rule
status_of remark.TrimmedBits = status.Owed
status_of remark.LeftOut = status.Owed
-- OER has other encodings
status_of remark.OerTags = status.PerOnly
status_of remark.OerItems = status.PerOnly
status_of remark.Real = status.PerOnly
status_of (remark.Holds s) = s
status_of (remark.Refused why) = status.Refused

abbrev pub distance : Status → ℕ
distance status.Same = 0
distance status.Narrower = 1
distance status.Wider = 2
distance status.Owed = 3
distance status.PerOnly = 4
distance status.Refused = 5

abbrev pub is_same : Status → Bool
is_same status.Same = true
is_same _ = false

-- the word for a status
abbrev pub word_of : Status → List ℕ
word_of status.Same = codes "same"
word_of status.Narrower = codes "narrower"
word_of status.Wider = codes "wider"
word_of status.Owed = codes "owed"
word_of status.PerOnly = codes "per only"
word_of status.Refused = codes "refused"
