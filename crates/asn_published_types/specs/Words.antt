-- What is said of a component in words.
use Rattle.std.specs.Prelude.{◌++◌, ℕ, List, codes}
use Rattle.asn_published_text.specs.Words.{reason_of}
use Rattle.asn_published_types.specs.Statuses.{word_of}
use Rattle.asn_published_types.specs.declared.report.Remark.{Remark}
use Rattle.asn_published_types.specs.declared.report.Remark.TheVariants as remark

-- what is to be said
abbrev pub words_of : Remark → List ℕ
words_of remark.Gap = codes "numbers between the ranges are taken too"
words_of remark.Dropped = codes "a constraint is not looked at"
words_of remark.Default = codes "the default may be written out"
words_of remark.SizeToMax = codes "sizes have no highest"
words_of remark.Characters = codes "other characters are taken too"
words_of remark.Contents = codes "contents"
words_of remark.OpenType = codes "the value of the open type is not looked at"
words_of (remark.Content what) = codes "the " ++ (what.now ++ codes " is not looked at")
words_of remark.Real = codes "the REAL is not looked at, and OER may have no length"
words_of remark.TrimmedBits = codes "last zeros of named bits: the writer trims them"
words_of remark.LeftOut =
    codes "an addition that is not OPTIONAL may be absent before another: the writer gives it"
words_of remark.Unbounded = codes "numbers below -2^63 and above 2^64 - 1 are refused"
words_of remark.OerTags = codes "OER tells the alternatives apart by other tags"
words_of remark.OerItems = codes "OER writes other numbers for additional items"
words_of remark.Level = codes "recursion ends after the levels that are asked for"
words_of (remark.Holds s) = codes "holds a type that is " ++ word_of s
words_of (remark.Refused reason) = reason_of reason
