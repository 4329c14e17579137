-- What is said of a type that is refused, and of a text with a fault, in words.
use Rattle.std.specs.Prelude.{◌++◌, ℕ, List, codes}
use Rattle.std.specs.Fmt.{decimal}
use Rattle.asn_published_text.specs.declared.refusal.Why.{Why}
use Rattle.asn_published_text.specs.declared.refusal.Why.TheVariants as why
use Rattle.asn_published_text.specs.declared.wrong.Wrong.{Wrong}
use Rattle.asn_published_text.specs.declared.wrong.Wrong.TheVariants as wrong

-- why there is no type
abbrev pub reason_of : Why → List ℕ
reason_of why.Unknown = codes "a name that is not assigned"
reason_of why.NotGiven = codes "a name of a module that is not given"
reason_of why.ImportedTwice = codes "a name that is imported from two modules"
reason_of why.NoType = codes "a name that stands for no type"
reason_of why.Parameter = codes "a parameter in the place of a type or a number"
reason_of why.Endless = codes "parameters that expand without end"
reason_of (why.Expanded most) =
    codes "parameters that expand to more than " ++ (decimal most ++ codes " nodes")
reason_of why.ClassField = codes "a field of a class that is not understood"
reason_of why.Recursive = codes "recursion"
reason_of why.Holds = codes "a type that is refused"
reason_of (why.Kind what) = what.now ++ codes " is no type of the profile"
reason_of why.SetOf = codes "elements of SET OF have an order of their own"
reason_of why.Alphabet = codes "characters with codes of their own"
reason_of why.Bounds = codes "numbers outside 64 bits"
reason_of why.Empty = codes "no number is left"
reason_of why.Size = codes "a size that is not read"
reason_of why.UselessMark = codes "a mark on what is every value already"
reason_of why.Value = codes "a value that is not understood"
reason_of why.Constraint = codes "a constraint that is not understood"
reason_of why.Misplaced = codes "a constraint that may not stand on this type"
reason_of why.Ranges = codes "more than 256 ranges"
reason_of why.Items = codes "items that are not understood"
reason_of why.Tags = codes "tags that are not understood"
reason_of (why.TooMany what count most) =
    decimal count ++ (codes " " ++ (what.now ++ (codes ", more than " ++ decimal most)))
reason_of why.TagTaken = codes "a tag that is taken"
reason_of why.NameTaken = codes "a name that is taken"
reason_of why.NumberTaken = codes "a number that is taken"
reason_of why.ItemNumber = codes "a number of an item outside 32 bits"
reason_of why.NoRoot = codes "nothing before the extension mark"
reason_of why.ZeroWidth = codes "elements that take no bits"
reason_of why.NotOfProfile = codes "the profile does not take it"
reason_of why.NotTheSame = codes "not the same"

-- what is wrong in a text
abbrev pub wrong_words : Wrong → List ℕ
wrong_words wrong.Character = codes "no lexical item begins here"
wrong_words wrong.Unended = codes "a comment or string without end"
wrong_words wrong.LongName = codes "a name of more than 1000 characters"
wrong_words wrong.Bracket = codes "a bracket without its other"
wrong_words (wrong.Expected what) = what.now ++ codes " expected"
wrong_words wrong.Twice = codes "assigned twice"
wrong_words wrong.ModuleTwice = codes "a module that is given twice"
