-- The grammar: what a tree is written as, an equation for each alternative of a production.
use Rattle.std.specs.Prelude.{ℕ, suc, ℤ, pos, negsuc, Bool, true, false, List, [], ◌∷◌, ◌++◌, Option, Some, None}
use Rattle.asn_notation.specs.declared.token.Word.TheVariants as words
use Rattle.asn_notation.specs.declared.token.Sign.TheVariants as signs
use Rattle.asn_notation.specs.declared.notation.Limits.{Limits}
use Rattle.asn_notation.specs.declared.notation.Limits.TheVariants.{One, Between}
use Rattle.asn_notation.specs.declared.notation.RangeNotation.{RangeNotation}
use Rattle.asn_notation.specs.declared.notation.SizeNotation.{SizeNotation}
use Rattle.asn_notation.specs.declared.notation.SizeEnd.{SizeEnd}
use Rattle.asn_notation.specs.declared.notation.SizeEnd.TheVariants.{Same, To, ToMax}
use Rattle.asn_notation.specs.declared.notation.ListSize.{ListSize}
use Rattle.asn_notation.specs.declared.notation.ListSize.TheVariants as list_size
use Rattle.asn_notation.specs.declared.notation.Constraint.{Constraint}
use Rattle.asn_notation.specs.declared.notation.Constraint.TheVariants as constraint
use Rattle.asn_notation.specs.declared.notation.StringKind.{StringKind}
use Rattle.asn_notation.specs.declared.notation.StringKind.TheVariants as string_kind
use Rattle.asn_notation.specs.Token.{Token, identifier, name, word, number, negative, sign}
use Rattle.asn_notation.specs.Tree as t
use Rattle.asn_notation.specs.Tree.{Tree, Components, More, Alternatives, MoreAlternatives, Item, Default, Need}
use Rattle.asn_notation.specs.Tree.{Assignment, ModuleTree}

abbrev pub Text : Type 0
Text = List Token

abbrev pub comma : Token
comma = sign signs.Comma

abbrev pub left : Token
left = sign signs.LeftParen

abbrev pub right : Token
right = sign signs.RightParen

abbrev pub open_brace : Token
open_brace = sign signs.LeftBrace

abbrev pub close_brace : Token
close_brace = sign signs.RightBrace

abbrev pub dots : Token
dots = sign signs.Dots

abbrev pub up_to : Token
up_to = sign signs.UpTo

abbrev pub becomes : Token
becomes = sign signs.Becomes

-- Int = number | negative number
abbrev pub int : ℤ → Text
int (pos n) = number n ∷ []
int (negsuc n) = negative (suc n) ∷ []

-- ["," "..."]
abbrev pub mark : Bool → Text
mark false = []
mark true = comma ∷ dots ∷ []

-- Low [".." High]
abbrev pub low_end : Option ℤ → Text
low_end None = word words.Min ∷ []
low_end (Some z) = int z

abbrev pub high_end : Option ℤ → Text
high_end None = word words.Max ∷ []
high_end (Some z) = int z

abbrev pub limits : Limits → Text
limits (One z) = int z
limits (Between low high) = low_end low ++ up_to ∷ high_end high

-- Range
abbrev pub range : RangeNotation → Text
range r = left ∷ (limits r.limits ++ mark r.marked) ++ right ∷ []

-- [".." (number | MAX)]
abbrev pub size_end : SizeEnd → Text
size_end Same = []
size_end (To n) = up_to ∷ number n ∷ []
size_end ToMax = up_to ∷ word words.Max ∷ []

-- Size
abbrev pub size : SizeNotation → Text
size s = word words.Size ∷ left ∷ number s.low ∷ (size_end s.high ++ mark s.marked) ++ right ∷ []

-- SizeCon
abbrev pub size_con : SizeNotation → Text
size_con s = left ∷ size s ++ right ∷ []

abbrev pub maybe : {A : Type 0} → (A → Text) → Option A → Text
maybe f None = []
maybe f (Some x) = f x

-- [SizeCon | Size]
abbrev pub list_sized : ListSize → Text
list_sized list_size.Any = []
list_sized (list_size.Bare s) = size s
list_sized (list_size.Bracketed s) = size_con s

-- [Range | SizeCon]
abbrev pub constrained : Constraint → Text
constrained constraint.None = []
constrained (constraint.Range r) = range r
constrained (constraint.Size s) = size_con s

-- Item
abbrev pub item : Item → Text
item i = identifier i.name ∷ maybe (λ z. left ∷ int z ++ right ∷ []) i.number

-- X,+ as a list: each after a comma, and the first without
abbrev pub each_after_comma : {A : Type 0} → (A → Text) → List A → Text
each_after_comma f [] = []
each_after_comma f (x ∷ xs) = comma ∷ f x ++ each_after_comma f xs

abbrev pub with_commas : {A : Type 0} → (A → Text) → List A → Text
with_commas f [] = []
with_commas f (x ∷ xs) = f x ++ each_after_comma f xs

-- ["," "..." ["," X,+]]
abbrev pub additions : {A : Type 0} → (A → Text) → Option (List A) → Text
additions f None = []
additions f (Some xs) = comma ∷ dots ∷ each_after_comma f xs

-- Default
abbrev pub default : Default → Text
default (t.truth true) = word words.True ∷ []
default (t.truth false) = word words.False ∷ []
default (t.number z) = int z
default (t.item s) = identifier s ∷ []

-- [OPTIONAL | DEFAULT Default]
abbrev pub need : Need → Text
need t.must = []
need t.optional = word words.Optional ∷ []
need (t.default d) = word words.Default ∷ default d

-- the words with which a string type begins
abbrev pub string_words : StringKind → Text
string_words string_kind.Bits = word words.Bit ∷ word words.String ∷ []
string_words string_kind.Octets = word words.Octet ∷ word words.String ∷ []
string_words string_kind.Ia5 = word words.Ia5String ∷ []
string_words string_kind.Numeric = word words.NumericString ∷ []
string_words string_kind.Visible = word words.VisibleString ∷ []

-- the comma between the root of a Body and its "..."
abbrev pub separator : Components → More → Text
separator t.no_components more = []
separator (t.component n ty nd cs) t.closed = []
separator (t.component n ty nd cs) (t.marked more) = comma ∷ []

-- Type
unfoldable mutual
  pub written : Tree → Text
  written t.boolean = word words.Boolean ∷ []
  written t.null = word words.Null ∷ []
  written t.utf8 = word words.Utf8String ∷ []
  written (t.integer r) = word words.Integer ∷ maybe range r
  written (t.enumerated root more) =
      word words.Enumerated ∷ open_brace ∷ (with_commas item root ++ additions item more) ++ close_brace ∷ []
  written (t.text kind s) = string_words kind ++ maybe size_con s
  written (t.sequence root more) =
      word words.Sequence ∷ open_brace ∷ (components root ++ separator root more ++ extension more) ++ close_brace ∷ []
  written (t.sequence_of s element) = word words.Sequence ∷ list_sized s ++ word words.Of ∷ written element
  written (t.choice root more) =
      word words.Choice ∷ open_brace ∷ (alternatives root ++ more_alternatives more) ++ close_brace ∷ []
  written (t.reference n c) = name n ∷ constrained c

  -- Comp,+
  pub components : Components → Text
  components t.no_components = []
  components (t.component n ty nd cs) = (identifier n ∷ written ty ++ need nd) ++ following_components cs

  -- each component after a comma
  pub following_components : Components → Text
  following_components t.no_components = []
  following_components (t.component n ty nd cs) =
      comma ∷ (identifier n ∷ written ty ++ need nd) ++ following_components cs

  -- "..." ["," Comp,+]
  pub extension : More → Text
  extension t.closed = []
  extension (t.marked cs) = dots ∷ following_components cs

  -- Alt,+
  pub alternatives : Alternatives → Text
  alternatives t.no_alternatives = []
  alternatives (t.alternative n ty xs) = (identifier n ∷ written ty) ++ following_alternatives xs

  -- each alternative after a comma
  pub following_alternatives : Alternatives → Text
  following_alternatives t.no_alternatives = []
  following_alternatives (t.alternative n ty xs) = comma ∷ (identifier n ∷ written ty) ++ following_alternatives xs

  -- ["," "..." ["," Alt,+]]
  pub more_alternatives : MoreAlternatives → Text
  more_alternatives t.closed_choice = []
  more_alternatives (t.marked_choice xs) = comma ∷ dots ∷ following_alternatives xs

-- Assignment
abbrev pub assignment : Assignment → Text
assignment a = name a.name ∷ becomes ∷ written a.tree

-- Assignment*
abbrev pub assignments : List Assignment → Text
assignments [] = []
assignments (a ∷ xs) = assignment a ++ assignments xs

-- what stands before the assignments of a Module
abbrev pub heading : List ℕ → Text
heading n = name n ∷ word words.Definitions ∷ word words.Automatic ∷ word words.Tags ∷ becomes ∷ word words.Begin ∷ []

-- Module
abbrev pub module_written : ModuleTree → Text
module_written m = heading m.name ++ assignments m.assignments ++ word words.End ∷ []
