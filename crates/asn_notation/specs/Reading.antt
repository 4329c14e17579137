-- Reading tokens from left to right: what is read, and the tokens after it; None where no text goes on so.
use Rattle.std.specs.Prelude.{◌≡◌, ℕ, zero, suc, ◌+◌, ◌^◌, ◌<◌, ℤ, pos, neg_ℤ, Bool, true, false, not, ◌&&◌, List, [], ◌∷◌}
use Rattle.std.specs.Prelude.{◌++◌, length, drop, Option, Some, None, Result, MatchResult, nat_lt, nat_le}
use Rattle.std.specs.Prelude.{if◌then◌else◌, IfOk}
use Rattle.asn_limits.specs.Limits.{highest_number, offset_of_zero}
use Rattle.std.specs.Borrow.{Bor}
use denote.Enum.Bare.{sameb}
use Rattle.asn_notation.specs.declared.token.Word.{Word}
use Rattle.asn_notation.specs.declared.token.Word.TheVariants as words
use Rattle.asn_notation.specs.contracts.token.Word as word_type
use Rattle.asn_notation.specs.declared.token.Sign.{Sign}
use Rattle.asn_notation.specs.declared.token.Sign.TheVariants as signs
use Rattle.asn_notation.specs.contracts.token.Sign as sign_type
use Rattle.asn_notation.specs.declared.notation.Limits.{Limits}
use Rattle.asn_notation.specs.declared.notation.Limits.TheVariants.{One, Between}
use Rattle.asn_notation.specs.declared.notation.RangeNotation.{RangeNotation}
use Rattle.asn_notation.specs.declared.notation.SizeNotation.{SizeNotation}
use Rattle.asn_notation.specs.declared.notation.SizeEnd.{SizeEnd}
use Rattle.asn_notation.specs.declared.notation.SizeEnd.TheVariants.{Same, To, ToMax}
use Rattle.asn_notation.specs.declared.notation.ListSize.{ListSize}
use Rattle.asn_notation.specs.declared.notation.ListSize.TheVariants as list_size
use Rattle.asn_notation.specs.declared.notation.Constraint.{Constraint}
use Rattle.asn_notation.specs.declared.notation.Constraint.TheVariants as constraint
use Rattle.asn_notation.specs.declared.notation.StringKind.{StringKind}
use Rattle.asn_notation.specs.declared.notation.StringKind.TheVariants as string_kind
use Rattle.asn_notation.specs.declared.fault.SyntaxFault.{SyntaxFault}
use Rattle.asn_notation.specs.declared.fault.SyntaxFault.TheVariants.{Memory}
use Rattle.asn_notation.specs.Token.{Token, identifier, name, word, out_of_profile, number, negative, too_large, sign}
use Rattle.asn_notation.specs.Token.{illegal}
use Rattle.asn_notation.specs.Lexing.{lexed}
use Rattle.asn_notation.specs.Tree as t
use Rattle.asn_notation.specs.Tree.{Tree, Item, Default, Need, Part, Branch, Assignment, ModuleTree, components_of}
use Rattle.asn_notation.specs.Tree.{more_of, alternatives_of, more_alternatives_of}

infixl 10 ◌>>=◌
abbrev pub ◌>>=◌ : {A B : Type 0} → Option A → (A → Option B) → Option B
None >>= f = None
(Some x) >>= f = f x

abbrev pub Read : Type 0 → Type 0
Read A = List Token → Option (A × List Token)

-- ---- how a result of the program stands to what is read

-- the result is what reading gives, seen through f, unless memory ran out
abbrev pub Gives : {A B : Type 0} → (A → B) → Result A SyntaxFault → Option B → Type 0
Gives f r expected = MatchResult r (λ a. expected ≡ Some (f a)) (λ e. (e ≡ Memory → ⊥) → expected ≡ None)

abbrev pub Reads : {A B : Type 0} → (A → B) → Result (A × Bor (List ℕ)) SyntaxFault → Option (B × List Token) → Type 0
Reads f r expected = Gives (λ p. (f p.0, lexed p.1.now)) r expected

-- fewer tokens are left
abbrev pub Shortens : {A : Type 0} → List ℕ → Result (A × Bor (List ℕ)) SyntaxFault → Type 0
Shortens text r = IfOk r (λ p. length (lexed p.1.now) < length (lexed text))

-- ---- single tokens

unfoldable pub begins_sign : Sign → List Token → Bool
begins_sign s [] = false
begins_sign s (identifier x ∷ ts) = false
begins_sign s (name x ∷ ts) = false
begins_sign s (word w ∷ ts) = false
begins_sign s (out_of_profile ∷ ts) = false
begins_sign s (number n ∷ ts) = false
begins_sign s (negative n ∷ ts) = false
begins_sign s (too_large ∷ ts) = false
begins_sign s (illegal ∷ ts) = false
begins_sign s (sign u ∷ ts) = sameb sign_type.the_type u s

unfoldable pub begins_word : Word → List Token → Bool
begins_word w [] = false
begins_word w (identifier x ∷ ts) = false
begins_word w (name x ∷ ts) = false
begins_word w (word v ∷ ts) = sameb word_type.the_type v w
begins_word w (out_of_profile ∷ ts) = false
begins_word w (number n ∷ ts) = false
begins_word w (negative n ∷ ts) = false
begins_word w (too_large ∷ ts) = false
begins_word w (illegal ∷ ts) = false
begins_word w (sign u ∷ ts) = false

unfoldable pub after_sign : Sign → List Token → Option (List Token)
after_sign s ts = if begins_sign s ts then Some (drop 1 ts) else None

unfoldable pub after_word : Word → List Token → Option (List Token)
after_word w ts = if begins_word w ts then Some (drop 1 ts) else None

unfoldable pub identifier_at : Read (List ℕ)
identifier_at [] = None
identifier_at (identifier x ∷ ts) = Some (x, ts)
identifier_at (name x ∷ ts) = None
identifier_at (word v ∷ ts) = None
identifier_at (out_of_profile ∷ ts) = None
identifier_at (number n ∷ ts) = None
identifier_at (negative n ∷ ts) = None
identifier_at (too_large ∷ ts) = None
identifier_at (illegal ∷ ts) = None
identifier_at (sign u ∷ ts) = None

-- number, up to the profile's largest integer
unfoldable pub number_at : Read ℕ
number_at [] = None
number_at (identifier x ∷ ts) = None
number_at (name x ∷ ts) = None
number_at (word v ∷ ts) = None
number_at (out_of_profile ∷ ts) = None
number_at (number n ∷ ts) = if nat_lt n (highest_number + 1) then Some (n, ts) else None
number_at (negative n ∷ ts) = None
number_at (too_large ∷ ts) = None
number_at (illegal ∷ ts) = None
number_at (sign u ∷ ts) = None

-- Int, in the profile's range
unfoldable pub int_at : Read ℤ
int_at [] = None
int_at (identifier x ∷ ts) = None
int_at (name x ∷ ts) = None
int_at (word v ∷ ts) = None
int_at (out_of_profile ∷ ts) = None
int_at (number n ∷ ts) = if nat_lt n (highest_number + 1) then Some (pos n, ts) else None
int_at (negative n ∷ ts) = if nat_lt 0 n && nat_le n offset_of_zero then Some (neg_ℤ (pos n), ts) else None
int_at (too_large ∷ ts) = None
int_at (illegal ∷ ts) = None
int_at (sign u ∷ ts) = None

-- ---- ranges and sizes

-- ["," "..."]
unfoldable pub mark_at : Read Bool
mark_at ts =
    if begins_sign signs.Comma ts
    then after_sign signs.Dots (drop 1 ts) >>= (λ rest. Some (true, rest))
    else Some (false, ts)

-- High
unfoldable pub high_at : Read (Option ℤ)
high_at ts = if begins_word words.Max ts then Some (None, drop 1 ts) else int_at ts >>= (λ z. Some (Some z.0, z.1))

-- Low [".." High], where MIN is not alone
unfoldable pub limits_at : Read Limits
limits_at ts =
    if begins_word words.Min ts
    then after_sign signs.UpTo (drop 1 ts) >>= (λ rest. high_at rest >>= (λ high. Some (Between None high.0, high.1)))
    else int_at ts >>= (λ low. if begins_sign signs.UpTo low.1
    then high_at (drop 1 low.1) >>= (λ high. Some (Between (Some low.0) high.0, high.1))
    else Some (One low.0, low.1))

-- what follows the "(" of a Range
unfoldable pub range_after_paren : Read RangeNotation
range_after_paren ts = do
  limits ← limits_at ts
  mark ← mark_at limits.1
  rest ← after_sign signs.RightParen mark.1
  Some (record { limits = limits.0; marked = mark.0 }, rest)

-- [Range]
unfoldable pub range_at : Read (Option RangeNotation)
range_at ts =
    if begins_sign signs.LeftParen ts then range_after_paren (drop 1 ts) >>= (λ r. Some (Some r.0, r.1))
    else Some (None, ts)

-- [".." (number | MAX)]
unfoldable pub size_end_at : Read SizeEnd
size_end_at ts =
    if begins_sign signs.UpTo ts
    then (if begins_word words.Max (drop 1 ts) then Some (ToMax, drop 2 ts)
    else number_at (drop 1 ts) >>= (λ n. Some (To n.0, n.1)))
    else Some (Same, ts)

-- Size
unfoldable pub size_at : Read SizeNotation
size_at ts = do
  paren ← after_word words.Size ts
  first ← after_sign signs.LeftParen paren
  low ← number_at first
  high ← size_end_at low.1
  mark ← mark_at high.1
  rest ← after_sign signs.RightParen mark.1
  Some (record { low = low.0; high = high.0; marked = mark.0 }, rest)

-- what follows the "(" of a SizeCon
unfoldable pub size_after_paren : Read SizeNotation
size_after_paren ts = do
  size ← size_at ts
  rest ← after_sign signs.RightParen size.1
  Some (size.0, rest)

-- [SizeCon]
unfoldable pub size_con_at : Read (Option SizeNotation)
size_con_at ts =
    if begins_sign signs.LeftParen ts then size_after_paren (drop 1 ts) >>= (λ s. Some (Some s.0, s.1))
    else Some (None, ts)

-- [SizeCon | Size]
unfoldable pub list_size_at : Read ListSize
list_size_at ts =
    if begins_sign signs.LeftParen ts then size_after_paren (drop 1 ts) >>= (λ s. Some (list_size.Bracketed s.0, s.1))
    else if begins_word words.Size ts then size_at ts >>= (λ s. Some (list_size.Bare s.0, s.1))
    else Some (list_size.Any, ts)

-- [Range | SizeCon]
unfoldable pub constraint_at : Read Constraint
constraint_at ts =
    if begins_sign signs.LeftParen ts
    then (if begins_word words.Size (drop 1 ts)
    then size_after_paren (drop 1 ts) >>= (λ s. Some (constraint.Size s.0, s.1))
    else range_after_paren (drop 1 ts) >>= (λ r. Some (constraint.Range r.0, r.1)))
    else Some (constraint.None, ts)

-- ---- lists

-- a comma, and after it something other than "..."
abbrev pub goes_on : List Token → Bool
goes_on ts = begins_sign signs.Comma ts && not (begins_sign signs.Dots (drop 1 ts))

module _ {A : Type 0} (one : Read A) where
  -- more of them, each after a comma, after those found; fewer than n
  unfoldable pub others : ℕ → List A → Read (List A)
  others zero found ts = None
  others (suc n) found ts =
      if goes_on ts then one (drop 1 ts) >>= (λ x. others n (found ++ x.0 ∷ []) x.1) else Some (found, ts)

  -- all of them
  unfoldable pub all_others : List A → Read (List A)
  unfolding others
  all_others found ts = others (suc (length ts)) found ts

  -- ["," "..." ["," X,+]] "}"
  unfoldable pub addition_list : Read (Option (List A))
  unfolding all_others
  addition_list ts =
      if begins_sign signs.Comma ts then (do
        dots ← after_sign signs.Dots (drop 1 ts)
        found ← all_others [] dots
        rest ← after_sign signs.RightBrace found.1
        Some (Some found.0, rest))
      else after_sign signs.RightBrace ts >>= (λ rest. Some (None, rest))

  -- X,+ ["," "..." ["," X,+]] "}"
  unfoldable pub marked_list : Read (List A × Option (List A))
  unfolding all_others addition_list
  marked_list ts = do
    first ← one ts
    root ← all_others (first.0 ∷ []) first.1
    more ← addition_list root.1
    Some ((root.0, more.0), more.1)

-- ["(" Int ")"]
unfoldable pub item_number_at : Read (Option ℤ)
item_number_at ts =
    if begins_sign signs.LeftParen ts
    then int_at (drop 1 ts) >>= (λ z. after_sign signs.RightParen z.1 >>= (λ rest. Some (Some z.0, rest)))
    else Some (None, ts)

-- Item
unfoldable pub item_at : Read Item
item_at ts = do
  n ← identifier_at ts
  z ← item_number_at n.1
  Some (record { name = n.0; number = z.0 }, z.1)

-- a Default other than TRUE and FALSE
unfoldable pub named_default_at : Read Default
named_default_at [] = None
named_default_at (identifier x ∷ ts) = Some (t.item x, ts)
named_default_at (name x ∷ ts) = None
named_default_at (word v ∷ ts) = None
named_default_at (out_of_profile ∷ ts) = None
named_default_at (number n ∷ ts) = int_at (number n ∷ ts) >>= (λ z. Some (t.number z.0, z.1))
named_default_at (negative n ∷ ts) = int_at (negative n ∷ ts) >>= (λ z. Some (t.number z.0, z.1))
named_default_at (too_large ∷ ts) = None
named_default_at (illegal ∷ ts) = None
named_default_at (sign u ∷ ts) = None

-- Default
unfoldable pub default_at : Read Default
default_at ts =
    if begins_word words.True ts then Some (t.truth true, drop 1 ts)
    else if begins_word words.False ts then Some (t.truth false, drop 1 ts)
    else named_default_at ts

-- [OPTIONAL | DEFAULT Default]
unfoldable pub need_at : Read Need
need_at ts =
    if begins_word words.Optional ts then Some (t.optional, drop 1 ts)
    else if begins_word words.Default ts then default_at (drop 1 ts) >>= (λ d. Some (t.default d.0, d.1))
    else Some (t.must, ts)

-- ---- types

-- Comp
unfoldable pub component_at : Read Tree → Read Part
component_at type_at ts = do
  n ← identifier_at ts
  inner ← type_at n.1
  need ← need_at inner.1
  Some (record { name = n.0; tree = inner.0; need = need.0 }, need.1)

-- [Body] "}"
unfoldable pub body_at : Read Tree → Read Tree
body_at type_at ts =
    if begins_sign signs.RightBrace ts then Some (t.sequence t.no_components t.closed, drop 1 ts)
    else if begins_sign signs.Dots ts then (do
      found ← all_others (component_at type_at) [] (drop 1 ts)
      rest ← after_sign signs.RightBrace found.1
      Some (t.sequence t.no_components (t.marked (components_of found.0)), rest))
    else marked_list (component_at type_at) ts >>= (λ l. Some (t.sequence (components_of l.0.0) (more_of l.0.1), l.1))

-- what follows SEQUENCE
unfoldable pub sequence_at : Read Tree → Read Tree
sequence_at type_at ts =
    if begins_sign signs.LeftBrace ts then body_at type_at (drop 1 ts)
    else (do
      size ← list_size_at ts
      of ← after_word words.Of size.1
      element ← type_at of
      Some (t.sequence_of size.0 element.0, element.1))

-- what follows ENUMERATED
unfoldable pub enumerated_at : Read Tree
enumerated_at ts = do
  items ← after_sign signs.LeftBrace ts
  l ← marked_list item_at items
  Some (t.enumerated l.0.0 l.0.1, l.1)

-- Alt
unfoldable pub alternative_at : Read Tree → Read Branch
alternative_at type_at ts = do
  n ← identifier_at ts
  inner ← type_at n.1
  Some (record { name = n.0; tree = inner.0 }, inner.1)

-- what follows CHOICE
unfoldable pub choice_at : Read Tree → Read Tree
choice_at type_at ts = do
  alternatives ← after_sign signs.LeftBrace ts
  l ← marked_list (alternative_at type_at) alternatives
  Some (t.choice (alternatives_of l.0.0) (more_alternatives_of l.0.1), l.1)

-- a string with a size
unfoldable pub text_at : StringKind → Read Tree
text_at kind ts = size_con_at ts >>= (λ s. Some (t.text kind s.0, s.1))

-- what follows a reserved word with which a type begins
unfoldable pub type_after_word : Read Tree → Word → Read Tree
type_after_word type_at words.Automatic ts = None
type_after_word type_at words.Begin ts = None
type_after_word type_at words.Bit ts = after_word words.String ts >>= text_at string_kind.Bits
type_after_word type_at words.Boolean ts = Some (t.boolean, ts)
type_after_word type_at words.Choice ts = choice_at type_at ts
type_after_word type_at words.Default ts = None
type_after_word type_at words.Definitions ts = None
type_after_word type_at words.End ts = None
type_after_word type_at words.Enumerated ts = enumerated_at ts
type_after_word type_at words.False ts = None
type_after_word type_at words.Ia5String ts = text_at string_kind.Ia5 ts
type_after_word type_at words.Integer ts = range_at ts >>= (λ r. Some (t.integer r.0, r.1))
type_after_word type_at words.Max ts = None
type_after_word type_at words.Min ts = None
type_after_word type_at words.Null ts = Some (t.null, ts)
type_after_word type_at words.NumericString ts = text_at string_kind.Numeric ts
type_after_word type_at words.Octet ts = after_word words.String ts >>= text_at string_kind.Octets
type_after_word type_at words.Of ts = None
type_after_word type_at words.Optional ts = None
type_after_word type_at words.Sequence ts = sequence_at type_at ts
type_after_word type_at words.Size ts = None
type_after_word type_at words.String ts = None
type_after_word type_at words.Tags ts = None
type_after_word type_at words.True ts = None
type_after_word type_at words.Utf8String ts = Some (t.utf8, ts)
type_after_word type_at words.VisibleString ts = text_at string_kind.Visible ts

-- Type, of at most this number of levels
unfoldable pub type_at : ℕ → Read Tree
type_at zero ts = None
type_at (suc levels) [] = None
type_at (suc levels) (identifier x ∷ ts) = None
type_at (suc levels) (name x ∷ ts) = constraint_at ts >>= (λ c. Some (t.reference x c.0, c.1))
type_at (suc levels) (word w ∷ ts) = type_after_word (type_at levels) w ts
type_at (suc levels) (out_of_profile ∷ ts) = None
type_at (suc levels) (number n ∷ ts) = None
type_at (suc levels) (negative n ∷ ts) = None
type_at (suc levels) (too_large ∷ ts) = None
type_at (suc levels) (illegal ∷ ts) = None
type_at (suc levels) (sign u ∷ ts) = None

-- components and alternatives of at most this number of levels: more of them after those found, and as in Body and
-- CHOICE
abbrev pub other_components : ℕ → List Part → Read (List Part)
other_components levels found ts = all_others (component_at (type_at levels)) found ts

abbrev pub more_components : ℕ → Read (Option (List Part))
more_components levels ts = addition_list (component_at (type_at levels)) ts

abbrev pub component_list : ℕ → Read (List Part × Option (List Part))
component_list levels ts = marked_list (component_at (type_at levels)) ts

abbrev pub other_alternatives : ℕ → List Branch → Read (List Branch)
other_alternatives levels found ts = all_others (alternative_at (type_at levels)) found ts

abbrev pub more_alternatives : ℕ → Read (Option (List Branch))
more_alternatives levels ts = addition_list (alternative_at (type_at levels)) ts

abbrev pub alternative_list : ℕ → Read (List Branch × Option (List Branch))
alternative_list levels ts = marked_list (alternative_at (type_at levels)) ts
