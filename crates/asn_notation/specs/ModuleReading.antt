-- Reading a module from its tokens, from left to right; None where no text goes on so.
use Rattle.std.specs.Prelude.{ℕ, zero, suc, List, [], ◌∷◌, ◌++◌, length, Option, Some, None, if◌then◌else◌}
use Rattle.asn_notation.specs.declared.token.Word.TheVariants as words
use Rattle.asn_notation.specs.declared.token.Sign.TheVariants as signs
use Rattle.asn_notation.specs.Token.{Token, identifier, name, word, out_of_profile, number, negative, too_large, sign}
use Rattle.asn_notation.specs.Token.{illegal}
use Rattle.asn_notation.specs.Tree.{Assignment, ModuleTree}
use Rattle.asn_notation.specs.Reading.{◌>>=◌, Read, begins_word, after_sign, after_word, type_at}

unfoldable pub name_at : Read (List ℕ)
name_at [] = None
name_at (identifier x ∷ ts) = None
name_at (name x ∷ ts) = Some (x, ts)
name_at (word v ∷ ts) = None
name_at (out_of_profile ∷ ts) = None
name_at (number n ∷ ts) = None
name_at (negative n ∷ ts) = None
name_at (too_large ∷ ts) = None
name_at (illegal ∷ ts) = None
name_at (sign u ∷ ts) = None

-- Assignment
unfoldable pub assignment_at : ℕ → Read Assignment
assignment_at levels ts = do
  n ← name_at ts
  rest ← after_sign signs.Becomes n.1
  ty ← type_at levels rest
  Some (record { name = n.0; tree = ty.0 }, ty.1)

-- assignments up to END, after those found; fewer than n
unfoldable pub more_assignments : ℕ → ℕ → List Assignment → Read (List Assignment)
more_assignments levels zero found ts = None
more_assignments levels (suc n) found ts =
    if begins_word words.End ts then Some (found, ts)
    else assignment_at levels ts >>= (λ a. more_assignments levels n (found ++ a.0 ∷ []) a.1)

-- Assignment*
unfoldable pub assignments_at : ℕ → Read (List Assignment)
unfolding more_assignments
assignments_at levels ts = more_assignments levels (suc (length ts)) [] ts

-- what stands before the assignments
unfoldable pub heading_at : Read (List ℕ)
heading_at ts = do
  n ← name_at ts
  a ← after_word words.Definitions n.1
  b ← after_word words.Automatic a
  c ← after_word words.Tags b
  d ← after_sign signs.Becomes c
  e ← after_word words.Begin d
  Some (n.0, e)

abbrev pub if_end : ModuleTree → List Token → Option ModuleTree
if_end m [] = Some m
if_end m (x ∷ ts) = None

-- the module that all tokens are, with types of at most this number of levels
unfoldable pub whole_module : ℕ → List Token → Option ModuleTree
whole_module levels ts = do
  n ← heading_at ts
  xs ← assignments_at levels n.1
  rest ← after_word words.End xs.1
  if_end (record { name = n.0; assignments = xs.0 }) rest
