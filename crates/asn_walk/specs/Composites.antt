-- The spelling of the composite kinds of value, from what a set of encoding rules says of the parts.
use Rattle.std.specs.Prelude.{◌-◌, ℕ, zero, suc, Bool, true, false, List, [], ◌∷◌, ◌++◌, length, take, drop, Option, nat_lt}
use mathlib.Core.Logic.{inl, inr}
use Rattle.asn_values.specs.Datum.{Datum}
use Rattle.asn_values.specs.Shape.{Fields, no_fields, field, MoreFields, closed, marked, is_marked, demands, Alternatives, no_alternatives, one_of, MoreAlternatives, closed_choice, marked_choice, is_marked_choice, count}
use Rattle.asn_rules.specs.Chunks.{Chunk, sealed, open_field, ones}
use Rattle.asn_rules.specs.Components.{presence, if_spelled, any_present, extension_bit}
use Rattle.asn_walk.specs.Coding.{Coding}

-- an open field that holds the complete encoding of a value that is spelt so
abbrev pub in_open_field : Coding → List Chunk → List Chunk
in_open_field c cs = sealed open_field (c.complete cs) ∷ []

-- ---- SEQUENCE

-- the components that are spelt, in order
abbrev pub each_code : Coding → Fields → List (Option Datum) → List Chunk
each_code c no_fields es = []
each_code c (field name demand t fs) [] = []
each_code c (field name demand t fs) (e ∷ es) = if_spelled demand e (λ d. c.code t d) ++ each_code c fs es

-- the same, each in an open field
abbrev pub open_code : Coding → Fields → List (Option Datum) → List Chunk
open_code c no_fields es = []
open_code c (field name demand t fs) [] = []
open_code c (field name demand t fs) (e ∷ es) =
    if_spelled demand e (λ d. in_open_field c (c.code t d)) ++ open_code c fs es

-- the extension additions: nothing where none is present, else their presence bits, and those that are present in
-- open fields
abbrev pub additions_code : Coding → Fields → List (Option Datum) → List Chunk
additions_code c fs es =
    elim (any_present es) [
      | true ↦ ones (c.addition_bitmap (presence (demands fs) es)) ++ open_code c fs es
      | false ↦ []
    ]

abbrev pub more_code : Coding → MoreFields → List (Option Datum) → List Chunk
more_code c closed es = []
more_code c (marked fs) es = additions_code c fs es

-- the components of the root, after these bits and their presence bits
abbrev pub root_code : Coding → List ℕ → Fields → List (Option Datum) → List Chunk
root_code c mark fs es = ones (c.preamble (mark ++ presence (demands fs) es)) ++ each_code c fs es

-- the root after the extension bit, and the additions
abbrev pub sequence_code : Coding → Fields → MoreFields → List (Option Datum) → List Chunk
sequence_code c root more es =
    let root_entries = take (length (demands root)) es in
    let addition_entries = drop (length (demands root)) es in
    root_code c (extension_bit (is_marked more) (any_present addition_entries)) root root_entries
    ++ more_code c more addition_entries

-- ---- CHOICE

-- a value of the alternative at an index
abbrev pub alternative_code : Coding → Alternatives → ℕ → Datum → List Chunk
alternative_code c no_alternatives i d = []
alternative_code c (one_of name t alts) zero d = c.code t d
alternative_code c (one_of name t alts) (suc i) d = alternative_code c alts i d

-- a value of the addition at an index, in an open field
abbrev pub added_code : Coding → MoreAlternatives → ℕ → Datum → List Chunk
added_code c closed_choice i d = []
added_code c (marked_choice alts) i d = in_open_field c (alternative_code c alts i d)

-- the index, and the value: of an alternative of the root, or of an addition
abbrev pub choice_parts : Coding → Alternatives → MoreAlternatives → Bool → ℕ → Datum → List Chunk
choice_parts c root more true tag d =
    ones (c.index (count root) (is_marked_choice more) (inl tag)) ++ alternative_code c root tag d
choice_parts c root more false tag d =
    ones (c.index (count root) true (inr (tag - count root))) ++ added_code c more (tag - count root) d

-- tags count the alternatives from 0, root first
abbrev pub choice_code : Coding → Alternatives → MoreAlternatives → ℕ → Datum → List Chunk
choice_code c root more tag d = choice_parts c root more (nat_lt tag (count root)) tag d
