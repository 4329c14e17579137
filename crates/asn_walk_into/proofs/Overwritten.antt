-- Lists that are overwritten, one item after the other.
use Rattle.std.proofs.Common.{◌≡◌, ◌≤◌, ◌<◌, ◌+◌, ◌∙◌, ◌∷◌, [], ◌++◌, ℕ, List, Option, None, map, take, drop, get_or, slice_set, length, append_assoc, sym, ap}
use Rattle.std.specs.Option.{option_map}
use Rattle.std.proofs.lemmas.List.{map-append, take_more_set, take_all, append-nil}
use Rattle.asn_values.specs.declared.types.Field.{Field}
use Rattle.asn_values.specs.declared.value.Value.{Value}
use Rattle.asn_values.specs.View.{datum_of, fields_of, fields_seen, entries_seen}
use Rattle.asn_walk.specs.Coding.{absent_entries}
use Rattle.asn_walk.proofs.Widths.{next_part, no_part}

-- an entry that is overwritten follows those in front of it
pub entry_written : (es : List (Option Value)) (i : ℕ) (e : Option Value) → i < length es
    → entries_seen (take (i + 1) (slice_set es i e)) ≡ entries_seen (take i es) ++ option_map datum_of e ∷ []
entry_written es i e h = ap entries_seen (take_more_set es i e h) ∙ map-append (option_map datum_of) (take i es) (e ∷ [])

-- and so does an element
pub element_written : (vs : List Value) (i : ℕ) (v : Value) → i < length vs
    → map datum_of (take (i + 1) (slice_set vs i v)) ≡ map datum_of (take i vs) ++ datum_of v ∷ []
element_written vs i v h = ap (map datum_of) (take_more_set vs i v h) ∙ map-append datum_of (take i vs) (v ∷ [])

-- the entries that are cleared, and those that are still to be
pub cleared_more : (es : List (Option Value)) (fs : List Field) (i : ℕ) (x : Field) → i < length es → i < length fs
    → x ≡ get_or fs i x
    → entries_seen (take (i + 1) (slice_set es i None)) ++ absent_entries (fields_seen (drop (i + 1) fs))
    ≡ entries_seen (take i es) ++ absent_entries (fields_seen (drop i fs))
cleared_more es fs i x h l e =
    ap (λ vs. vs ++ absent_entries (fields_seen (drop (i + 1) fs))) (entry_written es i None h)
    ∙ append_assoc (entries_seen (take i es)) (None ∷ []) (absent_entries (fields_seen (drop (i + 1) fs)))
    ∙ ap (λ ps. entries_seen (take i es) ++ absent_entries (fields_of ps)) (sym (next_part fs i x l e))

-- all are cleared
pub cleared_all : (es : List (Option Value)) (fs : List Field) (i : ℕ) → length es ≤ i → length fs ≤ i
    → entries_seen (take i es) ++ absent_entries (fields_seen (drop i fs)) ≡ entries_seen es
cleared_all es fs i h l =
    ap (λ ps. entries_seen (take i es) ++ absent_entries (fields_of ps)) (no_part fs i l) ∙ append-nil (entries_seen (take i es)) ∙ ap entries_seen (take_all i es h)
