-- Octets in a value that are not the encodings that they have to be: where, and why.
use Rattle.std.specs.Prelude.{◌≡◌, ◌⊎◌, ℕ, suc, Bool, true, false, List, [], ◌∷◌, Option, Some, None, Result, Ok, Err, map, reverse}
use Rattle.std.specs.List.{Contains}
use Rattle.asn_values.specs.declared.value.Value.{Value}
use Rattle.asn_values.specs.Datum.{Datum}
use Rattle.asn_values.specs.View.{datum_of}
use Rattle.asn_rules.specs.Answer.{Ruling}
use Rattle.asn_rules.specs.declared.fault.DecodeFault.TheVariants as decode
use Rattle.asn_constrained.specs.declared.fault.ConstrainedFault.{ConstrainedFault}
use Rattle.asn_constrained.specs.declared.fault.ConstrainedFault.TheVariants as under
use Rattle.asn_constrained.specs.Under.{DecodedUnder}
use Rattle.asn_contents.specs.Contents.{Contents, Content, places_in}
use Rattle.asn_containing.specs.declared.broken.BrokenContents.{BrokenContents}
use Rattle.asn_containing.specs.declared.broken.ContentsReason.{ContentsReason}
use Rattle.asn_containing.specs.declared.broken.ContentsReason.TheVariants as reason
use Rattle.asn_containing.specs.Containing.{TableType, type_in, IsContent, Within, MeetWithin, MeetContents}
use Rattle.asn_containing.specs.View.{Place, place_of, place_of_content}

-- how deep contents lie in contents at most
abbrev pub most_levels : ℕ
most_levels = 16

-- an allocation failed
abbrev pub is_memory : ConstrainedFault → Bool
is_memory (under.Type decode.Memory) = true
is_memory fault = false

-- a decoder answers this of the octets, and they are the encoding of no value
abbrev pub NoEncoding : Ruling → TableType → List ℕ → ConstrainedFault → Type 0
NoEncoding r e os fault = DecodedUnder r e.constraint (Err fault) e.shape os × ((d : Datum) → IsContent r e d os → ⊥)

-- why octets are not the encoding that they have to be, where so many more contents are judged
abbrev pub NotContent : Ruling → List TableType → ℕ → Content → ContentsReason → Type 0
NotContent r T n x reason.TooDeep = n ≡ 0
NotContent r T n x reason.NoType = type_in T x.type ≡ None
NotContent r T n x (reason.Octets fault) = (e : TableType) × (type_in T x.type ≡ Some e) × NoEncoding r e x.octets fault

-- the octets are the encoding of this value, and of no other
abbrev pub IsContentOnly : Ruling → TableType → Datum → List ℕ → Type 0
IsContentOnly r e v os = IsContent r e v os × ((w : Datum) → IsContent r e w os → w ≡ v)

-- the octets are not the encoding that they have to be, or octets in their value are not, and so on
pub data BreaksAt (r : Ruling) (T : List TableType) : ℕ → Content → List Place → ContentsReason → Type 0 where
  itself : (n : ℕ) (x : Content) (why : ContentsReason) → NotContent r T n x why → BreaksAt r T n x (place_of_content x ∷ []) why
  inside : (n : ℕ) (x y : Content) (e : TableType) (v : Datum) (ps : List Place) (why : ContentsReason)
      → type_in T x.type ≡ Some e → IsContentOnly r e v x.octets → Contains (places_in e.contents [] v) y
      → BreaksAt r T n y ps why → BreaksAt r T (suc n) x (place_of_content x ∷ ps) why

-- some octets in the value are not
abbrev pub Breaks : Ruling → List TableType → ℕ → Contents → Datum → List Place → ContentsReason → Type 0
Breaks r T n c d ps why = (x : Content) × Contains (places_in c [] d) x × BreaksAt r T n x ps why

-- What a search for them finds, its places from the inside out: nothing where all are.
abbrev pub FindsIn : Ruling → List TableType → ℕ → Content → Option BrokenContents → Type 0
FindsIn r T n x None = Within r T n x.type x.octets
FindsIn r T n x (Some b) = BreaksAt r T n x (map place_of (reverse b.places.items)) b.reason

abbrev pub Finds : Ruling → List TableType → ℕ → Contents → Datum → Option BrokenContents → Type 0
Finds r T n c d None = MeetWithin r T n c d
Finds r T n c d (Some b) = Breaks r T n c d (map place_of (reverse b.places.items)) b.reason

-- these octets alone, for this reason
abbrev pub IsAt : Content → ContentsReason → Option BrokenContents → Type 0
IsAt x why None = ⊥
IsAt x why (Some b) = (b.reason ≡ why) × (map place_of (reverse b.places.items) ≡ place_of_content x ∷ [])

-- the value whose encoding the octets are, or what a decoder answers of octets that are the encoding of none
abbrev pub IsContentOrNot : Ruling → TableType → List ℕ → Result Value ConstrainedFault → Type 0
IsContentOrNot r e os (Ok v) = IsContentOnly r e (datum_of v) os
IsContentOrNot r e os (Err fault) = NoEncoding r e os fault

-- What is answered: nothing where all are, in at most most_levels contents. Else octets that are not; in however many
-- contents, where the reason is not that they lie too deep.
abbrev pub Judged : Ruling → List TableType → Contents → Datum → Option BrokenContents → Type 0
Judged r T c d None = MeetWithin r T most_levels c d
Judged r T c d (Some b) =
    Breaks r T most_levels c d (map place_of b.places.items) b.reason × (MeetWithin r T most_levels c d → ⊥)
    × ((b.reason ≡ reason.TooDeep) ⊎ (MeetContents r T c d → ⊥))
