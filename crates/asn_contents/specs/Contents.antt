-- Octets in a value that are encodings of other types: where they are, and which.
use Rattle.std.specs.Prelude.{ℕ, zero, suc, ℤ, Bool, true, false, List, [], ◌∷◌, ◌++◌, get_or, Option, Some, None}
use Rattle.std.specs.Ordering.{int_eq}
use Rattle.asn_values.specs.Datum.{Datum, number, octet_list, components, component_list, elements, element_list, alternative}

mutual
  pub data Contents : Type 0 where
    -- no octets
    nowhere : Contents
    -- those of an OCTET STRING: they are an encoding of the type at this position of the table of types
    in_octets : ℕ → Contents
    -- in the components of a SEQUENCE, in order
    in_components : Parts → Contents
    -- in the elements of a SEQUENCE OF
    in_elements : Contents → Contents
    -- in the alternatives of a CHOICE, in order
    in_alternatives : Parts → Contents
    at_both : Contents → Contents → Contents
    -- The component at the first index is a number. That at the second is an open type, of the type that the number has
    -- in these rows. The last says whether other numbers may be there, with any octets.
    selected : ℕ → ℕ → List (ℤ × ℕ) → Bool → Contents

  pub data Parts : Type 0 where
    no_parts : Parts
    part : Contents → Parts → Parts

-- octets in a value: the path to them, the position of their type in the table of types, and the octets; no type where
-- no row has the number
pub record Content : Type 0 where
  pub path : List ℕ
  pub type : Option ℕ
  pub octets : List ℕ

abbrev pub one_content : List ℕ → Option ℕ → List ℕ → Content
one_content p k os = record { path = p; type = k; octets = os }

-- ---- an open type

-- the number, and the octets, that a value is
abbrev pub number_of : Datum → Option ℤ
number_of (number z) = Some z
number_of _ = None

abbrev pub octets_of : Datum → Option (List ℕ)
octets_of (octet_list os) = Some os
octets_of _ = None

-- those of the component at an index, if it is there
abbrev pub if_present : {X : Type 0} → (Datum → Option X) → Option Datum → Option X
if_present f None = None
if_present f (Some d) = f d

abbrev pub number_at : ℕ → List (Option Datum) → Option ℤ
number_at i es = if_present number_of (get_or es i None)

abbrev pub octets_at : ℕ → List (Option Datum) → Option (List ℕ)
octets_at i es = if_present octets_of (get_or es i None)

-- the type of the first row with a number
abbrev pub type_of_number : List (ℤ × ℕ) → ℤ → Option ℕ
type_of_number [] z = None
type_of_number (row ∷ rows) z = elim (int_eq row.0 z) [ true ↦ Some row.1 | false ↦ type_of_number rows z ]

abbrev pub type_at : List (ℤ × ℕ) → Option ℤ → Option ℕ
type_at rows None = None
type_at rows (Some z) = type_of_number rows z

-- octets of the type that is selected; any octets where no type is and other numbers may be there
abbrev pub octets_of_type : Bool → List ℕ → Option ℕ → List ℕ → List Content
octets_of_type true p None os = []
octets_of_type marked p k os = one_content p k os ∷ []

abbrev pub of_selected : List (ℤ × ℕ) → Bool → List ℕ → Option ℤ → Option (List ℕ) → List Content
of_selected rows marked p z None = []
of_selected rows marked p z (Some os) = octets_of_type marked p (type_at rows z) os

-- ---- the octets in a value

-- those of a component at a path, if it is there, given those of one
abbrev pub of_entry : (List ℕ → Datum → List Content) → List ℕ → Option Datum → List Content
of_entry inside p None = []
of_entry inside p (Some d) = inside p d

-- those of elements, the first at this index, given those of one at a path
abbrev pub of_elements : (List ℕ → Datum → List Content) → List ℕ → ℕ → List Datum → List Content
of_elements inside p i [] = []
of_elements inside p i (d ∷ ds) = inside (p ++ (i ∷ [])) d ++ of_elements inside p (suc i) ds

abbrev mutual
  -- in the value to which a path leads, from the outside in and in the order of the parts
  pub places_in : Contents → List ℕ → Datum → List Content
  places_in (in_octets k) p (octet_list os) = one_content p (Some k) os ∷ []
  places_in (in_components cs) p (components es) = of_parts cs p 0 (component_list es)
  places_in (in_elements c) p (elements es) = of_elements (λ q d. places_in c q d) p 0 (element_list es)
  places_in (in_alternatives cs) p (alternative i d) = of_alternative cs i (p ++ (i ∷ [])) d
  places_in (at_both c e) p d = places_in c p d ++ places_in e p d
  places_in (selected i j rows marked) p (components es) =
      of_selected rows marked (p ++ (j ∷ [])) (number_at i (component_list es)) (octets_at j (component_list es))
  places_in _ p d = []

  -- in the components, the first at this index
  pub of_parts : Parts → List ℕ → ℕ → List (Option Datum) → List Content
  of_parts no_parts p i es = []
  of_parts (part c cs) p i [] = []
  of_parts (part c cs) p i (None ∷ es) = of_parts cs p (suc i) es
  of_parts (part c cs) p i (Some d ∷ es) = places_in c (p ++ (i ∷ [])) d ++ of_parts cs p (suc i) es

  -- in the value of the alternative at an index
  pub of_alternative : Parts → ℕ → List ℕ → Datum → List Content
  of_alternative no_parts i p d = []
  of_alternative (part c cs) zero p d = places_in c p d
  of_alternative (part c cs) (suc i) p d = of_alternative cs i p d
