-- The values that are built of what is given for their parts, by the names of a type.
use Rattle.std.specs.Prelude.{◌≡◌, ◌≢◌, ◌&&◌, ℕ, Bool, true, List, [], ◌∷◌, ◌++◌, Option, Some, None, option_map, option_and_then, map, slice_get, bytes_eq, cond, is_some, not, Result, IfOk, IfErr}
use Rattle.std.specs.List.{list_any}
use Rattle.std.specs.Borrow.{Bor}
use Rattle.std.specs.Global.{Vec}
use Rattle.asn_values.specs.Datum.{Datum, truth, number, item, bit_list, octet_list, characters, unicode, components, components_of, elements, elements_of, alternative}
use Rattle.asn_values.specs.Shape.{Shape, enumerated, restricted, utf8_string, sequence, sequence_of, choice, Label, more_labels, Demand, must, optional, default, more_fields, more_alternatives}
use Rattle.asn_values.specs.LookUp.{component_named}
use Rattle.asn_values.specs.View.{Part, Branch, datum_of, entries_seen}
use Rattle.asn_values.specs.declared.value.Value.{Value}
use Rattle.asn_view.specs.Names.{index_of}
use Rattle.asn_view.specs.Typed.{parts, branches}
use Rattle.asn_view.specs.declared.fault.BuildFault.{BuildFault}
use Rattle.asn_view.specs.declared.fault.BuildFault.TheVariants.{Memory}
use Rattle.asn_view.specs.declared.given.Given.{Given}
use Rattle.asn_view.specs.declared.given.Given.TheVariants as given

-- ---- one part

-- the item of that name, by its index
abbrev pub item_of : List ℕ → List Label → Option Datum
item_of name ls = option_map item (index_of name (map (λ l. l.name) ls))

abbrev pub item_given : Shape → List ℕ → Option Datum
item_given (enumerated root more) s = item_of s (root ++ more_labels more)
item_given _ s = None

-- the characters of a string
abbrev pub string_given : Shape → List ℕ → Option Datum
string_given (restricted k size) s = Some (characters s)
string_given utf8_string s = Some (unicode s)
string_given _ s = None

-- a text is the name of an item, or the characters of a string
abbrev pub text_given : Shape → List ℕ → Option Datum
text_given (enumerated root more) s = item_given (enumerated root more) s
text_given t s = string_given t s

-- the value that is given for a type, whose bounds are not looked at
abbrev pub datum_given : Shape → Given → Option Datum
datum_given t (given.Bool b) = Some (truth b)
datum_given t (given.Number z) = Some (number z)
datum_given t (given.Text s) = text_given t s.now
datum_given t (given.Bits bs) = Some (bit_list bs.now)
datum_given t (given.Octets os) = Some (octet_list os.now)
datum_given t (given.Value v) = Some (datum_of v.now)

-- ---- a SEQUENCE

-- a part of that name, and what is given for it
abbrev pub NamedPart : Type 0
NamedPart = Bor (List ℕ) × Given

-- what is given for a name
abbrev pub given_for : List ℕ → List NamedPart → Option Given
given_for name [] = None
given_for name (g ∷ gs) = cond (bytes_eq name g.0.now) (Some g.1) (given_for name gs)

-- the entry of a component for which nothing is given: absent where it is OPTIONAL, and its DEFAULT where it has one
abbrev pub entry_left_out : Demand → Option (Option Datum)
entry_left_out must = None
entry_left_out optional = Some None
entry_left_out (default d) = Some (Some d)

-- the entry of a component
abbrev pub entry_given : Part → Option Given → Option (Option Datum)
entry_given p None = entry_left_out p.demand
entry_given p (Some g) = option_map Some (datum_given p.shape g)

-- the entries of these components, where each has one
abbrev pub entries_given : List Part → List NamedPart → Option (List (Option Datum))
entries_given [] gs = Some []
entries_given (p ∷ ps) gs =
    option_and_then (λ e. option_map (λ es. e ∷ es) (entries_given ps gs)) (entry_given p (given_for p.name gs))

-- the same after others
abbrev pub after : List (Option Datum) → Option (List (Option Datum)) → Option (List (Option Datum))
after first es = option_map (λ more. first ++ more) es

-- each name is that of a component, and none stands twice
abbrev pub are_names_of : Shape → List NamedPart → Bool
are_names_of t [] = true
are_names_of t (g ∷ gs) =
    is_some (component_named g.0.now t) && not (list_any (λ h. bytes_eq g.0.now h.0.now) gs) && are_names_of t gs

abbrev pub of_entries : List (Option Datum) → Datum
of_entries es = components (components_of es)

abbrev pub entries_of_type : Shape → List NamedPart → Option Datum
entries_of_type (sequence root more) gs =
    option_map of_entries (entries_given (parts root ++ parts (more_fields more)) gs)
entries_of_type _ gs = None

-- the value of a SEQUENCE of what is given for its components
abbrev pub sequence_given : Shape → List NamedPart → Option Datum
sequence_given t gs = cond (are_names_of t gs) (entries_of_type t gs) None

-- ---- a CHOICE and a SEQUENCE OF

-- the value of the alternative of that tag
abbrev pub branch_given : List Branch → Given → ℕ → Option Datum
branch_given bs g tag = option_and_then (λ b. option_map (alternative tag) (datum_given b.shape g)) (slice_get bs tag)

-- of the first alternative of that name
abbrev pub among_branches : List ℕ → Given → List Branch → Option Datum
among_branches name g bs = option_and_then (branch_given bs g) (index_of name (map (λ b. b.name) bs))

abbrev pub choice_given : Shape → List ℕ → Given → Option Datum
choice_given (choice root more) name g = among_branches name g (branches root ++ branches (more_alternatives more))
choice_given _ name g = None

abbrev pub elements_given : Shape → List Given → Option (List Datum)
elements_given t [] = Some []
elements_given t (g ∷ gs) = option_and_then (λ d. option_map (λ ds. d ∷ ds) (elements_given t gs)) (datum_given t g)

abbrev pub list_given : Shape → List Given → Option Datum
list_given (sequence_of t s) gs = option_map (λ ds. elements (elements_of ds)) (elements_given t gs)
list_given _ gs = None

-- ---- what a builder answers

-- the value is the one expected
abbrev pub Builds : Result Value BuildFault → Option Datum → Type 0
Builds r expected = IfOk r (λ v. expected ≡ Some (datum_of v))

-- the entries are those expected
abbrev pub BuildsEntries : Result (Vec (Option Value)) BuildFault → Option (List (Option Datum)) → Type 0
BuildsEntries r expected = IfOk r (λ es. expected ≡ Some (entries_seen es.items))

-- where it fails, and not for want of memory, nothing was expected
abbrev pub FailsRightly : {A B : Type 0} → Result A BuildFault → Option B → Type 0
FailsRightly r expected = IfErr r (λ why. why ≢ Memory → expected ≡ None)
