-- What a type and a value stand for, variant by variant.
use Rattle.std.specs.Global.{Box}
use Rattle.std.proofs.Common.{◌≡◌, ◌↔◌, List, [], ◌∷◌, map, Bool, IsTrue, Option, Some, None, option_map, Vec, Global, refl, ap, ◌∙◌, sym, rules, ℕ}
use Rattle.asn_values.specs.declared.types.Alt.{Alt}
use Rattle.asn_values.specs.declared.types.Field.{Field}
use Rattle.asn_values.specs.declared.types.Bounds.{Bounds}
use Rattle.asn_values.specs.declared.types.Item.{Item}
use Rattle.asn_values.specs.declared.types.Size.{Size}
use Rattle.asn_values.specs.declared.types.TextKind.{TextKind}
use Rattle.asn_values.specs.declared.types.AsnType.{AsnType, Seq, SeqOf, Choice, the_lemmas}
use Rattle.asn_values.specs.declared.types.AsnType as asn_type
use Rattle.asn_values.specs.declared.value.Value.{Value}
use Rattle.asn_values.specs.declared.value.Value as values
use Rattle.asn_values.specs.declared.value.Value.TheVariants as value
use Rattle.asn_values.specs.Datum.{Datum, components, components_of, component_list, elements, elements_of, element_list, alternative, bit_list, octet_list, characters}
use Rattle.asn_values.specs.Shape.{boolean, null, integer, enumerated, bit_string, octet_string, restricted, utf8_string, sequence, sequence_of, choice}
use Rattle.asn_values.specs.View.{shape_of, datum_of, range_of, size_range_of, alphabet_of, label_of, more_labels_of, fields_of, part_of_field, more_fields_of, alternatives_of, branch_of, more_alternatives_of}

-- types without others inside them
pub shape_of-Bool : shape_of asn_type.Bool ≡ boolean
shape_of-Bool = search (rules, the_lemmas)

pub shape_of-Null : shape_of asn_type.Null ≡ null
shape_of-Null = search (rules, the_lemmas)

pub shape_of-Int : (b : Bounds) → shape_of (asn_type.Int b) ≡ integer (range_of b)
shape_of-Int b = search (rules, the_lemmas)

pub shape_of-Enum : (root : Vec Item Global) (ext : Option (Vec Item Global)) → shape_of (asn_type.Enum root ext) ≡ enumerated (map label_of root.items) (more_labels_of ext)
shape_of-Enum root ext = search (rules, the_lemmas)

pub shape_of-Bits : (s : Size) → shape_of (asn_type.Bits s) ≡ bit_string (size_range_of s)
shape_of-Bits s = search (rules, the_lemmas)

pub shape_of-Octets : (s : Size) → shape_of (asn_type.Octets s) ≡ octet_string (size_range_of s)
shape_of-Octets s = search (rules, the_lemmas)

pub shape_of-Text : (k : TextKind) (s : Size) → shape_of (asn_type.Text k s) ≡ restricted (alphabet_of k) (size_range_of s)
shape_of-Text k s = search (rules, the_lemmas)

pub shape_of-Utf8 : shape_of asn_type.Utf8 ≡ utf8_string
shape_of-Utf8 = search (rules, the_lemmas)

-- a SEQUENCE stands for its components
pub shape_of-Seq : (root : Vec Field Global) (ext : Option (Vec Field Global)) → shape_of (Seq root ext) ≡ sequence (fields_of (map part_of_field root.items)) (more_fields_of ext)
shape_of-Seq root None = search (rules, the_lemmas)
shape_of-Seq root (Some more) = search (rules, the_lemmas)

-- the same of a type that is seen to be one, and a list that is seen to be its components
pub sequence_of_fields :
    (t : AsnType) (root : Vec Field Global) (ext : Option (Vec Field Global)) (fs : List Field) → t ≡ Seq root ext → fs ≡ root.items →
    shape_of t ≡ sequence (fields_of (map part_of_field fs)) (more_fields_of ext)
sequence_of_fields t root ext fs et ef = rw (et, ef) (shape_of-Seq root ext)

-- a SEQUENCE OF stands for its element and its size
pub shape_of-SeqOf : (b : Box AsnType) (s : Size) → shape_of (SeqOf b s) ≡ sequence_of (shape_of b.value) (size_range_of s)
shape_of-SeqOf b s = search (rules, the_lemmas)

pub list_of_elements : (t e : AsnType) (b : Box AsnType) (s : Size) → t ≡ SeqOf b s → e ≡ b.value → shape_of t ≡ sequence_of (shape_of e) (size_range_of s)
list_of_elements t e b s et eb = rw (et, eb) (shape_of-SeqOf b s)

-- a CHOICE stands for its alternatives
pub shape_of-Choice : (root : Vec Alt Global) (ext : Option (Vec Alt Global)) → shape_of (Choice root ext) ≡ choice (alternatives_of (map branch_of root.items)) (more_alternatives_of ext)
shape_of-Choice root None = search (rules, the_lemmas)
shape_of-Choice root (Some more) = search (rules, the_lemmas)

pub choice_of_alternatives :
    (t : AsnType) (root : Vec Alt Global) (ext : Option (Vec Alt Global)) (alts : List Alt) → t ≡ Choice root ext → alts ≡ root.items →
    shape_of t ≡ choice (alternatives_of (map branch_of alts)) (more_alternatives_of ext)
choice_of_alternatives t root ext alts et ea = rw (et, ea) (shape_of-Choice root ext)

-- the value of a SEQUENCE stands for its entries
pub datum_of-Bits : (v : Vec Bool Global) → datum_of (value.Bits v) ≡ bit_list v.items
datum_of-Bits v = search (rules, values.the_lemmas)

pub datum_of-Octets : (v : Vec ℕ Global) → datum_of (value.Octets v) ≡ octet_list v.items
datum_of-Octets v = search (rules, values.the_lemmas)

pub datum_of-Text : (v : Vec ℕ Global) → datum_of (value.Text v) ≡ characters v.items
datum_of-Text v = search (rules, values.the_lemmas)

pub datum_of-Seq : (v : Vec (Option Value) Global) → datum_of (value.Seq v) ≡ components (components_of (map (option_map datum_of) v.items))
datum_of-Seq v = search (rules, values.the_lemmas)

-- the value of a SEQUENCE OF stands for its elements, and that of a CHOICE for the value inside
pub datum_of-List : (v : Vec Value Global) → datum_of (value.List v) ≡ elements (elements_of (map datum_of v.items))
datum_of-List v = search (rules, values.the_lemmas)

pub datum_of-Choice : (tag : ℕ) (b : Box Value) → datum_of (value.Choice tag b) ≡ alternative tag (datum_of b.value)
datum_of-Choice tag b = search (rules, values.the_lemmas)

-- entries made into components are those entries
pub component_list-components_of : (es : List (Option Datum)) → component_list (components_of es) ≡ es
component_list-components_of [] = refl
component_list-components_of (None ∷ es) = ap (λ r. None ∷ r) (component_list-components_of es)
component_list-components_of (Some d ∷ es) = ap (λ r. Some d ∷ r) (component_list-components_of es)

pub element_list-elements_of : (ds : List Datum) → element_list (elements_of ds) ≡ ds
element_list-elements_of [] = refl
element_list-elements_of (d ∷ ds) = ap (λ r. d ∷ r) (element_list-elements_of ds)

-- values of SEQUENCEs are the same where their entries are
pub same_components : (xs ys : List (Option Datum)) → (xs ≡ ys) ↔ (components (components_of xs) ≡ components (components_of ys))
same_components xs ys = (
  λ e. ap (λ es. components (components_of es)) e,
  λ e.
      let inner : components_of xs ≡ components_of ys = cc in
      sym (component_list-components_of xs) ∙ (ap component_list inner ∙ component_list-components_of ys),
)

-- a test of the entries of two SEQUENCEs is one of the values
pub same_sequences :
    (x y : Value) (v w : Vec (Option Value) Global) → x ≡ value.Seq v → y ≡ value.Seq w →
    (vs ws : List (Option Value)) → vs ≡ v.items → ws ≡ w.items →
    (b : Bool) → IsTrue b ↔ (map (option_map datum_of) vs ≡ map (option_map datum_of) ws) →
    IsTrue b ↔ (datum_of x ≡ datum_of y)
same_sequences x y v w ex ey vs ws ev ew b (there, back) =
    let left : datum_of x ≡ components (components_of (map (option_map datum_of) vs)) = rw (ex, ev) (datum_of-Seq v) in
    let right : datum_of y ≡ components (components_of (map (option_map datum_of) ws)) = rw (ey, ew) (datum_of-Seq w) in
    let both = same_components (map (option_map datum_of) vs) (map (option_map datum_of) ws) in
    (λ h. left ∙ (both.0 (there h) ∙ sym right), λ e. back (both.1 (sym left ∙ (e ∙ right))))
