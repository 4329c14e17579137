-- The types inside a SEQUENCE, a SEQUENCE OF and a CHOICE, as the walk over the program's types finds them.
use Rattle.std.specs.Global.{Box}
use Rattle.std.proofs.Common.{◌≡◌, ◌<◌, ◌≤◌, ◌+◌, ◌-◌, ◌⊎◌, inl, inr, ℕ, List, [], ◌∷◌, map, length, drop, get_or, Vec, Global, Option, Some, None, refl, ap, ◌∙◌, subst, arith, rules}
use Rattle.std.proofs.lemmas.List.{drop_all}
use Rattle.std.proofs.Math.Seq.{drop-cons}
use Rattle.std.proofs.Math.Numerals.{add-one}
use Rattle.asn_values.specs.declared.fault.TypeFault.{TypeFault}
use Rattle.asn_values.specs.declared.types.Alt.{Alt}
use Rattle.asn_values.specs.declared.types.Field.{Field}
use Rattle.asn_values.specs.declared.types.AsnType.{AsnType, Bool, Null, Int, Enum, Bits, Octets, Text, Utf8, Seq, SeqOf, Choice, the_lemmas}
use Rattle.asn_values.specs.declared.types.Bounds.{Bounds}
use Rattle.asn_values.specs.declared.types.Item.{Item}
use Rattle.asn_values.specs.declared.types.Size.{Size}
use Rattle.asn_values.specs.declared.types.TextKind.{TextKind}
use Rattle.asn_values.specs.Shape.{Shape, Fields, Alternatives}
use Rattle.asn_values.specs.Measures.{depth, fields_depth, fields_nodes, choice_depth, choice_nodes}
use Rattle.asn_values.specs.Profile.{some_field, some_alternative}
use Rattle.asn_values.specs.Walk.{IsFaultless, Extent, of_type, of_types, beside, IsSoundWithin, IsFaultWithin}
use Rattle.asn_values.specs.View.{shape_of, fields_of, part_of_field, alternatives_of, branch_of}
use Rattle.asn_values.proofs.Views.{shape_of-Bool, shape_of-Null, shape_of-Int, shape_of-Enum, shape_of-Bits, shape_of-Octets, shape_of-Text, shape_of-Utf8, sequence_of_fields, list_of_elements, choice_of_alternatives}
use Rattle.asn_values.proofs.Alternatives.{shape_of_branch}
use Rattle.asn_values.proofs.Walks.{IsWalkedTo, goes_on, ends, IsSimple, sound_simple, IsAround, is_around, sound_around, fault_around}
use Rattle.asn_values.proofs.ZeroBits.{one_level}

-- the shape of a component's type
pub shape_of_part : (x : Field) → (part_of_field x).shape ≡ shape_of x.ty
shape_of_part x = search (rules, the_lemmas)

-- ---- the parts of a type one after the other, of which `shape` is the type's

module _ {A : Type 0} (shape : A → Shape) (levels start left : ℕ) (parts : List A) (i : ℕ) where
  -- those still to be looked at are the next one and those after it
  next_one : (x : A) → i < length parts → x ≡ get_or parts i x →
      IsWalkedTo levels start left (map shape parts) (map shape (drop i parts)) →
      IsWalkedTo levels start left (map shape parts) (shape x ∷ map shape (drop (i + 1) parts))
  next_one x h e w =
      let split : drop i parts ≡ x ∷ drop (i + 1) parts = rw (add-one, drop-cons parts i x h, ← e) refl in
      rw split at w

  -- past one that is sound
  pub next_is_sound : (now : ℕ) (x : A) → i < length parts → x ≡ get_or parts i x →
      IsWalkedTo levels start left (map shape parts) (map shape (drop i parts)) →
      IsSoundWithin levels left now (of_type (shape x)) →
      IsWalkedTo levels start now (map shape parts) (map shape (drop (i + 1) parts))
  next_is_sound now x h e w s = goes_on levels start left now (map shape parts) (shape x) (map shape (drop (i + 1) parts)) (next_one x h e w) s

  -- past the last
  pub all_passed : length parts ≤ i →
      IsWalkedTo levels start left (map shape parts) (map shape (drop i parts)) → IsSoundWithin levels start left (of_types (map shape parts))
  all_passed h w = ends levels start left (map shape parts) (rw (drop_all i parts h) at w)

-- ---- a type around those inside it

-- the types after an extension marker, where there is one
abbrev pub types_after : {A : Type 0} → (A → Shape) → Option (Vec A Global) → List Shape
types_after shape None = []
types_after shape (Some more) = map shape more.items

-- components as a walk goes over them
abbrev of_fields : Fields → Extent
of_fields fs = record { count = fields_nodes fs; levels = fields_depth fs; holds = λ condition. some_field condition fs }

types_of_fields : (fs : List Field) → of_fields (fields_of (map part_of_field fs)) ≡ of_types (map (λ f. shape_of f.ty) fs)
types_of_fields [] = refl
types_of_fields (f ∷ fs) =
    ap (λ t. beside (of_type t) (of_fields (fields_of (map part_of_field fs)))) (shape_of_part f) ∙ ap (beside (of_type (shape_of f.ty))) (types_of_fields fs)

-- a SEQUENCE is around the types of its components, those after its extension marker last
pub sequence_around : (t : AsnType) (root : Vec Field Global) (ext : Option (Vec Field Global)) (fs : List Field) → t ≡ Seq root ext → fs ≡ root.items →
    IsAround 1 (shape_of t) (beside (of_types (map (λ f. shape_of f.ty) fs)) (of_types (types_after (λ f. shape_of f.ty) ext)))
sequence_around t root None fs et ef = rw (sequence_of_fields t root None fs et ef) (is_around _ _ (rw (← types_of_fields fs) refl))
sequence_around t root (Some more) fs et ef =
    rw (sequence_of_fields t root (Some more) fs et ef) (is_around _ _ (rw (← types_of_fields fs, ← types_of_fields more.items) refl))

-- a SEQUENCE OF is around its element
pub list_around : (t e : AsnType) (b : Box AsnType) (s : Size) → t ≡ SeqOf b s → e ≡ b.value → IsAround 2 (shape_of t) (of_type (shape_of e))
list_around t e b s et eb = rw (list_of_elements t e b s et eb) (record { count = refl; levels = omega arith; holds = λ condition. refl })

module _ (levels start : ℕ) (t e : Shape) (n : ℕ) (around : IsAround 2 t (of_type e)) (some : 0 < levels) (any : 0 < start) (is : n ≡ levels - 2) where
  -- it is sound where it is so by itself and its element is, with two levels less
  pub list_sound : (left : ℕ) → (depth t ≤ levels - 1 + 1 → IsFaultless t) → IsSoundWithin n (start - 1) left (of_type e) → IsSoundWithin levels start left (of_type t)
  list_sound left here h =
      let deep : depth e ≤ n = h.shallow in
      let room : 2 ≤ levels = omega (arith, deep, one_level e, is) in
      sound_around 2 levels start t (of_type e) around some any room left here (subst (λ (k : ℕ). IsSoundWithin k (start - 1) left (of_type e)) is h)

  -- a fault of the element is one of it
  pub list_fault : (f : TypeFault) → IsFaultWithin f n (start - 1) (of_type e) → IsFaultWithin f levels start (of_type t)
  list_fault f h = fault_around 2 levels start t (of_type e) around some any f (subst (λ (k : ℕ). IsFaultWithin f k (start - 1) (of_type e)) is h)

-- alternatives as a walk goes over them
abbrev of_alternatives : Alternatives → Extent
of_alternatives alts = record { count = choice_nodes alts; levels = choice_depth alts; holds = λ condition. some_alternative condition alts }

types_of_alternatives : (alts : List Alt) → of_alternatives (alternatives_of (map branch_of alts)) ≡ of_types (map (λ a. shape_of a.ty) alts)
types_of_alternatives [] = refl
types_of_alternatives (a ∷ alts) =
    ap (λ t. beside (of_type t) (of_alternatives (alternatives_of (map branch_of alts)))) (shape_of_branch a) ∙ ap (beside (of_type (shape_of a.ty))) (types_of_alternatives alts)

-- a CHOICE is around the types of its alternatives, those after its extension marker last
pub choice_around : (t : AsnType) (root : Vec Alt Global) (ext : Option (Vec Alt Global)) (alts : List Alt) → t ≡ Choice root ext → alts ≡ root.items →
    IsAround 1 (shape_of t) (beside (of_types (map (λ a. shape_of a.ty) alts)) (of_types (types_after (λ a. shape_of a.ty) ext)))
choice_around t root None alts et ea = rw (choice_of_alternatives t root None alts et ea) (is_around _ _ (rw (← types_of_alternatives alts) refl))
choice_around t root (Some more) alts et ea =
    rw (choice_of_alternatives t root (Some more) alts et ea) (is_around _ _ (rw (← types_of_alternatives alts, ← types_of_alternatives more.items) refl))

-- a type is one of those without others inside them
abbrev OneOfSimple : AsnType → Type 0
OneOfSimple t =
    (t ≡ Bool) ⊎ (t ≡ Null) ⊎ ((b : Bounds) × (t ≡ Int b)) ⊎ ((root : Vec Item Global) × (ext : Option (Vec Item Global)) × (t ≡ Enum root ext))
    ⊎ ((s : Size) × (t ≡ Bits s)) ⊎ ((s : Size) × (t ≡ Octets s)) ⊎ ((k : TextKind) × (s : Size) × (t ≡ Text k s)) ⊎ (t ≡ Utf8)

simple : (t : AsnType) → OneOfSimple t → IsSimple (shape_of t)
simple t (inl e) = rw (e, shape_of-Bool) (record { one_node = refl; one_level = refl; only_itself = λ test. refl })
simple t (inr (inl e)) = rw (e, shape_of-Null) (record { one_node = refl; one_level = refl; only_itself = λ test. refl })
simple t (inr (inr (inl (b, e)))) = rw (e, shape_of-Int) (record { one_node = refl; one_level = refl; only_itself = λ test. refl })
simple t (inr (inr (inr (inl (root, ext, e))))) = rw (e, shape_of-Enum) (record { one_node = refl; one_level = refl; only_itself = λ test. refl })
simple t (inr (inr (inr (inr (inl (s, e)))))) = rw (e, shape_of-Bits) (record { one_node = refl; one_level = refl; only_itself = λ test. refl })
simple t (inr (inr (inr (inr (inr (inl (s, e))))))) = rw (e, shape_of-Octets) (record { one_node = refl; one_level = refl; only_itself = λ test. refl })
simple t (inr (inr (inr (inr (inr (inr (inl (k, s, e)))))))) = rw (e, shape_of-Text) (record { one_node = refl; one_level = refl; only_itself = λ test. refl })
simple t (inr (inr (inr (inr (inr (inr (inr e))))))) = rw (e, shape_of-Utf8) (record { one_node = refl; one_level = refl; only_itself = λ test. refl })

-- it is sound where it has no fault by itself
pub simple_is_sound : (levels start : ℕ) (t : AsnType) → OneOfSimple t →
    0 < levels → 0 < start → (depth (shape_of t) ≤ levels - 1 + 1 → IsFaultless (shape_of t)) → IsSoundWithin levels start (start - 1) (of_type (shape_of t))
simple_is_sound levels start t which some more here = sound_simple levels start (shape_of t) (simple t which) some more here
