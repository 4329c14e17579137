-- What is kept of a value by its nodes, as the program goes down them.
use Rattle.std.proofs.Common.{◌≡◌, ◌≤◌, ◌<◌, ℕ, zero, suc, List, [], ◌∷◌, length, map, get_or, ◌++◌, reverse, refl, sym, ap, subst, ◌∙◌, arith, rules}
use Rattle.std.proofs.lemmas.List.{reverse-append}
use Rattle.asn_values.specs.Shape.{Shape, boolean, null, integer, enumerated, bit_string, octet_string, restricted, utf8_string, sequence, sequence_of, choice}
use Rattle.asn_values.specs.View.{shape_of, fields_seen, alternatives_of, branch_of}
use Rattle.asn_values.specs.declared.types.AsnType.{AsnType, AsnType-F, roll-AsnType, out-AsnType, roll-out-AsnType, fold-roll-AsnType, the_lemmas}
use Rattle.asn_values.specs.declared.types.AsnType as asn_type
use Rattle.asn_values.specs.declared.types.AsnType.TheOpen as unrolled
use Rattle.asn_values.specs.declared.types.Alt.{Alt}
use Rattle.asn_values.specs.declared.types.Field.{Field}
use Rattle.asn_values.proofs.Alternatives.{shape_of_branch}
use Rattle.asn_values.proofs.Components.{shape_of_part}
use Rattle.asn_walk_feed.specs.Keeping.{in_component, in_alternative, kept_in}
use Rattle.asn_walk_feed.specs.declared.frame.Elements.{Elements}
use Rattle.asn_walk_feed.specs.declared.frame.Frame.{Frame}
use Rattle.asn_walk_feed.specs.declared.frame.Frame.TheVariants as frame

module _ (Kept : Shape → List ℕ) where
  -- of the component with this index
  pub component_at : (fs : List Field) (i : ℕ) (x : Field) → i < length fs → x ≡ get_or fs i x → in_component Kept (fields_seen fs) i ≡ Kept (shape_of x.ty)
  component_at [] i x h e = absurd (omega (arith, h))
  component_at (f ∷ fs) zero x h e = ap Kept (shape_of_part f) ∙ ap (λ (y : Field). Kept (shape_of y.ty)) (sym e)
  component_at (f ∷ fs) (suc i) x h e = component_at fs i x (omega (arith, h)) e

  pub no_component : (fs : List Field) (i : ℕ) → length fs ≤ i → in_component Kept (fields_seen fs) i ≡ []
  no_component [] i h = refl
  no_component (f ∷ fs) zero h = absurd (omega (arith, h))
  no_component (f ∷ fs) (suc i) h = no_component fs i (omega (arith, h))

  -- of the alternative with this index
  pub alternative_at : (alts : List Alt) (i : ℕ) (x : Alt) → i < length alts → x ≡ get_or alts i x → in_alternative Kept (alternatives_of (map branch_of alts)) i ≡ Kept (shape_of x.ty)
  alternative_at [] i x h e = absurd (omega (arith, h))
  alternative_at (a ∷ alts) zero x h e = ap Kept (shape_of_branch a) ∙ ap (λ (y : Alt). Kept (shape_of y.ty)) (sym e)
  alternative_at (a ∷ alts) (suc i) x h e = alternative_at alts i x (omega (arith, h)) e

  pub no_alternative : (alts : List Alt) (i : ℕ) → length alts ≤ i → in_alternative Kept (alternatives_of (map branch_of alts)) i ≡ []
  no_alternative [] i h = refl
  no_alternative (a ∷ alts) zero h = absurd (omega (arith, h))
  no_alternative (a ∷ alts) (suc i) h = no_alternative alts i (omega (arith, h))

-- the innermost of the nodes stands in front of the others, turned round
pub innermost : {F : Type 0} (ns inner : List (Frame F)) (n : Frame F) (t : Shape) (ks : List ℕ) → ns ≡ inner ++ (n ∷ []) → kept_in (reverse ns) t ≡ ks → kept_in (n ∷ reverse inner) t ≡ ks
innermost ns inner n t ks e h =
    let last : reverse ns ≡ n ∷ reverse inner = ap reverse e ∙ reverse-append inner (n ∷ []) in
    subst (λ (fs : List (Frame _)). kept_in fs t ≡ ks) last h

-- a type that is seen as a UTF8String is that
utf8_alone : (x : AsnType-F AsnType Alt Field) → shape_of (roll-AsnType x) ≡ utf8_string → roll-AsnType x ≡ asn_type.Utf8
utf8_alone unrolled.Utf8 e = search (rules, the_lemmas)
utf8_alone unrolled.Bool e = absurd (let z = rw fold-roll-AsnType at e in cc)
utf8_alone unrolled.Null e = absurd (let z = rw fold-roll-AsnType at e in cc)
utf8_alone (unrolled.Int b) e = absurd (let z = rw fold-roll-AsnType at e in cc)
utf8_alone (unrolled.Enum root ext) e = absurd (let z = rw fold-roll-AsnType at e in cc)
utf8_alone (unrolled.Bits s) e = absurd (let z = rw fold-roll-AsnType at e in cc)
utf8_alone (unrolled.Octets s) e = absurd (let z = rw fold-roll-AsnType at e in cc)
utf8_alone (unrolled.Text k s) e = absurd (let z = rw fold-roll-AsnType at e in cc)
utf8_alone (unrolled.Seq root ext) e = absurd (let z = rw fold-roll-AsnType at e in cc)
utf8_alone (unrolled.SeqOf b s) e = absurd (let z = rw fold-roll-AsnType at e in cc)
utf8_alone (unrolled.Choice root ext) e = absurd (let z = rw fold-roll-AsnType at e in cc)

is_utf8 : (ty : AsnType) → shape_of ty ≡ utf8_string → ty ≡ asn_type.Utf8
is_utf8 ty e = sym (roll-out-AsnType ty) ∙ utf8_alone (out-AsnType ty) (ap shape_of (roll-out-AsnType ty) ∙ e)

-- of octets that are no UTF8String nothing is kept
pub other_octets : {F : Type 0} (q : Elements F ℕ) (fs : List (Frame F)) (ty : AsnType) → (ty ≡ asn_type.Utf8 → ⊥) → kept_in (frame.Octets q ∷ fs) (shape_of ty) ≡ []
other_octets q fs ty other = of_shape (shape_of ty) (λ e. other (is_utf8 ty e))
  where
    of_shape : (t : Shape) → (t ≡ utf8_string → ⊥) → kept_in (frame.Octets q ∷ fs) t ≡ []
    of_shape boolean h = refl
    of_shape null h = refl
    of_shape (integer r) h = refl
    of_shape (enumerated root more) h = refl
    of_shape (bit_string s) h = refl
    of_shape (octet_string s) h = refl
    of_shape (restricted k s) h = refl
    of_shape utf8_string h = absurd (h refl)
    of_shape (sequence root more) h = refl
    of_shape (sequence_of e s) h = refl
    of_shape (choice root more) h = refl

-- no nodes
pub none_kept : {F : Type 0} (ns : List (Frame F)) (t : Shape) → length ns ≡ 0 → kept_in (reverse ns) t ≡ []
none_kept [] t e = refl
none_kept (n ∷ ns) t e = absurd cc
