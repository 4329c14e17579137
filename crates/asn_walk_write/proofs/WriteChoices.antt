-- The bits of a CHOICE, as a writer puts them in any rules: an index, and the value of the alternative.
use Rattle.std.proofs.Common.{◌≡◌, ◌↔◌, ◌≤◌, ◌<◌, ◌-◌, ℕ, zero, suc, Bool, true, false, inl, inr, List, [], ◌∷◌, ◌++◌, map, length, get_or, nat_lt, is_some, Option, Some, None, Vec, Global, vec_len, refl, sym, ap, ◌∙◌, arith}
use Rattle.std.proofs.lemmas.Bool.{lt-ltb, le-ltb}
use Rattle.asn_values.specs.declared.types.Alt.{Alt}
use Rattle.asn_values.specs.declared.types.AsnType.{AsnType}
use Rattle.asn_values.specs.declared.types.AsnType as asn_type
use Rattle.asn_values.specs.Datum.{Datum, alternative}
use Rattle.asn_values.specs.Shape.{Shape, Alternatives, MoreAlternatives, marked_choice, is_marked_choice, choice, count}
use Rattle.asn_values.specs.Fits.{Fits, FitsAlternative, FitsMoreAlternatives}
use Rattle.asn_values.specs.View.{shape_of, branch_of, alternatives_of, more_alternatives_of}
use Rattle.asn_values.proofs.Alternatives.{shape_of_branch, fits_nowhere}
use Rattle.asn_sinks.proofs.Pushing.{pushed_same}
use Rattle.asn_rules.specs.Chunks.{Chunk, ones}
use Rattle.asn_walk.specs.Coding.{Coding}
use Rattle.asn_walk.specs.Composites.{in_open_field, alternative_code, choice_parts}
use Rattle.asn_walk.specs.WriteLaws.{WriteLaws}
use Rattle.asn_walk.specs.Writing.{Pushing, written, Writes, WritesUnits}
use Rattle.asn_walk.proofs.Parts.{choice_shape, known_count}
use Rattle.asn_walk_write.proofs.Taking.{PushLaws}
use Rattle.asn_walk_write.proofs.WriteComponents.{writes_units}

-- ---- the alternative at an index

-- how its values are spelt
pub spelled_there : (c : Coding) (alts : List Alt) (i : ℕ) (d : Alt) (v : Datum) → i < length alts
    → alternative_code c (alternatives_of (map branch_of alts)) i v ≡ c.code (shape_of (get_or alts i d).ty) v
spelled_there c [] i d v h = absurd (omega arith)
spelled_there c (a ∷ alts) zero d v h = ap (λ (t : Shape). c.code t v) (shape_of_branch a)
spelled_there c (a ∷ alts) (suc i) d v h = spelled_there c alts i d v (omega arith)

-- ---- the index and the value

module _ {c : Coding} (laws : WriteLaws c) where
  -- of an alternative of the root
  code_of_root : (root : Alternatives) (more : MoreAlternatives) (i : ℕ) (v : Datum) → i < count root
      → c.code (choice root more) (alternative i v)
      ≡ ones (c.index (count root) (is_marked_choice more) (inl i)) ++ alternative_code c root i v
  code_of_root root more i v h =
      laws.choices root more i v ∙ ap (λ (b : Bool). choice_parts c root more b i v) (lt-ltb i (count root) h)

  -- of an addition
  code_of_added : (root alts : Alternatives) (i : ℕ) (v : Datum) → count root ≤ i
      → c.code (choice root (marked_choice alts)) (alternative i v)
      ≡ ones (c.index (count root) true (inr (i - count root)))
      ++ in_open_field c (alternative_code c alts (i - count root) v)
  code_of_added root alts i v h =
      laws.choices root (marked_choice alts) i v ∙ ap (λ (b : Bool). choice_parts c root (marked_choice alts) b i v) (le-ltb i (count root) h)

-- ---- as the program has them

-- whether there is a mark
mark_there : (ext : Option (Vec Alt Global)) → is_marked_choice (more_alternatives_of ext) ≡ is_some ext
mark_there None = refl
mark_there (Some more) = refl

module _ (t : AsnType) (v : Datum) (root : Vec Alt Global) (ext : Option (Vec Alt Global)) (tag : ℕ) (chosen : Datum) (is : t ≡ asn_type.Choice root ext) (view : v ≡ alternative tag chosen) (n : ℕ) (en : n ≡ vec_len root) where
  -- a value of the alternative of the root is one of the CHOICE
  pub root_fits : tag < n → (alts : List Alt) → alts ≡ root.items
      → FitsAlternative (alternatives_of (map branch_of alts)) tag chosen ↔ Fits (shape_of t) v
  root_fits h alts ea =
      let inside : nat_lt tag (count (alternatives_of (map branch_of root.items))) ≡ true = rw (known_count root n en) (lt-ltb tag n h) in
      rw (choice_shape t root ext is, view, ea, inside) (λ f. f, λ f. f)

  module _ (h : n ≤ tag) where
    outside : nat_lt tag (count (alternatives_of (map branch_of root.items))) ≡ false
    outside = rw (known_count root n en) (le-ltb tag n h)

    -- and so is one of the addition
    pub added_fits : (additions : Vec Alt Global) (more : List Alt) → ext ≡ Some additions
        → more ≡ additions.items
        → FitsAlternative (alternatives_of (map branch_of more)) (tag - n) chosen ↔ Fits (shape_of t) v
    added_fits additions more e em =
        rw (choice_shape t root ext is, view, e, em, outside, known_count root n en) (λ f. f, λ f. f)

    -- there is no value after the last one
    pub past_additions : (additions : Vec Alt Global) → ext ≡ Some additions → vec_len additions ≤ tag - n
        → Fits (shape_of t) v → ⊥
    past_additions additions e far f =
        fits_nowhere additions.items (tag - n) chosen (omega (arith, far, additions.ok.0)) ((added_fits additions additions.items e refl).1 f)

    -- nor after the root, where there is no mark
    pub past_root : ext ≡ None → Fits (shape_of t) v → ⊥
    past_root e f =
        let g : FitsMoreAlternatives (more_alternatives_of ext) (tag - n) chosen = rw (choice_shape t root ext is, view, outside, known_count root n en) at f in
        rw e at g

  module _ {Sink : Type 0} {push : Pushing Sink} (pushing : PushLaws push) {c : Coding} (laws : WriteLaws c) where
    -- what is written of an alternative of the root is the value
    pub root_written : tag < n → (alts : List Alt) (old mid new : Sink) (marked : Bool)
        → alts ≡ root.items → marked ≡ is_some ext
        → WritesUnits push c old mid (c.index n marked (inl tag))
        → Writes push c mid new (alternative_code c (alternatives_of (map branch_of alts)) tag chosen)
        → Writes push c old new (c.code (shape_of t) v)
    root_written h alts old mid new marked ea em e f =
        let all = alternatives_of (map branch_of root.items) in
        let more = more_alternatives_of ext in
        let inside : tag < count all = rw (known_count root n en) h in
        pushed_same push old new
        (ap (λ (l : List Alt). written c (ones (c.index n marked (inl tag)) ++ alternative_code c (alternatives_of (map branch_of l)) tag chosen)) ea
        ∙ ap (λ (m : Bool). written c (ones (c.index n m (inl tag)) ++ alternative_code c all tag chosen)) (em ∙ sym (mark_there ext))
        ∙ ap (λ (k : ℕ). written c (ones (c.index k (is_marked_choice more) (inl tag)) ++ alternative_code c all tag chosen)) (sym (known_count root n en))
        ∙ ap (λ (cs : List Chunk). written c cs) (sym (code_of_root laws all more tag chosen inside))
        ∙ ap (λ (x : Shape). written c (c.code x (alternative tag chosen))) (sym (choice_shape t root ext is))
        ∙ ap (λ (d : Datum). written c (c.code (shape_of t) d)) (sym view))
        (writes_units pushing laws old mid new (c.index n marked (inl tag)) (alternative_code c (alternatives_of (map branch_of alts)) tag chosen) e f)

    -- and so it is of an addition
    pub added_written : n ≤ tag → (additions : Vec Alt Global) (more : List Alt) (old mid new : Sink)
        → ext ≡ Some additions → more ≡ additions.items
        → WritesUnits push c old mid (c.index n true (inr (tag - n)))
        → Writes push c mid new (in_open_field c
        (alternative_code c (alternatives_of (map branch_of more)) (tag - n) chosen))
        → Writes push c old new (c.code (shape_of t) v)
    added_written h additions more old mid new e em f g =
        let all = alternatives_of (map branch_of root.items) in
        let alts = alternatives_of (map branch_of additions.items) in
        let past : count all ≤ tag = rw (known_count root n en) h in
        pushed_same push old new
        (ap (λ (l : List Alt). written c (ones (c.index n true (inr (tag - n))) ++ in_open_field c (alternative_code c (alternatives_of (map branch_of l)) (tag - n) chosen))) em
        ∙ ap (λ (k : ℕ). written c (ones (c.index k true (inr (tag - k))) ++ in_open_field c (alternative_code c alts (tag - k) chosen))) (sym (known_count root n en))
        ∙ ap (λ (cs : List Chunk). written c cs) (sym (code_of_added laws all alts tag chosen past))
        ∙ ap (λ (x : Option (Vec Alt Global)). written c (c.code (choice all (more_alternatives_of x)) (alternative tag chosen))) (sym e)
        ∙ ap (λ (x : Shape). written c (c.code x (alternative tag chosen))) (sym (choice_shape t root ext is))
        ∙ ap (λ (d : Datum). written c (c.code (shape_of t) d)) (sym view))
        (writes_units pushing laws old mid new (c.index n true (inr (tag - n))) (in_open_field c (alternative_code c (alternatives_of (map branch_of more)) (tag - n) chosen)) f g)
