-- What is read of one component, in front of those after it.
use Rattle.std.proofs.Common.{◌≡◌, ◌+◌, ◌/◌, ◌%◌, ◌^◌, ℕ, suc, List, [], ◌∷◌, ◌++◌, Option, Some, None, sym, ap, subst, ◌∙◌, arith}
use Rattle.asn_values.specs.Datum.{Datum}
use Rattle.asn_values.specs.Profile.{InProfile}
use Rattle.asn_values.specs.Shape.{Shape, Demand, Fields, field, must, optional, default}
use Rattle.asn_values.specs.View.{shape_of, datum_of}
use Rattle.asn_bits.specs.Numbers.{bits}
use Rattle.asn_rules.specs.Chunks.{Chunk}
use Rattle.asn_rules.specs.Languages.{Spells, prepended}
use Rattle.asn_rules.specs.Listed.{Spelt, Before, Listed, bitmap_length}
use Rattle.asn_rules.specs.Live.{Fielding}
use Rattle.asn_rules.proofs.Languages.Parts.{map_spells}
use Rattle.asn_rules.proofs.Languages.Then.{then_spells}
use Rattle.asn_walk.specs.Coding.{Coding}
use Rattle.asn_plan.specs.declared.plan.Node.{Node}
use Rattle.asn_plan.specs.declared.plan.Presence.TheVariants as presence
use Rattle.asn_plan.specs.declared.plan.WithDefault.{WithDefault}
use Rattle.asn_plan.specs.Plans.{IsPlan, BuildsEntry}

-- a component that is spelt, and those after it
pub before_spells : {R : Fielding} {L : Datum → List Chunk → Type 0} {M : List (Option Datum) → List Chunk → Type 0}
    {d : Datum} {gs : List (Option Datum)} {vs r ws : List ℕ} → Spells R L d vs r → Spells R M gs r ws
    → Spells R (Before L M) (Some d ∷ gs) vs ws
before_spells h k = map_spells {f = prepended} (then_spells (map_spells {f = Some} h) k)

-- the presence bits that are left begin with this one
pub bits_from : (left after bitmap bit : ℕ) → after + 1 ≡ left → bit ≡ bitmap / 2 ^ after % 2
    → bits left bitmap ≡ bit ∷ bits after bitmap
bits_from left after bitmap bit d b =
    let l : left ≡ suc after = omega (arith, d) in
    ap (λ (n : ℕ). bits n bitmap) l ∙ ap (λ (x : ℕ). x ∷ bits after bitmap) (sym b)

-- a DEFAULT tells its value
same_default : (v w : Datum) → default v ≡ default w → v ≡ w
same_default v w e = cc

module _ (c : Coding) (P N : List (Option Datum) → Type 0) (ns : List Node) (n : Node) (bitmap left : ℕ) (us vs : List ℕ) where
  -- an entry and what it leaves, of components that begin with this one
  abbrev Left : List ℕ → Demand → Shape → Fields → ℕ → List (Option Datum) → Type 0
  Left name demand t others after es =
      (e : Option Datum) × N (es ++ e ∷ []) × (after ≡ bitmap_length others)
      × ((gs : List (Option Datum)) (ws : List ℕ)
      → Spells c.ruling.fielding (Listed c.code others (bits after bitmap)) gs vs ws
      → Spells c.ruling.fielding (Listed c.code (field name demand t others) (bits left bitmap)) (e ∷ gs) us ws)

  module _ (Q : Datum → Type 0) (add : (es : List (Option Datum)) (d : Datum) → P es → Q d → N (es ++ Some d ∷ [])) where
    -- it has to be there, and a value of its type is read
    pub must_entry : n.presence ≡ presence.Must
        → ((t : Shape) → InProfile t → IsPlan ns t n.kind → (d : Datum) × Q d × Spells c.ruling.fielding (Spelt c.code None t) d us vs)
        → BuildsEntry c P N ns n bitmap left left us vs
    must_entry o read = record {
      few = omega arith;
      entry = λ name demand t others good is plan width es l. go name demand t others good (rw o at is) plan width es l;
    }
      where
        go : (name : List ℕ) (demand : Demand) (t : Shape) (others : Fields) → InProfile t → demand ≡ must
            → IsPlan ns t n.kind → left ≡ bitmap_length (field name demand t others) → (es : List (Option Datum)) → P es
            → Left name demand t others left es
        go name must t others good is plan width es l =
            let d = read t good plan in
            (Some d.0, add es d.0 l d.1, width, λ gs ws k. before_spells d.2 k)
        go name optional t others good is plan width es l = absurd (let e : optional ≡ must = is in cc)
        go name (default v) t others good is plan width es l = absurd (let e : default v ≡ must = is in cc)

    module _ (after : ℕ) (less : after + 1 ≡ left) where
      -- it is OPTIONAL, and there
      pub present_entry : n.presence ≡ presence.Optional → 1 ≡ bitmap / 2 ^ after % 2
          → ((t : Shape) → InProfile t → IsPlan ns t n.kind → (d : Datum) × Q d × Spells c.ruling.fielding (Spelt c.code None t) d us vs)
          → BuildsEntry c P N ns n bitmap left after us vs
      present_entry o b read = record {
        few = omega (arith, less);
        entry = λ name demand t others good is plan width es l. go name demand t others good (rw o at is) plan width es l;
      }
        where
          go : (name : List ℕ) (demand : Demand) (t : Shape) (others : Fields) → InProfile t → demand ≡ optional
              → IsPlan ns t n.kind → left ≡ bitmap_length (field name demand t others) → (es : List (Option Datum)) → P es
              → Left name demand t others after es
          go name optional t others good is plan width es l =
              let d = read t good plan in
              (Some d.0, add es d.0 l d.1, omega (arith, width, less), λ gs ws k. rw (bits_from left after bitmap 1 less b) (before_spells d.2 k))
          go name must t others good is plan width es l = absurd (let e : must ≡ optional = is in cc)
          go name (default v) t others good is plan width es l = absurd (let e : default v ≡ optional = is in cc)

      -- it has a DEFAULT, and another value is read
      pub other_entry : (w : WithDefault) → n.presence ≡ presence.Default w → 1 ≡ bitmap / 2 ^ after % 2
          → (IsPlan ns (shape_of w.ty) n.kind → (d : Datum) × Q d × Spells c.ruling.fielding (Spelt c.code (Some (datum_of w.default)) (shape_of w.ty)) d us vs)
          → BuildsEntry c P N ns n bitmap left after us vs
      other_entry w o b read = record {
        few = omega (arith, less);
        entry = λ name demand t others good is plan width es l. go name demand t others (rw o at is) plan width es l;
      }
        where
          go : (name : List ℕ) (demand : Demand) (t : Shape) (others : Fields)
              → (demand ≡ default (datum_of w.default)) × (t ≡ shape_of w.ty) → IsPlan ns t n.kind
              → left ≡ bitmap_length (field name demand t others) → (es : List (Option Datum)) → P es
              → Left name demand t others after es
          go name (default v) t others is plan width es l =
              let e : v ≡ datum_of w.default = same_default v (datum_of w.default) is.0 in
              let d = read (subst (λ (x : Shape). IsPlan ns x n.kind) is.1 plan) in
              let r : Spells c.ruling.fielding (Spelt c.code (Some v) t) d.0 us vs = rw (e, is.1) d.2 in
              (Some d.0, add es d.0 l d.1, omega (arith, width, less), λ gs ws k. rw (bits_from left after bitmap 1 less b) (before_spells r k))
          go name must t others is plan width es l = absurd (let e : must ≡ default (datum_of w.default) = is.0 in cc)
          go name optional t others is plan width es l = absurd (let e : optional ≡ default (datum_of w.default) = is.0 in cc)

      -- it has a DEFAULT, and is absent
      pub default_entry : (w : WithDefault) → n.presence ≡ presence.Default w → 0 ≡ bitmap / 2 ^ after % 2 → (d : Datum)
          → Q d → d ≡ datum_of w.default → us ≡ vs → BuildsEntry c P N ns n bitmap left after us vs
      default_entry w o b d q same still = record {
        few = omega (arith, less);
        entry = λ name demand t others good is plan width es l. go name demand t others (rw o at is) width es l;
      }
        where
          go : (name : List ℕ) (demand : Demand) (t : Shape) (others : Fields)
              → (demand ≡ default (datum_of w.default)) × (t ≡ shape_of w.ty)
              → left ≡ bitmap_length (field name demand t others) → (es : List (Option Datum)) → P es
              → Left name demand t others after es
          go name (default v) t others is width es l =
              let e : d ≡ v = same ∙ sym (same_default v (datum_of w.default) is.0) in
              let p : Q v = subst Q e q in
              (Some v, add es v l p, omega (arith, width, less), λ gs ws k. rw (still, bits_from left after bitmap 0 less b) (map_spells {f = λ es. Some v ∷ es} k))
          go name must t others is width es l = absurd (let e : must ≡ default (datum_of w.default) = is.0 in cc)
          go name optional t others is width es l = absurd (let e : optional ≡ default (datum_of w.default) = is.0 in cc)

  -- it is OPTIONAL, and absent
  pub absent_entry : ((es : List (Option Datum)) → P es → N (es ++ None ∷ [])) → (after : ℕ) → after + 1 ≡ left
      → n.presence ≡ presence.Optional → 0 ≡ bitmap / 2 ^ after % 2 → us ≡ vs
      → BuildsEntry c P N ns n bitmap left after us vs
  absent_entry add after less o b still = record {
    few = omega (arith, less);
    entry = λ name demand t others good is plan width es l. go name demand t others (rw o at is) width es l;
  }
    where
      go : (name : List ℕ) (demand : Demand) (t : Shape) (others : Fields) → demand ≡ optional
          → left ≡ bitmap_length (field name demand t others) → (es : List (Option Datum)) → P es
          → Left name demand t others after es
      go name optional t others is width es l =
          (None, add es l, omega (arith, width, less), λ gs ws k. rw (still, bits_from left after bitmap 0 less b) (map_spells {f = λ es. None ∷ es} k))
      go name must t others is width es l = absurd (let e : must ≡ optional = is in cc)
      go name (default v) t others is width es l = absurd (let e : default v ≡ optional = is in cc)
