-- Where the loops of a writer over the components of a SEQUENCE stand, in any rules.
use Rattle.std.proofs.Common.{◌≡◌, ◌↔◌, ◌⊎◌, ◌≤◌, ℕ, Bool, true, false, List, [], ◌∷◌, ◌++◌, length, map, Option, Some, None, inl, inr, refl, sym, ◌∙◌, ap, subst, append_assoc, arith}
use Rattle.std.proofs.lemmas.Bool.{not-false}
use Rattle.std.proofs.lemmas.List.{append-nil}
use Rattle.asn_values.specs.Datum.{Datum}
use Rattle.asn_values.specs.Shape.{Shape, Demand, must, optional, default, Fields, no_fields, field, MoreFields, sequence}
use Rattle.asn_values.specs.Fits.{Fits, FitsDemand, FitsEach}
use Rattle.asn_values.specs.Measures.{depth, fields_depth}
use Rattle.asn_values.specs.Profile.{InProfile, good_default}
use Rattle.asn_values.specs.Parts.{IsGoodDemand}
use Rattle.asn_values.specs.View.{Part, fields_of, demand_of}
use Rattle.asn_values.specs.declared.types.Need.{Need}
use Rattle.asn_values.specs.declared.types.Need.TheVariants as need
use Rattle.asn_values.specs.declared.value.Value.{Value}
use Rattle.asn_sinks.proofs.Pushing.{pushed_same}
use Rattle.asn_rules.specs.Chunks.{Chunk, ones, flat}
use Rattle.asn_rules.specs.Components.{is_default, is_spelled}
use Rattle.asn_rules.proofs.Law.Entries.{default_is}
use Rattle.asn_rules.proofs.Live.Flat.{flat-append, flat-ones}
use Rattle.asn_rules.proofs.Components.ListedEach.{good_fits}
use Rattle.asn_walk.specs.Coding.{Coding}
use Rattle.asn_walk.specs.Composites.{each_code}
use Rattle.asn_walk.specs.WriteLaws.{WriteLaws}
use Rattle.asn_walk.specs.Writing.{Pushing, written, Writes, WritesUnits}
use Rattle.asn_walk_write.proofs.Taking.{PushLaws}
use Rattle.asn_walk_write.proofs.WritePresence.{Left, left_more, left_ends}

-- ---- the components

-- an entry is one of its component
abbrev pub FitsHere : Part → Option Datum → Type 0
FitsHere p e = FitsDemand (λ d. Fits p.shape d) p.demand e

-- a sink has taken the bits of the components before those that are left, where code gives the bits; and all entries are
-- those of their components where those that are left are
pub record Written {Sink : Type 0} (push : Pushing Sink) (code : Fields → List (Option Datum) → List ℕ) (all : List Part) (entries : List (Option Datum)) (before now : Sink) (left : List Part) (rest : List (Option Datum)) : Type 0 where
  pub pushing : PushLaws push
  pub components : Left left rest
  pub fits : FitsEach (fields_of left) rest ↔ FitsEach (fields_of all) entries
  pub deep : fields_depth (fields_of left) ≤ fields_depth (fields_of all)
  pub done : List ℕ
  pub pushed : push before now done
  pub known : done ++ code (fields_of left) rest ≡ code (fields_of all) entries

pub written_starts : {Sink : Type 0} {push : Pushing Sink} (pushing : PushLaws push) (code : Fields → List (Option Datum) → List ℕ) (before : Sink) (all : List Part)
    (entries : List (Option Datum)) → Left all entries
    → Written push code all entries before before all entries
written_starts pushing code before all entries h = record {
  pushing = pushing;
  components = h;
  fits = (λ f. f, λ f. f);
  deep = omega arith;
  done = [];
  pushed = pushing.none before;
  known = refl;
}

module _ {Sink : Type 0} {push : Pushing Sink} {code : Fields → List (Option Datum) → List ℕ} {all : List Part} {entries : List (Option Datum)} {before now : Sink} {left : List Part} {p : Part} {rest : List (Option Datum)} {e : Option Datum} where
  -- a component whose bits are us
  pub written_on : {new : Sink} (us : List ℕ) → Written push code all entries before now (p ∷ left) (e ∷ rest)
      → FitsHere p e
      → code (fields_of (p ∷ left)) (e ∷ rest) ≡ us ++ code (fields_of left) rest → push now new us
      → Written push code all entries before new left rest
  written_on {new} us h f s e = record {
    pushing = h.pushing;
    components = left_more h.components;
    fits = (λ g. h.fits.0 (f, g), λ a. (h.fits.1 a).1);
    deep = omega (arith, h.deep);
    done = h.done ++ us;
    pushed = h.pushing.joined before now new h.done us h.pushed e;
    known = append_assoc h.done us (code (fields_of left) rest) ∙ ap (λ l. h.done ++ l) (sym s) ∙ h.known;
  }

  -- one that has no bits
  pub written_past : Written push code all entries before now (p ∷ left) (e ∷ rest) → FitsHere p e
      → code (fields_of (p ∷ left)) (e ∷ rest) ≡ code (fields_of left) rest
      → Written push code all entries before now left rest
  written_past h f s = record {
    pushing = h.pushing;
    components = left_more h.components;
    fits = (λ g. h.fits.0 (f, g), λ a. (h.fits.1 a).1);
    deep = omega (arith, h.deep);
    done = h.done;
    pushed = h.pushed;
    known = ap (λ l. h.done ++ l) (sym s) ∙ h.known;
  }

  -- one whose entry is none of it
  pub written_never : Written push code all entries before now (p ∷ left) (e ∷ rest) → (FitsHere p e → ⊥)
      → FitsEach (fields_of all) entries → ⊥
  written_never h never a = never (h.fits.1 a).0

module _ {Sink : Type 0} {push : Pushing Sink} {code : Fields → List (Option Datum) → List ℕ} {all : List Part} {entries : List (Option Datum)} {before now : Sink} {left : List Part} {rest : List (Option Datum)} (h : Written push code all entries before now left rest) (e : (left ≡ []) ⊎ (rest ≡ [])) where
  none : (left ≡ []) × (rest ≡ [])
  none = left_ends left rest h.components e

  pub written_ends : ((es : List (Option Datum)) → code no_fields es ≡ [])
      → push before now (code (fields_of all) entries)
  written_ends n =
      pushed_same push before now
      (sym (append-nil h.done) ∙ ap (λ l. h.done ++ l) (sym (n rest)) ∙ ap (λ l. h.done ++ code (fields_of l) rest) (sym none.0) ∙ h.known)
      h.pushed

  pub all_written : FitsEach (fields_of all) entries
  all_written = h.fits.0 (rw (none.0, none.1) tt)

-- the levels of the next component
pub first_deep : {Sink : Type 0} {push : Pushing Sink} {code : Fields → List (Option Datum) → List ℕ} {all : List Part} {entries : List (Option Datum)} {before now : Sink} {left : List Part} {p : Part} {rest : List (Option Datum)}
    → Written push code all entries before now (p ∷ left) rest → depth p.shape ≤ fields_depth (fields_of all)
first_deep h = omega (arith, h.deep)

-- ---- what is written of components

-- the bits of the components that are encoded
abbrev pub each_bits : Coding → Fields → List (Option Datum) → List ℕ
each_bits c fs es = written c (each_code c fs es)

-- the bits of two parts are those of each
pub written-append : {c : Coding} → WriteLaws c → (xs ys : List Chunk)
    → written c (xs ++ ys) ≡ written c xs ++ written c ys
written-append {c} laws xs ys =
    ap (λ (us : List ℕ). c.to_bits us) (flat-append c.ruling.fielding.spelled xs ys) ∙ laws.joined (flat c.ruling.fielding.spelled xs) (flat c.ruling.fielding.spelled ys)

-- plain units
pub written-ones : (c : Coding) (us : List ℕ) → written c (ones us) ≡ c.to_bits us
written-ones c us = ap (λ (vs : List ℕ). c.to_bits vs) (flat-ones c.ruling.fielding.spelled us)

module _ {Sink : Type 0} {push : Pushing Sink} (pushing : PushLaws push) {c : Coding} (laws : WriteLaws c) where
  -- one part after the other
  pub writes_both : (old mid new : Sink) (xs ys : List Chunk) → Writes push c old mid xs
      → Writes push c mid new ys → Writes push c old new (xs ++ ys)
  writes_both old mid new xs ys e f = pushed_same push old new (sym (written-append laws xs ys)) (pushing.joined old mid new (written c xs) (written c ys) e f)

  -- plain units, and a part after them
  pub writes_units : (old mid new : Sink) (us : List ℕ) (ys : List Chunk) → WritesUnits push c old mid us
      → Writes push c mid new ys → Writes push c old new (ones us ++ ys)
  writes_units old mid new us ys e f = writes_both old mid new (ones us) ys (pushed_same push old mid (sym (written-ones c us)) e) f

  -- nothing
  pub writes_nothing : (old : Sink) → Writes push c old old []
  writes_nothing old = pushed_same push old old (sym laws.none) (pushing.none old)

-- a component that is spelt, and those after it
each_bits-spelled : {c : Coding} → WriteLaws c
    → (name : List ℕ) (demand : Demand) (t : Shape) (fs : Fields) (d : Datum) (es : List (Option Datum))
    → is_spelled demand (Some d) ≡ true
    → each_bits c (field name demand t fs) (Some d ∷ es) ≡ written c (c.code t d) ++ each_bits c fs es
each_bits-spelled {c} laws name demand t fs d es h =
    ap (λ b. written c ((elim b [ true ↦ c.code t d | false ↦ [] ]) ++ each_code c fs es)) h ∙ written-append laws (c.code t d) (each_code c fs es)

-- a component equal to its DEFAULT
each_bits-default : (c : Coding) (name : List ℕ) (demand : Demand) (t : Shape) (fs : Fields) (d : Datum)
    (es : List (Option Datum)) → is_spelled demand (Some d) ≡ false
    → each_bits c (field name demand t fs) (Some d ∷ es) ≡ each_bits c fs es
each_bits-default c name demand t fs d es h = ap (λ b. written c ((elim b [ true ↦ c.code t d | false ↦ [] ]) ++ each_code c fs es)) h

-- a component that has a value and no DEFAULT is spelt
pub spelt_unless_default : (n : Need) (d : Datum) → ((x : Value) → n ≡ need.Default x → ⊥)
    → is_spelled (demand_of n) (Some d) ≡ true
spelt_unless_default need.Must d h = refl
spelt_unless_default need.Optional d h = refl
spelt_unless_default (need.Default x) d h = absurd (h x refl)

-- a SEQUENCE, which has no DEFAULT, is spelt
pub spelt_sequence : (demand : Demand) (t : Shape) (root : Fields) (more : MoreFields) (d : Datum) → t ≡ sequence root more → IsGoodDemand demand t
    → is_spelled demand (Some d) ≡ true
spelt_sequence must t root more d e g = refl
spelt_sequence optional t root more d e g = refl
spelt_sequence (default x) t root more d e g = absurd (none x (subst (λ (s : Shape). good_default s x ≡ true) e g))
  where
    none : (x : Datum) → good_default (sequence root more) x ≡ true → ⊥
    none x h = absurd (cc)

-- one that is spelt
pub written_more : {Sink : Type 0} {push : Pushing Sink} {c : Coding} (laws : WriteLaws c) {all : List Part} {entries : List (Option Datum)}
    {before now new : Sink} {left : List Part} {p : Part} {rest : List (Option Datum)} {d : Datum}
    → Written push (each_bits c) all entries before now (p ∷ left) (Some d ∷ rest) → is_spelled p.demand (Some d) ≡ true
    → Fits p.shape d → Writes push c now new (c.code p.shape d)
    → Written push (each_bits c) all entries before new left rest
written_more {c} laws {left = left} {p = p} {rest = rest} {d = d} h s f e = written_on (written c (c.code p.shape d)) h f (each_bits-spelled laws p.name p.demand p.shape (fields_of left) d rest s) e

-- one that is equal to its DEFAULT, and so a value of its type
pub written_passes : {Sink : Type 0} {push : Pushing Sink} (c : Coding) {all : List Part} {entries : List (Option Datum)} {before now : Sink}
    {left : List Part} {p : Part} {rest : List (Option Datum)} {d : Datum}
    → Written push (each_bits c) all entries before now (p ∷ left) (Some d ∷ rest) → is_spelled p.demand (Some d) ≡ false
    → Written push (each_bits c) all entries before now left rest
written_passes c {left = left} {p = p} {rest = rest} {d = d} h s =
    written_past h (default_fits p.demand p.shape d h.components.of_profile.0 h.components.of_profile.1 s) (each_bits-default c p.name p.demand p.shape (fields_of left) d rest s)
  where
    default_fits : (demand : Demand) (t : Shape) (d : Datum) → InProfile t → IsGoodDemand demand t
        → is_spelled demand (Some d) ≡ false → FitsDemand (λ d. Fits t d) demand (Some d)
    default_fits must t d good g k = absurd (cc)
    default_fits optional t d good g k = absurd (cc)
    default_fits (default x) t d good g k = subst (λ y. Fits t y) (default_is x d (not-false (is_default x d) k)) (good_fits t x good g)

-- no value at all fits an OPTIONAL component
pub absent_fits : (t : Shape) (demand : Demand) → demand ≡ optional → FitsDemand (λ d. Fits t d) demand None
absent_fits t must k = absurd (cc)
absent_fits t optional k = tt
absent_fits t (default x) k = absurd (cc)

-- one that is absent, where it may be
pub written_absent : {Sink : Type 0} {push : Pushing Sink} (c : Coding) {all : List Part} {entries : List (Option Datum)} {before now : Sink}
    {left : List Part} {p : Part} {rest : List (Option Datum)}
    → Written push (each_bits c) all entries before now (p ∷ left) (None ∷ rest) → p.demand ≡ optional
    → Written push (each_bits c) all entries before now left rest
written_absent c {p = p} h o = written_past h (absent_fits p.shape p.demand o) refl

-- and where it may not
pub absent_never : {Sink : Type 0} {push : Pushing Sink} (c : Coding) {all : List Part} {entries : List (Option Datum)} {before now : Sink}
    {left : List Part} {p : Part} {rest : List (Option Datum)}
    → Written push (each_bits c) all entries before now (p ∷ left) (None ∷ rest) → (p.demand ≡ optional → ⊥)
    → FitsEach (fields_of all) entries → ⊥
absent_never c {p = p} h o = written_never h (never p.demand o)
  where
    never : (demand : Demand) → (demand ≡ optional → ⊥) → FitsDemand (λ d. Fits p.shape d) demand None → ⊥
    never must k f = f
    never optional k f = k refl
    never (default x) k f = f

-- all of them
pub each_ends : {Sink : Type 0} {push : Pushing Sink} {c : Coding} → WriteLaws c → {all : List Part} {entries : List (Option Datum)}
    {before now : Sink} {left : List Part} {rest : List (Option Datum)}
    → Written push (each_bits c) all entries before now left rest → (left ≡ []) ⊎ (rest ≡ [])
    → Writes push c before now (each_code c (fields_of all) entries)
each_ends laws h e = written_ends h e (λ es. laws.none)

-- ---- where a zip of the components and the entries ends

pub either_map : {A B C D : Type 0} (f : A → B) (g : C → D) {xs : List A} {ys : List C} → (xs ≡ []) ⊎ (ys ≡ [])
    → (map f xs ≡ []) ⊎ (map g ys ≡ [])
either_map f g (inl e) = inl (ap (map f) e)
either_map f g (inr e) = inr (ap (map g) e)

pub no_items : {A : Type 0} (xs : List A) → length xs ≡ 0 → xs ≡ []
no_items [] h = refl
no_items (x ∷ xs) h = absurd (omega (arith, h))

-- ---- a test that came out both ways

pub both_tests : {b : Bool} → b ≡ true → b ≡ false → ⊥
both_tests h k = cc
