-- Of the units there is one front that is read, as one value: languages of which this holds, put together from parts.
use Rattle.std.proofs.Common.{◌≡◌, ◌*◌, ◌⊎◌, inl, inr, ℕ, zero, suc, List, [], ◌∷◌, ◌++◌, length, Option, sym, ap, subst, ◌∙◌, refl}
use Rattle.std.proofs.lemmas.List.{append-nil, append_cancel_left}
use Rattle.asn_bits.specs.Ranges.{Spanned, At}
use Rattle.asn_rules.specs.Chunks.{Chunk, one, sealed, ones, open_field, flat}
use Rattle.asn_rules.specs.Forks.{Same, Branch, Fork}
use Rattle.asn_rules.specs.General.{Length, last, fragment, Few, Many, Blocks, Left, together, Header, Body, Within, General}
use Rattle.asn_rules.specs.Languages.{AllContents, Spells, Lawful, Then, Map, Nothing, Row, Plain, Sealed}
use Rattle.asn_rules.specs.Live.{Fielding, IsContent}
use Rattle.asn_rules.specs.Reading.{IsSealed, AllSealed}
use Rattle.asn_rules.specs.Listed.{Spelt}
use Rattle.asn_rules.specs.Spellings.{SpelledBy}
use Rattle.asn_rules.proofs.Live.Flat.{flat-ones}
use Rattle.asn_rules.proofs.Components.Listed.{spelt_lawful}
use Rattle.asn_bits.proofs.Codes.{IsCode}
use Rattle.asn_values.specs.Datum.{Datum}
use Rattle.asn_values.specs.Fits.{Fits}
use Rattle.asn_values.specs.Profile.{InProfile}
use Rattle.asn_values.specs.Shape.{Shape}
use Rattle.asn_walk.specs.Coding.{Coding}
use Rattle.asn_walk.specs.Laws.{Laws}
use Rattle.asn_walk.proofs.Parts.{fields_part_of}
use Rattle.asn_bits.specs.Sets.{InSet}
use Rattle.asn_rules.proofs.Live.Chunks.{FieldsPart}
use Rattle.asn_rules.proofs.Languages.Forks.{same_flip, same_spells}
use Rattle.asn_rules.proofs.Live.Fronts.{sealed-ones, sealed-append}
use Rattle.asn_rules.proofs.Numbers.General.{general_once}
use Rattle.asn_rules.proofs.Numbers.Headers.{header_lawful}
use Rattle.asn_rules.proofs.Languages.Parts.{map_source, nothing_lawful}
use Rattle.asn_rules.proofs.Languages.Then.{one_front, then_splits}
use Rattle.asn_walk.specs.Ahead.{Ahead, items, lengths, end, Remaining}
use Rattle.asn_newer.specs.Ways.{OneWay}

-- ---- from a language whose spellings are one or part

pub lawful_way : {V : Type 0} {R : Fielding} {L : V → List Chunk → Type 0} → FieldsPart R → Lawful L → ((v : V) (cs : List Chunk) → L v cs → AllSealed R cs) → OneWay R L
lawful_way part law s = record { sealed = s; once = λ v w us r t a b. one_front part law a b }

-- plain units
pub plain_way : {V : Type 0} {R : Fielding} {P : V → Type 0} (units : V → List ℕ) → FieldsPart R → Lawful (SpelledBy P (λ v. ones (units v))) → OneWay R (SpelledBy P (λ v. ones (units v)))
plain_way {R = R} units part law = lawful_way part law (λ v cs h. subst (AllSealed R) (sym h.same) (sealed-ones R (units v)))

-- ---- from parts

pub map_way : {A B : Type 0} {R : Fielding} {f : A → B} {L : A → List Chunk → Type 0} → OneWay R L → OneWay R (Map f L)
map_way {f = f} o = record {
  sealed = λ v cs h. o.sealed h.source cs h.spelt;
  once = λ v w us r s a b.
      let p = map_source a in
      let q = map_source b in
      let e = o.once p.0 q.0 us r s p.1 q.1 in
      (p.2 ∙ ap f e.0 ∙ sym q.2, e.1);
}

pub then_way : {A B : Type 0} {R : Fielding} {L : A → List Chunk → Type 0} {M : A → B → List Chunk → Type 0} → OneWay R L → ((a : A) → OneWay R (M a)) → OneWay R (Then L M)
then_way {A} {B} {R} {L} {M} l m = record {
  sealed = λ v cs h. subst (AllSealed R) (sym h.whole) (sealed-append R h.first h.second (l.sealed v.0 h.first h.spelt) ((m v.0).sealed v.1 h.second h.follows));
  once = λ v w us r s a b.
      let p = then_splits a in
      let q = then_splits b in
      let e = l.once v.0 w.0 us p.rest q.rest p.earlier q.earlier in
      let later : Spells R (M v.0) w.1 p.rest s = subst (λ (x : A). Spells R (M x) w.1 p.rest s) (sym e.0) (subst (λ (t : List ℕ). Spells R (M w.0) w.1 t s) (sym e.1) q.later) in
      let f = (m v.0).once v.1 w.1 p.rest r s p.later later in
      (λ i. (e.0 i, f.0 i), f.1);
}

pub nothing_way : {A : Type 0} {R : Fielding} (a : A) → FieldsPart R → OneWay R (Nothing a)
nothing_way {R = R} a part = lawful_way part (nothing_lawful a) (λ v cs h. subst (AllSealed R) (sym h.empty) tt)

pub never_way : {A : Type 0} {R : Fielding} → OneWay R (λ (v : A) (cs : List Chunk). ⊥)
never_way = record { sealed = λ v cs h. absurd h; once = λ v w us r s a b. absurd a.spelt }

pub same_way : {A : Type 0} {R : Fielding} {L M : A → List Chunk → Type 0} → Same L M → OneWay R L → OneWay R M
same_way e o = record {
  sealed = λ v cs h. o.sealed v cs (e.from v cs h);
  once = λ v w us r s a b. o.once v w us r s (same_spells (same_flip e) a) (same_spells (same_flip e) b);
}

-- a sealed field, whose content tells the value
pub sealed_way : {A : Type 0} {R : Fielding} {C : A → List ℕ → Type 0} → FieldsPart R → ((a : A) (c : List ℕ) → C a c → IsSealed R open_field c)
    → ((a b : A) (c : List ℕ) → IsContent R open_field c → C a c → C b c → a ≡ b) → OneWay R (Sealed open_field C)
sealed_way {A} {R} {C} part field told = record { sealed = λ v cs h. subst (AllSealed R) (sym h.same) (field v h.content h.spelt, tt); once = go }
  where
    go : (v w : A) (us r s : List ℕ) → Spells R (Sealed open_field C) v us r → Spells R (Sealed open_field C) w us s → (v ≡ w) × (r ≡ s)
    go v w us r s a b =
        let c = a.spelt.content in
        let d = b.spelt.content in
        let x : IsContent R open_field c = (subst (λ (cs : List Chunk). AllContents R cs) a.spelt.same a.contents).0 in
        let y : IsContent R open_field d = (subst (λ (cs : List Chunk). AllContents R cs) b.spelt.same b.contents).0 in
        let p : us ≡ R.spelled c ++ r = a.split ∙ ap (λ (cs : List Chunk). flat R.spelled cs ++ r) a.spelt.same ∙ ap (λ (l : List ℕ). l ++ r) (append-nil (R.spelled c)) in
        let q : us ≡ R.spelled d ++ s = b.split ∙ ap (λ (cs : List Chunk). flat R.spelled cs ++ s) b.spelt.same ∙ ap (λ (l : List ℕ). l ++ s) (append-nil (R.spelled d)) in
        let e : c ≡ d = part.tells open_field c d r s x y (sym p ∙ q) in
        (told v w c x a.spelt.spelt (subst (C w) (sym e) b.spelt.spelt), append_cancel_left (R.spelled c) r s (sym p ∙ q ∙ ap (λ (l : List ℕ). R.spelled l ++ s) (sym e)))

-- ---- lists

pub row_way : {A : Type 0} {R : Fielding} {L : A → List Chunk → Type 0} → FieldsPart R → OneWay R L → (n : ℕ) → OneWay R (Row L n)
row_way part o zero = nothing_way [] part
row_way part o (suc n) = map_way (then_way o (λ _. row_way part o n))

-- the bits of a length
header_plain : (R : Fielding) (S : ℕ → Type 0) (l : Length) (cs : List Chunk) → Header S l cs → AllSealed R cs
header_plain R S l cs h = outer h.source h.spelt.side
  where
    inner : (a : ℕ ⊎ ℕ) (ds : List Chunk) → Branch 0 inl (Plain (InSet 14 (Many S))) a ds ⊎ Branch 1 inr (Plain (InSet 6 (Blocks S))) a ds → AllSealed R ds
    inner a ds (inl b) = subst (AllSealed R) (sym b.same) (subst (AllSealed R) (sym b.spelt.same) (sealed-ones R b.spelt.units))
    inner a ds (inr b) = subst (AllSealed R) (sym b.same) (subst (AllSealed R) (sym b.spelt.same) (sealed-ones R b.spelt.units))

    outer : (a : ℕ ⊎ (ℕ ⊎ ℕ)) → Branch 0 inl (Plain (InSet 7 (Few S))) a cs ⊎ Branch 1 inr (Fork (Plain (InSet 14 (Many S))) (Plain (InSet 6 (Blocks S)))) a cs → AllSealed R cs
    outer a (inl b) = subst (AllSealed R) (sym b.same) (subst (AllSealed R) (sym b.spelt.same) (sealed-ones R b.spelt.units))
    outer a (inr b) = subst (AllSealed R) (sym b.same) (inner b.value b.rest b.spelt.side)

pub header_way : {R : Fielding} → FieldsPart R → (S : ℕ → Type 0) → OneWay R (Header S)
header_way {R} part S = lawful_way part (header_lawful S) (λ l cs h. header_plain R S l cs h)

module _ {A : Type 0} {R : Fielding} {L : A → List Chunk → Type 0} (part : FieldsPart R) (o : OneWay R L) where
  -- what stands after a length
  body_way : (f : ℕ) (S : ℕ → Type 0) → ((m : ℕ) → OneWay R (Within L f (Left S m))) → (l : Length) → OneWay R (Body L (Within L f) S l)
  body_way f S again (last n) = row_way part o n
  body_way f S again (fragment m) = map_way (then_way (row_way part o (16384 * m)) (λ _. again m))

  -- with at most f lengths
  within_way : (f : ℕ) (S : ℕ → Type 0) → OneWay R (Within L f S)
  within_way zero S = never_way
  within_way (suc f) S = map_way (then_way (header_way part S) (λ l. body_way f S (λ m. within_way f (Left S m)) l))

  -- the same, against any number of lengths
  against : (f : ℕ) (S : ℕ → Type 0) (v w : List A) (us r s : List ℕ) → Spells R (Within L f S) v us r → Spells R (General L S) w us s → (v ≡ w) × (r ≡ s)
  against zero S v w us r s a b = absurd a.spelt
  against (suc f) S v w us r s a b =
      let p = map_source a in
      let q = map_source (same_spells (same_flip (general_once L S)) b) in
      let x = then_splits p.1 in
      let y = then_splits q.1 in
      let e = (header_way part S).once p.0.0 q.0.0 us x.rest y.rest x.earlier y.earlier in
      let later : Spells R (Body L (General L) S p.0.0) q.0.1 x.rest s = subst (λ (l : Length). Spells R (Body L (General L) S l) q.0.1 x.rest s) (sym e.0) (subst (λ (t : List ℕ). Spells R (Body L (General L) S q.0.0) q.0.1 t s) (sym e.1) y.later) in
      let g = body (λ m vs ws ts y z. against f (Left S m) vs ws ts y z) p.0.0 p.0.1 q.0.1 x.rest r s x.later later in
      (p.2 ∙ g.0 ∙ sym q.2, g.1)
    where
      body : ((m : ℕ) (vs ws : List A) (us r s : List ℕ) → Spells R (Within L f (Left S m)) vs us r → Spells R (General L (Left S m)) ws us s → (vs ≡ ws) × (r ≡ s))
          → (l : Length) (vs ws : List A) (us r s : List ℕ) → Spells R (Body L (Within L f) S l) vs us r → Spells R (Body L (General L) S l) ws us s → (vs ≡ ws) × (r ≡ s)
      body again (last n) vs ws us r s a b = (row_way part o n).once vs ws us r s a b
      body again (fragment m) vs ws us r s a b =
          let p = map_source a in
          let q = map_source b in
          let x = then_splits p.1 in
          let y = then_splits q.1 in
          let e = (row_way part o (16384 * m)).once p.0.0 q.0.0 us x.rest y.rest x.earlier y.earlier in
          let g = again m p.0.1 q.0.1 x.rest r s x.later (subst (λ (t : List ℕ). Spells R (General L (Left S m)) q.0.1 t s) (sym e.1) y.later) in
          let both : together p.0 ≡ together q.0 = ap (λ (l : List A). l ++ p.0.1) e.0 ∙ ap (λ (l : List A). q.0.0 ++ l) g.0 in
          (p.2 ∙ both ∙ sym q.2, g.1)

  pub general_way : (S : ℕ → Type 0) → OneWay R (General L S)
  general_way S = record {
    sealed = λ v cs h. (within_way h.lengths S).sealed v cs h.spelt;
    once = λ v w us r s a b. against a.spelt.lengths S v w us r s (record { chunks = a.chunks; spelt = a.spelt.spelt; contents = a.contents; split = a.split }) b;
  }

  -- what is ahead
  pub remaining_way : (a : Ahead) → OneWay R (Remaining L a)
  remaining_way (items n) = row_way part o n
  remaining_way (lengths is so_far closed) = general_way (At (Spanned is) so_far closed)
  remaining_way end = nothing_way [] part

-- ---- values that are spelt canonically

-- what begins a list of chunks has sealed fields that may stand there
sealed_first : (R : Fielding) (xs ys : List Chunk) → AllSealed R (xs ++ ys) → AllSealed R xs
sealed_first R [] ys h = tt
sealed_first R (one u ∷ xs) ys h = sealed_first R xs ys h
sealed_first R (sealed k c ∷ xs) ys h = (h.0, sealed_first R xs ys h.1)

module _ (c : Coding) (laws : Laws c) where
  pub spelt_way : (e : Option Datum) (t : Shape) → InProfile t → OneWay c.ruling.fielding (Spelt c.code e t)
  spelt_way e t good = lawful_way (fields_part_of c laws) (spelt_lawful c.code laws.part e t good) (λ v cs s. subst (AllSealed c.ruling.fielding) (sym s.same) (fields v s.fits.0))
    where
      fields : (v : Datum) → Fits t v → AllSealed c.ruling.fielding (c.code t v)
      fields v f =
          let units = c.padding (length (flat c.ruling.fielding.spelled (c.code t v))) in
          let w = (laws.filled t good).to v (c.code t v ++ ones units) (record {
            source = (v, tt);
            spelt = record {
              first = c.code t v;
              second = ones units;
              spelt = record { fits = (f, tt); same = refl };
              follows = record { chunks = c.code t v; spelt = record { fits = (f, tt); same = refl }; filling = record { units = units; spelt = record { same = refl }; same = refl } };
              whole = refl;
            };
            seen = refl;
          }) in
          sealed_first c.ruling.fielding (c.code t v) (ones units) (subst (AllSealed c.ruling.fielding) (sym w.same) (laws.tells.sealed t v good f))

-- ---- codes, and one of two

-- plain units that are a code
pub code_way : {V : Type 0} {R : Fielding} {P : V → Type 0} (units : V → List ℕ) → IsCode P units → OneWay R (SpelledBy P (λ v. ones (units v)))
code_way {V} {R} {P} units code = record { sealed = λ v cs h. subst (AllSealed R) (sym h.same) (sealed-ones R (units v)); once = λ v w us r s a b. code v w r s a.spelt.fits b.spelt.fits (sym (front v us r a) ∙ front w us s b) }
  where
    front : (v : V) (us r : List ℕ) (a : Spells R (SpelledBy P (λ x. ones (units x))) v us r) → us ≡ units v ++ r
    front v us r a = a.split ∙ ap (λ (cs : List Chunk). flat R.spelled cs ++ r) a.spelt.same ∙ ap (λ (l : List ℕ). l ++ r) (flat-ones R.spelled (units v))

-- one of two languages, of which no spelling of the one is at the front of units with one of the other
pub either_way : {V : Type 0} {R : Fielding} (X Y : V → List Chunk → Type 0) → OneWay R X → OneWay R Y → ((v w : V) (us r s : List ℕ) → Spells R X v us r → Spells R Y w us s → ⊥) → OneWay R (λ v cs. X v cs ⊎ Y v cs)
either_way {V} {R} X Y x y apart = record { sealed = λ v cs h. fields v cs h; once = λ v w us r s a b. go v w us r s a.chunks b.chunks a.contents b.contents a.split b.split a.spelt b.spelt }
  where
    fields : (v : V) (cs : List Chunk) → X v cs ⊎ Y v cs → AllSealed R cs
    fields v cs (inl p) = x.sealed v cs p
    fields v cs (inr p) = y.sealed v cs p

    go : (v w : V) (us r s : List ℕ) (cs ds : List Chunk) → AllContents R cs → AllContents R ds → us ≡ flat R.spelled cs ++ r → us ≡ flat R.spelled ds ++ s → X v cs ⊎ Y v cs → X w ds ⊎ Y w ds → (v ≡ w) × (r ≡ s)
    go v w us r s cs ds k m e f (inl p) (inl q) = x.once v w us r s (record { chunks = cs; spelt = p; contents = k; split = e }) (record { chunks = ds; spelt = q; contents = m; split = f })
    go v w us r s cs ds k m e f (inr p) (inr q) = y.once v w us r s (record { chunks = cs; spelt = p; contents = k; split = e }) (record { chunks = ds; spelt = q; contents = m; split = f })
    go v w us r s cs ds k m e f (inl p) (inr q) = absurd (apart v w us r s (record { chunks = cs; spelt = p; contents = k; split = e }) (record { chunks = ds; spelt = q; contents = m; split = f }))
    go v w us r s cs ds k m e f (inr p) (inl q) = absurd (apart w v us s r (record { chunks = ds; spelt = q; contents = m; split = f }) (record { chunks = cs; spelt = p; contents = k; split = e }))
