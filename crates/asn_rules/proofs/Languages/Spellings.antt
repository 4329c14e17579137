-- Languages whose spellings are given by a function: they are put together as their spellings are.
use Rattle.std.proofs.Common.{◌≡◌, ◌≢◌, ℕ, zero, suc, ◌^◌, ◌<◌, ◌⊎◌, inl, inr, ⊎_elim, List, [], ◌∷◌, ◌++◌, map, length, refl, sym, ap, ◌∙◌, subst, arith}
use Rattle.std.specs.List.{AllByRecursion}
use Rattle.asn_bits.specs.Numbers.{digits, bits}
use Rattle.asn_bits.specs.Lengths.{joined}
use Rattle.asn_rules.specs.Chunks.{Kind, Chunk, one, sealed, ones, flat}
use Rattle.asn_rules.specs.Parted.{Parted}
use Rattle.asn_rules.specs.Live.{Fielding}
use Rattle.asn_rules.specs.Languages.{Spells, Short, Lawful, Inhabited, Then, Map, Nothing, Row, Plain, Sealed}
use Rattle.asn_bits.specs.Sets.{InDigits, InSet}
use Rattle.asn_rules.specs.Forks.{Branch, Fork, Same}
use Rattle.asn_rules.specs.Padding.{Padded}
use Rattle.asn_rules.specs.Spellings.{SpelledBy, FitsEither, either_code}
use Rattle.asn_rules.proofs.Live.Flat.{flat-ones}
use Rattle.asn_rules.proofs.Live.Chunks.{FieldsPart}
use Rattle.asn_rules.proofs.Languages.Parts.{contents-ones, short_within}
use Rattle.asn_bits.proofs.Weights.{digits_are, digits_only}

-- ---- laws

-- spellings that are one or part
pub spelled_lawful : {V : Type 0} {P : V → Type 0} {code : V → List Chunk} → ((v w : V) → P v → P w → ((v ≡ w) × (code v ≡ code w)) ⊎ ((v ≢ w) × Parted (code v) (code w))) → Lawful (SpelledBy P code)
spelled_lawful {V} {P} {code} part = record { law = λ v w x y p q. go v w x y p q (part v w p.fits q.fits) }
  where
    go : (v w : V) (x y : List Chunk) → SpelledBy P code v x → SpelledBy P code w y → ((v ≡ w) × (code v ≡ code w)) ⊎ ((v ≢ w) × Parted (code v) (code w)) → ((v ≡ w) × (x ≡ y)) ⊎ ((v ≢ w) × Parted x y)
    go v w x y p q (inl e) = inl (e.0, p.same ∙ e.1 ∙ sym q.same)
    go v w x y p q (inr n) = inr (n.0, rw (p.same, q.same) n.1)

-- a value that fits is spelt
pub spelled_inhabited : {V : Type 0} {P : V → Type 0} {code : V → List Chunk} (v : V) → P v → Inhabited (SpelledBy P code)
spelled_inhabited {code = code} v p = record { value = v; chunks = code v; spelt = record { fits = p; same = refl } }

-- ---- the same spellings

-- the same as what is the same
pub same_after : {V : Type 0} {K L M : V → List Chunk → Type 0} → Same K L → Same L M → Same K M
same_after e f = record { to = λ v cs h. f.to v cs (e.to v cs h); from = λ v cs h. e.from v cs (f.from v cs h) }

-- one after the other
pub same_then : {A B : Type 0} {K L : A → List Chunk → Type 0} {M N : A → B → List Chunk → Type 0} → Same K L → ((a : A) → Same (M a) (N a)) → Same (Then K M) (Then L N)
same_then e f = record {
  to = λ v cs h. record { first = h.first; second = h.second; spelt = e.to v.0 h.first h.spelt; follows = (f v.0).to v.1 h.second h.follows; whole = h.whole };
  from = λ v cs h. record { first = h.first; second = h.second; spelt = e.from v.0 h.first h.spelt; follows = (f v.0).from v.1 h.second h.follows; whole = h.whole };
}

-- under a view
pub same_map : {A B : Type 0} {f : A → B} {K L : A → List Chunk → Type 0} → Same K L → Same (Map f K) (Map f L)
same_map e = record {
  to = λ v cs h. record { source = h.source; spelt = e.to h.source cs h.spelt; seen = h.seen };
  from = λ v cs h. record { source = h.source; spelt = e.from h.source cs h.spelt; seen = h.seen };
}

-- in a row
pub same_row : {A : Type 0} {K L : A → List Chunk → Type 0} → Same K L → (n : ℕ) → Same (Row K n) (Row L n)
same_row e zero = record { to = λ v cs h. h; from = λ v cs h. h }
same_row e (suc n) = same_map (same_then e (λ _. same_row e n))

-- the same function on the same values
pub same_spelled : {V : Type 0} {P Q : V → Type 0} {code other : V → List Chunk} → ((v : V) → P v → Q v) → ((v : V) → Q v → P v) → ((v : V) → P v → code v ≡ other v) → Same (SpelledBy P code) (SpelledBy Q other)
same_spelled f g e = record {
  to = λ v cs h. record { fits = f v h.fits; same = h.same ∙ e v h.fits };
  from = λ v cs h. record { fits = g v h.fits; same = h.same ∙ sym (e v (g v h.fits)) };
}

-- ---- put together

-- one spelling after the other
pub then_spelled : {A B : Type 0} {P : A → Type 0} {Q : A → B → Type 0} {f : A → List Chunk} {g : A → B → List Chunk} → Same (Then (SpelledBy P f) (λ a. SpelledBy (Q a) (g a))) (SpelledBy (λ (p : A × B). P p.0 × Q p.0 p.1) (λ (p : A × B). f p.0 ++ g p.0 p.1))
then_spelled {f = f} {g = g} = record {
  to = λ v cs h. record { fits = (h.spelt.fits, h.follows.fits); same = h.whole ∙ ap (λ (l : List Chunk). l ++ h.second) h.spelt.same ∙ ap (λ (l : List Chunk). f v.0 ++ l) h.follows.same };
  from = λ v cs h. record { first = f v.0; second = g v.0 v.1; spelt = record { fits = h.fits.0; same = refl }; follows = record { fits = h.fits.1; same = refl }; whole = h.same };
}

-- another view of the values: each value that fits is seen so, and none else
pub map_spelled : {A B : Type 0} {P : A → Type 0} {Q : B → Type 0} {view : A → B} {f : A → List Chunk} {g : B → List Chunk} → ((a : A) → P a → Q (view a) × (f a ≡ g (view a))) → ((b : B) → Q b → (a : A) × P a × (b ≡ view a)) → Same (Map view (SpelledBy P f)) (SpelledBy Q g)
map_spelled {A} {B} {P} {Q} {view} {f} {g} there back = record {
  to = λ v cs h.
      let w = there h.source h.spelt.fits in
      record { fits = subst Q (sym h.seen) w.0; same = h.spelt.same ∙ w.1 ∙ ap g (sym h.seen) };
  from = λ v cs h.
      let w = back v h.fits in
      record { source = w.0; spelt = record { fits = w.1; same = h.same ∙ ap g w.2 ∙ sym (there w.0 w.1).1 }; seen = w.2 };
}

-- plain units, of which each value that fits has these
pub plain_spelled : {A : Type 0} {C : A → List ℕ → Type 0} {P : A → Type 0} {f : A → List ℕ} → ((a : A) (us : List ℕ) → C a us → P a × (us ≡ f a)) → ((a : A) → P a → C a (f a)) → Same (Plain C) (SpelledBy P (λ a. ones (f a)))
plain_spelled {f = f} there back = record {
  to = λ v cs h.
      let w = there v h.units h.spelt in
      record { fits = w.0; same = h.same ∙ ap ones w.1 };
  from = λ v cs h. record { units = f v; spelt = back v h.fits; same = h.same };
}

-- numbers of a set in k digits
pub digits_spelled : (base k : ℕ) (S : ℕ → Type 0) → ((n : ℕ) → S n → n < base ^ k) → Same (Plain (InDigits base k S)) (SpelledBy S (λ n. ones (digits base k n)))
digits_spelled base k S fit = plain_spelled (λ n us h. (h.member, (digits_only base k n us h.digits).1)) (λ n m. record { digits = digits_are base k n (fit n m); member = m })

-- in k bits
pub set_spelled : (k : ℕ) (S : ℕ → Type 0) → ((n : ℕ) → S n → n < 2 ^ k) → Same (Plain (InSet k S)) (SpelledBy S (λ n. ones (bits k n)))
set_spelled k S fit = digits_spelled 2 k S fit

-- one value, which is spelt by nothing
pub nothing_spelled : {A : Type 0} (a : A) → Same (Nothing a) (SpelledBy (λ b. b ≡ a) (λ b. []))
nothing_spelled a = record { to = λ v cs h. record { fits = h.same; same = h.empty }; from = λ v cs h. record { same = h.fits; empty = h.same } }

-- a sealed field
pub sealed_spelled : {A : Type 0} (k : Kind) {C : A → List ℕ → Type 0} {P : A → Type 0} {content : A → List ℕ} → ((a : A) (c : List ℕ) → C a c → P a × (c ≡ content a)) → ((a : A) → P a → C a (content a)) → Same (Sealed k C) (SpelledBy P (λ a. sealed k (content a) ∷ []))
sealed_spelled k {content = content} there back = record {
  to = λ v cs h.
      let w = there v h.content h.spelt in
      record { fits = w.0; same = h.same ∙ ap (λ (c : List ℕ). sealed k c ∷ []) w.1 };
  from = λ v cs h. record { content = content v; spelt = back v h.fits; same = h.same };
}

-- n values in a row
pub row_spelled : {A : Type 0} {P : A → Type 0} {f : A → List Chunk} (n : ℕ) → Same (Row (SpelledBy P f) n) (SpelledBy (λ vs. (length vs ≡ n) × AllByRecursion P vs) (λ vs. joined (map f vs)))
row_spelled {A} {P} {f} zero = record {
  to = λ v cs h. record { fits = (ap length h.same, subst (AllByRecursion P) (sym h.same) tt); same = h.empty ∙ ap (λ (l : List A). joined (map f l)) (sym h.same) };
  from = λ v cs h. from v cs h.fits.0 h.same;
}
  where
    from : (v : List A) (cs : List Chunk) → length v ≡ 0 → cs ≡ joined (map f v) → Row (SpelledBy P f) 0 v cs
    from [] cs l e = record { same = refl; empty = e }
    from (x ∷ v) cs l e = absurd (omega arith)
row_spelled {A} {P} {f} (suc n) = go (row_spelled {P = P} {f = f} n)
  where
    from : Same (Row (SpelledBy P f) n) (SpelledBy (λ vs. (length vs ≡ n) × AllByRecursion P vs) (λ vs. joined (map f vs))) → (v : List A) (cs : List Chunk) → length v ≡ suc n → AllByRecursion P v → cs ≡ joined (map f v) → Row (SpelledBy P f) (suc n) v cs
    from again [] cs l p e = absurd (omega arith)
    from again (x ∷ v) cs l p e =
        record { source = (x, v); spelt = record { first = f x; second = joined (map f v); spelt = record { fits = p.0; same = refl }; follows = again.from v (joined (map f v)) (record { fits = (omega arith, p.1); same = refl }); whole = e }; seen = refl }

    go : Same (Row (SpelledBy P f) n) (SpelledBy (λ vs. (length vs ≡ n) × AllByRecursion P vs) (λ vs. joined (map f vs))) → Same (Row (SpelledBy P f) (suc n)) (SpelledBy (λ vs. (length vs ≡ suc n) × AllByRecursion P vs) (λ vs. joined (map f vs)))
    go again = record {
      to = λ v cs h.
          let rest = again.to h.source.1 h.spelt.second h.spelt.follows in
          let whole : cs ≡ joined (map f (h.source.0 ∷ h.source.1)) = h.spelt.whole ∙ ap (λ (l : List Chunk). l ++ h.spelt.second) h.spelt.spelt.same ∙ ap (λ (l : List Chunk). f h.source.0 ++ l) rest.same in
          record { fits = (ap length h.seen ∙ ap suc rest.fits.0, subst (AllByRecursion P) (sym h.seen) (h.spelt.spelt.fits, rest.fits.1)); same = whole ∙ ap (λ (l : List A). joined (map f l)) (sym h.seen) };
      from = λ v cs h. from again v cs h.fits.0 h.fits.1 h.same;
    }

-- a spelling, and what fills it up
pub padded_spelled : {A : Type 0} (R : Fielding) (fill : ℕ → List ℕ) {P : A → Type 0} {f : A → List Chunk} → Same (Padded R fill (SpelledBy P f)) (SpelledBy P (λ a. f a ++ ones (fill (length (flat R.spelled (f a))))))
padded_spelled {A} R fill {P} {f} = record {
  to = λ v cs h.
      let t = h.spelt in
      let b = t.follows in
      let e : t.second ≡ ones (fill (length (flat R.spelled (f h.source.0)))) = b.filling.same ∙ ap ones b.filling.spelt.same ∙ ap (λ (c : List Chunk). ones (fill (length (flat R.spelled c)))) b.spelt.same in
      let whole : cs ≡ f h.source.0 ++ ones (fill (length (flat R.spelled (f h.source.0)))) = t.whole ∙ ap (λ (l : List Chunk). l ++ t.second) t.spelt.same ∙ ap (λ (l : List Chunk). f h.source.0 ++ l) e in
      record { fits = subst P (sym h.seen) t.spelt.fits; same = whole ∙ ap (λ (a : A). f a ++ ones (fill (length (flat R.spelled (f a))))) (sym h.seen) };
  from = λ v cs h. record {
    source = (v, tt);
    spelt = record {
      first = f v;
      second = ones (fill (length (flat R.spelled (f v))));
      spelt = record { fits = h.fits; same = refl };
      follows = record { chunks = f v; spelt = record { fits = h.fits; same = refl }; filling = record { units = fill (length (flat R.spelled (f v))); spelt = record { same = refl }; same = refl } };
      whole = h.same;
    };
    seen = refl;
  };
}

-- one of two, told by a bit in front
pub fork_spelled : {A B : Type 0} {P : A → Type 0} {Q : B → Type 0} {f : A → List Chunk} {g : B → List Chunk} → Same (Fork (SpelledBy P f) (SpelledBy Q g)) (SpelledBy (FitsEither P Q) (either_code f g))
fork_spelled {A} {B} {P} {Q} {f} {g} = record {
  to = λ v cs h. go v cs h.side;
  from = λ v cs h. back v cs h.fits h.same;
}
  where
    go : (v : A ⊎ B) (cs : List Chunk) → Branch 0 inl (SpelledBy P f) v cs ⊎ Branch 1 inr (SpelledBy Q g) v cs → SpelledBy (FitsEither P Q) (either_code f g) v cs
    go v cs (inl b) = record {
      fits = subst (λ (w : A ⊎ B). FitsEither P Q w) (sym b.seen) b.spelt.fits;
      same = b.same ∙ ap (λ (l : List Chunk). one 0 ∷ l) b.spelt.same ∙ ap (λ (w : A ⊎ B). either_code f g w) (sym b.seen);
    }
    go v cs (inr b) = record {
      fits = subst (λ (w : A ⊎ B). FitsEither P Q w) (sym b.seen) b.spelt.fits;
      same = b.same ∙ ap (λ (l : List Chunk). one 1 ∷ l) b.spelt.same ∙ ap (λ (w : A ⊎ B). either_code f g w) (sym b.seen);
    }

    back : (v : A ⊎ B) (cs : List Chunk) → FitsEither P Q v → cs ≡ either_code f g v → Fork (SpelledBy P f) (SpelledBy Q g) v cs
    back (inl a) cs p e = record { side = inl (record { value = a; rest = f a; spelt = record { fits = p; same = refl }; seen = refl; same = e }) }
    back (inr b) cs p e = record { side = inr (record { value = b; rest = g b; spelt = record { fits = p; same = refl }; seen = refl; same = e }) }

-- after a bit
pub same_fork : {A B : Type 0} {K L : A → List Chunk → Type 0} {M N : B → List Chunk → Type 0} → Same K L → Same M N → Same (Fork K M) (Fork L N)
same_fork e f = record { to = λ v cs h. record { side = ⊎_elim (λ b. inl (record { value = b.value; rest = b.rest; spelt = e.to b.value b.rest b.spelt; seen = b.seen; same = b.same })) (λ b. inr (record { value = b.value; rest = b.rest; spelt = f.to b.value b.rest b.spelt; seen = b.seen; same = b.same })) h.side }; from = λ v cs h. record { side = ⊎_elim (λ b. inl (record { value = b.value; rest = b.rest; spelt = e.from b.value b.rest b.spelt; seen = b.seen; same = b.same })) (λ b. inr (record { value = b.value; rest = b.rest; spelt = f.from b.value b.rest b.spelt; seen = b.seen; same = b.same })) h.side } }

-- ---- readings of plain units, whole or in part

-- a value that fits stands in front of what follows its units
pub units_front : {V : Type 0} {P : V → Type 0} (f : V → List ℕ) {L : V → List Chunk → Type 0} (R : Fielding) → Same L (SpelledBy P (λ v. ones (f v))) → (v : V) → P v → (r : List ℕ) → Spells R L v (f v ++ r) r
units_front f R e v p r = record {
  chunks = ones (f v);
  spelt = e.from v (ones (f v)) (record { fits = p; same = refl });
  contents = contents-ones R (f v);
  split = ap (λ (l : List ℕ). l ++ r) (sym (flat-ones R.spelled (f v)));
}

-- fewer units than a value has want more
pub units_short : {V : Type 0} {P : V → Type 0} (f : V → List ℕ) {L : V → List Chunk → Type 0} {R : Fielding} → FieldsPart R → Lawful L → Same L (SpelledBy P (λ v. ones (f v))) → (v : V) → P v → (us : List ℕ) (u : ℕ) (t : List ℕ) → us ++ u ∷ t ≡ f v → Short R L us
units_short f {R = R} ok law e v p us u t d =
    short_within ok law v (ones (f v)) (e.from v (ones (f v)) (record { fits = p; same = refl })) (contents-ones R (f v)) (record { next = u; more = t; split = d ∙ sym (flat-ones R.spelled (f v)) })
