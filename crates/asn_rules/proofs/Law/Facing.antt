-- Two spellings of one type face each other: where they agree so far, a unit faces a unit and a sealed field
-- one of its kind, and where they agree to the end, both end and are of one value. From this follow both the
-- law on units (`told_by_units`) and the law on chunks (`equal_or_parted`).
use Rattle.std.proofs.Common.{◌≡◌, ◌≢◌, ◌⊎◌, ℕ, List, [], ◌∷◌, ◌++◌, length, map, inl, inr, refl, sym, ◌∙◌, ap, subst, append_assoc}
use Rattle.std.proofs.lemmas.List.{append-nil}
use Rattle.std.proofs.lemmas.Bool.{cases_eq}
use Rattle.std.specs.List.{AllByRecursion}
use Rattle.asn_bits.specs.Lengths.{joined}
use Rattle.asn_bits.proofs.Codes.{IsCode}
use Rattle.asn_rules.specs.Chunks.{Kind, Chunk, one, sealed, ones, field_units, flat}
use Rattle.asn_rules.specs.Parted.{Parted}

-- the units of the two fields tell their contents, and what follows them
abbrev pub FieldsTell : (List ℕ → List ℕ) → Kind → List ℕ → Kind → List ℕ → Type 0
FieldsTell sp k c l d = (r s : List ℕ) → field_units sp k c ++ r ≡ field_units sp l d ++ s → (c ≡ d) × (r ≡ s)

-- chunk by chunk, and E where both end
abbrev pub Faces : (List ℕ → List ℕ) → Type 0 → List Chunk → List Chunk → Type 0
Faces sp E [] [] = E
Faces sp E [] (y ∷ ys) = ⊥
Faces sp E (one a ∷ xs) [] = ⊥
Faces sp E (sealed k c ∷ xs) [] = ⊥
Faces sp E (one a ∷ xs) (one b ∷ ys) = a ≡ b → Faces sp E xs ys
Faces sp E (one a ∷ xs) (sealed l d ∷ ys) = ⊥
Faces sp E (sealed k c ∷ xs) (one b ∷ ys) = ⊥
Faces sp E (sealed k c ∷ xs) (sealed l d ∷ ys) = (k ≡ l) × FieldsTell sp k c l d × (c ≡ d → Faces sp E xs ys)

-- the same as a record, so that its parts are determined
pub record Facing (sp : List ℕ → List ℕ) (E : Type 0) (xs ys : List Chunk) : Type 0 where
  pub told : Faces sp E xs ys

-- of the values that P admits, two spellings face each other, with what follows where the values are one
abbrev pub IsFacing : (List ℕ → List ℕ) → {A : Type 0} → (A → Type 0) → (A → List Chunk) → Type 1
IsFacing sp {A} P code = (E : Type 0) (x y : A) (xs ys : List Chunk) → P x → P y → (x ≡ y → Facing sp E xs ys) → Facing sp E (code x ++ xs) (code y ++ ys)

-- ---- to compare

-- two lists of octets are one or not
octets_decide : (xs ys : List ℕ) → (xs ≡ ys) ⊎ (xs ≢ ys)
octets_decide [] [] = inl refl
octets_decide [] (y ∷ ys) = inr (λ e. cc)
octets_decide (x ∷ xs) [] = inr (λ e. cc)
octets_decide (x ∷ xs) (y ∷ ys) = elim (cases_eq x y) [
  | inl e ↦ elim (octets_decide xs ys) [
    | inl f ↦ inl (cc (e, f))
    | inr f ↦ inr (λ g. (let t : xs ≡ ys = cc (g) in f t))
  ]
  | inr n ↦ inr (λ g. (let t : x ≡ y = cc (g) in n t))
]

-- a spelling does not part from itself
pub not_from_itself : (xs : List Chunk) → Parted xs xs → ⊥
not_from_itself [] p = p
not_from_itself (one a ∷ xs) (inl n) = n refl
not_from_itself (one a ∷ xs) (inr p) = not_from_itself xs p.1
not_from_itself (sealed k c ∷ xs) (e, inl n) = n refl
not_from_itself (sealed k c ∷ xs) (e, inr p) = not_from_itself xs p.1

-- ---- parts of spellings

module _ (sp : List ℕ → List ℕ) where
  -- lists that are equal to such as face each other
  pub facing_at : (E : Type 0) {a b c d : List Chunk} → a ≡ b → c ≡ d → Facing sp E b d → Facing sp E a c
  facing_at E {a} {b} {c} {d} e f h = subst (λ z. Facing sp E z c) (sym e) (subst (λ z. Facing sp E b z) (sym f) h)

  -- of two parts each, one after the other
  pub facing_parts : (E : Type 0) (a b r c d s : List Chunk) → Facing sp E (a ++ (b ++ r)) (c ++ (d ++ s)) → Facing sp E ((a ++ b) ++ r) ((c ++ d) ++ s)
  facing_parts E a b r c d s h = facing_at E (append_assoc a b r) (append_assoc c d s) h

  -- plain units that say where they end, and C with it
  pub plain_facing : (E C : Type 0) (us ws : List ℕ) (xs ys : List Chunk) → ((r s : List ℕ) → us ++ r ≡ ws ++ s → C × (us ≡ ws)) → (C → Facing sp E xs ys) → Facing sp E (ones us ++ xs) (ones ws ++ ys)
  plain_facing E C [] [] xs ys h next = next (h [] [] refl).0
  plain_facing E C [] (w ∷ ws) xs ys h next = let e : [] ≡ w ∷ ws = (h (w ∷ ws) [] (sym (append-nil (w ∷ ws)))).1 in absurd (cc)
  plain_facing E C (u ∷ us) [] xs ys h next = let e : u ∷ us ≡ [] = (h [] (u ∷ us) (append-nil (u ∷ us))).1 in absurd (cc)
  plain_facing E C (u ∷ us) (w ∷ ws) xs ys h next = record {
    told = λ e. (plain_facing E C us ws xs ys (λ r s f. (let g : (u ∷ us) ++ r ≡ (w ∷ ws) ++ s = cc (e, f) in let k = h r s g in let t : us ≡ ws = cc (k.1) in (k.0, t))) next).told;
  }

  -- a code of plain units
  pub code_facing : {A : Type 0} (P : A → Type 0) (code : A → List ℕ) → IsCode P code → IsFacing sp P (λ x. ones (code x))
  code_facing P code h E x y xs ys p q next = plain_facing E (x ≡ y) (code x) (code y) xs ys (λ r s e. (let w = h x y r s p q e in (w.0, ap code w.0))) next

  -- one sealed field, whose content tells the value
  pub sealed_facing : {A : Type 0} (P : A → Type 0) (k : Kind) (content : A → List ℕ) → ((x y : A) → P x → P y → FieldsTell sp k (content x) k (content y))
      → ((x y : A) → P x → P y → content x ≡ content y → x ≡ y) → IsFacing sp P (λ x. sealed k (content x) ∷ [])
  sealed_facing P k content t h E x y xs ys p q next = record { told = (refl, t x y p q, λ e. (next (h x y p q e)).told) }

  -- as many items, one after the other
  pub joined_facing : {A : Type 0} (P : A → Type 0) (code : A → List Chunk) → IsFacing sp P code → (E : Type 0) (xs ys : List A) (r s : List Chunk) → length xs ≡ length ys
      → AllByRecursion P xs → AllByRecursion P ys → (xs ≡ ys → Facing sp E r s) → Facing sp E (joined (map code xs) ++ r) (joined (map code ys) ++ s)
  joined_facing P code h E [] [] r s l p q next = next refl
  joined_facing P code h E [] (y ∷ ys) r s l p q next = absurd (cc)
  joined_facing P code h E (x ∷ xs) [] r s l p q next = absurd (cc)
  joined_facing P code h E (x ∷ xs) (y ∷ ys) r s l p q next =
      facing_parts E (code x) (joined (map code xs)) r (code y) (joined (map code ys)) s
      (h E x y (joined (map code xs) ++ r) (joined (map code ys) ++ s) p.0 q.0 (λ e. joined_facing P code h E xs ys r s (cc) p.1 q.1 (λ f. next (cc (e, f)))))

  -- ---- what follows

  -- spellings at the front of one list of units are one
  pub told_by_units : (E : Type 0) (xs ys : List Chunk) (r s : List ℕ) → Faces sp E xs ys → flat sp xs ++ r ≡ flat sp ys ++ s → E × (xs ≡ ys) × (r ≡ s)
  told_by_units E [] [] r s h e = (h, refl, e)
  told_by_units E [] (y ∷ ys) r s h e = absurd h
  told_by_units E (one a ∷ xs) [] r s h e = absurd h
  told_by_units E (sealed k c ∷ xs) [] r s h e = absurd h
  told_by_units E (one a ∷ xs) (one b ∷ ys) r s h e =
      let same : a ≡ b = cc in
      let later : flat sp xs ++ r ≡ flat sp ys ++ s = cc in
      let w = told_by_units E xs ys r s (h same) later in
      (w.0, cc (same, w.1), w.2)
  told_by_units E (one a ∷ xs) (sealed l d ∷ ys) r s h e = absurd h
  told_by_units E (sealed k c ∷ xs) (one b ∷ ys) r s h e = absurd h
  told_by_units E (sealed k c ∷ xs) (sealed l d ∷ ys) r s h e =
      let t = h.1 (flat sp xs ++ r) (flat sp ys ++ s) (sym (append_assoc (field_units sp k c) (flat sp xs) r) ∙ e ∙ append_assoc (field_units sp l d) (flat sp ys) s) in
      let w = told_by_units E xs ys r s (h.2 t.0) t.1 in
      let kinds = h.0 in
      (w.0, cc (kinds, t.0, w.1), w.2)

  -- the same with one more chunk in front
  one_more : (E : Type 0) (c : Chunk) (xs ys : List Chunk) → (Parted xs ys → Parted (c ∷ xs) (c ∷ ys)) → (E × (xs ≡ ys)) ⊎ Parted xs ys → (E × (c ∷ xs ≡ c ∷ ys)) ⊎ Parted (c ∷ xs) (c ∷ ys)
  one_more E c xs ys f (inl e) = inl (e.0, ap (λ t. c ∷ t) e.1)
  one_more E c xs ys f (inr p) = inr (f p)

  -- they are equal, or part
  pub equal_or_parted : (E : Type 0) (xs ys : List Chunk) → Faces sp E xs ys → (E × (xs ≡ ys)) ⊎ Parted xs ys
  equal_or_parted E [] [] h = inl (h, refl)
  equal_or_parted E [] (y ∷ ys) h = absurd h
  equal_or_parted E (one a ∷ xs) [] h = absurd h
  equal_or_parted E (sealed k c ∷ xs) [] h = absurd h
  equal_or_parted E (one a ∷ xs) (one b ∷ ys) h =
      elim (cases_eq a b) [
        | inl e ↦ subst (λ z. (E × (one a ∷ xs ≡ one z ∷ ys)) ⊎ Parted (one a ∷ xs) (one z ∷ ys)) e (one_more E (one a) xs ys (λ p. inr (refl, p)) (equal_or_parted E xs ys (h e)))
        | inr n ↦ inr (inl n)
      ]
  equal_or_parted E (one a ∷ xs) (sealed l d ∷ ys) h = absurd h
  equal_or_parted E (sealed k c ∷ xs) (one b ∷ ys) h = absurd h
  equal_or_parted E (sealed k c ∷ xs) (sealed l d ∷ ys) h =
      elim (octets_decide c d) [
        | inl e ↦ subst (λ z. (E × (sealed k c ∷ xs ≡ sealed z d ∷ ys)) ⊎ Parted (sealed k c ∷ xs) (sealed z d ∷ ys)) h.0
            (subst (λ z. (E × (sealed k c ∷ xs ≡ sealed k z ∷ ys)) ⊎ Parted (sealed k c ∷ xs) (sealed k z ∷ ys)) e (one_more E (sealed k c) xs ys (λ p. (refl, inr (refl, p))) (equal_or_parted E xs ys (h.2 e))))
        | inr n ↦ inr (h.0, inl n)
      ]
