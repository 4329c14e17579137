-- What begins a list of chunks, and where two lists part.
use Rattle.std.proofs.Common.{◌≡◌, ◌≢◌, ℕ, ◌⊎◌, inl, inr, ⊎_elim, List, [], ◌∷◌, ◌++◌, refl, sym, ap, ◌∙◌, subst, append_assoc}
use Rattle.std.proofs.lemmas.List.{append-nil, append_cancel_left}
use Rattle.asn_rules.proofs.Live.Lists.{Within, Beyond, cut, not_empty}
use Rattle.asn_rules.specs.Chunks.{Kind, Chunk, one, sealed, ones, flat, field_units}
use Rattle.asn_rules.specs.Languages.{AllContents, InField, Passed, IsFront}
use Rattle.asn_rules.specs.Live.{Fielding, IsContent}
use Rattle.asn_rules.specs.Parted.{Parted}

-- No spelling of a sealed field within its limit begins another, and none is empty.
pub record FieldsPart (R : Fielding) : Type 0 where
  pub tells : (k : Kind) (c d s t : List ℕ) → IsContent R k c → IsContent R k d → field_units R.spelled k c ++ s ≡ field_units R.spelled k d ++ t → c ≡ d
  pub some_units : (k : Kind) (c : List ℕ) → IsContent R k c → field_units R.spelled k c ≢ []

-- plain units one after the other
pub ones-append : (us vs : List ℕ) → ones (us ++ vs) ≡ ones us ++ ones vs
ones-append [] vs = refl
ones-append (u ∷ us) vs = ap (λ (l : List Chunk). one u ∷ l) (ones-append us vs)

-- what the sealed fields of both hold may stand there
pub contents-append : (R : Fielding) (xs ys : List Chunk) → AllContents R xs → AllContents R ys → AllContents R (xs ++ ys)
contents-append R [] ys f g = g
contents-append R (one u ∷ xs) ys f g = contents-append R xs ys f g
contents-append R (sealed k c ∷ xs) ys f g = (f.0, contents-append R xs ys f.1 g)

-- so it may in the first
pub contents-first : (R : Fielding) (xs ys : List Chunk) → AllContents R (xs ++ ys) → AllContents R xs
contents-first R [] ys f = tt
contents-first R (one u ∷ xs) ys f = contents-first R xs ys f
contents-first R (sealed k c ∷ xs) ys f = (f.0, contents-first R xs ys f.1)

-- and in the second
pub contents-second : (R : Fielding) (xs ys : List Chunk) → AllContents R (xs ++ ys) → AllContents R ys
contents-second R [] ys f = f
contents-second R (one u ∷ xs) ys f = contents-second R xs ys f
contents-second R (sealed k c ∷ xs) ys f = contents-second R xs ys f.1

-- less than a sealed field that is within its limit
pub field_begun : (R : Fielding) (k : Kind) (c us : List ℕ) → IsContent R k c → Within us (field_units R.spelled k c) → InField R k us
field_begun R k c us f w = record { content = c; contents = f; next = w.next; more = w.more; split = w.split }

-- less than less is less
pub begun_shorter : (R : Fielding) (k : Kind) (us t : List ℕ) → InField R k (us ++ t) → InField R k us
begun_shorter R k us [] h = rw (← append-nil us) h
begun_shorter R k us (x ∷ t) h = record { content = h.content; contents = h.contents; next = x; more = t ++ h.next ∷ h.more; split = sym (append_assoc us (x ∷ t) (h.next ∷ h.more)) ∙ h.split }

-- a whole sealed field is not less than one
pub whole_not_begun : {R : Fielding} → FieldsPart R → (k : Kind) (c t : List ℕ) → IsContent R k c → InField R k (field_units R.spelled k c ++ t) → ⊥
whole_not_begun {R} ok k c t f h =
    let e : field_units R.spelled k c ++ (t ++ h.next ∷ h.more) ≡ field_units R.spelled k h.content ++ [] =
    sym (append_assoc (field_units R.spelled k c) t (h.next ∷ h.more)) ∙ h.split ∙ sym (append-nil (field_units R.spelled k h.content)) in
    let same : c ≡ h.content = ok.tells k c h.content (t ++ h.next ∷ h.more) [] f h.contents e in
    let whole : field_units R.spelled k c ++ (t ++ h.next ∷ h.more) ≡ field_units R.spelled k c ++ [] = e ∙ ap (λ d. field_units R.spelled k d ++ []) (sym same) in
    no_tail t h.next h.more (append_cancel_left (field_units R.spelled k c) (t ++ h.next ∷ h.more) [] whole)
  where
    no_tail : (t : List ℕ) (u : ℕ) (us : List ℕ) → t ++ u ∷ us ≡ [] → ⊥
    no_tail [] u us e = cc
    no_tail (x ∷ t) u us e = cc

-- what begins an encoding at more units does at fewer
pub front_shorter : (R : Fielding) (cs : List Chunk) (us t : List ℕ) → IsFront R cs (us ++ t) → IsFront R cs us
front_shorter R cs [] t h = tt
front_shorter R [] (u ∷ us) t h = h
front_shorter R (one x ∷ cs) (u ∷ us) t h = (h.0, front_shorter R cs us t h.1)
front_shorter R (sealed k c ∷ cs) (u ∷ us) t (inl h) = inl (begun_shorter R k (u ∷ us) t h)
front_shorter R (sealed k c ∷ cs) (u ∷ us) t (inr h) = go (cut (u ∷ us) t (field_units R.spelled k c) h.0 h.2) (λ r q. front_shorter R cs r t q)
  where
    go : Within (u ∷ us) (field_units R.spelled k c) ⊎ Beyond (u ∷ us) (field_units R.spelled k c) h.0 t → ((r : List ℕ) → IsFront R cs (r ++ t) → IsFront R cs r) → InField R k (u ∷ us) ⊎ Passed R k c (u ∷ us) (IsFront R cs)
    go (inl w) again = inl (field_begun R k c (u ∷ us) h.1 w)
    go (inr w) again = inr (w.rest, h.1, w.front, again w.rest (rw (← w.back) h.3))

-- what begins x begins x ++ y
pub front_longer : (R : Fielding) (x y : List Chunk) (us : List ℕ) → IsFront R x us → IsFront R (x ++ y) us
front_longer R x y [] h = tt
front_longer R [] y (u ∷ us) h = absurd h
front_longer R (one a ∷ x) y (u ∷ us) h = (h.0, front_longer R x y us h.1)
front_longer R (sealed k c ∷ x) y (u ∷ us) (inl h) = inl h
front_longer R (sealed k c ∷ x) y (u ∷ us) (inr h) = inr (h.0, h.1, h.2, front_longer R x y h.0 h.3)

-- after x, what begins y begins x ++ y
pub front_after : {R : Fielding} → FieldsPart R → (x y : List Chunk) (us : List ℕ) → AllContents R x → IsFront R y us → IsFront R (x ++ y) (flat R.spelled x ++ us)
front_after ok [] y us f h = h
front_after ok (one a ∷ x) y us f h = (refl, front_after ok x y us f h)
front_after {R} ok (sealed k c ∷ x) y us f h = go (field_units R.spelled k c) refl (front_after ok x y us f.1 h)
  where
    go : (g : List ℕ) → field_units R.spelled k c ≡ g → IsFront R (x ++ y) (flat R.spelled x ++ us) → IsFront R (sealed k c ∷ (x ++ y)) ((g ++ flat R.spelled x) ++ us)
    go [] e q = absurd (ok.some_units k c f.0 e)
    go (u ∷ g) e q = inr (flat R.spelled x ++ us, f.0, append_assoc (u ∷ g) (flat R.spelled x) us ∙ ap (λ (l : List ℕ). l ++ (flat R.spelled x ++ us)) (sym e), q)

-- what begins x ++ y begins x, or has the whole of x and then begins y
pub record After (R : Fielding) (x y : List Chunk) (us : List ℕ) : Type 0 where
  pub rest : List ℕ
  pub contents : AllContents R x
  pub split : us ≡ flat R.spelled x ++ rest
  pub front : IsFront R y rest

-- what begins both begins the first, or has it whole and begins the second after it
pub front_parts : (R : Fielding) (x y : List Chunk) (us : List ℕ) → IsFront R (x ++ y) us → IsFront R x us ⊎ After R x y us
front_parts R x y [] h = inl tt
front_parts R [] y (u ∷ us) h = inr (record { rest = u ∷ us; contents = tt; split = refl; front = h })
front_parts R (one a ∷ x) y (u ∷ us) h = go (front_parts R x y us h.1)
  where
    go : IsFront R x us ⊎ After R x y us → ((a ≡ u) × IsFront R x us) ⊎ After R (one a ∷ x) y (u ∷ us)
    go (inl q) = inl (h.0, q)
    go (inr q) = inr (record { rest = q.rest; contents = q.contents; split = let e = q.split in let d = h.0 in cc; front = q.front })
front_parts R (sealed k c ∷ x) y (u ∷ us) (inl h) = inl (inl h)
front_parts R (sealed k c ∷ x) y (u ∷ us) (inr h) = go (front_parts R x y h.0 h.3)
  where
    go : IsFront R x h.0 ⊎ After R x y h.0 → (InField R k (u ∷ us) ⊎ Passed R k c (u ∷ us) (IsFront R x)) ⊎ After R (sealed k c ∷ x) y (u ∷ us)
    go (inl q) = inl (inr (h.0, h.1, h.2, q))
    go (inr q) = inr (record { rest = q.rest; contents = (h.1, q.contents); split = h.2 ∙ ap (λ (l : List ℕ). field_units R.spelled k c ++ l) q.split ∙ sym (append_assoc (field_units R.spelled k c) (flat R.spelled x) q.rest); front = q.front })

-- a spelling's own units, and each part of them, begin it
pub front_whole : {R : Fielding} → FieldsPart R → (x : List Chunk) → AllContents R x → IsFront R x (flat R.spelled x)
front_whole {R} ok x f =
    let h : IsFront R (x ++ []) (flat R.spelled x ++ []) = front_after ok x [] [] f tt in
    rw (append-nil x, append-nil (flat R.spelled x)) at h

-- units that are not empty and begin a sealed field are less than one, or pass it
pub field_front : (R : Fielding) (k : Kind) (c : List ℕ) (cs : List Chunk) (us : List ℕ) → us ≢ [] → IsFront R (sealed k c ∷ cs) us → InField R k us ⊎ Passed R k c us (IsFront R cs)
field_front R k c cs [] n h = absurd (n refl)
field_front R k c cs (u ∷ us) n h = h

-- no units that have the whole of y in front begin x where the two part
pub parted_front : {R : Fielding} → FieldsPart R → (x y z : List Chunk) (us : List ℕ) → AllContents R y → Parted x y → IsFront R (x ++ z) (flat R.spelled y ++ us) → ⊥
parted_front ok [] y z us fine p h = absurd p
parted_front ok (one a ∷ x) [] z us fine p h = absurd p
parted_front ok (one a ∷ x) (one b ∷ y) z us fine (inl p) h = p h.0
parted_front ok (one a ∷ x) (one b ∷ y) z us fine (inr p) h = parted_front ok x y z us fine p.1 h.1
parted_front ok (one a ∷ x) (sealed k c ∷ y) z us fine p h = absurd p
parted_front ok (sealed k c ∷ x) [] z us fine p h = absurd p
parted_front ok (sealed k c ∷ x) (one b ∷ y) z us fine p h = absurd p
parted_front {R} ok (sealed k c ∷ x) (sealed l d ∷ y) z us fine p h =
    let e : (field_units R.spelled l d ++ flat R.spelled y) ++ us ≡ field_units R.spelled k d ++ (flat R.spelled y ++ us) =
    append_assoc (field_units R.spelled l d) (flat R.spelled y) us ∙ ap (λ m. field_units R.spelled m d ++ (flat R.spelled y ++ us)) (sym p.0) in
    let mine : IsContent R k d = subst (λ m. IsContent R m d) (sym p.0) fine.0 in
    let full = not_empty (field_units R.spelled k d) (flat R.spelled y ++ us) (ok.some_units k d mine) in
    let g : IsFront R (sealed k c ∷ (x ++ z)) (field_units R.spelled k d ++ (flat R.spelled y ++ us)) = rw e at h in
    go p.1 (field_front R k c (x ++ z) (field_units R.spelled k d ++ (flat R.spelled y ++ us)) full g) (λ q v f. parted_front ok x y z v fine.1 q f)
  where
    mine : IsContent R k d
    mine = subst (λ m. IsContent R m d) (sym p.0) fine.0

    go : (c ≢ d) ⊎ ((c ≡ d) × Parted x y) → InField R k (field_units R.spelled k d ++ (flat R.spelled y ++ us)) ⊎ Passed R k c (field_units R.spelled k d ++ (flat R.spelled y ++ us)) (IsFront R (x ++ z)) → (Parted x y → (v : List ℕ) → IsFront R (x ++ z) (flat R.spelled y ++ v) → ⊥) → ⊥
    go q (inl f) again = whole_not_begun ok k d (flat R.spelled y ++ us) mine f
    go (inl q) (inr f) again = q (sym (ok.tells k d c (flat R.spelled y ++ us) f.0 mine f.1 f.2))
    go (inr q) (inr f) again =
        let e : field_units R.spelled k d ++ (flat R.spelled y ++ us) ≡ field_units R.spelled k d ++ f.0 = f.2 ∙ ap (λ b. field_units R.spelled k b ++ f.0) q.0 in
        let r : f.0 ≡ flat R.spelled y ++ us = sym (append_cancel_left (field_units R.spelled k d) (flat R.spelled y ++ us) f.0 e) in
        again q.1 us (rw r at f.3)

-- parted encodings, whatever follows them, are different units
pub parted_units : {R : Fielding} → FieldsPart R → (x y : List Chunk) (s t : List ℕ) → AllContents R x → AllContents R y → Parted x y → flat R.spelled x ++ s ≡ flat R.spelled y ++ t → ⊥
parted_units ok [] y s t f g p e = absurd p
parted_units ok (one a ∷ x) [] s t f g p e = absurd p
parted_units ok (one a ∷ x) (one b ∷ y) s t f g (inl p) e = p cc
parted_units ok (one a ∷ x) (one b ∷ y) s t f g (inr p) e = parted_units ok x y s t f g p.1 cc
parted_units ok (one a ∷ x) (sealed k c ∷ y) s t f g p e = absurd p
parted_units ok (sealed k c ∷ x) [] s t f g p e = absurd p
parted_units ok (sealed k c ∷ x) (one b ∷ y) s t f g p e = absurd p
parted_units {R} ok (sealed k c ∷ x) (sealed l d ∷ y) s t f g p e =
    let h : field_units R.spelled k c ++ (flat R.spelled x ++ s) ≡ field_units R.spelled k d ++ (flat R.spelled y ++ t) =
    sym (append_assoc (field_units R.spelled k c) (flat R.spelled x) s) ∙ e ∙ append_assoc (field_units R.spelled l d) (flat R.spelled y) t ∙ ap (λ m. field_units R.spelled m d ++ (flat R.spelled y ++ t)) (sym p.0) in
    let same : c ≡ d = ok.tells k c d (flat R.spelled x ++ s) (flat R.spelled y ++ t) f.0 (subst (λ m. IsContent R m d) (sym p.0) g.0) h in
    let rest : flat R.spelled x ++ s ≡ flat R.spelled y ++ t = append_cancel_left (field_units R.spelled k c) (flat R.spelled x ++ s) (flat R.spelled y ++ t) (h ∙ ap (λ b. field_units R.spelled k b ++ (flat R.spelled y ++ t)) (sym same)) in
    ⊎_elim (λ q. q same) (λ q. parted_units ok x y s t f.1 g.1 q.1 rest) p.1

-- where two encodings are one on the left, they part on the right
pub parted_after : (x y z : List Chunk) → Parted y z → Parted (x ++ y) (x ++ z)
parted_after [] y z p = p
parted_after (one a ∷ x) y z p = inr (refl, parted_after x y z p)
parted_after (sealed k c ∷ x) y z p = (refl, inr (refl, parted_after x y z p))

-- where they part on the left, they part whatever follows
pub parted_longer : (x y z w : List Chunk) → Parted x y → Parted (x ++ z) (y ++ w)
parted_longer [] y z w p = absurd p
parted_longer (one a ∷ x) [] z w p = absurd p
parted_longer (one a ∷ x) (one b ∷ y) z w (inl p) = inl p
parted_longer (one a ∷ x) (one b ∷ y) z w (inr p) = inr (p.0, parted_longer x y z w p.1)
parted_longer (one a ∷ x) (sealed k c ∷ y) z w p = absurd p
parted_longer (sealed k c ∷ x) [] z w p = absurd p
parted_longer (sealed k c ∷ x) (one b ∷ y) z w p = absurd p
parted_longer (sealed k c ∷ x) (sealed l d ∷ y) z w p = (p.0, ⊎_elim inl (λ q. inr (q.0, parted_longer x y z w q.1)) p.1)
