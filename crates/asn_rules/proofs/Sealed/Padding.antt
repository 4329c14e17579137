-- Units that are given, and what fills up a spelling: laws, and what readers of the parts say of the whole.
use Rattle.std.proofs.Common.{◌≡◌, ◌≢◌, ℕ, zero, suc, ◌-◌, ◌<◌, ◌≤◌, inl, ⊎_elim, List, [], ◌∷◌, ◌++◌, length, length-append, refl, sym, ap, ◌∙◌, subst, append_assoc, arith}
use Rattle.std.specs.Prelude.{replicate}
use Rattle.std.specs.Bool.{⊤}
use Rattle.std.proofs.lemmas.List.{append-nil, append_cancel_left}
use Rattle.asn_rules.specs.Chunks.{Chunk, flat}
use Rattle.asn_rules.specs.Live.{Fielding}
use Rattle.asn_rules.specs.Languages.{Spells, Short, Refused, Lawful, Inhabited}
use Rattle.asn_rules.specs.Forks.{Same}
use Rattle.asn_rules.specs.Padding.{AreUnits, Fixed, Fills, first_of, Padded}
use Rattle.asn_rules.proofs.Live.Chunks.{FieldsPart}
use Rattle.asn_rules.proofs.Languages.Then.{Follows, then_lawful, then_inhabited, then_spells, then_short_first, then_short_second, then_refused_first, then_refused_second}
use Rattle.asn_rules.proofs.Languages.Parts.{Code, map_lawful, map_inhabited, map_spells, map_short, map_refused, plain_lawful, plain_inhabited, plain_spells, plain_short, plain_refused}
use Rattle.asn_rules.proofs.Languages.Forks.{same_spells, same_short, same_refused}

-- ---- given units

-- there is one list of units
pub fixed_code : (zs : List ℕ) → Code (AreUnits zs)
fixed_code zs = record { law = λ a b us vs p q. inl (refl, p.same ∙ sym q.same) }

-- as spellings
pub fixed_lawful : (zs : List ℕ) → Lawful (Fixed zs)
fixed_lawful zs = plain_lawful (fixed_code zs)

-- they are spelt
pub fixed_inhabited : (zs : List ℕ) → Inhabited (Fixed zs)
fixed_inhabited zs = plain_inhabited tt zs (record { same = refl })

-- where the reader of given units stands: some have been read, and these are left
pub record Matching (zs us rest left : List ℕ) : Type 0 where
  pub matched : List ℕ
  pub all : zs ≡ matched ++ left
  pub split : us ≡ matched ++ rest

-- no unit has been read
pub matching_starts : (zs us : List ℕ) → Matching zs us us zs
matching_starts zs us = record { matched = []; all = refl; split = refl }

-- the unit that is wanted has been read
pub matching_more : {zs us rest left after more : List ℕ} {u : ℕ} → Matching zs us rest left → left ≡ u ∷ more → rest ≡ u ∷ after → Matching zs us after more
matching_more {after = after} {more = more} {u = u} f l e = record {
  matched = f.matched ++ u ∷ [];
  all = f.all ∙ ap (λ (t : List ℕ). f.matched ++ t) l ∙ sym (append_assoc f.matched (u ∷ []) more);
  split = f.split ∙ ap (λ (t : List ℕ). f.matched ++ t) e ∙ sym (append_assoc f.matched (u ∷ []) after);
}

-- no unit is left: all have been read
pub matching_done : {zs us rest left : List ℕ} (R : Fielding) → Matching zs us rest left → left ≡ [] → Spells R (Fixed zs) tt us rest
matching_done {zs} {us} {rest} {left} R f e =
    let c : f.matched ≡ zs = sym (append-nil f.matched) ∙ ap (λ (t : List ℕ). f.matched ++ t) (sym e) ∙ sym f.all in
    subst (λ (l : List ℕ). Spells R (Fixed zs) tt l rest) (sym f.split) (plain_spells R tt f.matched rest (record { same = c }))

-- what begins the units and is not all wants more
fixed_begun : {R : Fielding} → FieldsPart R → (zs matched : List ℕ) (z : ℕ) (more : List ℕ) → zs ≡ matched ++ z ∷ more → Short R (Fixed zs) matched
fixed_begun ok zs matched z more e = plain_short ok (fixed_code zs) tt matched z more (record { same = sym e })

-- no units are left, and some are wanted
pub matching_waits : {zs us rest left more : List ℕ} {z : ℕ} {R : Fielding} → FieldsPart R → Matching zs us rest left → left ≡ z ∷ more → rest ≡ [] → Short R (Fixed zs) us
matching_waits {zs} {us} {more = more} {z = z} {R = R} ok f l e =
    subst (λ (t : List ℕ). Short R (Fixed zs) t) (sym (f.split ∙ ap (λ (t : List ℕ). f.matched ++ t) e ∙ append-nil f.matched)) (fixed_begun ok zs f.matched z more (f.all ∙ ap (λ (t : List ℕ). f.matched ++ t) l))

-- another unit than the one that is wanted
pub matching_stops : {zs us rest left more after : List ℕ} {z u : ℕ} {R : Fielding} → FieldsPart R → Matching zs us rest left → left ≡ z ∷ more → rest ≡ u ∷ after → u ≢ z → Refused R (Fixed zs) us (length after)
matching_stops {zs} {us} {more = more} {after = after} {z = z} {u = u} {R = R} ok f l e other =
    let all : zs ≡ f.matched ++ z ∷ more = f.all ∙ ap (λ (t : List ℕ). f.matched ++ t) l in
    subst (λ (t : List ℕ). Refused R (Fixed zs) t (length after)) (sym (f.split ∙ ap (λ (t : List ℕ). f.matched ++ t) e))
    (plain_refused ok f.matched u after (fixed_begun ok zs f.matched z more all) (λ a t c. other (head_is t (append_cancel_left f.matched (u ∷ t) (z ∷ more) (c.same ∙ all)))))
  where
    head_is : (t : List ℕ) → u ∷ t ≡ z ∷ more → u ≡ z
    head_is t c = cc

-- The same for units that are all one, as zeros, in a loop that counts those left down.
pub repeats_more : (z : ℕ) {zs us rest after : List ℕ} {left : ℕ} → Matching zs us rest (replicate left z) → 0 < left → rest ≡ z ∷ after → Matching zs us after (replicate (left - 1) z)
repeats_more z {left = zero} f p e = absurd (omega arith)
repeats_more z {left = suc n} f p e =
    let d : suc n - 1 ≡ n = omega arith in
    rw d (matching_more f refl e)

-- all have been read
pub repeats_done : (z : ℕ) {zs us rest : List ℕ} {left : ℕ} (R : Fielding) → Matching zs us rest (replicate left z) → left ≤ 0 → Spells R (Fixed zs) tt us rest
repeats_done z {left = zero} R f p = matching_done R f refl
repeats_done z {left = suc n} R f p = absurd (omega arith)

-- no unit is left and some of those given are
pub repeats_waits : (z : ℕ) {zs us rest : List ℕ} {left : ℕ} {R : Fielding} → FieldsPart R → Matching zs us rest (replicate left z) → 0 < left → rest ≡ [] → Short R (Fixed zs) us
repeats_waits z {left = zero} ok f p e = absurd (omega arith)
repeats_waits z {left = suc n} ok f p e = matching_waits ok f refl e

-- another unit is read
pub repeats_stops : (z : ℕ) {zs us rest after : List ℕ} {u left : ℕ} {R : Fielding} → FieldsPart R → Matching zs us rest (replicate left z) → 0 < left → rest ≡ u ∷ after → u ≢ z → Refused R (Fixed zs) us (length after)
repeats_stops z {left = zero} ok f p e other = absurd (omega arith)
repeats_stops z {left = suc n} ok f p e other = matching_stops ok f refl e other

-- ---- what fills up a spelling
-- a value has one spelling
one_spelling : {A : Type 0} {L : A → List Chunk → Type 0} → Lawful L → (a : A) (x y : List Chunk) → L a x → L a y → x ≡ y
one_spelling law a x y p q = ⊎_elim (λ e. e.1) (λ e. absurd (e.0 refl)) (law.law a a x y p q)

-- what fills up a spelling of a value is one
pub fills_lawful : {A : Type 0} {R : Fielding} {fill : ℕ → List ℕ} {L : A → List Chunk → Type 0} → Lawful L → (a : A) → Lawful (Fills R fill L a)
fills_lawful {A} {R} {fill} {L} law a = record {
  law = λ v w x y p q.
      let e = one_spelling law a p.chunks q.chunks p.spelt q.spelt in
      let z : Fixed (fill (length (flat R.spelled q.chunks))) v x = subst (λ (c : List Chunk). Fixed (fill (length (flat R.spelled c))) v x) e p.filling in
      (fixed_lawful (fill (length (flat R.spelled q.chunks)))).law v w x y z q.filling;
}

-- there is always what fills up
pub fills_follow : {A : Type 0} {R : Fielding} {fill : ℕ → List ℕ} {L : A → List Chunk → Type 0} → Follows L (Fills R fill L)
fills_follow {A} {R} {fill} {L} = record { follow = λ a x h. (let i = fixed_inhabited (fill (length (flat R.spelled x))) in record { value = i.value; chunks = i.chunks; spelt = record { chunks = x; spelt = h; filling = i.spelt } }) }

-- which units fill it up, told by how many units stand before and after the spelling
pub fills_same : {A : Type 0} {R : Fielding} {fill : ℕ → List ℕ} {L : A → List Chunk → Type 0} {a : A} {us r : List ℕ} → Lawful L → Spells R L a us r → Same (Fixed (fill (length us - length r))) (Fills R fill L a)
fills_same {A} {R} {fill} {L} {a} {us} {r} law h = record {
  to = λ v cs z. record { chunks = h.chunks; spelt = h.spelt; filling = subst (λ (n : ℕ). Fixed (fill n) v cs) count z };
  from = λ v cs f. (let e = one_spelling law a f.chunks h.chunks f.spelt h.spelt in subst (λ (n : ℕ). Fixed (fill n) v cs) (ap (λ (c : List Chunk). length (flat R.spelled c)) e ∙ sym count) f.filling);
}
  where
    count : length us - length r ≡ length (flat R.spelled h.chunks)
    count = omega (arith, ap length h.split, length-append (flat R.spelled h.chunks) r)

-- a value with nothing beside it
first_once : {A : Type 0} (p q : A × ⊤) → first_of p ≡ first_of q → p ≡ q
first_once p q e = λ i. (e i, tt)

-- filled spellings are one or part
pub padded_lawful : {A : Type 0} {L : A → List Chunk → Type 0} (R : Fielding) (fill : ℕ → List ℕ) → Lawful L → Lawful (Padded R fill L)
padded_lawful R fill law = map_lawful first_once (then_lawful law (λ a. fills_lawful law a))

-- some value is spelt, so some value is spelt and filled up
pub padded_inhabited : {A : Type 0} {L : A → List Chunk → Type 0} (R : Fielding) (fill : ℕ → List ℕ) → Inhabited L → Inhabited (Padded R fill L)
padded_inhabited R fill i = map_inhabited (then_inhabited i fills_follow)

-- ---- the answers
-- the spelling wants more
pub padded_short : {A : Type 0} {R : Fielding} {fill : ℕ → List ℕ} {L : A → List Chunk → Type 0} {us : List ℕ} → Short R L us → Short R (Padded R fill L) us
padded_short h = map_short (then_short_first fills_follow h)

-- the spelling is refused
pub padded_refused : {A : Type 0} {R : Fielding} {fill : ℕ → List ℕ} {L : A → List Chunk → Type 0} {us : List ℕ} {n : ℕ} → Refused R L us n → Refused R (Padded R fill L) us n
padded_refused h = map_refused (then_refused_first fills_follow h)

-- the spelling has been read, and what fills it up
pub padded_spells : {A : Type 0} {R : Fielding} {fill : ℕ → List ℕ} {L : A → List Chunk → Type 0} {a : A} {us r s : List ℕ} → Lawful L → Spells R L a us r → Spells R (Fixed (fill (length us - length r))) tt r s → Spells R (Padded R fill L) a us s
padded_spells law h z = map_spells (then_spells h (same_spells (fills_same law h) z))

-- what fills it up wants more
pub padded_short_fill : {A : Type 0} {R : Fielding} {fill : ℕ → List ℕ} {L : A → List Chunk → Type 0} {a : A} {us r : List ℕ} → FieldsPart R → Lawful L → Spells R L a us r → Short R (Fixed (fill (length us - length r))) r → Short R (Padded R fill L) us
padded_short_fill ok law h z = map_short (then_short_second ok law h (same_short (fills_same law h) z))

-- what fills it up is refused
pub padded_refused_fill : {A : Type 0} {R : Fielding} {fill : ℕ → List ℕ} {L : A → List Chunk → Type 0} {a : A} {us r : List ℕ} {n : ℕ} → FieldsPart R → Lawful L → Spells R L a us r → Refused R (Fixed (fill (length us - length r))) r n → Refused R (Padded R fill L) us n
padded_refused_fill ok law h z = map_refused (then_refused_second ok law h (same_refused (fills_same law h) z))
