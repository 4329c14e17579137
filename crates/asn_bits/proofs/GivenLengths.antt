-- What the bits given of the lengths of a list tell: whether some count of the set goes on so, and which length ends.
use Rattle.std.proofs.Common.{◌≡◌, ◌≢◌, ◌+◌, ◌-◌, ◌*◌, ◌%◌, ◌<◌, ◌≤◌, ◌==◌, inl, inr, ⊎_elim, ℕ, Bool, true, false, not, Option, List, [], ◌∷◌, ◌++◌, length, length-append, refl, sym, ap, ◌∙◌, subst, append_assoc, arith}
use Rattle.std.proofs.lemmas.Bool.{cases_lt, true≢false}
use Rattle.std.proofs.lemmas.Bool.Decides.{eqb_tells}
use Rattle.std.proofs.lemmas.List.{append-nil}
use Rattle.asn_bits.specs.Lengths.{Length, blocks, lengths}
use Rattle.asn_bits.specs.Ranges.{Spanned}
use Rattle.asn_bits.specs.LengthBits.{length_bits, BeginsLengths, EndsLength, fragments, is_closed, CountsLeft, BegunLengths, given, Goes, first_length, StartsSome, OpensLength, WholeLength}
use Rattle.asn_bits.specs.LengthStates.{form_items, state_bits, IsLengthState, IsWhole, AfterLength, IsReading}
use Rattle.asn_bits.specs.declared.number_field.FieldState.TheVariants as state
use Rattle.asn_bits.specs.declared.general_length.Form.{Form}
use Rattle.asn_bits.specs.declared.general_length.Form.TheVariants as form
use Rattle.asn_bits.specs.declared.general_length.LengthState.{LengthState}
use Rattle.asn_bits.specs.declared.general_length.LengthState.TheVariants as place
use Rattle.asn_bits.proofs.FirstLengths.{Stands, stands_of, starts_of, first_some, number_left, whole_items}
use Rattle.asn_bits.proofs.LengthBits.{lengths_first, length_bits-append, lengths_after, after_fragments, fragments_more, has_bits, same_place}

-- the bits of the lengths of n items are those of the first, and others
bits_first : (n : ℕ) → (more : List ℕ) × (length_bits (lengths n) ≡ (first_length n).bits ++ more) × (n < 16384 → more ≡ [])
bits_first n =
    let f = lengths_first n in
    (length_bits f.0, ap length_bits f.1, λ h. ap length_bits (f.2 h))

-- a count whose lengths begin with these bits leaves a count after the fragments so far, whose lengths begin so
pub count_left : (is : List (ℕ × Option ℕ)) (j : ℕ) (bs : List ℕ) (b : BeginsLengths (Spanned is) (length_bits (fragments j) ++ bs)) → (n : ℕ) × CountsLeft is j n × (b.count ≡ 16384 * j + n) × (length_bits (lengths n) ≡ bs ++ b.more)
count_left is j bs b =
    let w = after_fragments j b.count (bs ++ b.more) (b.split ∙ append_assoc (length_bits (fragments j)) bs b.more) in
    (w.0, record { member = subst (λ (x : ℕ). Spanned is x) w.1 b.member; largest = w.2 }, w.1, w.3)

-- and so does its first length
pub begins_some : (is : List (ℕ × Option ℕ)) (j : ℕ) (p : LengthState) → IsLengthState p → BeginsLengths (Spanned is) (length_bits (fragments j) ++ state_bits p) → StartsSome (CountsLeft is j) (state_bits p)
begins_some is j p h b =
    let w = count_left is j (state_bits p) b in
    let f = bits_first w.0 in
    record { count = w.0; member = w.1; starts = starts_of w.0 p h (stands_of w.0 p f.0 b.more h (sym f.1 ∙ w.3)) }

-- and the other way round
pub some_begins : (is : List (ℕ × Option ℕ)) (j : ℕ) (bs : List ℕ) → StartsSome (CountsLeft is j) bs → BeginsLengths (Spanned is) (length_bits (fragments j) ++ bs)
some_begins is j bs s =
    let n = s.count in
    let f = bits_first n in
    let all : length_bits (lengths (16384 * j + n)) ≡ length_bits (fragments j) ++ length_bits (lengths n) = ap length_bits (lengths_after j n s.member.largest) ∙ length_bits-append (fragments j) (lengths n) in
    let tail : length_bits (lengths n) ≡ bs ++ (s.starts.more ++ f.0) = f.1 ∙ ap (λ x. x ++ f.0) s.starts.split ∙ append_assoc bs s.starts.more f.0 in
    record { count = 16384 * j + n; member = s.member.member; more = s.starts.more ++ f.0; split = all ∙ ap (λ x. length_bits (fragments j) ++ x) tail ∙ sym (append_assoc (length_bits (fragments j)) bs (s.starts.more ++ f.0)) }

-- the bits of the length begun, and one more
given_more : (j : ℕ) (x bs y : List ℕ) → y ≡ x ++ bs → (length_bits (fragments j) ++ x) ++ bs ≡ length_bits (fragments j) ++ y
given_more j x bs y e = append_assoc (length_bits (fragments j)) x bs ∙ ap (λ z. length_bits (fragments j) ++ z) (sym e)

-- ---- a bit that is read

-- no count of the set goes on so
pub dead_bit : (is : List (ℕ × Option ℕ)) (j : ℕ) (x : List ℕ) (bs : List ℕ) (y : LengthState) → IsLengthState y → state_bits y ≡ x ++ bs → (StartsSome (CountsLeft is j) (state_bits y) → ⊥) → BeginsLengths (Spanned is) ((length_bits (fragments j) ++ x) ++ bs) → ⊥
dead_bit is j x bs y h e none b = none (begins_some is j y h (subst (λ (g : List ℕ). BeginsLengths (Spanned is) g) (given_more j x bs (state_bits y) e) b))

-- some count goes on so
pub live_bit : (is : List (ℕ × Option ℕ)) (j : ℕ) (x : List ℕ) (bs : List ℕ) (y : List ℕ) → y ≡ x ++ bs → StartsSome (CountsLeft is j) y → BeginsLengths (Spanned is) ((length_bits (fragments j) ++ x) ++ bs)
live_bit is j x bs y e s = subst (λ (g : List ℕ). BeginsLengths (Spanned is) g) (sym (given_more j x bs y e)) (some_begins is j y s)

-- ---- bits that end a length

-- what ends with these bits
pub record EndsHere (is : List (ℕ × Option ℕ)) (j : ℕ) (p : LengthState) (k : ℕ) (after : List Length) : Type 0 where
  pub count : ℕ
  pub member : CountsLeft is j count
  pub stands : Stands count p
  pub bits_are : state_bits p ≡ (first_length count).bits
  pub items_are : (first_length count).items ≡ k
  pub last : count < 16384 → after ≡ []

-- a state that is not the start has a bit, and not more than the length
place_few : (n : ℕ) (p : LengthState) → IsLengthState p → Stands n p → (p ≡ place.Start → ⊥) → (0 < length (state_bits p)) × (length (state_bits p) ≤ length (first_length n).bits)
place_few n place.Start h s begun = absurd (begun refl)
place_few n place.FirstBitSet h s begun = (omega arith, omega (arith, first_some n))
place_few n (place.Number form.Short p l) h s begun = (omega arith, omega (arith, number_left n form.Short p l h s))
place_few n (place.Number form.Long p l) h s begun = (omega arith, omega (arith, number_left n form.Long p l h s))
place_few n (place.Number form.Fragment p l) h s begun = (omega arith, omega (arith, number_left n form.Fragment p l h s))

-- bits that end a length begin the lengths of its count
ends_begins : {S : ℕ → Type 0} {bs : List ℕ} {k : ℕ} (e : EndsLength S bs k) → length_bits (lengths e.count) ≡ bs ++ length_bits e.after
ends_begins e =
    ap length_bits e.split ∙ length_bits-append e.before (e.here ∷ e.after) ∙ sym (append_assoc (length_bits e.before) e.here.bits (length_bits e.after)) ∙ ap (λ g. g ++ length_bits e.after) (sym e.given_is)

-- bits that end a length after the fragments so far are the whole of the first one
pub ends_here : (is : List (ℕ × Option ℕ)) (j : ℕ) (p : LengthState) (k : ℕ) → IsLengthState p → (p ≡ place.Start → ⊥) → (e : EndsLength (Spanned is) (length_bits (fragments j) ++ state_bits p) k) → EndsHere is j p k e.after
ends_here is j p k h begun e =
    let w = count_left is j (state_bits p) (record { count = e.count; member = e.member; more = length_bits e.after; split = ends_begins e }) in
    let n = w.0 in
    let f = lengths_first n in
    let s = stands_of n p (length_bits f.0) (length_bits e.after) h (sym (ap length_bits f.1) ∙ w.3) in
    let q = place_few n p h s begun in
    let list : fragments j ++ first_length n ∷ f.0 ≡ e.before ++ e.here ∷ e.after =
    ap (λ ls. fragments j ++ ls) (sym f.1) ∙ sym (lengths_after j n w.1.largest) ∙ ap lengths (sym w.2) ∙ e.split in
    let r = same_place (fragments j) (first_length n) f.0 e.before e.here e.after (state_bits p) list e.given_is (has_bits e.count e.before e.here e.after e.split) q.0 q.1 in
    record { count = n; member = w.1; stands = s; bits_are = r.2; items_are = ap (λ l. l.items) (sym r.0) ∙ e.items_are; last = λ a. r.1 ∙ f.2 a }

-- a length that is not whole does not end
pub not_ended : (is : List (ℕ × Option ℕ)) (j : ℕ) (p : LengthState) (k : ℕ) → IsLengthState p → (p ≡ place.Start → ⊥) → (IsWhole p → ⊥) → EndsLength (Spanned is) (length_bits (fragments j) ++ state_bits p) k → ⊥
not_ended is j place.Start k h begun part e = begun refl
not_ended is j place.FirstBitSet k h begun part e =
    let w = ends_here is j place.FirstBitSet k h begun e in
    omega (arith, first_some w.count, ap length w.bits_are)
not_ended is j (place.Number f p l) k h begun part e =
    let w = ends_here is j (place.Number f p l) k h begun e in
    part (omega (arith, number_left w.count f p l h w.stands, ap length w.bits_are))

none_of : (xs : List ℕ) → length xs ≡ 0 → xs ≡ []
none_of [] e = refl
none_of (x ∷ xs) e = absurd (omega arith)

-- all bits of a length are one of some count
pub whole_first : (S : ℕ → Type 0) (f : Form) (p : ℕ) → IsLengthState (place.Number f p 0) → StartsSome S (state_bits (place.Number f p 0)) → WholeLength S (state_bits (place.Number f p 0)) (form_items f p)
whole_first S f p h s =
    let n = s.count in
    let x = state_bits (place.Number f p 0) in
    let t = stands_of n (place.Number f p 0) [] s.starts.more h (append-nil (first_length n).bits ∙ s.starts.split) in
    let few : length s.starts.more ≡ 0 = omega (arith, number_left n f p 0 h t, ap length s.starts.split, length-append x s.starts.more) in
    record { count = n; member = s.member; bits_are = s.starts.split ∙ ap (λ m. x ++ m) (none_of s.starts.more few) ∙ append-nil x; items_are = whole_items n f p t }

-- and fewer go on
pub part_first : (S : ℕ → Type 0) (y : LengthState) → IsLengthState y → StartsSome S (state_bits y) → (IsWhole y → ⊥) → OpensLength S (state_bits y)
part_first S y h s part = go s.starts.more s.starts.split
  where
    not_all : (n : ℕ) (y : LengthState) → IsLengthState y → (IsWhole y → ⊥) → (first_length n).bits ≡ state_bits y → ⊥
    not_all n place.Start h part e = omega (arith, first_some n, ap length e)
    not_all n place.FirstBitSet h part e = omega (arith, first_some n, ap length e)
    not_all n (place.Number f p l) h part e =
        let t = stands_of n (place.Number f p l) [] [] h (ap (λ b. b ++ []) e) in
        part (omega (arith, number_left n f p l h t, ap length e))

    go : (more : List ℕ) → (first_length s.count).bits ≡ state_bits y ++ more → OpensLength S (state_bits y)
    go [] e = absurd (not_all s.count y h part (e ∙ append-nil (state_bits y)))
    go (u ∷ t) e = record { count = s.count; member = s.member; next = u; more = t; split = e }

-- a whole length ends
pub ended : (is : List (ℕ × Option ℕ)) (j : ℕ) (bs : List ℕ) (k : ℕ) → WholeLength (CountsLeft is j) bs k → EndsLength (Spanned is) (length_bits (fragments j) ++ bs) k
ended is j bs k w =
    let n = w.count in
    let g = lengths_first n in
    record {
      count = 16384 * j + n;
      member = w.member.member;
      before = fragments j;
      here = first_length n;
      after = g.0;
      split = lengths_after j n w.member.largest ∙ ap (λ ls. fragments j ++ ls) g.1;
      given_is = ap (λ b. length_bits (fragments j) ++ b) (sym w.bits_are);
      items_are = w.items_are;
    }

-- ---- after a whole length

-- a count whose first length is that of a fragment
fragment_stands : (is : List (ℕ × Option ℕ)) (j p : ℕ) → IsLengthState (place.Number form.Fragment p 0) → (s : StartsSome (CountsLeft is j) (state_bits (place.Number form.Fragment p 0))) → (16384 ≤ s.count) × (blocks s.count ≡ p)
fragment_stands is j p h s =
    let t = stands_of s.count (place.Number form.Fragment p 0) [] s.starts.more h (append-nil (first_length s.count).bits ∙ s.starts.split) in
    (t.0, omega (arith, t.1))

-- fragments of fewer than 4 blocks come last
closed_not : (j n : ℕ) → (is_closed j ≡ true → n < 16384) → 16384 ≤ n → is_closed j ≡ false
closed_not j n h l = go (is_closed j) h
  where
    go : (b : Bool) → (b ≡ true → n < 16384) → b ≡ false
    go true g = absurd (let w = g refl in omega arith)
    go false g = refl

-- where the reader stands then
pub after_reading : (is : List (ℕ × Option ℕ)) (j : ℕ) (f : Form) (p : ℕ) (x : ℕ × ℕ × LengthState) → IsLengthState (place.Number f p 0) → StartsSome (CountsLeft is j) (state_bits (place.Number f p 0)) → AfterLength j f p x → IsReading is x.1 x.2
after_reading is j form.Short p x h s b = rw (b.1, b.2) (record { fits = h; live = s; moved = λ n e. cc })
after_reading is j form.Long p x h s b = rw (b.1, b.2) (record { fits = h; live = s; moved = λ n e. cc })
after_reading is j form.Fragment p x h s b =
    let t = fragment_stands is j p h s in
    let n = s.count in
    let c = closed_not j n s.member.largest t.0 in
    let e : 16384 * j + n ≡ 16384 * (j + p) + (n - 16384 * p) = omega (arith, t.0, t.1) in
    let few : is_closed (j + p) ≡ true → n - 16384 * p < 16384 = λ d. closed_few j p n c t.0 t.1 d in
    rw (b.1, b.2) (record {
      fits = tt;
      live = record { count = n - 16384 * p; member = record { member = subst (λ (z : ℕ). Spanned is z) e s.member.member; largest = few }; starts = record { more = (first_length (n - 16384 * p)).bits; split = refl } };
      moved = λ n e. cc;
    })
  where
    closed_few : (j p n : ℕ) → is_closed j ≡ false → 16384 ≤ n → blocks n ≡ p → is_closed (j + p) ≡ true → n - 16384 * p < 16384
    closed_few j p n c l e d =
        elim (eqb_tells (j % 4) 0) [
          | inl z ↦ ⊎_elim (λ a. omega (arith, e)) (λ a. (let r : (j + p) % 4 ≡ 0 = omega (arith, e, z.1) in absurd (true≢false (sym d ∙ ap (λ k. not (k == 0)) r)))) (cases_lt p 4)
          | inr z ↦ absurd (true≢false (sym (ap not z.0) ∙ c))
        ]

-- how far lengths are given
abbrev begun : List (ℕ × Option ℕ) → ℕ → List ℕ → BegunLengths
begun is j bs = record { counts = is; blocks = j; bits = bs }

begun_same : (is : List (ℕ × Option ℕ)) {j k : ℕ} (x : List ℕ) {y : List ℕ} → j ≡ k → x ≡ y → begun is j x ≡ begun is k y
begun_same is {j} {k} x {y} e f = ap (λ i. begun is i x) e ∙ ap (λ z. begun is k z) f

-- and how far the lengths are given
pub after_goes : (is : List (ℕ × Option ℕ)) (j : ℕ) (f : Form) (p : ℕ) (x : ℕ × ℕ × LengthState) (old bs : List ℕ) → IsLengthState (place.Number f p 0) → StartsSome (CountsLeft is j) (state_bits (place.Number f p 0)) → AfterLength j f p x → state_bits (place.Number f p 0) ≡ old ++ bs
    → Goes (record { counts = is; blocks = j; bits = old }) bs (state.Number x.0) (record { counts = is; blocks = x.1; bits = state_bits x.2 })
after_goes is j form.Short p x old bs h s b e =
    let q : begun is x.1 (state_bits x.2) ≡ begun is j (old ++ bs) = begun_same is (state_bits x.2) b.1 (ap state_bits b.2 ∙ e) in
    (ap given q ∙ sym (append_assoc (length_bits (fragments j)) old bs), inl (record { few = omega (arith, h.1, b.0); new_is = q }))
after_goes is j form.Long p x old bs h s b e =
    let q : begun is x.1 (state_bits x.2) ≡ begun is j (old ++ bs) = begun_same is (state_bits x.2) b.1 (ap state_bits b.2 ∙ e) in
    (ap given q ∙ sym (append_assoc (length_bits (fragments j)) old bs), inl (record { few = omega (arith, h.1, b.0); new_is = q }))
after_goes is j form.Fragment p x old bs h s b e =
    let t = fragment_stands is j p h s in
    let some : 1 ≤ p = omega (arith, t.0, t.1) in
    let most : p ≤ 4 = omega (arith, t.1) in
    let q : begun is x.1 (state_bits x.2) ≡ begun is (j + p) [] = begun_same is (state_bits x.2) b.1 (ap state_bits b.2) in
    let all : length_bits (fragments (j + p)) ++ [] ≡ (length_bits (fragments j) ++ old) ++ bs =
    append-nil (length_bits (fragments (j + p))) ∙ fragments_more j p (closed_not j s.count s.member.largest t.0) some most ∙ sym (given_more j old bs (state_bits (place.Number form.Fragment p 0)) e) in
    (ap given q ∙ all, inr (record { blocks = p; some = some; items = b.0; new_is = q }))

-- the items of the length that ended
pub after_items : (j : ℕ) (f : Form) (p : ℕ) (x : ℕ × ℕ × LengthState) → AfterLength j f p x → form_items f p ≡ x.0
after_items j form.Short p x b = sym b.0
after_items j form.Long p x b = sym b.0
after_items j form.Fragment p x b = sym b.0

-- a whole length that is no fragment's is the last
last_few : (f : Form) (p l n : ℕ) → l ≡ 0 → ((k : ℕ) → place.Number f p l ≡ place.Number form.Fragment k 0 → ⊥) → Stands n (place.Number f p l) → n < 16384
last_few form.Short p l n e m s = omega (arith, s.0)
last_few form.Long p l n e m s = s.1
last_few form.Fragment p l n e m s = absurd (m p (ap (λ k. place.Number form.Fragment p k) e))

-- after the last length no bit follows
pub whole_dead : (is : List (ℕ × Option ℕ)) (j : ℕ) (x : LengthState) (b : ℕ) → IsReading is j x → IsWhole x → BeginsLengths (Spanned is) ((length_bits (fragments j) ++ state_bits x) ++ b ∷ []) → ⊥
whole_dead is j place.Start b r w g = absurd w
whole_dead is j place.FirstBitSet b r w g = absurd w
whole_dead is j (place.Number f p l) b r w g =
    let x = place.Number f p l in
    let g' = subst (λ (y : List ℕ). BeginsLengths (Spanned is) y) (append_assoc (length_bits (fragments j)) (state_bits x) (b ∷ [])) g in
    let c = count_left is j (state_bits x ++ b ∷ []) g' in
    let n = c.0 in
    let a = bits_first n in
    let e : (first_length n).bits ++ a.0 ≡ state_bits x ++ (b ∷ [] ++ g'.more) = sym a.1 ∙ c.3 ∙ append_assoc (state_bits x) (b ∷ []) g'.more in
    let s = stands_of n x a.0 (b ∷ [] ++ g'.more) r.fits e in
    let last : a.0 ≡ [] = a.2 (last_few f p l n w r.moved s) in
    let z : length a.0 ≡ 0 = ap length last in
    omega (arith, number_left n f p l r.fits s, w, z, ap length e, length-append (first_length n).bits a.0, length-append (state_bits x) (b ∷ [] ++ g'.more))

-- and so the length does not go on
pub whole_stops : (is : List (ℕ × Option ℕ)) (j : ℕ) (x : LengthState) (b : ℕ) → IsReading is j x → IsWhole x → StartsSome (CountsLeft is j) (state_bits x ++ b ∷ []) → ⊥
whole_stops is j x b r w s = whole_dead is j x b r w (live_bit is j (state_bits x) (b ∷ []) (state_bits x ++ b ∷ []) refl s)

-- ---- whether more comes

-- after a fragment
pub more_start : (is : List (ℕ × Option ℕ)) (j k : ℕ) (e : EndsLength (Spanned is) (length_bits (fragments j) ++ []) k) → e.after ≢ []
more_start is j k e none =
    let w = count_left is j [] (record { count = e.count; member = e.member; more = length_bits e.after; split = ends_begins e }) in
    let f = bits_first w.0 in
    omega (arith, first_some w.0, ap length f.1, length-append (first_length w.0).bits f.0, ap length w.3, ap (λ ls. length (length_bits ls)) none)

-- after a last length
pub more_not : (is : List (ℕ × Option ℕ)) (j : ℕ) (x : LengthState) (k : ℕ) → IsReading is j x → (x ≡ place.Start → j ≡ 0) → (e : EndsLength (Spanned is) (length_bits (fragments j) ++ state_bits x) k) → e.after ≡ []
more_not is j place.Start k r s e =
    let z : length_bits (fragments j) ++ [] ≡ [] = ap (λ i. length_bits (fragments i) ++ []) (s refl) in
    absurd (omega (arith, has_bits e.count e.before e.here e.after e.split, ap length (sym z ∙ e.given_is), length-append (length_bits e.before) e.here.bits))
more_not is j place.FirstBitSet k r s e = absurd (not_ended is j place.FirstBitSet k r.fits (λ q. cc) (λ q. q) e)
more_not is j (place.Number f p l) k r s e =
    ⊎_elim
    (λ a. absurd (not_ended is j (place.Number f p l) k r.fits (λ q. cc) (λ q. omega (arith, a, q)) e))
    (λ a.
    let w = ends_here is j (place.Number f p l) k r.fits (λ q. cc) e in
    w.last (last_few f p l w.count (omega arith) r.moved w.stands))
    (cases_lt 0 l)

-- ---- the reader of the lengths

-- no length yet
pub starts_reading : (is : List (ℕ × Option ℕ)) (n : ℕ) → Spanned is n → IsReading is 0 place.Start
starts_reading is n m =
    let e : n ≡ 16384 * 0 + n = omega arith in
    record { fits = tt; live = record { count = n; member = record { member = subst (λ (x : ℕ). Spanned is x) e m; largest = λ d. absurd (true≢false (sym d)) }; starts = record { more = (first_length n).bits; split = refl } }; moved = λ k e. cc }

-- the number of a length is small
pub number_small : (f : Form) (p : ℕ) → IsLengthState (place.Number f p 0) → p < 16384
number_small form.Short p h = omega (arith, h.1)
number_small form.Long p h = omega (arith, h.1)
number_small form.Fragment p h = omega (arith, h.1)

-- a length that is not whole waits for its bits
pub part_reading : (is : List (ℕ × Option ℕ)) (j : ℕ) (y : LengthState) → IsLengthState y → StartsSome (CountsLeft is j) (state_bits y) → (IsWhole y → ⊥) → IsReading is j y
part_reading is j y h s part = record { fits = h; live = s; moved = λ n e. part (subst (λ (z : LengthState). IsWhole z) (sym e) refl) }

-- it does not end, after a bit
pub part_open : (is : List (ℕ × Option ℕ)) (j : ℕ) (x : List ℕ) (b : ℕ) (y : LengthState) (k : ℕ) → IsLengthState y → state_bits y ≡ x ++ b ∷ [] → (IsWhole y → ⊥) → EndsLength (Spanned is) ((length_bits (fragments j) ++ x) ++ b ∷ []) k → ⊥
part_open is j x b y k h e part g = not_ended is j y k h (λ q. not_start x b (sym (ap state_bits q) ∙ e)) part (subst (λ (z : List ℕ). EndsLength (Spanned is) z k) (given_more j x (b ∷ []) (state_bits y) e) g)
  where
    not_start : (x : List ℕ) (b : ℕ) → [] ≡ x ++ b ∷ [] → ⊥
    not_start [] b e = cc
    not_start (a ∷ x) b e = cc

-- a length that is whole after more bits
pub whole_more : (S : ℕ → Type 0) (j : ℕ) (f : Form) (p : ℕ) (x : ℕ × ℕ × LengthState) (old bs : List ℕ) → IsLengthState (place.Number f p 0) → StartsSome S (state_bits (place.Number f p 0)) → AfterLength j f p x → state_bits (place.Number f p 0) ≡ old ++ bs → WholeLength S (old ++ bs) x.0
whole_more S j f p x old bs h s b e =
    subst (λ (g : List ℕ). WholeLength S g x.0) e (subst (λ (k : ℕ). WholeLength S (state_bits (place.Number f p 0)) k) (after_items j f p x b) (whole_first S f p h s))

-- it ends all bits given
pub whole_ends : (is : List (ℕ × Option ℕ)) (j : ℕ) (old bs : List ℕ) (k : ℕ) → WholeLength (CountsLeft is j) (old ++ bs) k → EndsLength (Spanned is) ((length_bits (fragments j) ++ old) ++ bs) k
whole_ends is j old bs k w = subst (λ (g : List ℕ). EndsLength (Spanned is) g k) (sym (append_assoc (length_bits (fragments j)) old bs)) (ended is j (old ++ bs) k w)

-- no bit is given of the length only where none has begun
pub start_bits : (p : LengthState) → state_bits p ≡ [] → p ≡ place.Start
start_bits place.Start e = refl
start_bits place.FirstBitSet e = cc
start_bits (place.Number form.Short p l) e = cc
start_bits (place.Number form.Long p l) e = cc
start_bits (place.Number form.Fragment p l) e = cc
