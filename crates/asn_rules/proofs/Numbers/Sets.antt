-- Numbers of a set in a fixed count of digits, and where their reader stands.
use Rattle.std.proofs.Common.{◌≡◌, ◌≢◌, ℕ, zero, suc, ◌+◌, ◌-◌, ◌*◌, ◌^◌, ◌<◌, ◌≤◌, ◌⊎◌, inl, inr, ⊎_elim, List, [], ◌∷◌, ◌++◌, length, length-append, refl, sym, ap, ◌∙◌, append_assoc, arith}
use Rattle.std.proofs.Math.Nat.{pow-succ'}
use Rattle.std.proofs.lemmas.List.{append-nil}
use Rattle.std.proofs.lemmas.Bool.{cases_eq}
use Rattle.asn_bits.specs.Begun.{Begins, StandsFirst}
use Rattle.asn_bits.specs.Numbers.{digits, bits}
use Rattle.asn_bits.proofs.Weights.{digits-append, digits-second, weighted_bound, weighted-append, weighted_more, same_digits, digits_are, extended}
use Rattle.asn_bits.proofs.Unions.{set_spelt, meets_member}
use Rattle.asn_rules.proofs.Live.Chunks.{FieldsPart}
use Rattle.asn_rules.proofs.Languages.Parts.{Code, plain_lawful, plain_inhabited, plain_spells, plain_short, plain_refused}
use Rattle.asn_rules.specs.Chunks.{ones}
use Rattle.asn_rules.specs.Languages.{Spells, Short, Refused, Lawful, Inhabited, Plain}
use Rattle.asn_rules.specs.Live.{Fielding}
use Rattle.asn_rules.specs.Parted.{Parted}
use Rattle.asn_bits.specs.Sets.{AreDigits, weighted, IsDigits, InDigits, MeetsIn, Meets}

-- ---- lists of one length

-- they are one, or part
pub same_or_parted : (xs ys : List ℕ) → length xs ≡ length ys → (xs ≡ ys) ⊎ Parted (ones xs) (ones ys)
same_or_parted [] [] l = inl refl
same_or_parted [] (y ∷ ys) l = absurd (omega arith)
same_or_parted (x ∷ xs) [] l = absurd (omega arith)
same_or_parted (x ∷ xs) (y ∷ ys) l = ⊎_elim (λ e. ⊎_elim (λ f. inl (let p : (x ∷ xs) ≡ (y ∷ ys) = cc in p)) (λ p. inr (inr (e, p))) (same_or_parted xs ys (omega arith))) (λ n. inr (inl n)) (cases_eq x y)

-- a list does not part from itself
pub not_parted : (xs : List ℕ) → Parted (ones xs) (ones xs) → ⊥
not_parted [] p = p
not_parted (x ∷ xs) (inl n) = n refl
not_parted (x ∷ xs) (inr p) = not_parted xs p.1

-- ---- numbers of a set

-- two numbers of a set are one, or their digits part
pub set_code : (base k : ℕ) (S : ℕ → Type 0) → Code (InDigits base k S)
set_code base k S = record { law = λ m n us vs p q. go m n us vs p q (same_or_parted us vs (p.digits.count ∙ sym q.digits.count)) }
  where
    go : (m n : ℕ) (us vs : List ℕ) → InDigits base k S m us → InDigits base k S n vs → (us ≡ vs) ⊎ Parted (ones us) (ones vs) → ((m ≡ n) × (us ≡ vs)) ⊎ ((m ≢ n) × Parted (ones us) (ones vs))
    go m n us vs p q (inl e) = inl (sym p.digits.sum ∙ ap (weighted base) e ∙ q.digits.sum, e)
    go m n us vs p q (inr d) = inr (
      λ e.
          let s : us ≡ vs = same_digits base us vs p.digits.digits q.digits.digits (p.digits.count ∙ sym q.digits.count) (p.digits.sum ∙ e ∙ sym q.digits.sum) in
          not_parted vs (rw s at d),
      d,
    )

-- as spellings
pub set_lawful : (base k : ℕ) (S : ℕ → Type 0) → Lawful (Plain (InDigits base k S))
set_lawful base k S = plain_lawful (set_code base k S)

-- all bits are at hand: one step
pub set_spells : (R : Fielding) {base k : ℕ} {S : ℕ → Type 0} (n : ℕ) (bs rest : List ℕ) → IsDigits base k n bs → S n → Spells R (Plain (InDigits base k S)) n (bs ++ rest) rest
set_spells R n bs rest b m = plain_spells R n bs rest (record { digits = b; member = m })

-- some number of the set fits the bits
pub set_inhabited : {base k : ℕ} {S : ℕ → Type 0} → MeetsIn base S 0 k → Inhabited (Plain (InDigits base k S))
set_inhabited {base} {k} {S} m = plain_inhabited m.number (digits base k m.number) (set_spelt base k m.number m.member (omega (arith, m.below)))

-- where the reader of a number of a set stands
pub record Taking (base k : ℕ) (S : ℕ → Type 0) (us rest : List ℕ) (p r : ℕ) : Type 0 where
  pub before : List ℕ
  pub digits : AreDigits base before
  pub split : us ≡ before ++ rest
  pub value : weighted base before ≡ p
  pub count : length before + r ≡ k
  pub alive : MeetsIn base S p r

-- no digit has been read
pub taking_starts : {base k : ℕ} {S : ℕ → Type 0} (us : List ℕ) → MeetsIn base S 0 k → Taking base k S us us 0 k
taking_starts us m = record { before = []; digits = tt; split = refl; value = refl; count = omega arith; alive = m }

-- a digit is read, and some number still begins so
pub taking_steps : {base k u p r : ℕ} {S : ℕ → Type 0} {us rest : List ℕ} → Taking base k S us (u ∷ rest) p (suc r) → u < base → MeetsIn base S (base * p + u) r → Taking base k S us rest (base * p + u) r
taking_steps {base = base} {u = u} {r = r} {rest = rest} h b m = record {
  before = h.before ++ u ∷ [];
  digits = digits-append base h.before (u ∷ []) h.digits (b, tt);
  split = h.split ∙ sym (append_assoc h.before (u ∷ []) rest);
  value = weighted_more base h.before u ∙ ap (λ (n : ℕ). base * n + u) h.value;
  count = omega (arith, length-append h.before (u ∷ []), h.count);
  alive = m;
}

-- no digit is left: the number is read
pub taking_ends : {base k p : ℕ} {S : ℕ → Type 0} {us rest : List ℕ} (R : Fielding) → Taking base k S us rest p 0 → Spells R (Plain (InDigits base k S)) p us rest
taking_ends {base} {k} {p} {S} {us} {rest} R h =
    let c : InDigits base k S p h.before = record { digits = record { digits = h.digits; count = omega (arith, h.count); sum = h.value }; member = meets_member h.alive } in
    rw h.split (plain_spells R p h.before rest c)

-- a number of the set that begins so
pub record Begun (base k : ℕ) (S : ℕ → Type 0) (r : ℕ) (bs : List ℕ) : Type 0 where
  pub number : ℕ
  pub more : List ℕ
  pub many : length more ≡ r
  pub spelt : InDigits base k S number (bs ++ more)

-- some number of the set goes on after the digits read so far
pub begun : {base k p r : ℕ} {S : ℕ → Type 0} {us rest : List ℕ} → (h : Taking base k S us rest p r) → Begun base k S r h.before
begun {base} {k} {p} {r} {S} h =
    let n = h.alive.number in
    let v = ap (λ (x : ℕ). x * base ^ r) h.value in
    let w = ap (λ (x : ℕ). (x + 1) * base ^ r) h.value in
    let i = digits_are base r (n - weighted base h.before * base ^ r) (omega (arith, h.alive.least, h.alive.below)) in
    record {
      number = n;
      more = digits base r (n - weighted base h.before * base ^ r);
      many = i.count;
      spelt = record { digits = extended base k n r h.before h.digits h.count (omega (arith, h.alive.least)) (omega (arith, h.alive.below)); member = h.alive.member };
    }

-- digits that begin a number and are not all want more
pub taking_live : {base k p r : ℕ} {S : ℕ → Type 0} {us rest : List ℕ} {R : Fielding} → FieldsPart R → (h : Taking base k S us rest p (suc r)) → Short R (Plain (InDigits base k S)) h.before
taking_live {base} {k} {p} {r} {S} {R = R} ok h = go b.more b.many b.spelt
  where
    b : Begun base k S (suc r) h.before
    b = begun h

    go : (more : List ℕ) → length more ≡ suc r → InDigits base k S b.number (h.before ++ more) → Short R (Plain (InDigits base k S)) h.before
    go [] e c = absurd (omega arith)
    go (u ∷ t) e c = plain_short ok (set_code base k S) b.number h.before u t c

-- no units are left, and bits are wanted
pub taking_short : {base k p r : ℕ} {S : ℕ → Type 0} {us : List ℕ} {R : Fielding} → FieldsPart R → Taking base k S us [] p (suc r) → Short R (Plain (InDigits base k S)) us
taking_short ok h =
    let e = h.split ∙ append-nil h.before in
    rw e (taking_live ok h)

-- no number of the set begins so
pub taking_refused : {base k u p r : ℕ} {S : ℕ → Type 0} {us rest : List ℕ} {R : Fielding} → FieldsPart R → Taking base k S us (u ∷ rest) p (suc r) → (u < base → MeetsIn base S (base * p + u) r → ⊥) → Refused R (Plain (InDigits base k S)) us (length rest)
taking_refused {base} {k} {u} {p} {r} {S} {us} {rest} ok h dead = rw h.split (plain_refused ok h.before u rest (taking_live ok h) none)
  where
    none : (n : ℕ) (t : List ℕ) → InDigits base k S n (h.before ++ u ∷ t) → ⊥
    none n t c =
        let a = digits-second base h.before (u ∷ t) c.digits.digits in
        let l : length t ≡ r = omega (arith, c.digits.count, length-append h.before (u ∷ t), h.count) in
        let q : base ^ length t ≡ base ^ r = ap (λ (x : ℕ). base ^ x) l in
        let w = weighted_bound base t a.1 in
        let s : weighted base h.before * base ^ suc (length t) + (u * base ^ length t + weighted base t) ≡ n = sym (weighted-append base h.before (u ∷ t)) ∙ c.digits.sum in
        let v : p * (base * base ^ r) + (u * base ^ r + weighted base t) ≡ n = rw (pow-succ', q, h.value) at s in
        dead a.0 (record { number = n; member = c.member; least = omega (arith, v); below = omega (arith, v, w, q) })

-- The same steps, as a loop that counts the bits left down.
pub taking_more : {base k u p left : ℕ} {S : ℕ → Type 0} {us rest after : List ℕ} → Taking base k S us rest p left → 0 < left → rest ≡ u ∷ after → u < base → MeetsIn base S (base * p + u) (left - 1) → Taking base k S us after (base * p + u) (left - 1)
taking_more {left = zero} h z e b m = absurd (omega arith)
taking_more {left = suc r} h z e b m =
    let d : suc r - 1 ≡ r = omega arith in
    rw d (taking_steps (rw e at h) b (rw d at m))

-- a unit is read with which no number begins, in a loop
pub taking_stops : {base k u p left : ℕ} {S : ℕ → Type 0} {us rest after : List ℕ} {R : Fielding} → FieldsPart R → Taking base k S us rest p left → 0 < left → rest ≡ u ∷ after → (u < base → MeetsIn base S (base * p + u) (left - 1) → ⊥) → Refused R (Plain (InDigits base k S)) us (length after)
taking_stops {left = zero} ok h z e dead = absurd (omega arith)
taking_stops {left = suc r} ok h z e dead =
    let d : suc r - 1 ≡ r = omega arith in
    taking_refused ok (rw e at h) (rw d at dead)

-- no unit is left and digits are wanted, in a loop
pub taking_waits : {base k p left : ℕ} {S : ℕ → Type 0} {us rest : List ℕ} {R : Fielding} → FieldsPart R → Taking base k S us rest p left → 0 < left → rest ≡ [] → Short R (Plain (InDigits base k S)) us
taking_waits {left = zero} ok h z e = absurd (omega arith)
taking_waits {left = suc r} ok h z e = taking_short ok (rw e at h)

-- no digit is left, in a loop
pub taking_done : {base k p left : ℕ} {S : ℕ → Type 0} {us rest : List ℕ} (R : Fielding) → Taking base k S us rest p left → left ≤ 0 → Spells R (Plain (InDigits base k S)) p us rest
taking_done {left = zero} R h z = taking_ends R h
taking_done {left = suc r} R h z = absurd (omega arith)

-- ---- bits that are given one by one

-- where the reader of a number of a set stands that has given these bits, and not all
pub record Giving (k : ℕ) (S : ℕ → Type 0) (us rest given : List ℕ) : Type 0 where
  pub split : us ≡ given ++ rest
  pub some : length given < k
  pub begins : Begins k S given

-- no bit is given
pub giving_starts : {k : ℕ} {S : ℕ → Type 0} (us : List ℕ) → 1 ≤ k → Meets S 0 k → Giving k S us us []
giving_starts {k} us h m = record {
  split = refl;
  some = omega arith;
  begins = record { number = m.number; more = bits k m.number; spelt = set_spelt 2 k m.number m.member (omega (arith, m.below)) };
}

-- one more is given, and some number still begins so
pub giving_more : {k u : ℕ} {S : ℕ → Type 0} {us rest after given : List ℕ} → Giving k S us rest given → rest ≡ u ∷ after → length (given ++ u ∷ []) < k → Begins k S (given ++ u ∷ []) → Giving k S us after (given ++ u ∷ [])
giving_more {u = u} {after = after} {given} h e l b = record { split = h.split ∙ ap (λ (t : List ℕ). given ++ t) e ∙ sym (append_assoc given (u ∷ []) after); some = l; begins = b }

-- the bits given want more
giving_live : {k : ℕ} {S : ℕ → Type 0} {us rest given : List ℕ} {R : Fielding} → FieldsPart R → Giving k S us rest given → Short R (Plain (InDigits 2 k S)) given
giving_live {k} {S} {given = given} {R} ok h = go h.begins.more h.begins.spelt
  where
    go : (more : List ℕ) → InDigits 2 k S h.begins.number (given ++ more) → Short R (Plain (InDigits 2 k S)) given
    go [] c = absurd (omega (arith, c.digits.count, length-append given [], h.some))
    go (u ∷ t) c = plain_short ok (set_code 2 k S) h.begins.number given u t c

-- no unit is left
pub giving_waits : {k : ℕ} {S : ℕ → Type 0} {us rest given : List ℕ} {R : Fielding} → FieldsPart R → Giving k S us rest given → rest ≡ [] → Short R (Plain (InDigits 2 k S)) us
giving_waits {given = given} ok h e =
    let all = h.split ∙ ap (λ (t : List ℕ). given ++ t) e ∙ append-nil given in
    rw all (giving_live ok h)

-- a unit is read with which no number begins
pub giving_stops : {k u : ℕ} {S : ℕ → Type 0} {us rest after given : List ℕ} {R : Fielding} → FieldsPart R → Giving k S us rest given → rest ≡ u ∷ after → (Begins k S (given ++ u ∷ []) → ⊥) → Refused R (Plain (InDigits 2 k S)) us (length after)
giving_stops {k} {u} {S} {after = after} {given} ok h e dead =
    let all = h.split ∙ ap (λ (t : List ℕ). given ++ t) e in
    rw all (plain_refused ok given u after (giving_live ok h) none)
  where
    none : (n : ℕ) (t : List ℕ) → InDigits 2 k S n (given ++ u ∷ t) → ⊥
    none n t c = dead (record { number = n; more = t; spelt = rw (append_assoc given (u ∷ []) t) c })

-- the last bit is read
pub giving_done : {k u n : ℕ} {S : ℕ → Type 0} {us rest after given : List ℕ} (R : Fielding) → Giving k S us rest given → rest ≡ u ∷ after → InDigits 2 k S n (given ++ u ∷ []) → Spells R (Plain (InDigits 2 k S)) n us after
giving_done {u = u} {n} {after = after} {given} R h e c =
    let all = h.split ∙ ap (λ (t : List ℕ). given ++ t) e ∙ sym (append_assoc given (u ∷ []) after) in
    rw all (plain_spells R n (given ++ u ∷ []) after c)

-- a number that stands first is read
pub first_spells : {k n : ℕ} {S : ℕ → Type 0} {us rest : List ℕ} (R : Fielding) → StandsFirst k S n us rest → Spells R (Plain (InDigits 2 k S)) n us rest
first_spells {n = n} {rest = rest} R s =
    let split = s.split in
    rw split (plain_spells R n s.number rest s.spelt)
