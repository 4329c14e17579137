-- Octets in hexadecimal behind other bytes: what more digits add, and what all of them are.
use Rattle.std.proofs.Common.{◌≡◌, ◌<◌, ◌≤◌, ◌+◌, ◌-◌, ◌*◌, ◌/◌, ◌%◌, ℕ, zero, suc, true, false, List, [], ◌∷◌, ◌++◌, length, take, drop, slice_index, length-append, length-drop, length-take, zero-le, append_assoc, append-nil, refl, sym, ap, subst, ◌∙◌, arith, Option, Some, None, Result, Ok, Err, Bool, unwrap_or, if◌then◌else◌, inl, inr, ◌⊎◌, ap₂}
use Rattle.std.proofs.Math.Seq.{take-length, drop-length, take-add}
use Rattle.std.proofs.lemmas.List.{length-take-le, take-append-drop}
use Rattle.std.proofs.lemmas.Slice.Eq.{bytes_eq-Decides}
use Rattle.std.specs.Prelude.{bytes_eq}
use Rattle.std.specs.Io.KnownBytes.{Appends}
use Rattle.hex.specs.Hex.{decode_of, encode_lower, encode_with, lower_digits, IsBytes}
use Rattle.hex.specs.declared.error.FromHexError.{FromHexError}
use Rattle.hex.proofs.HexLemmas.{decode_of-encode_lower, decode_of-ok, length-encode_with}
use Rattle.asn_rules.proofs.Known.{appends_twice}
use Rattle.asn_convert.specs.HexHeld.{mark, marked, marked_at, second_digit, half_of, octets_in, octets_known}

-- ---- digits

-- an octet in front
abbrev two_digits : ℕ → List ℕ → List ℕ
two_digits x t = slice_index lower_digits (x / 16) ∷ slice_index lower_digits (x % 16) ∷ t

pub encode_append : (xs ys : List ℕ) → encode_lower (xs ++ ys) ≡ encode_lower xs ++ encode_lower ys
unfolding encode_with
encode_append [] ys = refl
encode_append (x ∷ xs) ys = ap (two_digits x) (encode_append xs ys)

pub digits_twice : (xs : List ℕ) → length (encode_lower xs) ≡ 2 * length xs
digits_twice xs = length-encode_with lower_digits xs

-- so many digits, and the second of the last octet, are those of the octets begun
pub digits_front : (n : ℕ) (xs : List ℕ) → n ≤ 2 * length xs
    → take n (encode_lower xs) ++ second_digit (half_of n xs) ≡ encode_lower (take ((n + 1) / 2) xs)
unfolding encode_with
digits_front zero xs few = refl
digits_front (suc n) [] few = absurd (omega (arith, few))
digits_front (suc zero) (x ∷ xs) few = refl
digits_front (suc (suc n)) (x ∷ xs) few =
    let half : (suc (suc n) + 1) / 2 ≡ suc ((n + 1) / 2) = omega arith in
    rw half (ap (two_digits x) (digits_front n xs (omega (arith, few))))

-- the half octet, as the program finds it
pub half_at : (n : ℕ) (xs : List ℕ) → n % 2 ≡ 1 → n ≤ 2 * length xs → Some (slice_index xs (n / 2)) ≡ half_of n xs
half_at zero xs odd few = absurd (omega (arith, odd))
half_at (suc n) [] odd few = absurd (omega (arith, few))
half_at (suc zero) (x ∷ xs) odd few = refl
half_at (suc (suc n)) (x ∷ xs) odd few =
    let half : suc (suc n) / 2 ≡ suc (n / 2) = omega arith in
    rw half (half_at n xs (omega (arith, odd)) (omega (arith, few)))

pub half_none : (n : ℕ) (xs : List ℕ) → n % 2 ≡ 0 → None ≡ half_of n xs
half_none zero xs even = refl
half_none (suc zero) xs even = absurd (omega (arith, even))
half_none (suc (suc n)) [] even = refl
half_none (suc (suc n)) (x ∷ xs) even = half_none n xs (omega (arith, even))

-- ---- octets behind bytes

-- octets behind bytes, by their digits
marked_of : (bytes os : List ℕ) → IsBytes os → marked bytes (encode_lower os) (decode_of (encode_lower os)) ≡ Some (bytes ++ mark ∷ os)
marked_of bytes os are =
    let same : bytes_eq (encode_lower os) (encode_lower os) ≡ true = (bytes_eq-Decides (encode_lower os) (encode_lower os)).1 refl in
    rw (decode_of-encode_lower os are, same) refl

-- what is marked has digits of octets
record Behind (bytes digits y : List ℕ) : Type 0 where
  pub octets : List ℕ
  pub are : IsBytes octets
  pub same : digits ≡ encode_lower octets
  pub all : y ≡ bytes ++ mark ∷ octets

some_is : {A : Type 0} (x y : A) → Some x ≡ Some y → x ≡ y
some_is x y e = ap (λ o. unwrap_or o x) e

behind_by : (bytes digits y : List ℕ) (r : Result (List ℕ) FromHexError) (e : decode_of digits ≡ r) → marked bytes digits r ≡ Some y → Behind bytes digits y
behind_by bytes digits y (Err w) e m = absurd (cc)
behind_by bytes digits y (Ok os) e m = by_test (bytes_eq (encode_lower os) digits) refl m
  where
    by_test : (b : Bool) → bytes_eq (encode_lower os) digits ≡ b → (if b then Some (bytes ++ mark ∷ os) else None) ≡ Some y → Behind bytes digits y
    by_test false t n = absurd (cc)
    by_test true t n = record {
      octets = os;
      are = (decode_of-ok digits os e).3;
      same = sym ((bytes_eq-Decides (encode_lower os) digits).0 t);
      all = sym (some_is _ _ n);
    }

behind : (bytes digits y : List ℕ) → marked bytes digits (decode_of digits) ≡ Some y → Behind bytes digits y
behind bytes digits y m = behind_by bytes digits y (decode_of digits) refl m

-- more octets behind them
more_marked : (count : ℕ) (bytes x y : List ℕ) → IsBytes x → marked_at (2 * count) bytes ≡ Some y
    → marked_at (2 * (count + length x)) (bytes ++ encode_lower x) ≡ Some (y ++ x)
more_marked count bytes x y are m =
    let cut = length bytes - 2 * count in
    let b = behind (take cut bytes) (drop cut bytes) y m in
    let long : length (bytes ++ encode_lower x) - 2 * (count + length x) ≡ cut = omega (arith, length-append bytes (encode_lower x), digits_twice x) in
    let front : take cut (bytes ++ encode_lower x) ≡ take cut bytes = take_append cut bytes (encode_lower x) (omega arith) in
    let back : drop cut (bytes ++ encode_lower x) ≡ encode_lower (b.octets ++ x) =
    drop_append cut bytes (encode_lower x) (omega arith) ∙ ap (λ t. t ++ encode_lower x) b.same ∙ sym (encode_append b.octets x) in
    rw (long, front, back) (marked_of (take cut bytes) (b.octets ++ x) (both b.octets x b.are are)
    ∙ ap (λ t. Some t) (sym (append_assoc (take cut bytes) (mark ∷ b.octets) x) ∙ ap (λ t. t ++ x) (sym b.all)))
  where
    take_append : (n : ℕ) (xs ys : List ℕ) → n ≤ length xs → take n (xs ++ ys) ≡ take n xs
    take_append zero xs ys few = refl
    take_append (suc n) [] ys few = absurd (omega (arith, few))
    take_append (suc n) (z ∷ xs) ys few = ap (λ t. z ∷ t) (take_append n xs ys (omega (arith, few)))

    drop_append : (n : ℕ) (xs ys : List ℕ) → n ≤ length xs → drop n (xs ++ ys) ≡ drop n xs ++ ys
    drop_append zero xs ys few = refl
    drop_append (suc n) [] ys few = absurd (omega (arith, few))
    drop_append (suc n) (z ∷ xs) ys few = drop_append n xs ys (omega (arith, few))

    both : (xs ys : List ℕ) → IsBytes xs → IsBytes ys → IsBytes (xs ++ ys)
    both [] ys p q i = q i
    both (z ∷ xs) ys p q zero = p zero
    both (z ∷ xs) ys p q (suc i) = both xs ys (λ k. p (suc k)) q i

-- ---- as a writer holds them

-- with one octet more a digit may stand alone
begun : (count : ℕ) (half : Option ℕ) (bytes : List ℕ) → 0 < count → octets_in count half bytes ≡ marked_at (2 * count) (bytes ++ second_digit half)
begun zero half bytes some = absurd (omega (arith, some))
begun (suc count) None bytes some = refl
begun (suc count) (Some o) bytes some = refl

-- the octets of more digits
more_octets : (count : ℕ) (half : Option ℕ) (bytes others x : List ℕ) (old : Option (List ℕ)) → IsBytes x → (0 < count + length x) ⊎ (half ≡ None)
    → others ++ second_digit half ≡ bytes ++ encode_lower x → octets_in count None bytes ≡ old → Appends old (octets_in (count + length x) half others) x
more_octets count half bytes others x None are some same e = tt
more_octets count half bytes others x (Some y) are some same e =
    let before : marked_at (2 * count) bytes ≡ Some y = ap (λ b. marked_at (2 * count) b) (sym (append-nil bytes)) ∙ sym (whole count None bytes (inr refl)) ∙ e in
    let after : octets_in (count + length x) half others ≡ Some (y ++ x) =
    whole (count + length x) half others some ∙ ap (λ b. marked_at (2 * (count + length x)) b) same ∙ more_marked count bytes x y are before in
    rw after refl
  where
    whole : (n : ℕ) (h : Option ℕ) (bs : List ℕ) → (0 < n) ⊎ (h ≡ None) → octets_in n h bs ≡ marked_at (2 * n) (bs ++ second_digit h)
    whole n h bs (inl s) = begun n h bs s
    whole zero h bs (inr s) = rw s refl
    whole (suc n) h bs (inr s) = rw s refl

-- so many digits of octets were written
pub more_known : (known now : Option (List ℕ)) (count n : ℕ) (xs : List ℕ) → IsBytes xs → n ≤ 2 * length xs
    → Appends known now (take n (encode_lower xs))
    → Appends (octets_known known count None) (octets_known now (count + (n + 1) / 2) (half_of n xs)) (take ((n + 1) / 2) xs)
more_known None now count n xs are few wrote = tt
more_known (Some bytes) None count n xs are few wrote = absurd wrote
more_known (Some bytes) (Some others) count n xs are few wrote =
    let x = take ((n + 1) / 2) xs in
    let long : length x ≡ (n + 1) / 2 = length-take-le ((n + 1) / 2) xs (omega (arith, few)) in
    let same : others ++ second_digit (half_of n xs) ≡ bytes ++ encode_lower x =
    ap (λ b. b ++ second_digit (half_of n xs)) wrote ∙ append_assoc bytes (take n (encode_lower xs)) (second_digit (half_of n xs)) ∙ ap (λ b. bytes ++ b) (digits_front n xs few) in
    subst (λ k. Appends (octets_in count None bytes) (octets_in (count + k) (half_of n xs) others) x) long
    (more_octets count (half_of n xs) bytes others x (octets_in count None bytes) (taken (front xs ((n + 1) / 2) are)) (rw long (some n xs)) same refl)
  where
    taken : {A : Type 0} → A → A
    taken a = a

    front : (ys : List ℕ) (k : ℕ) → IsBytes ys → IsBytes (take k ys)
    front ys zero p i = omega arith
    front [] (suc k) p i = p i
    front (y ∷ ys) (suc k) p zero = p zero
    front (y ∷ ys) (suc k) p (suc i) = front ys k (λ j. p (suc j)) i

    some : (k : ℕ) (ys : List ℕ) → (0 < count + (k + 1) / 2) ⊎ (half_of k ys ≡ None)
    some zero ys = inr refl
    some (suc k) ys = inl (omega arith)

-- ---- what all digits are

-- no octet is the mark
mark_at : (zs bs : List ℕ) → slice_index (zs ++ mark ∷ bs) (length zs) ≡ mark
mark_at [] bs = refl
mark_at (z ∷ zs) bs = mark_at zs bs

no_mark : (os zs bs : List ℕ) → IsBytes os → os ≡ zs ++ mark ∷ bs → ⊥
no_mark os zs bs are e =
    let small = are (length zs) in
    let here : slice_index os (length zs) ≡ 256 = ap (λ t. slice_index t (length zs)) e ∙ mark_at zs bs in
    omega (arith, small, here)

-- octets behind a mark are told
last_mark : (xs ys a b : List ℕ) → IsBytes a → IsBytes b → xs ++ mark ∷ a ≡ ys ++ mark ∷ b → (xs ≡ ys) × (a ≡ b)
last_mark [] [] a b p q e = (refl, ap (λ t. drop 1 t) e)
last_mark [] (y ∷ ys) a b p q e = absurd (no_mark a ys b p (ap (λ t. drop 1 t) e))
last_mark (x ∷ xs) [] a b p q e = absurd (no_mark b xs a q (sym (ap (λ t. drop 1 t) e)))
last_mark (x ∷ xs) (y ∷ ys) a b p q e =
    let rest = last_mark xs ys a b p q (ap (λ t. drop 1 t) e) in
    (ap₂ (λ s t. s ∷ t) (ap (λ t. slice_index t 0) e) rest.0, rest.1)

-- of two ends the longer one goes on to the shorter one
longer_end : (xs s ys h : List ℕ) → length s ≤ length h → xs ++ s ≡ ys ++ h → (front : List ℕ) × (xs ≡ ys ++ front) × (front ++ s ≡ h)
longer_end xs s [] h few e = (xs, refl, e)
longer_end [] s (y ∷ ys) h few e = absurd (let long = ap length e in omega (arith, few, long, length-append ys h))
longer_end (x ∷ xs) s (y ∷ ys) h few e =
    let rest = longer_end xs s ys h few (ap (λ t. drop 1 t) e) in
    (rest.0, ap₂ (λ a b. a ∷ b) (ap (λ t. slice_index t 0) e) rest.1, rest.2)

-- before the first octet
none_yet : (bytes : List ℕ) → octets_in 0 None bytes ≡ Some (bytes ++ mark ∷ [])
unfolding encode_with
none_yet bytes =
    let all : length (bytes ++ []) - 0 ≡ length (bytes ++ []) = omega arith in
    rw (all, take-length (bytes ++ []), drop-length (bytes ++ []))
    (marked_of (bytes ++ []) [] (λ i. omega arith) ∙ ap (λ b. Some (b ++ mark ∷ [])) (append-nil bytes))

one_digit : (x : ℕ) → length (second_digit (Some x)) ≡ 1
unfolding encode_with
one_digit x = refl

-- what stands at the end of bytes, where it is known
cut_octets : (count : ℕ) (bytes y : List ℕ) → marked_at (2 * count) bytes ≡ Some y
    → (front octets : List ℕ) × IsBytes octets × (y ≡ front ++ mark ∷ octets) × (bytes ≡ front ++ encode_lower octets)
    × (0 < count → 0 < length bytes → 0 < length (encode_lower octets))
cut_octets count bytes y e =
    let cut = length bytes - 2 * count in
    let b = behind (take cut bytes) (drop cut bytes) y e in (
      take cut bytes,
      b.octets,
      b.are,
      b.all,
      sym (take-append-drop cut bytes) ∙ ap (λ t. take cut bytes ++ t) b.same,
      λ some long. omega (arith, some, long, ap length b.same, length-drop cut bytes),
    )

-- what is in bytes, where it is known
known_octets : (count : ℕ) (half : Option ℕ) (bytes y : List ℕ) → octets_in count half bytes ≡ Some y
    → (front octets : List ℕ) × IsBytes octets × (y ≡ front ++ mark ∷ octets) × (bytes ++ second_digit half ≡ front ++ encode_lower octets)
    × (length (second_digit half) ≤ length (encode_lower octets))
known_octets zero (Some o) bytes y e = absurd (cc)
known_octets zero None bytes y e =
    let k = cut_octets zero (bytes ++ []) y e in
    (k.0, k.1, k.2, k.3, k.4, zero-le)
known_octets (suc count) None bytes y e =
    let k = cut_octets (suc count) (bytes ++ []) y e in
    (k.0, k.1, k.2, k.3, k.4, zero-le)
known_octets (suc count) (Some o) bytes y e =
    let k = cut_octets (suc count) (bytes ++ second_digit (Some o)) y e in
    let long : length (second_digit (Some o)) ≡ 1 = one_digit o in
    (k.0, k.1, k.2, k.3, k.4, omega (arith, long, k.5 (omega arith) (omega (arith, long, length-append bytes (second_digit (Some o))))))

-- The digits of octets that were taken since the writer was begun were written, but for the second of the last octet
-- where only its first was.
pub all_digits : (known now : Option (List ℕ)) (count : ℕ) (half : Option ℕ) (os : List ℕ) → IsBytes os
    → Appends (octets_known known 0 None) (octets_known now count half) os
    → (digits rest : List ℕ) × Appends known now digits × (digits ++ rest ≡ encode_lower os) × (half ≡ None → rest ≡ [])
all_digits None now count half os are taken = (encode_lower os, [], tt, append-nil (encode_lower os), λ none. refl)
all_digits (Some bytes) None count half os are taken = absurd (subst (λ old. Appends old None os) (none_yet bytes) taken)
all_digits (Some bytes) (Some others) count half os are taken = by_now (octets_in count half others) refl (subst (λ old. Appends old (octets_in count half others) os) (none_yet bytes) taken)
  where
    by_now : (new : Option (List ℕ)) → octets_in count half others ≡ new → Appends (Some (bytes ++ mark ∷ [])) new os
        → (digits rest : List ℕ) × Appends (Some bytes) (Some others) digits × (digits ++ rest ≡ encode_lower os) × (half ≡ None → rest ≡ [])
    by_now None e t = absurd t
    by_now (Some y) e t =
        let k = known_octets count half others y e in
        let both = last_mark k.0 bytes k.1 os k.2 are (sym k.3 ∙ t ∙ append_assoc bytes (mark ∷ []) os) in
        let same : others ++ second_digit half ≡ bytes ++ encode_lower os = k.4 ∙ ap₂ (λ a b. a ++ encode_lower b) both.0 both.1 in
        let end = longer_end others (second_digit half) bytes (encode_lower os) (subst (λ b. length (second_digit half) ≤ length (encode_lower b)) both.1 k.5) same in
        (end.0, second_digit half, end.1, end.2, λ none. ap second_digit none)

-- ---- a piece of octets

pub front_of : (k n : ℕ) (xs : List ℕ) → k ≤ length (take n xs) → take k (take n xs) ≡ take k xs
front_of zero n xs few = refl
front_of (suc k) zero xs few = absurd (omega (arith, few))
front_of (suc k) (suc n) [] few = absurd (omega (arith, few))
front_of (suc k) (suc n) (x ∷ xs) few = ap (λ t. x ∷ t) (front_of k n xs (omega (arith, few)))

-- the octets of one piece more
pub piece_known : (first mid last : Option (List ℕ)) (done n taken : ℕ) (xs : List ℕ) → taken ≤ length (take n (drop done xs)) → done ≤ length xs
    → Appends first mid (take done xs) → Appends mid last (take taken (take n (drop done xs)))
    → (done + taken ≤ length xs) × Appends first last (take (done + taken) xs)
piece_known first mid last done n taken xs few within before more =
    let piece : Appends mid last (take taken (drop done xs)) = subst (λ t. Appends mid last t) (front_of taken n (drop done xs) few) more in (
      omega (arith, few, length-take n (drop done xs), length-drop done xs, within),
      subst (λ t. Appends first last t) (sym (take-add done taken xs)) (appends_twice first mid last (take done xs) (take taken (drop done xs)) before piece),
    )
