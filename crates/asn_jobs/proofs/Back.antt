-- What is written of octets is read as these octets.
use Rattle.std.proofs.Common.{◌≡◌, ◌<◌, ◌∙◌, ◌&&◌, ◌||◌, ◌==◌, ◌∷◌, ◌/◌, ◌%◌, ap, sym, refl, arith, ℕ, zero, suc, true, false, not, true≢false, Bool, if◌then◌else◌, List, [], length, take, slice_index, append-nil, Some, inl, inr}
use Rattle.std.specs.Result.{result_ok}
use Rattle.std.specs.List.{before_first, flat_map, list_all, prefix_len, slice_split}
use Rattle.std.proofs.lemmas.Bool.{and_parts, cases_lt}
use Rattle.std.proofs.lemmas.List.{take_all}
use Rattle.hex.specs.Hex.{IsBytes, decode_of, encode_lower, encode_with, lower_digits}
use Rattle.hex.proofs.HexLemmas.{decode_of-encode_lower}
use Rattle.asn_jobs.specs.Texts.{digits_of, is_blank, is_comment, is_end, line_digits, unprefixed}

-- no octet that ends a line, a word or the digits, and no x
abbrev is_plain : ℕ → Bool
is_plain x = not (is_end x) && (not (is_comment x) && (not (is_blank x) && (not (x == 120) && not (x == 88))))

abbrev all_plain : ℕ → Bool
all_plain zero = true
all_plain (suc n) = is_plain (slice_index lower_digits n) && all_plain n

plain_at : (n k : ℕ) → all_plain n ≡ true → k < n → is_plain (slice_index lower_digits k) ≡ true
plain_at zero k h below = absurd (omega arith)
plain_at (suc n) k h below =
    let parts = and_parts (is_plain (slice_index lower_digits n)) (all_plain n) h in
    elim (cases_lt k n) [
      | inl less ↦ plain_at n k parts.1 less
      | inr top ↦
          let e : k ≡ n = omega arith in
          rw e parts.0
    ]

both : (a b : Bool) → a ≡ true → b ≡ true → (a && b) ≡ true
both true b first second = second
both false b first second = first

plain_digits : (octets : List ℕ) → IsBytes octets → list_all is_plain (encode_lower octets) ≡ true
unfolding encode_with
plain_digits [] are = refl
plain_digits (x ∷ xs) are =
    let fits : x < 256 = are 0 in
    let high : is_plain (slice_index lower_digits (x / 16)) ≡ true = plain_at 16 (x / 16) refl (omega arith) in
    let low : is_plain (slice_index lower_digits (x % 16)) ≡ true = plain_at 16 (x % 16) refl (omega arith) in
    let rest = plain_digits xs (λ k. are (suc k)) in
    both (is_plain (slice_index lower_digits (x / 16))) _ high (both (is_plain (slice_index lower_digits (x % 16))) (list_all is_plain (encode_lower xs)) low rest)

no : (b : Bool) → not b ≡ true → b ≡ false
no true e = absurd (true≢false (sym e))
no false e = refl

-- what a plain octet is not
record IsPlain (x : ℕ) : Type 0 where
  pub end : is_end x ≡ false
  pub comment : is_comment x ≡ false
  pub blank : is_blank x ≡ false
  pub small : (x == 120) ≡ false
  pub capital : (x == 88) ≡ false

plain : (x : ℕ) → is_plain x ≡ true → IsPlain x
plain x e =
    let one = and_parts (not (is_end x)) _ e in
    let two = and_parts (not (is_comment x)) _ one.1 in
    let three = and_parts (not (is_blank x)) _ two.1 in
    let four = and_parts (not (x == 120)) (not (x == 88)) three.1 in
    record { end = no _ one.0; comment = no _ two.0; blank = no _ three.0; small = no _ four.0; capital = no _ four.1 }

-- where no octet ends a part, all is one part
one_part : (p : ℕ → Bool) → ((x : ℕ) → is_plain x ≡ true → p x ≡ false) → (xs : List ℕ) → list_all is_plain xs ≡ true → slice_split p xs ≡ xs ∷ []
one_part p none [] e = refl
one_part p none (x ∷ xs) e =
    let parts = and_parts (is_plain x) (list_all is_plain xs) e in
    rw (none x parts.0, one_part p none xs parts.1) refl

-- where none begins a comment, it is all the line
comment_free : (xs : List ℕ) → list_all is_plain xs ≡ true → prefix_len (λ x. not (is_comment x)) xs ≡ length xs
comment_free [] e = refl
comment_free (x ∷ xs) e =
    let parts = and_parts (is_plain x) (list_all is_plain xs) e in
    let later = comment_free xs parts.1 in
    rw (plain x parts.0).comment (omega (arith, later))

no_prefix : (xs : List ℕ) → list_all is_plain xs ≡ true → unprefixed xs ≡ xs
no_prefix [] e = refl
no_prefix (x ∷ []) e = refl
no_prefix (x ∷ y ∷ ys) e =
    let parts = and_parts (is_plain x) (list_all is_plain (y ∷ ys)) e in
    let is = plain y (and_parts (is_plain y) (list_all is_plain ys) parts.1).0 in
    rw (is.small, is.capital) (go (x == 48))
  where
    go : (b : Bool) → (if b && (false || false) then ys else x ∷ y ∷ ys) ≡ x ∷ y ∷ ys
    go true = refl
    go false = refl

-- plain octets are one line, of one word
plain_line : (xs : List ℕ) → list_all is_plain xs ≡ true → line_digits xs ≡ xs
plain_line xs e =
    let whole : before_first is_comment xs ≡ xs = ap (λ n. take n xs) (comment_free xs e) ∙ take_all (length xs) xs (omega arith) in
    ap (λ line. flat_map unprefixed (slice_split is_blank line)) whole
    ∙ ap (flat_map unprefixed) (one_part is_blank (λ x h. (plain x h).blank) xs e)
    ∙ append-nil (unprefixed xs) ∙ no_prefix xs e

plain_text : (xs : List ℕ) → list_all is_plain xs ≡ true → digits_of xs ≡ xs
plain_text xs e =
    ap (flat_map line_digits) (one_part is_end (λ x h. (plain x h).end) xs e) ∙ append-nil (line_digits xs) ∙ plain_line xs e

pub hexadecimal_back : (octets : List ℕ) → IsBytes octets → result_ok (decode_of (digits_of (encode_lower octets))) ≡ Some octets
hexadecimal_back octets are =
    ap (λ t. result_ok (decode_of t)) (plain_text (encode_lower octets) (plain_digits octets are)) ∙ ap result_ok (decode_of-encode_lower octets are)
