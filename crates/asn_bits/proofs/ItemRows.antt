-- Items one after the other, packed into numbers that a sink takes.
use Rattle.std.proofs.Common.{◌≡◌, ◌≤◌, ◌<◌, ◌+◌, ◌-◌, ◌*◌, ◌^◌, ℕ, Bool, List, [], ◌∷◌, ◌++◌, length, map, take, drop, get_or, refl, sym, ◌∙◌, ap, arith, append_assoc}
use Rattle.std.proofs.lemmas.List.{length-take-le, length-drop, append-nil, take_more, map-append, take-append-drop, drop-drop}
use Rattle.std.proofs.lemmas.Nat.{pow-add}
use Rattle.std.proofs.Math.ListN.{drop_of_length-le}
use Rattle.std.proofs.Math.Nat.{mul-le-mul_right}
use Rattle.std.proofs.Math.Pow.{pow_mono}
use Rattle.asn_bits.specs.Numbers.{bits}
use Rattle.asn_bits.specs.Lengths.{joined}
use Rattle.asn_bits.specs.Sink.{bit_of}
use Rattle.asn_bits.proofs.LongerLengths.{joined-append}
use Rattle.asn_bits.proofs.Splits.{digits-join}

-- ---- a number that is filled

-- the number has the bits, and no more
pub record Word (k word : ℕ) (bs : List ℕ) : Type 0 where
  pub within : word < 2 ^ k
  pub same : bits k word ≡ bs

pub no_word : Word 0 0 []
no_word = record { within = omega arith; same = refl }

-- the bits of one item more
pub word_more : (j k total word n next : ℕ) (bs cs : List ℕ) → Word j word bs → n < 2 ^ k → bits k n ≡ cs → total ≡ j + k → next ≡ word * 2 ^ k + n → Word total next (bs ++ cs)
word_more j k total word n next bs cs h l c t e =
    let power : 2 ^ total ≡ 2 ^ j * 2 ^ k = ap (λ (i : ℕ). 2 ^ i) t ∙ pow-add 2 j k in
    let room : (word + 1) * 2 ^ k ≤ 2 ^ j * 2 ^ k = mul-le-mul_right (2 ^ k) (omega (arith, h.within)) in
    record {
      within = omega (arith, power, room, l, e);
      same =
          ap (λ (i : ℕ). bits i next) t ∙ ap (bits (j + k)) e ∙ sym (digits-join 2 (omega arith) j k word n l)
          ∙ ap (λ (l : List ℕ). l ++ bits k n) h.same ∙ ap (λ (l : List ℕ). bs ++ l) c;
    }

-- at most 64 bits fit a word
pub word_fits : (k word : ℕ) (bs : List ℕ) → Word k word bs → k ≤ 64 → word < 2 ^ 64
word_fits k word bs h l = omega (arith, h.within, pow_mono l)

-- ---- items one after the other

-- the first items, and those after them
pub row-append : {A : Type 0} (code : A → List ℕ) (xs ys : List A) → joined (map code (xs ++ ys)) ≡ joined (map code xs) ++ joined (map code ys)
row-append code xs ys = ap joined (map-append code xs ys) ∙ joined-append (map code xs) (map code ys)

-- the first items, and the next one
pub row_more : {A : Type 0} (code : A → List ℕ) (xs : List A) (i : ℕ) (d : A) → i < length xs → joined (map code (take (i + 1) xs)) ≡ joined (map code (take i xs)) ++ code (get_or xs i d)
row_more code xs i d l =
    ap (λ ys. joined (map code ys)) (take_more xs i d l) ∙ row-append code (take i xs) (get_or xs i d ∷ [])
    ∙ ap (λ (t : List ℕ). joined (map code (take i xs)) ++ t) (append-nil (code (get_or xs i d)))

-- what a sink has, with the items that are left, is what it had with all
pub record Row {A : Type 0} (code : A → List ℕ) (xs : List A) (before now : List ℕ) (done : ℕ) : Type 0 where
  pub few : done ≤ length xs
  pub known : now ++ joined (map code (drop done xs)) ≡ before ++ joined (map code xs)

pub row_begins : {A : Type 0} (code : A → List ℕ) (xs : List A) (before : List ℕ) → Row code xs before before 0
row_begins code xs before = record { few = omega arith; known = refl }

-- this many items after the first
pub part_length : {A : Type 0} (xs : List A) (from count : ℕ) → from + count ≤ length xs → length (take (from + count - from) (drop from xs)) ≡ count
part_length xs from count l =
    let n : from + count - from ≡ count = omega arith in
    ap (λ (i : ℕ). length (take i (drop from xs))) n ∙ length-take-le count (drop from xs) (omega (arith, length-drop from xs))

-- some items more; count is many, however it is written
pub row_goes_on : {A : Type 0} (code : A → List ℕ) (xs : List A) (before now new : List ℕ) (done many count : ℕ) → Row code xs before now done → done + many ≤ length xs → count ≡ many
    → new ≡ now ++ joined (map code (take count (drop done xs))) → Row code xs before new (done + many)
row_goes_on code xs before now new done many count h l c e =
    let left = drop done xs in
    let both : joined (map code left) ≡ joined (map code (take many left)) ++ joined (map code (drop many left)) =
    ap (λ ys. joined (map code ys)) (sym (take-append-drop many left)) ∙ row-append code (take many left) (drop many left) in
    record {
      few = l;
      known =
          ap (λ (t : List ℕ). t ++ joined (map code (drop (done + many) xs))) (e ∙ ap (λ (i : ℕ). now ++ joined (map code (take i left))) c)
          ∙ append_assoc now (joined (map code (take many left))) (joined (map code (drop (done + many) xs)))
          ∙ ap (λ ys. now ++ (joined (map code (take many left)) ++ joined (map code ys))) (sym (drop-drop many done xs))
          ∙ ap (λ (t : List ℕ). now ++ t) (sym both) ∙ h.known;
    }

-- all items
pub row_ends : {A : Type 0} (code : A → List ℕ) (xs : List A) (before now : List ℕ) (done : ℕ) → Row code xs before now done → length xs ≤ done → now ≡ before ++ joined (map code xs)
row_ends code xs before now done h l =
    sym (append-nil now) ∙ ap (λ ys. now ++ joined (map code ys)) (sym (drop_of_length-le xs l)) ∙ h.known

-- ---- truth values

-- each truth value is its bit
abbrev pub one_bit : Bool → List ℕ
one_bit b = bit_of b ∷ []

pub bits_joined : (bs : List Bool) → joined (map one_bit bs) ≡ map bit_of bs
bits_joined [] = refl
bits_joined (b ∷ bs) = ap (λ (t : List ℕ). bit_of b ∷ t) (bits_joined bs)
