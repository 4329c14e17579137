-- How many bits there are of what a window takes.
use Rattle.std.proofs.Common.{◌≡◌, ◌<◌, ◌≤◌, ◌-◌, ◌%◌, ◌==◌, ◌&&◌, ◌++◌, ℕ, zero, suc, Bool, true, false, List, [], ◌∷◌, length, replicate, take, drop, sym, refl, ap, subst, ◌∙◌, ⊎_elim, inl, inr, length-append, length-drop, arith}
use Rattle.std.proofs.lemmas.Bool.{cases_lt, true≢false}
use Rattle.std.proofs.lemmas.Bool.Decides.{nat_tests}
use Rattle.asn_bits.proofs.LengthsInOctets.{small_is, large_is}
use Rattle.asn_bits.proofs.Packing.{bits_zero}
use Rattle.asn_window.specs.declared.fragments.Fragments.{Fragments}
use Rattle.asn_window.specs.declared.bit_writer.BitWriter.{BitWriter}
use Rattle.asn_rules.specs.Held.{Held}
use Rattle.asn_window.specs.Fragmented.{Flows, Comes}
use Rattle.asn_window.specs.BitWriters.{BitsStand}
use Rattle.asn_bits.specs.Lengths.{general_octets, octet_length}
use Rattle.asn_bits.specs.LengthBits.{first_length}
use Rattle.asn_bits.specs.Numbers.{bits, unpacked, octet_count, padding}
use Rattle.asn_bits.proofs.FirstLengths.{first_few, first_many, first_fragment, first_some}
use Rattle.asn_bits.proofs.FragmentedOctets.{octets_last, octets_fragment, fragment_items}
use Rattle.asn_bits.proofs.Splits.{length-unpacked}
use Rattle.asn_sinks.specs.declared.sink.Framing.{Framing}
use Rattle.asn_sinks.specs.declared.sink.Framing.TheVariants.{General, Single}
use Rattle.asn_sinks.specs.Sink.{framed, filling}
use Rattle.asn_window.specs.Windows.{is_nil}

pub nil-append : (xs : List ℕ) (k n : ℕ) → is_nil (xs ++ bits k n) ≡ is_nil xs && (k == 0)
nil-append [] zero n = refl
nil-append [] (suc k) n = sym none
  where
    none : (suc k == 0) ≡ false
    none = grind (arith, nat_tests)
nil-append (x ∷ xs) k n = refl

pub nil-unpacked : (xs os : List ℕ) → is_nil (xs ++ unpacked os) ≡ is_nil xs && (length os == 0)
nil-unpacked [] [] = refl
nil-unpacked [] (o ∷ os) = sym none
  where
    none : (suc (length os) == 0) ≡ false
    none = grind (arith, nat_tests)
nil-unpacked (x ∷ xs) os = refl

pub some-append : (xs ys : List ℕ) → 0 < length ys → is_nil (xs ++ ys) ≡ false
some-append [] [] h = absurd (omega arith)
some-append [] (y ∷ ys) h = refl
some-append (x ∷ xs) ys h = refl

-- a length determinant has whole octets
pub whole_length : (n : ℕ) → length (first_length n).bits % 8 ≡ 0
whole_length n = ⊎_elim
    (λ (h : n < 128). ap (λ l. length l.bits % 8) (first_few n h))
    (λ (h : 128 ≤ n). ⊎_elim
    (λ (l : n < 16384). ap (λ x. length x.bits % 8) (first_many n h l))
    (λ (l : 16384 ≤ n). ap (λ x. length x.bits % 8) (first_fragment n l))
    (cases_lt n 16384))
    (cases_lt n 128)

-- and so have octets under it
pub whole_octets : (fuel : ℕ) (os : List ℕ) → length os < fuel → length (general_octets (λ u. u) os) % 8 ≡ 0
whole_octets zero os h = absurd (omega arith)
whole_octets (suc fuel) os h = ⊎_elim
    (λ (l : length os < 16384).
    let e = ap length (octets_last os l) ∙ length-append (first_length (length os)).bits (unpacked os) in
    omega (arith, e, whole_length (length os), length-unpacked os))
    (λ (l : 16384 ≤ length os).
    let k = (first_length (length os)).items in
    let size = fragment_items (length os) k l refl in
    let rest = whole_octets fuel (drop k os) (omega (arith, h, length-drop k os, size.0, size.1)) in
    let front = (first_length (length os)).bits ++ unpacked (take k os) in
    let e = ap length (octets_fragment os k l refl) ∙ length-append front (general_octets (λ u. u) (drop k os)) in
    let f = length-append (first_length (length os)).bits (unpacked (take k os)) in
    omega (arith, e, f, rest, whole_length (length os), length-unpacked (take k os)))
    (cases_lt (length os) 16384)

pub whole_field : (f : Framing) (os : List ℕ) → length (framed f os) % 8 ≡ 0
whole_field General os = whole_octets (suc (length os)) os (omega arith)
whole_field Single os = omega (arith, length-append (unpacked (octet_length (length os))) (unpacked os), length-unpacked (octet_length (length os)), length-unpacked os)

-- a field has some bits
pub some_field : (f : Framing) (os : List ℕ) → 0 < length (framed f os)
some_field General os = ⊎_elim
    (λ (l : length os < 16384).
    omega (arith, ap length (octets_last os l) ∙ length-append (first_length (length os)).bits (unpacked os), first_some (length os)))
    (λ (l : 16384 ≤ length os).
    let k = (first_length (length os)).items in
    let front = (first_length (length os)).bits ++ unpacked (take k os) in
    omega (
      arith,
      ap length (octets_fragment os k l refl) ∙ length-append front (general_octets (λ u. u) (drop k os)),
      length-append (first_length (length os)).bits (unpacked (take k os)),
      first_some (length os),
    ))
    (cases_lt (length os) 16384)
some_field Single os = omega (arith, length-append (unpacked (octet_length (length os))) (unpacked os), length-unpacked (octet_length (length os)), some_length (length os))
  where
    some_length : (n : ℕ) → 0 < length (octet_length n)
    some_length n = ⊎_elim
        (λ (h : n < 128). omega (arith, ap length (small_is n h)))
        (λ (h : 128 ≤ n). omega (arith, ap length (large_is n (octet_count n) h refl)))
        (cases_lt n 128)

-- ---- what fills up octets

pub zeros_pad : (phase : ℕ) (bs : List ℕ) → phase ≡ length bs % 8 → bits ((8 - phase) % 8) 0 ≡ padding (length bs)
zeros_pad phase bs e = bits_zero ((8 - phase) % 8) ∙ ap (λ p. replicate ((8 - p) % 8) 0) e

pub filled_none : (some : Bool) (bs : List ℕ) → some ≡ true → is_nil bs ≡ true → filling some bs ≡ bits 8 0
filled_none true [] e f = refl
filled_none true (b ∷ bs) e f = absurd (true≢false (sym f))
filled_none false bs e f = absurd (true≢false (sym e))

pub filled_some : (some : Bool) (bs : List ℕ) → (some ≡ true → is_nil bs ≡ true → ⊥) → filling some bs ≡ padding (length bs)
filled_some true [] h = absurd (h refl refl)
filled_some true (b ∷ bs) h = refl
filled_some false bs h = refl

-- ---- levels

-- the content of a field has come
pub popped : (base : List ℕ → Type 0) (f : Fragments) (level n : ℕ) (around : List (List ℕ)) (next : List ℕ) → level ≡ suc n
    → Comes base f level (next ∷ around) [] → Comes base f n around next
popped base f zero n around next e c = absurd (omega arith)
popped base f (suc i) n around next e (out, flows, c) =
    let same : i ≡ n = omega (arith, e) in
    subst (λ l. Comes base f l around next) same (subst (λ t. Comes base f i around (t ++ next)) (nothing flows) c)
  where
    empty : (xs : List ℕ) → length xs ≡ 0 → xs ≡ []
    empty [] h = refl
    empty (x ∷ xs) h = absurd (omega (arith, h))

    nothing : {left after : ℕ} {out : List ℕ} → Flows left after [] out → out ≡ []
    nothing (inl (z, h)) = h
    nothing (inr p) = absurd (omega (arith, ap length p.split ∙ length-append p.front (unpacked p.octets), p.long, p.some))

-- of the same
pub moved : (start : Held) (around : List (List ℕ)) (r all : List ℕ) {state next : Held} {s t : BitWriter} {f g : Fragments} {level other : ℕ}
    → next ≡ state → t ≡ s → g ≡ f → other ≡ level
    → Comes (λ b. BitsStand start state s b all) f level around r → Comes (λ b. BitsStand start next t b all) g other around r
moved start around r all {state} {next} {s} {t} {f} {g} {level} {other} a b c d come =
    subst (λ x. Comes (λ y. BitsStand start x t y all) g other around r) (sym a)
    (subst (λ x. Comes (λ y. BitsStand start state x y all) g other around r) (sym b)
    (subst (λ x. Comes (λ y. BitsStand start state s y all) x other around r) (sym c)
    (subst (λ x. Comes (λ y. BitsStand start state s y all) f x around r) (sym d) come)))
