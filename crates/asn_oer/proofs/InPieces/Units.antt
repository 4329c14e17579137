-- Octets that are added to those of a part, or passed, as bits.
use Rattle.std.proofs.Common.{◌≡◌, ◌≤◌, ◌+◌, ◌-◌, ◌*◌, ◌/◌, ◌%◌, inl, inr, ⊎_elim, ℕ, min, List, [], ◌∷◌, ◌++◌, length, take, drop, length-append, length-drop, refl, sym, ap, ◌∙◌, arith}
use Rattle.std.proofs.lemmas.Bool.{cases_lt}
use Rattle.std.proofs.lemmas.List.{length-take-le, take-append-drop, drop_all}
use Rattle.asn_bits.specs.Numbers.{packed}
use Rattle.asn_bits.proofs.FilledBits.{length-packed}
use Rattle.asn_walk_feed.specs.Feeding.{ExtendsBy, Passes}
use Rattle.asn_oer.specs.Walk.{oer_coding}

-- the octets of bits that fill octets, and those after them
pub packed_append : (us vs : List ℕ) → length us % 8 ≡ 0 → packed (us ++ vs) ≡ packed us ++ packed vs
packed_append (a ∷ b ∷ c ∷ d ∷ e ∷ f ∷ g ∷ h ∷ rest) vs l =
    ap (λ (os : List ℕ). (128 * a + 64 * b + 32 * c + 16 * d + 8 * e + 4 * f + 2 * g + h) ∷ os) (packed_append rest vs (omega (arith, l)))
packed_append [] vs l = refl
packed_append (a ∷ []) vs l = absurd (omega (arith, l))
packed_append (a ∷ b ∷ []) vs l = absurd (omega (arith, l))
packed_append (a ∷ b ∷ c ∷ []) vs l = absurd (omega (arith, l))
packed_append (a ∷ b ∷ c ∷ d ∷ []) vs l = absurd (omega (arith, l))
packed_append (a ∷ b ∷ c ∷ d ∷ e ∷ []) vs l = absurd (omega (arith, l))
packed_append (a ∷ b ∷ c ∷ d ∷ e ∷ f ∷ []) vs l = absurd (omega (arith, l))
packed_append (a ∷ b ∷ c ∷ d ∷ e ∷ f ∷ g ∷ []) vs l = absurd (omega (arith, l))

-- the first k bits are k / 8 octets, and the others stand after them
module _ (us : List ℕ) (k : ℕ) (there : k ≤ length us) (fill : k % 8 ≡ 0) where
  first_length : length (take k us) ≡ k
  first_length = length-take-le k us there

  first_fills : length (take k us) % 8 ≡ 0
  first_fills = ap (λ (n : ℕ). n % 8) first_length ∙ fill

  halves : packed us ≡ packed (take k us) ++ packed (drop k us)
  halves = ap packed (sym (take-append-drop k us)) ∙ packed_append (take k us) (drop k us) first_fills

  octets_of_first : length (packed (take k us)) ≡ k / 8
  octets_of_first = omega (arith, length-packed (take k us) first_fills, first_length)

-- as many octets are added as are left and have room
pub extends : (b new us : List ℕ) (k : ℕ) → length b % 8 ≡ 0 → length us % 8 ≡ 0 → k ≡ min (length us) (128 - length b) → new ≡ b ++ take k us
    → (length new % 8 ≡ 0) × ExtendsBy oer_coding b new us (k / 8)
unfolding oer_coding
extends b new us k f g e n = (
  omega (arith, long, f, fill),
  record {
    front = packed (take k us);
    rest = packed (drop k us);
    joined = ap packed n ∙ packed_append b (take k us) f;
    from = halves us k there fill;
    many = octets_of_first us k there fill;
    full = ⊎_elim
        (λ l. inr (omega (arith, long, e, l)))
        (λ l. inl (ap packed (drop_all k us (omega (arith, e, l)))))
        (cases_lt (128 - length b) (length us));
  },
)
  where
    there : k ≤ length us
    there = omega (arith, e)

    fill : k % 8 ≡ 0
    fill = omega (arith, e, f, g)

    long : length new ≡ length b + k
    long = ap length n ∙ length-append b (take k us) ∙ ap (λ (i : ℕ). length b + i) (length-take-le k us there)

-- octets are passed
pub passes : (us new : List ℕ) (n : ℕ) → length us % 8 ≡ 0 → n ≤ length (packed us) → new ≡ drop (8 * n) us
    → (8 * n ≤ length us) × (length new % 8 ≡ 0) × Passes oer_coding us new n
unfolding oer_coding
passes us new n f l e = (
  there,
  omega (arith, ap length e, length-drop (8 * n) us, f, there),
  record {
    front = packed (take (8 * n) us);
    from = halves us (8 * n) there fill ∙ ap (λ (os : List ℕ). packed (take (8 * n) us) ++ packed os) (sym e);
    many = octets_of_first us (8 * n) there fill ∙ omega arith;
  },
)
  where
    there : 8 * n ≤ length us
    there = omega (arith, l, length-packed us f)

    fill : (8 * n) % 8 ≡ 0
    fill = omega arith
