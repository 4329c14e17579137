-- Octets that are added to bits, some at a time.
use Rattle.std.proofs.Common.{◌≡◌, ◌<◌, ◌++◌, ℕ, zero, suc, List, [], ◌∷◌, length, get_or, append-nil, append_assoc, sym, ap, ◌∙◌, refl, arith}
use Rattle.std.specs.List.{AllByRecursion}
use Rattle.asn_bits.specs.Numbers.{bits, octets, unpacked}
use Rattle.asn_bits.proofs.Splits.{unpacked-octets, unpacked-append}

-- of all octets those before the ones that are left were added to `old`
pub record Added (old now all rest : List ℕ) : Type 0 where
  pub done : List ℕ
  pub parts : all ≡ done ++ rest
  pub added : now ≡ old ++ unpacked done

pub added_starts : (old all : List ℕ) → Added old old all all
added_starts old all = record { done = []; parts = refl; added = sym (append-nil old) }

-- eight octets more
pub added_more : {old now all rest new : List ℕ} → Added old now all rest → (eight others : List ℕ) (n : ℕ) → rest ≡ eight ++ others
    → octets 8 n ≡ eight → new ≡ now ++ bits 64 n → Added old new all others
added_more {old} {now} {all} {rest} {new} h eight others n parts number e =
    let word : bits 64 n ≡ unpacked eight = sym (unpacked-octets 8 n) ∙ ap unpacked number in
    record {
      done = h.done ++ eight;
      parts = h.parts ∙ ap (λ t. h.done ++ t) parts ∙ sym (append_assoc h.done eight others);
      added =
          e ∙ ap (λ t. t ++ bits 64 n) h.added ∙ ap (λ t. (old ++ unpacked h.done) ++ t) word
          ∙ append_assoc old (unpacked h.done) (unpacked eight) ∙ ap (λ t. old ++ t) (sym (unpacked-append h.done eight));
    }

-- those that are left
pub added_all : {old now all rest new : List ℕ} → Added old now all rest → new ≡ now ++ unpacked rest → new ≡ old ++ unpacked all
added_all {old} {now} {all} {rest} {new} h e =
    e ∙ ap (λ t. t ++ unpacked rest) h.added ∙ append_assoc old (unpacked h.done) (unpacked rest)
    ∙ ap (λ t. old ++ t) (sym (unpacked-append h.done rest) ∙ ap unpacked (sym h.parts))

-- there are none
pub no_octets : (os : List ℕ) → length os ≡ 0 → os ≡ []
no_octets [] e = refl
no_octets (o ∷ os) e = absurd (omega (arith, e))

-- each is an octet
pub each_octet : (os : List ℕ) → AllByRecursion (λ o. o < 256) os → (i d : ℕ) → i < length os → get_or os i d < 256
each_octet [] h i d l = absurd (omega (arith, l))
each_octet (o ∷ os) h zero d l = h.0
each_octet (o ∷ os) h (suc i) d l = each_octet os h.1 i d (omega (arith, l))
