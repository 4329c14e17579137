-- What follows from a session's answers for octets that come in one piece.
use Rattle.std.proofs.Common.{◌≡◌, ◌≤◌, ◌<◌, ◌+◌, ⊎_elim, ℕ, List, length, take, sym, subst, arith}
use Rattle.std.proofs.lemmas.Bool.{cases_lt}
use Rattle.std.proofs.lemmas.List.{take_all, length-take}
use Rattle.asn_values.specs.Datum.{Datum}
use Rattle.asn_values.specs.Shape.{Shape}
use Rattle.asn_rules.specs.Answer.{Ruling, IsEncoding, NoFront, Answer, done, more, max_octets}

-- the first n of a list are at most n, and at most all
pub take_few : (n : ℕ) (o : List ℕ) → (length (take n o) ≤ n) × (length (take n o) ≤ length o)
take_few n o = let e = length-take n o in (omega (arith, e), omega (arith, e))

-- all of a list of which fewer than n are the first n
pub take_fewer : (n : ℕ) (o : List ℕ) → length (take n o) < n → take n o ≡ o
take_fewer n o h = let e = length-take n o in take_all n o (omega (arith, e, h))

module _ (r : Ruling) (t : Shape) where
  -- a value whose encoding is not followed by more octets
  pub decoded_all : (o : List ℕ) (v : Datum) (used : ℕ) → Answer r t (take max_octets o) (done v (0 + used)) → (used < length o → ⊥) → (length o ≤ max_octets) × Answer r t o (done v (length o))
  decoded_all o v used h last =
      let f = take_few max_octets o in
      let not_fewer : length o ≤ used = ⊎_elim (λ (l : used < length o). absurd (last l)) (λ (l : length o ≤ used). l) (cases_lt used (length o)) in
      let all : used ≡ length o = omega (arith, h.0, f.1, not_fewer) in
      let few : length o ≤ max_octets = omega (arith, h.0, f.0, all) in
      let e : take max_octets o ≡ o = take_all max_octets o few in
      let count : 0 + used ≡ length o = omega (arith, all) in
      (few, subst (λ (l : List ℕ). Answer r t l (done v (length o))) e (subst (λ (k : ℕ). Answer r t (take max_octets o) (done v k)) count h))

  -- where more is wanted, all octets are read
  pub all_read : (o : List ℕ) → Answer r t (take max_octets o) more → take max_octets o ≡ o
  all_read o h = take_fewer max_octets o h.2

  -- octets of which no front is an encoding are none
  pub not_whole : (s : List ℕ) → NoFront r t s → (v : Datum) → IsEncoding r t v s → ⊥
  not_whole s none v e = none v (length s) (omega arith) (subst (λ (l : List ℕ). IsEncoding r t v l) (sym (take_all (length s) s (omega arith))) e)
