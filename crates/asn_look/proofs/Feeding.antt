-- Octets that a reader gives, and that a session takes piece by piece.
use Rattle.std.proofs.Common.{◌≡◌, ◌∙◌, ◌+◌, ◌<◌, ◌≤◌, ◌++◌, ◌⊎◌, inl, inr, ℕ, List, [], ◌∷◌, length, take, drop, take-append-drop, Option, Some, None, sym, ap, subst, arith, suc, append_assoc, append-nil, length-append, length-take-le, take-take, take_all}
use Rattle.std.specs.Prelude.{min, Result, Ok, Err, IfOk, OnOk, IfSome}
use Rattle.std.specs.Io.KnownBytes.{Consumes, Keeps}
use Rattle.std.proofs.KnownBytes.{Consumes-nil}
use Rattle.std.proofs.lemmas.List.{length-take}
use Rattle.asn_values.specs.Datum.{Datum}
use Rattle.asn_values.specs.Shape.{Shape}
use Rattle.asn_rules.specs.Answer.{Ruling, IsEncoding, NoFront, LiveOctets, Answer, done, refused, too_long, more, max_octets}
use Rattle.asn_rules.specs.Codec.{Decoded}
use Rattle.asn_rules.specs.Live.{Live}
use Rattle.asn_rules.proofs.Live.Closed.{live_closed}
use Rattle.asn_rules.specs.Sessions.{all_so_far}
use Rattle.asn_rules.specs.declared.fault.DecodeFault.TheVariants as decode
use Rattle.asn_jobs.specs.declared.job.RunFault.{RunFault}
use Rattle.asn_look.specs.Streams.{Cuts, Ends, IsMessage, IsRefused, IsCutShort, IsNext, Takes}
use Rattle.asn_look.specs.declared.streams.Next.{Next}
use Rattle.asn_look.specs.declared.streams.Next.TheVariants as next

-- ---- octets that are taken

pub takes_none : (a : Option (List ℕ)) (x : List ℕ) → Takes a a x x
takes_none a x = ([], sym (append-nil x), Consumes-nil a)

consumes_twice : (a b c : Option (List ℕ)) (x y : List ℕ) → Consumes a b x → Consumes b c y → Consumes a c (x ++ y)
consumes_twice None b c x y p q = tt
consumes_twice (Some a) None c x y p q = absurd p
consumes_twice (Some a) (Some b) None x y p q = absurd q
consumes_twice (Some a) (Some b) (Some c) x y p q = p ∙ (ap (λ ys. x ++ ys) q ∙ sym (append_assoc x y c))

pub takes_twice : (a b c : Option (List ℕ)) (x y z : List ℕ) → Takes a b x y → Takes b c y z → Takes a c x z
takes_twice a b c x y z (first, is, gave) (later, was, gave_more) =
    (first ++ later, was ∙ (ap (λ xs. xs ++ later) is ∙ append_assoc x first later), consumes_twice a b c first later gave gave_more)

-- ---- the answer to a piece

take_past : (s piece : List ℕ) (used : ℕ) → take (length s + used) (s ++ piece) ≡ s ++ take used piece
take_past [] piece used = let none : length {A = ℕ} [] + used ≡ used = omega arith in ap (λ n. take n piece) none
take_past (x ∷ s) piece used = let one_more : length (x ∷ s) + used ≡ suc (length s + used) = omega arith in rw one_more (ap (λ xs. x ∷ xs) (take_past s piece used))

-- a message that ends in this piece
pub message_done : (r : Ruling) (t : Shape) (s piece : List ℕ) (used k : ℕ) (v : Datum) → Answer r t (all_so_far s piece) (done v (length s + used)) → 0 < used → k ≡ min used (length piece)
    → IsMessage r t (s ++ take k piece)
message_done r t s piece used k v (within, encoding) some least =
    let short : length s + used ≤ max_octets = omega (arith, within, length-take max_octets (s ++ piece)) in
    let all : length s + used ≤ length s + length piece = omega (arith, within, length-take max_octets (s ++ piece), length-append s piece) in
    let whole : k ≡ used = omega (arith, all, least) in
    let octets : take (length s + used) (all_so_far s piece) ≡ s ++ take used piece = take-take (length s + used) max_octets (s ++ piece) short ∙ take_past s piece used in
    let length_is : length (take used piece) ≡ used = length-take-le used piece (omega (arith, all)) in
    subst (λ n. IsMessage r t (s ++ take n piece)) (sym whole) (omega (arith, some, length_is, length-append s (take used piece)), (v, subst (IsEncoding r t v) octets encoding))

take_short : (m : ℕ) (xs : List ℕ) → length (take m xs) < m → take m xs ≡ xs
take_short m xs short = take_all m xs (omega (arith, short, length-take m xs))

-- all octets so far, where an encoding may still follow them
pub message_goes_on : (r : Ruling) (t : Shape) (s piece : List ℕ) → Answer r t (all_so_far s piece) more → all_so_far s piece ≡ s ++ take (length piece) piece
message_goes_on r t s piece (_, _, short) = take_short max_octets (s ++ piece) short ∙ ap (λ xs. s ++ xs) (sym (take_all (length piece) piece (omega arith)))

-- a message that others follow
pub message_followed : (r : Ruling) (t : Shape) (octets : List ℕ) (used : ℕ) → Decoded r (Err (decode.Rest used)) t octets → 0 < used
    → IsMessage r t (take used octets)
message_followed r t octets used (below, v, (within, encoding)) some =
    let short : used ≤ max_octets = omega (arith, within, length-take max_octets octets) in
    let length_is : length (take used octets) ≡ used = length-take-le used octets (omega (arith, below)) in
    (omega (arith, some, length_is), (v, subst (IsEncoding r t v) (take-take used max_octets octets short) encoding))

some_octets : (s piece : List ℕ) → 0 < length piece → 0 < length (s ++ take (length piece) piece)
some_octets s piece some =
    let whole : length (take (length piece) piece) ≡ length piece = ap length (take_all (length piece) piece (omega arith)) in
    omega (arith, some, whole, length-append s (take (length piece) piece))

whole_piece : (s piece : List ℕ) → s ++ piece ≡ s ++ take (length piece) piece
whole_piece s piece = ap (λ xs. s ++ xs) (sym (take_all (length piece) piece (omega arith)))

-- octets with which no encoding begins, with the whole piece
pub message_refused : (r : Ruling) (t : Shape) (s piece : List ℕ) (k : ℕ) → 0 < length piece → Answer r t (all_so_far s piece) (refused k) → IsRefused r t (s ++ take (length piece) piece)
message_refused r t s piece k some (none, place) =
    let dead : LiveOctets r t (all_so_far s piece) → ⊥ = λ live. place.1 (live_closed r.fielding r.whole t (take k (r.units (all_so_far s piece))) (drop k (r.units (all_so_far s piece)))
    (subst (Live r.fielding r.whole t) (sym (take-append-drop k (r.units (all_so_far s piece)))) live)) in (
      some_octets s piece some,
      subst (λ octets. (NoFront r t (take max_octets octets) × ((LiveOctets r t (take max_octets octets) → ⊥) ⊎ (max_octets ≤ length octets))) ⊎ ((v : Datum) × IsEncoding r t v []))
          (whole_piece s piece) (inl (none, inl dead)),
    )

-- octets with which only an encoding begins that is too long, with the whole piece
pub message_too_long : (r : Ruling) (t : Shape) (s piece : List ℕ) → 0 < length piece → Answer r t (all_so_far s piece) too_long → IsRefused r t (s ++ take (length piece) piece)
message_too_long r t s piece some (none, live, size) =
    let long : max_octets ≤ length (s ++ piece) = omega (arith, size, length-take max_octets (s ++ piece)) in (
      some_octets s piece some,
      subst (λ octets. (NoFront r t (take max_octets octets) × ((LiveOctets r t (take max_octets octets) → ⊥) ⊎ (max_octets ≤ length octets))) ⊎ ((v : Datum) × IsEncoding r t v []))
          (whole_piece s piece) (inl (none, inr long)),
    )

-- a message that ends where the piece begins has no octets
pub message_of_none : (r : Ruling) (t : Shape) (s piece : List ℕ) (used : ℕ) (v : Datum) → 0 < length piece → ((s ≡ []) ⊎ NoFront r t s) → Answer r t (all_so_far s piece) (done v (length s + used)) → used ≡ 0
    → IsRefused r t (s ++ take (length piece) piece)
message_of_none r t s piece used v some first (within, encoding) zero_is =
    let short : length s + used ≤ max_octets = omega (arith, within, length-take max_octets (s ++ piece)) in
    let whole : take (length s + used) (all_so_far s piece) ≡ s =
    take-take (length s + used) max_octets (s ++ piece) short ∙ (take_past s piece used ∙ (ap (λ k. s ++ take k piece) zero_is ∙ append-nil s)) in
    let of_s = subst (IsEncoding r t v) whole encoding in (
      some_octets s piece some,
      elim first [
        | inl none ↦ inr (v, subst (IsEncoding r t v) none of_s)
        | inr no_front ↦ absurd (no_front v (length s) (omega arith) (subst (IsEncoding r t v) (sym (take_all (length s) s (omega arith))) of_s))
      ],
    )

-- no front of the first octets is an encoding, where none of all is
no_front_of_first : (r : Ruling) (t : Shape) (octets : List ℕ) (m : ℕ) → NoFront r t octets → NoFront r t (take m octets)
no_front_of_first r t octets m none v n within encoding =
    let low : n ≤ m = omega (arith, within, length-take m octets) in
    none v n (omega (arith, within, length-take m octets)) (subst (IsEncoding r t v) (take-take n m octets low) encoding)

-- the input ends within a message
pub message_cut : (r : Ruling) (t : Shape) (octets : List ℕ) (given left : Option (List ℕ)) → 0 < length octets → ((octets ≡ []) ⊎ NoFront r t octets) → Ends given left → IsCutShort r t octets given left
message_cut r t octets given left some (inl none) end = let zero_is : length octets ≡ 0 = ap length none in absurd (omega (arith, some, zero_is))
message_cut r t octets given left some (inr no_front) end = (some, no_front_of_first r t octets max_octets no_front, end)

-- a reader that showed no octets is at its end
pub ends_here : (given left : Option (List ℕ)) (shown : List ℕ) → length shown ≡ 0 → IfSome given (λ xs. length shown ≡ 0 → xs ≡ []) → Keeps given left → Ends given left
ends_here None left shown none end kept = tt
ends_here (Some xs) None shown none end kept = absurd kept
ends_here (Some xs) (Some ys) shown none end kept = kept ∙ end none

-- and so it is after what it gave before
pub ends_later : (a b c : Option (List ℕ)) (x : List ℕ) → Consumes a b x → Ends b c → Ends a c
ends_later None b c x gave end = tt
ends_later (Some xs) None c x gave end = absurd gave
ends_later (Some xs) (Some ys) c x gave end = end

pub next_later : (r : Ruling) (t : Shape) (n : Next) (octets : List ℕ) (a b c : Option (List ℕ)) (x : List ℕ) → Consumes a b x → IsNext r t n octets b c → IsNext r t n octets a c
next_later r t next.Message octets a b c x gave is = is
next_later r t next.Last octets a b c x gave (inl refused_so) = inl refused_so
next_later r t next.Last octets a b c x gave (inr (some, none, end)) = inr (some, none, ends_later a b c x gave end)
next_later r t next.End octets a b c x gave (none, end) = (none, ends_later a b c x gave end)

-- what the session finds, after no octets were taken at once
pub next_cut : (r : Ruling) (t : Shape) (result : Result Next RunFault) (a b c : Option (List ℕ)) (old start octets : List ℕ) → old ≡ [] → (x : List ℕ) × (start ≡ old ++ x) × Consumes a b x × (x ≡ [])
    → OnOk result (Takes b c start octets) → IfOk result (λ n. IsNext r t n octets b c) → Cuts r t result a c octets
next_cut r t (Ok n) a b c old start octets none (x, is, gave, no_more) (later, was, gave_more) found =
    let all : octets ≡ x ++ later = was ∙ ap (λ xs. xs ++ later) (is ∙ ap (λ xs. xs ++ x) none) in
    (subst (Consumes a c) (sym all) (consumes_twice a b c x later gave gave_more), next_later r t n octets a b c x gave found)
next_cut r t (Err why) a b c old start octets none front taken found = tt

pub none_taken : (a b : Option (List ℕ)) (old new : List ℕ) → old ≡ [] → (x : List ℕ) × (new ≡ old ++ x) × Consumes a b x × (x ≡ []) → new ≡ []
none_taken a b old new none (x, is, gave, no_more) = is ∙ (ap (λ xs. xs ++ x) none ∙ no_more)
