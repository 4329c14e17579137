-- The number of units after a refused one tells its position; and in few units each field of a spelling is one
-- that may stand there.
use Rattle.std.proofs.Common.{◌≡◌, ◌≤◌, ◌<◌, ◌+◌, ◌-◌, ◌*◌, ◌/◌, ◌⊎◌, inl, inr, ℕ, suc, List, [], ◌∷◌, ◌++◌, length, take, drop, length-append, sym, ◌∙◌, ap, subst, arith, append_assoc}
use Rattle.std.proofs.lemmas.List.{append-nil, length-take-le, take-append-drop}
use Rattle.std.proofs.Math.Nat.{div-le_of_le-mul, mul-div_cancel_left}
use Rattle.std.proofs.Math.Seq.{take-append_seam}
use Rattle.asn_values.specs.Fits.{max_len}
use Rattle.asn_rules.specs.Chunks.{Kind, open_field, utf8_field, rest_of, Chunk, one, sealed, field_units, flat}
use Rattle.asn_rules.specs.Live.{Fielding, IsContent, Place}
use Rattle.asn_rules.specs.Reading.{IsSealed, AllSealed}
use Rattle.asn_rules.specs.Languages.{IsLive, Refused, AllContents}
use Rattle.asn_rules.proofs.Live.Lists.{Within, Beyond, cut, no_length}
use Rattle.asn_rules.proofs.Languages.Then.{live_shorter}

-- ---- the position

-- what is live at a list is so at what begins it
live_before : {V : Type 0} {R : Fielding} {L : V → List Chunk → Type 0} (b us t : List ℕ) → IsLive R L b → us ++ t ≡ b → IsLive R L us
live_before {R = R} {L = L} b us t h e = live_shorter us t (subst (λ (l : List ℕ). IsLive R L l) (sym e) h)

-- a refusal with this many units after it is at this position
pub refused_place : {V : Type 0} {R : Fielding} {L : V → List Chunk → Type 0} {us : List ℕ} {left : ℕ} → Refused R L us left → Place (λ b. IsLive R L b) us (length us - left)
refused_place {V} {R} {L} {us} {left} h = (
  omega arith,
  λ l. h.dead (subst (λ (b : List ℕ). IsLive R L b) here l),
  λ j w. begun j w (cut (take j us) (drop j us) h.before (h.unit ∷ h.after) (take-append-drop j us ∙ h.split)),
)
  where
    whole : us ≡ (h.before ++ h.unit ∷ []) ++ h.after
    whole = h.split ∙ sym (append_assoc h.before (h.unit ∷ []) h.after)

    count : length us ≡ length h.before + suc left
    count = ap length h.split ∙ length-append h.before (h.unit ∷ h.after) ∙ ap (λ (n : ℕ). length h.before + suc n) h.left_is

    at : length us - left ≡ length (h.before ++ h.unit ∷ [])
    at = omega (arith, count, length-append h.before (h.unit ∷ []))

    here : take (length us - left) us ≡ h.before ++ h.unit ∷ []
    here = ap (λ (n : ℕ). take n us) at ∙ ap (λ (l : List ℕ). take (length (h.before ++ h.unit ∷ [])) l) whole ∙ take-append_seam (h.before ++ h.unit ∷ []) h.after

    begun : (j : ℕ) → j < length us - left → Within (take j us) h.before ⊎ Beyond (take j us) h.before (h.unit ∷ h.after) (drop j us) → IsLive R L (take j us)
    begun j w (inl i) = live_before h.before (take j us) (i.next ∷ i.more) h.live i.split
    begun j w (inr b) =
        let n : length (take j us) ≡ j = length-take-le j us (omega arith) in
        let m : length (take j us) ≡ length h.before + length b.rest = ap length b.front ∙ length-append h.before b.rest in
        let z : b.rest ≡ [] = no_length b.rest (omega (arith, count)) in
        let e : take j us ≡ h.before = b.front ∙ ap (λ (l : List ℕ). h.before ++ l) z ∙ append-nil h.before in
        subst (λ (l : List ℕ). IsLive R L l) (sym e) h.live

-- the same position by another account of what is live
pub place_by : {A B : List ℕ → Type 0} {us : List ℕ} {k : ℕ} → ((b : List ℕ) → A b → B b) → ((b : List ℕ) → B b → A b) → Place (λ b. A b) us k → Place (λ b. B b) us k
place_by {us = us} {k = k} to from p = (p.0, λ l. p.1 (from (take k us) l), λ j w. to (take j us) (p.2 j w))

-- ---- contents within the limit

-- what is no longer w times over is no longer
short_enough : (w n m : ℕ) → 1 ≤ w → w * n ≤ w * m → n ≤ m
short_enough w n m some h =
    let e : w * n / w ≡ n = mul-div_cancel_left n some in
    let d : w * n / w ≤ m = div-le_of_le-mul w h in
    subst (λ (i : ℕ). i ≤ m) e d

-- chunks of few units have no content that is too long
pub contents_by_length : (R : Fielding) (w : ℕ) → 1 ≤ w → ((c : List ℕ) → w * length c ≤ length (R.spelled c)) → (cs : List Chunk) → AllSealed R cs → length (flat R.spelled cs) ≤ w * max_len → AllContents R cs
contents_by_length R w some long [] a h = tt
contents_by_length R w some long (one u ∷ cs) a h = contents_by_length R w some long cs a (omega arith)
contents_by_length R w some long (sealed k c ∷ cs) a h = (
  content k c a.0 (omega (arith, h, length-append (field_units R.spelled k c) (flat R.spelled cs))),
  contents_by_length R w some long cs a.1 (omega (arith, h, length-append (field_units R.spelled k c) (flat R.spelled cs))),
)
  where
    content : (k : Kind) (c : List ℕ) → IsSealed R k c → length (field_units R.spelled k c) ≤ w * max_len → IsContent R k c
    content open_field c is l = is (short_enough w (length c) max_len some (omega (arith, l, long c)))
    content utf8_field c is l = is tt
    content (rest_of k us) c is l = absurd is
