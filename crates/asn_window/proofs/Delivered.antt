-- What is delivered, from one step to the next.
use Rattle.std.proofs.Common.{◌≡◌, zero, suc, ◌+◌, ◌^◌, ◌-◌, ◌<◌, ◌≤◌, ◌++◌, ℕ, min, Bool, true, false, List, [], ◌∷◌, length, take, drop, get_or, sym, refl, ap, subst, ◌∙◌, append_assoc, length-append, arith, take-append-drop}
use Rattle.std.proofs.lemmas.List.{length-take-le}
use Rattle.std.proofs.lemmas.Bool.{true≢false}
use Rattle.std.specs.List.{AllByRecursion}
use Rattle.std.specs.Io.KnownBytes.{Appends}
use Rattle.asn_window.specs.Delivery.{Delivers}
use Rattle.asn_window.specs.OctetWriters.{OctetsStand}
use Rattle.asn_window.specs.declared.octet_writer.OctetWriter.{OctetWriter}
use Rattle.asn_rules.specs.Faults.{Rose}
use Rattle.asn_rules.specs.Held.{Held}
use Rattle.asn_bits.specs.Numbers.{unpacked}
use Rattle.asn_bits.proofs.GeneralLengths.{all_take}
use Rattle.asn_bits.proofs.Splits.{unpacked-append}
use Rattle.asn_rules.proofs.Known.{appends_twice}

-- after a fault it does not matter what comes
pub after_fault : {start now : Held} {sent : ℕ} {failed : Bool} {coming other all : List ℕ} → failed ≡ true
    → Delivers start now sent failed coming all → Delivers start now sent failed other all
after_fault f d = record { octets = d.octets; are_octets = d.are_octets; rest = d.rest; appended = d.appended; many = d.many; whole = d.whole; goes_on = λ e. absurd (true≢false (sym f ∙ e)); same = d.same; fault = d.fault; through = d.through }

-- what comes, told otherwise
pub retold : {start now : Held} {sent : ℕ} {failed : Bool} {coming other all : List ℕ} → coming ≡ other
    → Delivers start now sent failed coming all → Delivers start now sent failed other all
retold e d = record { octets = d.octets; are_octets = d.are_octets; rest = d.rest; appended = d.appended; many = d.many; whole = d.whole; goes_on = λ f. d.goes_on f ∙ e; same = d.same; fault = d.fault; through = d.through }

-- a count that stops at its end, and a number more
pub stops_at_end : (sent m n : ℕ) → sent ≡ min m (2 ^ 64 - 1) → min (sent + n) (2 ^ 64 - 1) ≡ min (m + n) (2 ^ 64 - 1)
stops_at_end sent m n e = omega arith

-- each octet, by its place
pub all_octets : (xs : List ℕ) → ((i : ℕ) → get_or xs i 0 < 256) → AllByRecursion (λ o. o < 256) xs
all_octets [] h = tt
all_octets (x ∷ xs) h = (h 0, all_octets xs (λ i. h (suc i)))

all_joined : (xs ys : List ℕ) → AllByRecursion (λ o. o < 256) xs → AllByRecursion (λ o. o < 256) ys → AllByRecursion (λ o. o < 256) (xs ++ ys)
all_joined [] ys p q = q
all_joined (x ∷ xs) ys p q = (p.0, all_joined xs ys p.1 q)

-- the octets that wait were written, or the first of them and then a write failed
pub written_on : {start now next : Held} {sent more : ℕ} {was failed : Bool} {coming all : List ℕ} (buffer : List ℕ) (many : ℕ) → was ≡ false
    → AllByRecursion (λ o. o < 256) buffer
    → Delivers start now sent was (unpacked buffer ++ coming) all
    → many ≤ length buffer
    → Appends now.octets next.octets (take many buffer)
    → more ≡ min (sent + many) (2 ^ 64 - 1)
    → (failed ≡ true → many < length buffer) → (failed ≡ false → length buffer ≤ many)
    → (many < length buffer → Rose now.faults next.faults) → (many ≡ length buffer → next.faults ≡ now.faults)
    → next.through ≡ now.through
    → Delivers start next more failed coming all
written_on {start} {now} {next} {sent} {more} {was} {failed} {coming} {all} buffer many good small d few a e broke whole rose same slice =
    let front = take many buffer in
    let back = drop many buffer in
    let long : length front ≡ many = length-take-le many buffer few in
    let cut : unpacked buffer ≡ unpacked front ++ unpacked back = ap unpacked (sym (take-append-drop many buffer)) ∙ unpacked-append front back in
    let rest_is : d.rest ≡ unpacked front ++ (unpacked back ++ coming) =
    d.goes_on good ∙ ap (λ t. t ++ coming) cut ∙ append_assoc (unpacked front) (unpacked back) coming in
    let count : length (d.octets ++ front) ≡ length d.octets + many = length-append d.octets front ∙ ap (λ t. length d.octets + t) long in
    let none : length buffer ≤ many → unpacked back ≡ [] = λ h. ap unpacked (drop_all many buffer h) in
    record {
      octets = d.octets ++ front;
      are_octets = all_joined d.octets front d.are_octets (all_take (λ o. o < 256) many buffer small).0;
      rest = unpacked back ++ coming;
      appended = appends_twice start.octets now.octets next.octets d.octets front d.appended a;
      many = e ∙ stops_at_end sent (length d.octets) many d.many ∙ ap (λ t. min t (2 ^ 64 - 1)) (sym count);
      whole = ap (λ t. t ++ (unpacked back ++ coming)) (unpacked-append d.octets front)
          ∙ append_assoc (unpacked d.octets) (unpacked front) (unpacked back ++ coming)
          ∙ ap (λ t. unpacked d.octets ++ t) (sym rest_is) ∙ d.whole;
      goes_on = λ f. ap (λ t. t ++ coming) (none (whole f));
      same = λ f. same (omega (arith, few, whole f)) ∙ d.same good;
      fault = λ f. subst (λ n. Rose n next.faults) (d.same good) (rose (broke f));
      through = slice ∙ d.through;
    }
  where
    drop_all : (n : ℕ) (xs : List ℕ) → length xs ≤ n → drop n xs ≡ []
    drop_all zero [] h = refl
    drop_all zero (x ∷ xs) h = absurd (omega arith)
    drop_all (suc n) [] h = refl
    drop_all (suc n) (x ∷ xs) h = drop_all n xs (omega (arith, h))

-- the same of octets before a writer
pub stands_same : {start now : Held} (w : OctetWriter) {xs ys all : List ℕ} → xs ≡ ys → OctetsStand start now w xs all → OctetsStand start now w ys all
stands_same w e d = retold (ap (λ t. unpacked w.buffer ++ t) e) d
