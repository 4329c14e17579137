-- What was written by the bits of a complete encoding.
use Rattle.std.proofs.Common.{◌≡◌, ◌≤◌, ◌<◌, ◌+◌, ◌-◌, ◌*◌, ◌^◌, ◌++◌, ◌%◌, ℕ, zero, suc, min, List, [], ◌∷◌, length, take, drop, length-append, refl, sym, ap, subst, ◌∙◌, arith, Result, Ok, Err, OnOk, IfOk, IfErr, Option, Some, None}
use Rattle.std.specs.List.{AllByRecursion}
use Rattle.std.specs.Io.KnownBytes.{Appends}
use Rattle.std.proofs.lemmas.List.{append-nil, take-append-drop, length-take-le, take_all}
use Rattle.std.specs.Borrow.{GName}
use Rattle.asn_values.specs.declared.types.AsnType.{AsnType}
use Rattle.asn_values.specs.View.{shape_of}
use Rattle.asn_values.specs.Datum.{Datum}
use Rattle.asn_values.specs.Shape.{Shape}
use Rattle.asn_values.specs.Fits.{Fits}
use Rattle.asn_values.specs.Profile.{InProfile}
use Rattle.asn_bits.specs.Numbers.{packed, unpacked}
use Rattle.asn_bits.proofs.GeneralLengths.{all_take}
use Rattle.asn_bits.proofs.Splits.{length-unpacked, unpacked-append}
use Rattle.asn_rules.specs.Answer.{max_octets}
use Rattle.asn_rules.specs.Delivered.{Encoded, Interrupted}
use Rattle.asn_rules.specs.Measured.{IsLength, Placed}
use Rattle.asn_sinks.specs.declared.sink.Framing.{Framing}
use Rattle.asn_rules.specs.Held.{Held, held_in, state_held}
use Rattle.asn_window.specs.Written.{Wrote, Broke}
use Rattle.asn_rules.proofs.Octets.Octetwise.{packed_again}
use Rattle.asn_window.proofs.FieldSteps.{front_begins}
use Rattle.asn_walk.specs.Coding.{Coding}
use Rattle.asn_walk.specs.WriteLaws.{WriteLaws, OpenLaws}
use Rattle.asn_walk_write.specs.Octets.{octets_of, IsEncodable}
use Rattle.asn_walk_write.proofs.WriteComplete.{is_encoding}

-- octets begin others where their bits begin those of the others
front_is : (os ps rest : List ℕ) → AllByRecursion (λ o. o < 256) os → AllByRecursion (λ o. o < 256) ps → unpacked os ++ rest ≡ unpacked ps
    → (more : List ℕ) × (ps ≡ os ++ more)
front_is os ps rest p q e =
    let n = length os in
    let front = take n ps in
    let back = drop n ps in
    let long : length (unpacked os ++ rest) ≡ length (unpacked ps) = ap length e in
    let few : n ≤ length ps = omega (arith, long, length-append (unpacked os) rest, length-unpacked os, length-unpacked ps) in
    let parts : unpacked os ++ rest ≡ unpacked front ++ unpacked back = e ∙ ap unpacked (sym (take-append-drop n ps)) ∙ unpacked-append front back in
    let same : length (unpacked front) ≡ length (unpacked os) = omega (arith, length-unpacked front, length-unpacked os, length-take-le n ps few) in
    let w = front_begins (unpacked os) (unpacked front) rest (unpacked back) parts (omega (arith, same)) in
    let count : length (unpacked front) ≡ length (unpacked os) + length w.0 = ap length w.1 ∙ length-append (unpacked os) w.0 in
    let none : w.0 ≡ [] = nothing w.0 (omega (arith, count, same)) in
    let equal : unpacked front ≡ unpacked os = w.1 ∙ ap (λ (t : List ℕ). unpacked os ++ t) none ∙ append-nil (unpacked os) in
    let front_same : front ≡ os = sym (packed_again front (all_take (λ o. o < 256) n ps q).0) ∙ ap packed equal ∙ packed_again os p in
    (back, sym (take-append-drop n ps) ∙ ap (λ (t : List ℕ). t ++ back) front_same)
  where
    nothing : (xs : List ℕ) → length xs ≡ 0 → xs ≡ []
    nothing [] h = refl
    nothing (x ∷ xs) h = absurd (omega (arith, h))

module _ {c : Coding} (laws : WriteLaws c) (t : Shape) (v : Datum) (good : InProfile t) (fits : Fits t v) (octets : AllByRecursion (λ o. o < 256) (c.complete (c.code t v))) (few : length (c.complete (c.code t v)) ≤ max_octets) {old new : Held} where
  pub encoded : Wrote old new (unpacked (c.complete (c.code t v))) → Encoded c.ruling t v (state_held old) (state_held new)
  encoded w =
      let same : w.octets ≡ c.complete (c.code t v) = sym (packed_again w.octets w.are_octets) ∙ ap packed w.whole ∙ packed_again (c.complete (c.code t v)) octets in
      record {
        octets = w.octets;
        are_octets = w.are_octets;
        encoding = is_encoding laws t v w.octets good fits same;
        within = subst (λ (l : List ℕ). length l ≤ max_octets) (sym same) few;
        appended = w.appended;
        faults = w.faults;
      }

  pub interrupted : (sent : ℕ) → Broke old new sent (unpacked (c.complete (c.code t v))) → Interrupted c.ruling t v sent (state_held old) (state_held new)
  interrupted sent w =
      let all = c.complete (c.code t v) in
      let more = front_is w.octets all w.rest w.are_octets octets w.begins in
      let count = length-append w.octets more.0 in
      record {
        octets = w.octets;
        rest = more.0;
        are_octets = subst (λ (l : List ℕ). AllByRecursion (λ o. o < 256) l) more.1 octets;
        encoding = is_encoding laws t v (w.octets ++ more.0) good fits (sym more.1);
        within = subst (λ (l : List ℕ). length l ≤ max_octets) more.1 few;
        appended = w.appended;
        many = omega (arith, w.many, ap length more.1, count, few);
        fault = w.fault;
      }

-- the length of a complete encoding is told
module _ {c : Coding} {f : Framing} (laws : WriteLaws c) (fields : OpenLaws f c) (t : AsnType) (v : Datum) where
  pub length_told : (n : ℕ) → IsEncodable c t v → n ≡ length (octets_of c t v) → IsLength c.ruling (shape_of t) v n
  length_told n e long =
      record {
        octets = octets_of c t v;
        are_octets = fields.octets (shape_of t) v e.of_profile e.of_type;
        encoding = is_encoding laws (shape_of t) v (octets_of c t v) e.of_profile e.of_type refl;
        long = long;
        within = omega (arith, long, e.within);
      }

  -- or why there is none
  pub lengths_told : {E : Type 0} (r : Result ℕ E) → OnOk r (IsEncodable c t v) → IfOk r (λ n. n ≡ length (octets_of c t v))
      → IfOk r (λ n. IsLength c.ruling (shape_of t) v n)
  lengths_told (Ok n) e long = length_told n e long
  lengths_told (Err w) e long = long

  -- it was put before other octets
  pub placed : (n : ℕ) (old new : List ℕ) → IsEncodable c t v → n ≡ length (octets_of c t v) → n ≤ length old
      → new ≡ octets_of c t v ++ drop n old → Placed c.ruling (shape_of t) v n old new
  placed n old new e long enough same =
      record {
        octets = octets_of c t v;
        encoding = is_encoding laws (shape_of t) v (octets_of c t v) e.of_profile e.of_type refl;
        long = long;
        within = omega (arith, long, e.within);
        enough = enough;
        placed = same;
      }

-- what is said of a call that succeeded, or failed, told otherwise
pub on_ok : {A E P Q : Type 0} (r : Result A E) → (P → Q) → OnOk r P → OnOk r Q
on_ok (Ok x) f p = f p
on_ok (Err e) f p = p

pub on_err : {A E : Type 0} {P Q : E → Type 0} (r : Result A E) → ((e : E) → P e → Q e) → IfErr r P → IfErr r Q
on_err (Ok x) f p = p
on_err (Err e) f p = f e p

-- a slice of as many octets as there are to come was filled with them, whatever is told of faults
filled_by : (name last : GName) (before after os : List ℕ) (count faults : ℕ) → AllByRecursion (λ o. o < 256) os
    → length after ≡ length os → count ≤ length after
    → Wrote (held_in name before 0 0) (held_in last after count faults) (unpacked os) → after ≡ os
filled_by name last before after os count faults small long within w =
    let same : w.octets ≡ os = sym (packed_again w.octets w.are_octets) ∙ ap packed w.whole ∙ packed_again os small in
    let front : take count after ≡ os = w.appended ∙ same in
    let many : count ≡ length after = sym (length-take-le count after within) ∙ ap length front ∙ sym long in
    sym (take_all count after (omega (arith, many))) ∙ front

broken_by : (name last : GName) (before after os : List ℕ) (count faults sent : ℕ) → AllByRecursion (λ o. o < 256) os
    → length after ≡ length os → (0 < faults → count ≡ length after)
    → Broke (held_in name before 0 0) (held_in last after count faults) sent (unpacked os) → after ≡ os
broken_by name last before after os count faults sent small long full w =
    let rose : 0 < faults = w.fault (omega arith) in
    let many : count ≡ length after = full rose in
    let all : after ≡ w.octets = sym (take_all count after (omega (arith, many))) ∙ w.appended in
    let more = front_is w.octets os w.rest w.are_octets small w.begins in
    let none : length more.0 ≡ 0 = omega (arith, ap length all, ap length more.1, length-append w.octets more.0, long) in
    all ∙ sym (append-nil w.octets) ∙ sym (ap (λ (t : List ℕ). w.octets ++ t) (nothing more.0 none)) ∙ sym more.1
  where
    nothing : (xs : List ℕ) → length xs ≡ 0 → xs ≡ []
    nothing [] h = refl
    nothing (x ∷ xs) h = absurd (omega (arith, h))

pub filled : {U : Type 0} (r : Result U ℕ) (name last : GName) (before after os : List ℕ) (count faults : ℕ) → AllByRecursion (λ o. o < 256) os
    → length after ≡ length os → count ≤ length after → (0 < faults → count ≡ length after)
    → OnOk r (Wrote (held_in name before 0 0) (held_in last after count faults) (unpacked os))
    → IfErr r (λ sent. Broke (held_in name before 0 0) (held_in last after count faults) sent (unpacked os)) → after ≡ os
filled (Ok x) name last before after os count faults small long within full wrote broke = filled_by name last before after os count faults small long within wrote
filled (Err sent) name last before after os count faults small long within full wrote broke = broken_by name last before after os count faults sent small long full broke

-- it is the slice that was given
abbrev slice_or : GName → Option GName → GName
slice_or name None = name
slice_or name (Some other) = other

pub same_slice : {U : Type 0} (r : Result U ℕ) (name last : GName) (before after bits : List ℕ) (count faults : ℕ)
    → OnOk r (Wrote (held_in name before 0 0) (held_in last after count faults) bits)
    → IfErr r (λ sent. Broke (held_in name before 0 0) (held_in last after count faults) sent bits) → last ≡ name
same_slice (Ok x) name last before after bits count faults wrote broke = ap (slice_or name) wrote.through
same_slice (Err sent) name last before after bits count faults wrote broke = ap (slice_or name) broke.through
