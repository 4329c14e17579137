-- What a sink takes inside open type fields: bits one after the other, and an open type field.
use Rattle.std.proofs.Common.{◌≡◌, ◌<◌, ◌≤◌, ◌+◌, ◌-◌, ◌*◌, ◌^◌, ◌++◌, ℕ, zero, suc, min, Bool, true, List, [], ◌∷◌, length, subst, sym, refl, ap, ◌∙◌, append_assoc, length-append, arith, MatchResult, Result, Ok, Err, OnOk, IfOk}
use Rattle.std.specs.List.{AllByRecursion}
use Rattle.std.proofs.lemmas.List.{append-nil}
use Rattle.asn_values.specs.Datum.{Datum}
use Rattle.asn_values.specs.Shape.{Shape}
use Rattle.asn_values.specs.Fits.{Fits}
use Rattle.asn_values.specs.Profile.{InProfile}
use Rattle.asn_bits.specs.Lengths.{general_octets, octet_length}
use Rattle.asn_bits.specs.Numbers.{unpacked}
use Rattle.asn_bits.proofs.Splits.{length-unpacked}
use Rattle.asn_sinks.specs.Sink.{Standing, Context, Pushes, Begins, Ends, framed, inside}
use Rattle.asn_sinks.specs.declared.sink.Framing.{Framing}
use Rattle.asn_sinks.specs.declared.sink.Framing.TheVariants.{General, Single}
use Rattle.asn_sinks.proofs.FieldLengths.{length_general}
use Rattle.asn_sinks.proofs.Pushing.{pushed_same}
use Rattle.asn_rules.specs.Chunks.{Chunk, flat, sealed, open_field}
use Rattle.asn_walk.specs.Coding.{Coding}
use Rattle.asn_walk.specs.Composites.{in_open_field}
use Rattle.asn_walk.specs.WriteLaws.{OpenLaws}
use Rattle.asn_walk.specs.Writing.{Pushing, Writes, TakesAt, FillsUp, written, filling_bits}

-- ---- bits one after the other

pub record PushLaws {Sink : Type 0} (push : Pushing Sink) : Type 0 where
  pub none : (a : Sink) → push a a []
  pub joined : (a b d : Sink) (xs ys : List ℕ) → push a b xs → push b d ys → push a d (xs ++ ys)

module _ {Sink Origin : Type 0} (stands : Standing Sink Origin) (wants : Bool) (level : ℕ) where
  -- what is pushed anywhere is taken here
  pub takes_pushed : (a b : Sink) (xs : List ℕ) → Pushes stands a b xs → TakesAt stands wants level a b xs
  takes_pushed a b xs p k taken coming at short t = p k taken coming t

  pub pushed_at : {push : Pushing Sink} → ((a b : Sink) (xs : List ℕ) → push a b xs → Pushes stands a b xs)
      → {a b : Sink} {xs : List ℕ} → push a b xs → TakesAt stands wants level a b xs
  pushed_at law {a} {b} {xs} p = takes_pushed a b xs (law a b xs p)

  takes_none : (a : Sink) → TakesAt stands wants level a a []
  takes_none a k taken coming at short t = subst (λ s. stands a k s coming) (sym (append-nil taken)) t

  takes_joined : (a b d : Sink) (xs ys : List ℕ) → TakesAt stands wants level a b xs → TakesAt stands wants level b d ys
      → TakesAt stands wants level a d (xs ++ ys)
  takes_joined a b d xs ys p q k taken coming at short t =
      let e = append_assoc xs ys coming in
      let all : (wants ≡ true → length (xs ++ (ys ++ coming)) < 2 ^ 63) = λ w. subst (λ (l : List ℕ). length l < 2 ^ 63) e (short w) in
      let others : (wants ≡ true → length (ys ++ coming) < 2 ^ 63) = λ w. omega (arith, all w, length-append xs (ys ++ coming)) in
      subst (λ s. stands d k s coming) (append_assoc taken xs ys)
      (q k (taken ++ xs) coming at others (p k taken (ys ++ coming) at all (subst (λ x. stands a k taken x) e t)))

  pub takes_laws : PushLaws (TakesAt stands wants level)
  takes_laws = record { none = takes_none; joined = takes_joined }

-- ---- an open type field

-- it has as many bits as its content, and more
framed_longer : (f : Framing) (os : List ℕ) → 8 * length os ≤ length (framed f os)
framed_longer General os = (let e = length_general (suc (length os)) os (omega arith) in omega (arith, e))
framed_longer Single os = omega (arith, length-append (unpacked (octet_length (length os))) (unpacked os), length-unpacked os)

-- it is begun, its content comes, and it is ended
pub field_taken : {Sink Origin Outer : Type 0} (stands : Standing Sink Origin) (keeps : Outer → List ℕ → Type 0) (wants : Bool) (level : ℕ) (framing : Framing) (n : ℕ)
    (a b d e : Sink) (outer : Outer) (os : List ℕ)
    → AllByRecursion (λ o. o < 256) os
    → (wants ≡ true → n ≡ min (length os) (2 ^ 61 - 1))
    → Begins stands keeps wants level framing n a b outer
    → ((k : Context Origin) (coming : List ℕ) → length k.around ≡ suc level → (wants ≡ true → length (unpacked os ++ coming) < 2 ^ 63)
    → stands b k [] (unpacked os ++ coming) → stands d k (unpacked os) coming)
    → Ends stands keeps framing d outer e
    → TakesAt stands wants level a e (framed framing os)
field_taken stands keeps wants level framing n a b d e outer os octets long begins fills ends k taken next at short t =
    let few : (wants ≡ true → length os < 2 ^ 60) = λ w. omega (arith, short w, length-append (framed framing os) next, framed_longer framing os) in
    let count : (wants ≡ true → length os ≡ n) = λ w. omega (arith, few w, long w) in
    let begun = begins k taken os next at count t in
    let bits : (wants ≡ true → length (unpacked os ++ []) < 2 ^ 63) = λ w. omega (arith, few w, length-append (unpacked os) [], length-unpacked os) in
    let filled = fills (inside k next) [] (ap suc at) bits (subst (λ xs. stands b (inside k next) [] xs) (sym (append-nil (unpacked os))) begun.0) in
    ends k taken os next octets begun.1 filled

-- what holds an open type field is spelt so
pub open_bits_are : {c : Coding} {framing : Framing} → OpenLaws framing c → (cs : List Chunk) → framed framing (c.complete cs) ≡ written c (in_open_field c cs)
open_bits_are {c} laws cs = sym (laws.spelt (c.complete cs)) ∙ ap (λ (us : List ℕ). c.to_bits us) (sym (append-nil (c.ruling.fielding.spelled (c.complete cs))))

-- ---- a complete encoding

pub complete_taken : {Sink Origin : Type 0} (stands : Standing Sink Origin) (wants : Bool) (level : ℕ) {c : Coding} {framing : Framing} → OpenLaws framing c
    → (a b d : Sink) (t : Shape) (v : Datum) → InProfile t → Fits t v
    → Writes (TakesAt stands wants level) c a b (c.code t v) → FillsUp stands c b d
    → (k : Context Origin) (coming : List ℕ) → length k.around ≡ level
    → (wants ≡ true → length (unpacked (c.complete (c.code t v)) ++ coming) < 2 ^ 63)
    → stands a k [] (unpacked (c.complete (c.code t v)) ++ coming) → stands d k (unpacked (c.complete (c.code t v))) coming
complete_taken stands wants level {c} laws a b d t v good fits puts fills k coming at short s =
    let cs = c.code t v in
    let e = laws.filled t v good fits in
    let all : unpacked (c.complete cs) ++ coming ≡ written c cs ++ (filling_bits c cs ++ coming) =
    ap (λ (x : List ℕ). x ++ coming) (sym e) ∙ append_assoc (written c cs) (filling_bits c cs) coming in
    subst (λ x. stands d k x coming) e
    (fills t v good fits k coming
    (puts k [] (filling_bits c cs ++ coming) at (λ w. subst (λ (x : List ℕ). length x < 2 ^ 63) all (short w)) (subst (λ x. stands a k [] x) all s)))
