-- What is written of an answer, put together.
use Rattle.std.proofs.Common.{◌≡◌, ◌<◌, ◌++◌, ◌^◌, ◌-◌, ℕ, zero, suc, Bool, true, false, List, [], ◌∷◌, refl, sym, ap, ◌∙◌, subst, append_assoc, append-nil, arith, Option, None, Some, true≢false}
use Rattle.std.specs.Prelude.{codes, is_some, not}
use Rattle.std.specs.List.{AllByRecursion}
use Rattle.std.specs.Borrow.{GName}
use Rattle.hex.specs.Hex.{encode_lower, IsBytes}
use Rattle.asn_values.specs.Datum.{Datum}
use Rattle.asn_values.specs.Shape.{Shape}
use Rattle.asn_rules.specs.Answer.{Ruling}
use Rattle.asn_rules.specs.Faults.{State, inner_of, state_of}
use Rattle.asn_rules.specs.Held.{state_held}
use Rattle.asn_rules.specs.Delivered.{Interrupted, NotDelivered}
use Rattle.asn_rules.specs.Delivered as delivered
use Rattle.asn_rules.specs.declared.counting.Counted.{Counted}
use Rattle.asn_rules.proofs.Known.{appends_twice}
use Rattle.asn_convert.specs.HexHeld.{held_as_digits}
use Rattle.asn_rules.specs.declared.fault.EncodeToFault.{EncodeToFault}
use Rattle.asn_rules.specs.declared.fault.EncodeToFault.TheVariants as encode
use Rattle.asn_convert.specs.Put.{Digits, NoDigits, DigitsTold, DigitsBegun, OctetsTold, OctetsBegun, IsWriteFault}
use Rattle.asn_convert.specs.Text.{Writes, Stops, IsFront, ended}
use Rattle.asn_jobs.specs.declared.job.RunFault.{RunFault}
use Rattle.asn_jobs.specs.declared.job.RunFault.TheVariants as fault
use Rattle.asn_convert.proofs.HexDigits.{all_digits, encode_append}
use Rattle.asn_convert.proofs.Told.{stops_so}

-- ---- digits that were given

bytes : (xs : List ℕ) → AllByRecursion (λ o. o < 256) xs → IsBytes xs
bytes [] p i = omega arith
bytes (x ∷ xs) p zero = p.0
bytes (x ∷ xs) p (suc i) = bytes xs p.1 i

front_all : (xs ys : List ℕ) → AllByRecursion (λ o. o < 256) (xs ++ ys) → AllByRecursion (λ o. o < 256) xs
front_all [] ys p = tt
front_all (x ∷ xs) ys p = (p.0, front_all xs ys p.1)

module _ {W : Type 0} (contents : W → Option (List ℕ)) (r : Ruling) (t : Shape) (v : Datum) (first last : GName) (old new : Counted W) (count : ℕ) (half : Option ℕ) (faults : ℕ) where
  pub given : delivered.Encoded r t v (state_held (held_as_digits contents first old 0 None 0)) (state_held (held_as_digits contents last new count half faults))
      → (left : List ℕ) × Digits r t v (state_of contents old) (state_of contents new) left × (half ≡ None → left ≡ [])
  given e =
      let a = all_digits (contents (inner_of old)) (contents (inner_of new)) count half e.octets (bytes e.octets e.are_octets) e.appended in (
        a.1,
        record {
          octets = e.octets;
          encoded = record { octets = e.are_octets; encoding = e.encoding; within = e.within };
          digits = a.0;
          appended = a.2;
          whole = a.3;
        },
        a.4,
      )

  pub given_in_part : (sent : ℕ) → Interrupted r t v sent (state_held (held_as_digits contents first old 0 None 0)) (state_held (held_as_digits contents last new count half faults))
      → (left : List ℕ) × Digits r t v (state_of contents old) (state_of contents new) left
  given_in_part sent e =
      let a = all_digits (contents (inner_of old)) (contents (inner_of new)) count half e.octets (bytes e.octets (front_all e.octets e.rest e.are_octets)) e.appended in (
        a.1 ++ encode_lower e.rest,
        record {
          octets = e.octets ++ e.rest;
          encoded = record { octets = e.are_octets; encoding = e.encoding; within = e.within };
          digits = a.0;
          appended = a.2;
          whole = sym (append_assoc a.0 a.1 (encode_lower e.rest)) ∙ ap (λ xs. xs ++ encode_lower e.rest) a.3 ∙ sym (encode_append e.octets e.rest);
        },
      )

  pub not_given : (why : EncodeToFault) (untouched same : Type 0)
      → NotDelivered r why t v untouched (state_held (held_as_digits contents first old 0 None 0)) (state_held (held_as_digits contents last new count half faults))
      → (untouched → same) → NoDigits r t v why same (state_of contents old) (state_of contents new)
  not_given encode.NotOfType untouched same d keeps = d.0
  not_given encode.TooLong untouched same d keeps = (d.1, keeps d.2)
  not_given (encode.Write sent) untouched same d keeps = given_in_part sent d

pub no_half : (half : Option ℕ) (is_none : Bool) → is_some half ≡ not is_none → is_none ≡ true → half ≡ None
no_half None is_none test e = refl
no_half (Some o) is_none test e = absurd (true≢false (test ∙ ap not e))

-- it is the writer that was given
abbrev name_or : GName → Option GName → GName
name_or name None = name
name_or name (Some other) = other

pub same_name : (a b : GName) → Some a ≡ Some b → a ≡ b
same_name a b e = ap (name_or a) e

-- ---- digits alone

module _ (r : Ruling) (t : Shape) (v : Datum) (old new : State) where
  pub all_given : (left : List ℕ) → Digits r t v old new left → left ≡ [] → new.faults ≡ old.faults → Writes (DigitsTold r t v true) old new
  all_given left d none same = (d.digits, (d.octets, d.encoded, sym (append-nil d.digits) ∙ ap (λ xs. d.digits ++ xs) (sym none) ∙ d.whole), d.appended, same)

  pub not_all : (why : RunFault) (left : List ℕ) → IsWriteFault why old.faults new.faults → Digits r t v old new left → Stops why (DigitsBegun r t v) old new
  not_all fault.Read left is d = absurd is
  not_all fault.Write left is d = (d.digits, (d.octets, d.encoded, (left, d.whole)), d.appended, is)
  not_all fault.Memory left is d = (d.digits, (d.octets, d.encoded, (left, d.whole)), d.appended)

-- ---- and what ends their line

-- what comes after the digits
abbrev line_end : Bool → List ℕ
line_end true = 10 ∷ []
line_end false = ended (codes "! too long")

module _ (r : Ruling) (t : Shape) (v : Datum) where
  line_told : (good : Bool) (out : List ℕ) → DigitsTold r t v good out → OctetsTold r t v good (out ++ line_end good)
  line_told true out (o, encoded, is) = (o, encoded, ap (λ xs. xs ++ 10 ∷ []) is)
  line_told false out (long, is) = (long, ap (λ xs. xs ++ ended (codes "! too long")) is)

  pub line_put : (good : Bool) (text : List ℕ) (old mid new : State) → text ≡ line_end good → Writes (DigitsTold r t v good) old mid → Writes (λ out. out ≡ text) mid new
      → Writes (OctetsTold r t v good) old new
  line_put good text old mid new is w p = (
    w.0 ++ p.0,
    subst (λ xs. OctetsTold r t v good (w.0 ++ xs)) (sym (p.1 ∙ is)) (line_told good w.0 w.1),
    appends_twice old.octets mid.octets new.octets w.0 p.0 w.2 p.2,
    p.3 ∙ w.3,
  )

  line_begun : (good : Bool) (out more text : List ℕ) → text ≡ line_end good → DigitsTold r t v good out → IsFront more text → OctetsBegun r t v (out ++ more)
  line_begun good out more text is told front =
      (good, out ++ line_end good, line_told good out told, (front.0, append_assoc out more front.0 ∙ ap (λ xs. out ++ xs) (front.1 ∙ is)))

  pub line_broken : (why : RunFault) (good : Bool) (text : List ℕ) (old mid new : State) → text ≡ line_end good → Writes (DigitsTold r t v good) old mid → Stops why (λ out. IsFront out text) mid new
      → Stops why (OctetsBegun r t v) old new
  line_broken fault.Read good text old mid new is w s = s
  line_broken fault.Write good text old mid new is w s = (
    w.0 ++ s.0,
    line_begun good w.0 s.0 text is w.1 s.1,
    appends_twice old.octets mid.octets new.octets w.0 s.0 w.2 s.2,
    λ below. subst (λ n. n < new.faults) w.3 (s.3 (subst (λ n. n < 2 ^ 64 - 1) (sym w.3) below)),
  )
  line_broken fault.Memory good text old mid new is w s = (
    w.0 ++ s.0,
    line_begun good w.0 s.0 text is w.1 s.1,
    appends_twice old.octets mid.octets new.octets w.0 s.0 w.2 s.2,
  )

  pub digits_broken : (why : RunFault) (old new : State) → Stops why (DigitsBegun r t v) old new → Stops why (OctetsBegun r t v) old new
  digits_broken why old new s =
      stops_so why (DigitsBegun r t v) (OctetsBegun r t v) old new
      (λ out (o, encoded, front). (true, ended (encode_lower o), (o, encoded, refl), (front.0 ++ 10 ∷ [], sym (append_assoc out front.0 (10 ∷ [])) ∙ ap (λ xs. xs ++ 10 ∷ []) front.1))) s
