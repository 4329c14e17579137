-- A type of the profile is plain: each DEFAULT in it is a value that a copy keeps.
use Rattle.std.proofs.Common.{◌≡◌, Bool, true, false, not, ◌||◌, refl, ap}
use Rattle.asn_values.specs.Datum.{Datum, truth, number, item}
use Rattle.asn_values.specs.Shape.{Shape, boolean, null, integer, enumerated, bit_string, octet_string, restricted, utf8_string, sequence, sequence_of, choice, must, optional, default, closed_labels, marked_labels, Fields, no_fields, field, MoreFields, closed, marked, more_fields, Alternatives, no_alternatives, one_of, MoreAlternatives, closed_choice, marked_choice}
use Rattle.asn_values.specs.Profile.{BadDefault, InProfile, somewhere, some_field, some_addition, some_alternative, some_more, bad_default, bad_default_at, good_default}
use Rattle.asn_values.proofs.Parts.{left_false, right_false}
use Rattle.asn_module.specs.Plain.{plain_value, plain, plain_fields, plain_more, plain_alternatives, plain_more_choice}

is_true : (b : Bool) → not b ≡ false → b ≡ true
is_true true e = refl
is_true false e = absurd cc

plain_default : (t : Shape) (d : Datum) → good_default t d ≡ true → plain_value d ≡ d
plain_default t (truth b) e = refl
plain_default t (number z) e = refl
plain_default t (item p) e = refl
plain_default boolean d e = absurd cc
plain_default null d e = absurd cc
plain_default (integer b) d e = absurd cc
plain_default (enumerated root closed_labels) d e = absurd cc
plain_default (enumerated root (marked_labels more)) d e = absurd cc
plain_default (bit_string s) d e = absurd cc
plain_default (octet_string s) d e = absurd cc
plain_default (restricted k s) d e = absurd cc
plain_default utf8_string d e = absurd cc
plain_default (sequence root more) d e = absurd cc
plain_default (sequence_of t s) d e = absurd cc
plain_default (choice root more) d e = absurd cc

mutual
  is_plain : (t : Shape) → somewhere bad_default t ≡ false → plain t ≡ t
  is_plain boolean h = refl
  is_plain null h = refl
  is_plain (integer b) h = refl
  is_plain (enumerated root more) h = refl
  is_plain (bit_string s) h = refl
  is_plain (octet_string s) h = refl
  is_plain (restricted k s) h = refl
  is_plain utf8_string h = refl
  is_plain (sequence root more) h =
      let here : (bad_default_at root || bad_default_at (more_fields more)) ≡ false = left_false (bad_default_at root || bad_default_at (more_fields more)) (some_field bad_default root || some_addition bad_default more) h in
      let inside : (some_field bad_default root || some_addition bad_default more) ≡ false = right_false (bad_default_at root || bad_default_at (more_fields more)) (some_field bad_default root || some_addition bad_default more) h in
      rw (
        are_plain root (left_false (bad_default_at root) (bad_default_at (more_fields more)) here) (left_false (some_field bad_default root) (some_addition bad_default more) inside),
        additions_are_plain more (right_false (bad_default_at root) (bad_default_at (more_fields more)) here) (right_false (some_field bad_default root) (some_addition bad_default more) inside),
      ) refl
  is_plain (sequence_of t s) h = ap (λ (x : Shape). sequence_of x s) (is_plain t h)
  is_plain (choice root more) h =
      rw (
        alternatives_are_plain root (left_false (some_alternative bad_default root) (some_more bad_default more) h),
        more_are_plain more (right_false (some_alternative bad_default root) (some_more bad_default more) h),
      ) refl

  are_plain : (fs : Fields) → bad_default_at fs ≡ false → some_field bad_default fs ≡ false → plain_fields fs ≡ fs
  are_plain no_fields d h = refl
  are_plain (field name must t fs) d h =
      rw (is_plain t (left_false (somewhere bad_default t) (some_field bad_default fs) h), are_plain fs d (right_false (somewhere bad_default t) (some_field bad_default fs) h)) refl
  are_plain (field name optional t fs) d h =
      rw (is_plain t (left_false (somewhere bad_default t) (some_field bad_default fs) h), are_plain fs d (right_false (somewhere bad_default t) (some_field bad_default fs) h)) refl
  are_plain (field name (default v) t fs) d h =
      let good = is_true (good_default t v) (left_false (not (good_default t v)) (bad_default_at fs) d) in
      rw (
        plain_default t v good,
        is_plain t (left_false (somewhere bad_default t) (some_field bad_default fs) h),
        are_plain fs (right_false (not (good_default t v)) (bad_default_at fs) d) (right_false (somewhere bad_default t) (some_field bad_default fs) h),
      ) refl

  additions_are_plain : (more : MoreFields) → bad_default_at (more_fields more) ≡ false → some_addition bad_default more ≡ false → plain_more more ≡ more
  additions_are_plain closed d h = refl
  additions_are_plain (marked fs) d h = ap marked (are_plain fs d h)

  alternatives_are_plain : (alts : Alternatives) → some_alternative bad_default alts ≡ false → plain_alternatives alts ≡ alts
  alternatives_are_plain no_alternatives h = refl
  alternatives_are_plain (one_of name t alts) h =
      rw (is_plain t (left_false (somewhere bad_default t) (some_alternative bad_default alts) h), alternatives_are_plain alts (right_false (somewhere bad_default t) (some_alternative bad_default alts) h)) refl

  more_are_plain : (more : MoreAlternatives) → some_more bad_default more ≡ false → plain_more_choice more ≡ more
  more_are_plain closed_choice h = refl
  more_are_plain (marked_choice alts) h = ap marked_choice (alternatives_are_plain alts h)

pub plain_of_profile : (t : Shape) → InProfile t → plain t ≡ t
plain_of_profile t h = is_plain t (h BadDefault)
