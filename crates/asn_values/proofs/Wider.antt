-- Values under some limits are values under wider ones.
use Rattle.std.proofs.Common.{◌-◌, ℕ, zero, suc, ℤ, ◌≤ℤ◌, Bool, true, false, List, [], ◌∷◌, length, take, drop, Option, Some, None, nat_lt, arith}
use Rattle.std.specs.Prelude.{MatchBool}
use Rattle.std.specs.List.{AllByRecursion}
use Rattle.asn_values.specs.Datum.{Datum, truth, nothing, number, item, bit_list, octet_list, characters, unicode, components, elements, alternative, unknown_item, unknown_alternative, component_list, element_list}
use Rattle.asn_values.specs.Shape.{Shape, boolean, null, integer, enumerated, bit_string, octet_string, restricted, utf8_string, sequence, sequence_of, choice, Demand, must, optional, default, Fields, no_fields, field, MoreFields, closed, marked, demands, count, Alternatives, no_alternatives, one_of, MoreAlternatives, closed_choice, marked_choice}
use Rattle.std.proofs.lemmas.Int.{ints}
use Rattle.asn_values.specs.Fits.{Limits, AreWider, FitsUnder, FitsEachUnder, FitsMoreUnder, FitsAlternativeUnder, FitsMoreAlternativesUnder, FitsDemand}

all_map : {A : Type 0} {P Q : A → Type 0} (xs : List A) → ((x : A) → P x → Q x) → AllByRecursion P xs → AllByRecursion Q xs
all_map [] f h = h
all_map (x ∷ xs) f h = (f x h.0, all_map xs f h.1)

demand_map : {P Q : Datum → Type 0} (demand : Demand) (e : Option Datum) → ((d : Datum) → P d → Q d) → FitsDemand P demand e → FitsDemand Q demand e
demand_map demand (Some d) f h = f d h
demand_map optional None f h = h
demand_map must None f h = h
demand_map (default e) None f h = h

match_map : (b : Bool) {A B C D : Type 0} → (A → C) → (B → D) → MatchBool b A B → MatchBool b C D
match_map true f g h = f h
match_map false f g h = g h

module _ (l m : Limits) (higher : (z : ℤ) → z ≤ℤ l.highest → z ≤ℤ m.highest) where
  mutual
    fits_wider : (t : Shape) (d : Datum) → FitsUnder l t d → FitsUnder m t d
    fits_wider boolean d h = h
    fits_wider null d h = h
    fits_wider (integer b) (number z) h = (h.0, higher z h.1, h.2)
    fits_wider (integer b) (truth x) h = h
    fits_wider (integer b) nothing h = h
    fits_wider (integer b) (item p) h = h
    fits_wider (integer b) (bit_list bs) h = h
    fits_wider (integer b) (octet_list os) h = h
    fits_wider (integer b) (characters cs) h = h
    fits_wider (integer b) (unicode os) h = h
    fits_wider (integer b) (components es) h = h
    fits_wider (integer b) (elements ds) h = h
    fits_wider (integer b) (alternative t d) h = h
    fits_wider (integer b) (unknown_item z) h = h
    fits_wider (integer b) (unknown_alternative t) h = h
    fits_wider (enumerated root more) d h = h
    fits_wider (bit_string s) d h = h
    fits_wider (octet_string s) d h = h
    fits_wider (restricted k s) d h = h
    fits_wider utf8_string d h = h
    fits_wider (sequence root more) (components es) h =
        (each_wider root (take (length (demands root)) (component_list es)) h.0, more_wider more (drop (length (demands root)) (component_list es)) h.1)
    fits_wider (sequence root more) (truth x) h = h
    fits_wider (sequence root more) nothing h = h
    fits_wider (sequence root more) (number z) h = h
    fits_wider (sequence root more) (item p) h = h
    fits_wider (sequence root more) (bit_list bs) h = h
    fits_wider (sequence root more) (octet_list os) h = h
    fits_wider (sequence root more) (characters cs) h = h
    fits_wider (sequence root more) (unicode os) h = h
    fits_wider (sequence root more) (elements ds) h = h
    fits_wider (sequence root more) (alternative t d) h = h
    fits_wider (sequence root more) (unknown_item z) h = h
    fits_wider (sequence root more) (unknown_alternative t) h = h
    fits_wider (sequence_of t s) (elements ds) h = (h.0, all_map (element_list ds) (λ e f. fits_wider t e f) h.1)
    fits_wider (sequence_of t s) (truth x) h = h
    fits_wider (sequence_of t s) nothing h = h
    fits_wider (sequence_of t s) (number z) h = h
    fits_wider (sequence_of t s) (item p) h = h
    fits_wider (sequence_of t s) (bit_list bs) h = h
    fits_wider (sequence_of t s) (octet_list os) h = h
    fits_wider (sequence_of t s) (characters cs) h = h
    fits_wider (sequence_of t s) (unicode os) h = h
    fits_wider (sequence_of t s) (components es) h = h
    fits_wider (sequence_of t s) (alternative u d) h = h
    fits_wider (sequence_of t s) (unknown_item z) h = h
    fits_wider (sequence_of t s) (unknown_alternative u) h = h
    fits_wider (choice root more) (alternative t d) h =
        match_map (nat_lt t (count root)) (λ f. alternative_wider root t d f) (λ f. more_alternatives_wider more (t - count root) d f) h
    fits_wider (choice root more) (truth x) h = h
    fits_wider (choice root more) nothing h = h
    fits_wider (choice root more) (number z) h = h
    fits_wider (choice root more) (item p) h = h
    fits_wider (choice root more) (bit_list bs) h = h
    fits_wider (choice root more) (octet_list os) h = h
    fits_wider (choice root more) (characters cs) h = h
    fits_wider (choice root more) (unicode os) h = h
    fits_wider (choice root more) (components es) h = h
    fits_wider (choice root more) (elements ds) h = h
    fits_wider (choice root more) (unknown_item z) h = h
    fits_wider (choice root more) (unknown_alternative t) h = h

    each_wider : (fs : Fields) (es : List (Option Datum)) → FitsEachUnder l fs es → FitsEachUnder m fs es
    each_wider no_fields [] h = h
    each_wider no_fields (e ∷ es) h = h
    each_wider (field name demand t fs) [] h = h
    each_wider (field name demand t fs) (e ∷ es) h = (demand_map demand e (λ d f. fits_wider t d f) h.0, each_wider fs es h.1)

    more_wider : (more : MoreFields) (es : List (Option Datum)) → FitsMoreUnder l more es → FitsMoreUnder m more es
    more_wider closed [] h = h
    more_wider closed (e ∷ es) h = h
    more_wider (marked fs) es h = each_wider fs es h

    alternative_wider : (alts : Alternatives) (t : ℕ) (d : Datum) → FitsAlternativeUnder l alts t d → FitsAlternativeUnder m alts t d
    alternative_wider no_alternatives t d h = h
    alternative_wider (one_of name shape alts) zero d h = fits_wider shape d h
    alternative_wider (one_of name shape alts) (suc t) d h = alternative_wider alts t d h

    more_alternatives_wider : (more : MoreAlternatives) (t : ℕ) (d : Datum) → FitsMoreAlternativesUnder l more t d → FitsMoreAlternativesUnder m more t d
    more_alternatives_wider closed_choice t d h = h
    more_alternatives_wider (marked_choice alts) t d h = alternative_wider alts t d h

pub values_wider : (l m : Limits) → AreWider l m → (t : Shape) (v : Datum) → FitsUnder l t v → FitsUnder m t v
values_wider l m w t v h = fits_wider l m (λ z below. omega (arith, ints, below, w.highest)) t v h
