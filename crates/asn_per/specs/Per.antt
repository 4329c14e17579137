-- The spelling of a value in CANONICAL-PER UNALIGNED (X.691), in bits. Each clause names its subject there.
use Rattle.std.specs.Prelude.{◌-◌, ◌==◌, ℕ, zero, suc, ℤ, Bool, true, false, List, [], ◌∷◌, ◌++◌, map, length, take, drop, replicate, Option, Some, None, nat_lt}
use Rattle.asn_values.specs.Datum.{Datum, truth, number, item, bit_list, octet_list, characters, unicode}
use Rattle.asn_values.specs.Shape.{Range, SizeRange, Alphabet, ia5, numeric, visible, Shape, boolean, null, integer, enumerated, bit_string, octet_string, restricted, utf8_string, sequence, sequence_of, choice, Label, Demand, MoreLabels, has_more_labels, Fields, no_fields, field, MoreFields, closed, marked, is_marked, demands, Alternatives, no_alternatives, one_of, MoreAlternatives, closed_choice, marked_choice, is_marked_choice, count}
use Rattle.asn_values.specs.Fits.{in_range, in_size}
use Rattle.asn_bits.specs.Numbers.{bits, width, least, least_signed, above, padding, packed}
use Rattle.asn_bits.specs.Lengths.{joined, general, general_octets}
use Rattle.asn_rules.specs.Chunks.{Kind, open_field, utf8_field, rest_of, Chunk, one, sealed, ones, flat}
use Rattle.asn_rules.specs.Components.{bit_of, number_at, presence, if_spelled, any_present, at_components, at_elements, at_alternative, extension_bit}
use Rattle.asn_rules.specs.Live.{Fielding}
-- the index of an item: how many of the items have a lower number
pub use Rattle.asn_plan.specs.Ranks.{rank}

-- ---- sealed fields and whole encodings

-- a sealed field: the general length in octets, and the octets
abbrev pub spelled : List ℕ → List ℕ
spelled content = general_octets (λ u. u) content

-- the zeros after that many bits: the fewest that fill octets, and eight where there is no bit
abbrev pub filling : ℕ → List ℕ
filling zero = replicate 8 0
filling (suc n) = padding (suc n)

-- a complete encoding ("complete encoding"): the spelling, filled up to whole octets, at least one
abbrev pub filled : List Chunk → List Chunk
filled cs = cs ++ ones (filling (length (flat spelled cs)))

-- its octets
abbrev pub complete : List Chunk → List ℕ
complete cs = packed (flat spelled (filled cs))

-- an open field ("open type fields") holds a complete encoding
abbrev pub an_open_field : List Chunk → List Chunk
an_open_field cs = sealed open_field (complete cs) ∷ []

-- ---- numbers

-- a number of 0 to values - 1, in the fewest bits that tell that many values apart ("constrained whole number")
abbrev pub constrained : ℕ → ℕ → List ℕ
constrained values n = bits (width values) n

-- a length in octets, and the number in the fewest octets ("semi-constrained whole number")
abbrev pub semi_constrained : ℕ → List ℕ
semi_constrained n = general_octets (λ u. u) (least n)

-- a length in octets, and the number in the fewest octets of two's complement ("unconstrained whole number")
abbrev pub unconstrained : ℤ → List ℕ
unconstrained z = general_octets (λ u. u) (least_signed z)

-- 0 and 6 bits to 63, else 1 and a semi-constrained number ("normally small non-negative whole number")
abbrev pub small : ℕ → List ℕ
small n = elim (nat_lt n 64) [ true ↦ 0 ∷ bits 6 n | false ↦ 1 ∷ semi_constrained n ]

-- a length of 1 to 64, in 0 and 6 bits ("normally small length")
abbrev pub small_length : ℕ → List ℕ
small_length n = 0 ∷ bits 6 (n - 1)

-- a number between bounds, of which either may be missing ("encoding the integer type")
abbrev pub ranged : Option ℤ → Option ℤ → ℤ → List ℕ
ranged (Some low) (Some high) z = constrained (suc (above low high)) (above low z)
ranged (Some low) None z = semi_constrained (above low z)
ranged None high z = unconstrained z

-- ---- marks

-- without an extension mark the form of the root; with one, 0 and that form inside the root, else 1 and the other
abbrev pub after_mark : {A : Type 0} → (ℕ → A) → Bool → Bool → List A → List A → List A
after_mark bit false inside root other = root
after_mark bit true true root other = bit 0 ∷ root
after_mark bit true false root other = bit 1 ∷ other

-- outside the root of an extensible range a number is unconstrained
abbrev pub whole_number : Range → ℤ → List ℕ
whole_number b z = after_mark (λ u. u) b.extensible (in_range b z) (ranged b.low b.high z) (unconstrained z)

-- ---- lists under a size

-- items of a count in the root of a size: a constrained number where the upper bound is below 65,536, which has no
-- bits where there is one count only; else the general length ("length determinant")
abbrev pub within : ℕ → Option ℕ → List (List Chunk) → List Chunk
within low (Some high) items =
    elim (nat_lt high 65536) [
      | true ↦ ones (constrained (suc (high - low)) (length items - low)) ++ joined items
      | false ↦ general one items
    ]
within low None items = general one items

-- outside the root of an extensible size the items stand under their general length
abbrev pub sized : SizeRange → List (List Chunk) → List Chunk
sized s items = after_mark one s.extensible (in_size s (length items)) (within s.low s.high items) (general one items)

-- ---- the simple types

-- a character ("known-multiplier character string types"): its code in 7 bits; of a NumericString, SPACE as 0
-- and a digit d as d + 1, in 4 bits
abbrev pub character_bits : Alphabet → ℕ → List ℕ
character_bits ia5 c = bits 7 c
character_bits visible c = bits 7 c
character_bits numeric c = bits 4 (elim (c == 32) [ true ↦ 0 | false ↦ c - 47 ])

-- the index in the root by number, or the index among the additions ("encoding the enumerated type")
abbrev pub enumeration : List Label → MoreLabels → ℕ → List ℕ
enumeration root more p =
    after_mark (λ u. u) (has_more_labels more) (nat_lt p (length root))
    (constrained (length root) (rank root (number_at root p))) (small (p - length root))

abbrev pub boolean_code : Datum → List Chunk
boolean_code (truth b) = one (bit_of b) ∷ []
boolean_code _ = []

abbrev pub integer_code : Range → Datum → List Chunk
integer_code b (number z) = ones (whole_number b z)
integer_code b _ = []

abbrev pub enumerated_code : List Label → MoreLabels → Datum → List Chunk
enumerated_code root more (item p) = ones (enumeration root more p)
enumerated_code root more _ = []

abbrev pub bits_code : SizeRange → Datum → List Chunk
bits_code s (bit_list bs) = sized s (map (λ b. one (bit_of b) ∷ []) bs)
bits_code s _ = []

abbrev pub octets_code : SizeRange → Datum → List Chunk
octets_code s (octet_list os) = sized s (map (λ o. ones (bits 8 o)) os)
octets_code s _ = []

abbrev pub text_code : Alphabet → SizeRange → Datum → List Chunk
text_code k s (characters cs) = sized s (map (λ c. ones (character_bits k c)) cs)
text_code k s _ = []

abbrev pub utf8_code : Datum → List Chunk
utf8_code (unicode os) = sealed utf8_field os ∷ []
utf8_code _ = []

-- ---- SEQUENCE

-- where an addition is present: the number of additions, a presence bit for each, and the open fields of
-- those that are present ("encoding the sequence type")
abbrev pub additions : List Demand → List (Option Datum) → List Chunk → List Chunk
additions ds es open_fields =
    elim (any_present es) [ true ↦ ones (small_length (length ds) ++ presence ds es) ++ open_fields | false ↦ [] ]

-- ---- all types

abbrev mutual
  -- the spelling of a value of the type
  pub per : Shape → Datum → List Chunk
  per boolean d = boolean_code d
  per null d = []
  per (integer b) d = integer_code b d
  per (enumerated root more) d = enumerated_code root more d
  per (bit_string s) d = bits_code s d
  per (octet_string s) d = octets_code s d
  per (restricted k s) d = text_code k s d
  per utf8_string d = utf8_code d
  per (sequence root more) d =
      at_components (λ es.
      let root_entries = take (length (demands root)) es in
      let added_entries = drop (length (demands root)) es in
      ones (extension_bit (is_marked more) (any_present added_entries) ++ presence (demands root) root_entries)
      ++ per_each root root_entries ++ per_additions more added_entries) d
  per (sequence_of t s) d = at_elements (λ ds. sized s (map (λ e. per t e) ds)) d
  per (choice root more) d =
      at_alternative (λ t e. elim (nat_lt t (count root)) [
        | true ↦ ones (extension_bit (is_marked_choice more) false ++ constrained (count root) t)
            ++ per_alternative root t e
        | false ↦ ones (1 ∷ small (t - count root)) ++ per_more more (t - count root) e
      ]) d

  -- the components that are spelt, in order
  pub per_each : Fields → List (Option Datum) → List Chunk
  per_each no_fields es = []
  per_each (field name demand t fs) [] = []
  per_each (field name demand t fs) (e ∷ es) = if_spelled demand e (λ d. per t d) ++ per_each fs es

  pub per_additions : MoreFields → List (Option Datum) → List Chunk
  per_additions closed es = []
  per_additions (marked fs) es = additions (demands fs) es (per_open fs es)

  -- each addition that is present, as an open field
  pub per_open : Fields → List (Option Datum) → List Chunk
  per_open no_fields es = []
  per_open (field name demand t fs) [] = []
  per_open (field name demand t fs) (e ∷ es) = if_spelled demand e (λ d. an_open_field (per t d)) ++ per_open fs es

  pub per_alternative : Alternatives → ℕ → Datum → List Chunk
  per_alternative no_alternatives t d = []
  per_alternative (one_of name shape alts) zero d = per shape d
  per_alternative (one_of name shape alts) (suc t) d = per_alternative alts t d

  pub per_more : MoreAlternatives → ℕ → Datum → List Chunk
  per_more closed_choice t d = []
  per_more (marked_choice alts) t d = an_open_field (per_alternative alts t d)

-- ---- messages

-- a message is a complete encoding
abbrev pub per_whole : Shape → Datum → List Chunk
per_whole t d = filled (per t d)

-- an open field has at least one octet, a UTF8String may have none
abbrev pub shortest_content : Kind → ℕ
shortest_content open_field = 1
shortest_content utf8_field = 0
shortest_content (rest_of k us) = shortest_content k

abbrev pub per_fields : Fielding
per_fields = record { spelled = spelled; shortest = shortest_content }

-- the octets of a message
abbrev pub per_octets : Shape → Datum → List ℕ
per_octets t d = complete (per t d)
