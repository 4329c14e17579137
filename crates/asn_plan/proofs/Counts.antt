-- What a value takes, as its entries and elements are added one after the other.
use Rattle.std.proofs.Common.{◌≡◌, ◌+◌, ◌∙◌, ℕ, List, [], ◌∷◌, ◌++◌, length, Option, Some, None, refl, sym, ap, arith}
use Rattle.std.proofs.lemmas.List.{length-map}
use Rattle.asn_values.specs.Datum.{Datum, bit_list, octet_list, components, components_of, elements, elements_of}
use Rattle.asn_bits.specs.Sink.{bit_of}
use Rattle.asn_bits.proofs.Octets.{length-digits}
use Rattle.asn_bits.proofs.Prefixes.{given_length}
use Rattle.asn_plan.specs.FixedStrings.{IsStringOf}
use Rattle.asn_plan.specs.declared.fixed.FixedString.{FixedString}
use Rattle.asn_plan.specs.Taken.{entries_of, entries_of_components, entries_of_elements, octets_of, octets_of_components, octets_of_elements, Takes}
use Rattle.asn_plan.specs.declared.budget.Taken.{Taken}

-- ---- one entry more

entries_absent : (es : List (Option Datum))
    → entries_of_components (components_of (es ++ None ∷ [])) ≡ entries_of_components (components_of es) + 1
entries_absent [] = refl
entries_absent (None ∷ es) =
    let h : 1 + entries_of_components (components_of (es ++ None ∷ [])) ≡ (1 + entries_of_components (components_of es)) + 1 = omega (arith, entries_absent es) in
    h
entries_absent (Some d ∷ es) =
    let h : entries_of d + entries_of_components (components_of (es ++ None ∷ [])) ≡ (entries_of d + entries_of_components (components_of es)) + 1 = omega (arith, entries_absent es) in
    h

octets_absent : (es : List (Option Datum))
    → octets_of_components (components_of (es ++ None ∷ [])) ≡ octets_of_components (components_of es)
octets_absent [] = refl
octets_absent (None ∷ es) = octets_absent es
octets_absent (Some d ∷ es) =
    let h : octets_of d + octets_of_components (components_of (es ++ None ∷ [])) ≡ octets_of d + octets_of_components (components_of es) = omega (arith, octets_absent es) in
    h

entries_present : (es : List (Option Datum)) (d : Datum)
    → entries_of_components (components_of (es ++ Some d ∷ [])) ≡ entries_of_components (components_of es) + entries_of d
entries_present [] d =
    let h : entries_of d + 0 ≡ 0 + entries_of d = omega arith in
    h
entries_present (None ∷ es) d =
    let h : 1 + entries_of_components (components_of (es ++ Some d ∷ [])) ≡ (1 + entries_of_components (components_of es)) + entries_of d = omega (arith, entries_present es d) in
    h
entries_present (Some e ∷ es) d =
    let h : entries_of e + entries_of_components (components_of (es ++ Some d ∷ [])) ≡ (entries_of e + entries_of_components (components_of es)) + entries_of d = omega (arith, entries_present es d) in
    h

octets_present : (es : List (Option Datum)) (d : Datum)
    → octets_of_components (components_of (es ++ Some d ∷ [])) ≡ octets_of_components (components_of es) + octets_of d
octets_present [] d =
    let h : octets_of d + 0 ≡ 0 + octets_of d = omega arith in
    h
octets_present (None ∷ es) d = octets_present es d
octets_present (Some e ∷ es) d =
    let h : octets_of e + octets_of_components (components_of (es ++ Some d ∷ [])) ≡ (octets_of e + octets_of_components (components_of es)) + octets_of d = omega (arith, octets_present es d) in
    h

pub absent_counted : (n m : Taken) (es : List (Option Datum)) → m.entries ≡ n.entries + 1 → m.octets ≡ n.octets + 0
    → Takes n (components (components_of es)) → Takes m (components (components_of (es ++ None ∷ [])))
absent_counted n m es e o t =
    let a : m.entries ≡ 1 + entries_of_components (components_of (es ++ None ∷ [])) = omega (arith, e, t.0, entries_absent es) in
    let b : m.octets ≡ octets_of_components (components_of (es ++ None ∷ [])) = omega (arith, o, t.1, octets_absent es) in
    (a, b)

pub present_counted : (n m p : Taken) (es : List (Option Datum)) (d : Datum) → m.entries ≡ n.entries + p.entries
    → m.octets ≡ n.octets + p.octets → Takes n (components (components_of es)) → Takes p d
    → Takes m (components (components_of (es ++ Some d ∷ [])))
present_counted n m p es d e o t q =
    let a : m.entries ≡ 1 + entries_of_components (components_of (es ++ Some d ∷ [])) = omega (arith, e, t.0, q.0, entries_present es d) in
    let b : m.octets ≡ octets_of_components (components_of (es ++ Some d ∷ [])) = omega (arith, o, t.1, q.1, octets_present es d) in
    (a, b)

-- ---- one element more

entries_element : (ds : List Datum) (d : Datum)
    → entries_of_elements (elements_of (ds ++ d ∷ [])) ≡ entries_of_elements (elements_of ds) + entries_of d
entries_element [] d =
    let h : entries_of d + 0 ≡ 0 + entries_of d = omega arith in
    h
entries_element (e ∷ ds) d =
    let h : entries_of e + entries_of_elements (elements_of (ds ++ d ∷ [])) ≡ (entries_of e + entries_of_elements (elements_of ds)) + entries_of d = omega (arith, entries_element ds d) in
    h

octets_element : (ds : List Datum) (d : Datum)
    → octets_of_elements (elements_of (ds ++ d ∷ [])) ≡ octets_of_elements (elements_of ds) + octets_of d
octets_element [] d =
    let h : octets_of d + 0 ≡ 0 + octets_of d = omega arith in
    h
octets_element (e ∷ ds) d =
    let h : octets_of e + octets_of_elements (elements_of (ds ++ d ∷ [])) ≡ (octets_of e + octets_of_elements (elements_of ds)) + octets_of d = omega (arith, octets_element ds d) in
    h

pub element_counted : (n m p : Taken) (ds : List Datum) (d : Datum) → m.entries ≡ n.entries + p.entries
    → m.octets ≡ n.octets + p.octets → Takes n (elements (elements_of ds)) → Takes p d
    → Takes m (elements (elements_of (ds ++ d ∷ [])))
element_counted n m p ds d e o t q =
    let a : m.entries ≡ 1 + entries_of_elements (elements_of (ds ++ d ∷ [])) = omega (arith, e, t.0, q.0, entries_element ds d) in
    let b : m.octets ≡ octets_of_elements (elements_of (ds ++ d ∷ [])) = omega (arith, o, t.1, q.1, octets_element ds d) in
    (a, b)

-- ---- a string of one length

pub string_counted : (f : FixedString) (n : ℕ) (k : Taken) (d : Datum) → k.entries ≡ 1 → k.octets ≡ f.length
    → IsStringOf f n d → Takes k d
string_counted f n k (bit_list bs) one many is =
    (one, many ∙ sym (sym (length-map bs bit_of) ∙ ap length is.1 ∙ given_length f.length n))
string_counted f n k (octet_list os) one many is = (one, many ∙ sym (ap length is.1 ∙ length-digits 256 f.length n))
string_counted f n k _ one many is = absurd is
