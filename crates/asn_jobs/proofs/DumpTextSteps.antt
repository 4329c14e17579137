-- Steps of the readers of the lines of a dump.
use Rattle.std.proofs.Common.{◌≡◌, ◌∙◌, ap, sym, refl, ℕ, Bool, true, false, List, [], ◌∷◌, ◌++◌, length, map, Option, Some, None}
use Rattle.std.specs.Prelude.{option_map}
use Rattle.std.specs.Io.BufRead.{strip_last}
use Rattle.std.specs.List.{before_first, list_all, list_any}
use Rattle.asn_jobs.specs.Lines.{IsFirstLine}
use Rattle.asn_jobs.specs.Texts.{is_comment}
use Rattle.asn_jobs.specs.DumpTexts.{after_first, array_octets, begun_octets, dump_lines, ends_array, form_of, is_foreign, is_octet, is_passed, lines_octets, octets_from}
use Rattle.asn_jobs.specs.DumpLines.{line_octets, words}
use Rattle.asn_jobs.specs.declared.dump_lines.DumpForm.{DumpForm}

-- the first line and the others, each without its end
pub cut : (rest line later l : List ℕ) → IsFirstLine rest line later → l ≡ strip_last 13 line → dump_lines rest ≡ l ∷ dump_lines later
cut rest line later l first is = ap (map (λ x. strip_last 13 x)) first.lines ∙ ap (λ x. x ∷ dump_lines later) (sym is)

module _ (f : DumpForm) (o rest line later l : List ℕ) (first : IsFirstLine rest line later) (is : l ≡ strip_last 13 line) where
  pub line_passed : is_passed l ≡ true → lines_octets f o (dump_lines rest) ≡ lines_octets f o (dump_lines later)
  line_passed e = ap (lines_octets f o) (cut rest line later l first is) ∙ rw e refl

  pub line_read : (more : List ℕ) → is_passed l ≡ false → line_octets f (length o) l ≡ Some more → lines_octets f o (dump_lines rest) ≡ lines_octets f (o ++ more) (dump_lines later)
  line_read more e some = ap (lines_octets f o) (cut rest line later l first is) ∙ rw (e, some) refl

  pub line_refused : is_passed l ≡ false → line_octets f (length o) l ≡ None → lines_octets f o (dump_lines rest) ≡ None
  line_refused e none = ap (lines_octets f o) (cut rest line later l first is) ∙ rw (e, none) refl

pub lines_end : (f : DumpForm) (o rest : List ℕ) → rest ≡ [] → lines_octets f o (dump_lines rest) ≡ Some o
lines_end f o rest e = ap (λ t. lines_octets f o (dump_lines t)) e

module _ (h : Bool) (rest line later l : List ℕ) (first : IsFirstLine rest line later) (is : l ≡ strip_last 13 line) where
  pub passed : is_passed l ≡ true → octets_from h (dump_lines rest) ≡ octets_from h (dump_lines later)
  passed e = ap (octets_from h) (cut rest line later l first is) ∙ rw e refl

  pub opened : is_passed l ≡ false → is_foreign l ≡ true → list_any (is_octet 123) l ≡ true → octets_from h (dump_lines rest) ≡ array_octets [] (after_first 123 l ∷ dump_lines later)
  opened e d bracket = ap (octets_from h) (cut rest line later l first is) ∙ rw (e, d, bracket) refl

  pub headed : is_passed l ≡ false → is_foreign l ≡ true → list_any (is_octet 123) l ≡ false → octets_from h (dump_lines rest) ≡ octets_from true (dump_lines later)
  headed e d bracket = ap (octets_from h) (cut rest line later l first is) ∙ rw (e, d, bracket) refl

  pub begun : is_passed l ≡ false → is_foreign l ≡ false → octets_from h (dump_lines rest) ≡ begun_octets h (form_of (before_first is_comment l)) (dump_lines rest)
  begun e d =
      let lines = cut rest line later l first is in
      let here : octets_from h (l ∷ dump_lines later) ≡ begun_octets h (form_of (before_first is_comment l)) (l ∷ dump_lines later) = rw (e, d) refl in
      ap (octets_from h) lines ∙ (here ∙ ap (begun_octets h (form_of (before_first is_comment l))) (sym lines))

pub none_left : (h : Bool) (rest : List ℕ) → rest ≡ [] → octets_from h (dump_lines rest) ≡ None
none_left h rest e = ap (λ t. octets_from h (dump_lines t)) e

-- ---- arrays of C

module _ (rest line later l : List ℕ) (first : IsFirstLine rest line later) (is : l ≡ strip_last 13 line) where
  pub ended_on : ends_array l ≡ true → list_all ends_array (dump_lines rest) ≡ list_all ends_array (dump_lines later)
  ended_on e = ap (list_all ends_array) (cut rest line later l first is) ∙ rw e refl

  pub ended_not : ends_array l ≡ false → list_all ends_array (dump_lines rest) ≡ false
  ended_not e = ap (list_all ends_array) (cut rest line later l first is) ∙ rw e refl

pub ended_none : (rest : List ℕ) → rest ≡ [] → list_all ends_array (dump_lines rest) ≡ true
ended_none rest e = ap (λ t. list_all ends_array (dump_lines t)) e

module _ (o l rest : List ℕ) (none : list_any (is_octet 125) l ≡ false) where
  pub array_refused : words 2 l ≡ None → array_octets o (l ∷ dump_lines rest) ≡ None
  array_refused e = rw (none, e) refl

  array_on : (more : List ℕ) → words 2 l ≡ Some more → array_octets o (l ∷ dump_lines rest) ≡ array_octets (o ++ more) (dump_lines rest)
  array_on more e = rw (none, e) refl

  pub array_further : (line later next more : List ℕ) → IsFirstLine rest line later → next ≡ strip_last 13 line → words 2 l ≡ Some more
      → array_octets o (l ∷ dump_lines rest) ≡ array_octets (o ++ more) (next ∷ dump_lines later)
  array_further line later next more first is e = array_on more e ∙ ap (array_octets (o ++ more)) (cut rest line later next first is)

  pub array_cut_off : (more : List ℕ) → rest ≡ [] → words 2 l ≡ Some more → array_octets o (l ∷ dump_lines rest) ≡ None
  array_cut_off more e some = array_on more some ∙ ap (λ t. array_octets (o ++ more) (dump_lines t)) e

module _ (o l rest : List ℕ) (some : list_any (is_octet 125) l ≡ true) where
  pub array_badly_ended : ends_array (after_first 125 l) ≡ false → array_octets o (l ∷ dump_lines rest) ≡ None
  array_badly_ended e = rw (some, e) refl

  pub array_followed : ends_array (after_first 125 l) ≡ true → list_all ends_array (dump_lines rest) ≡ false → array_octets o (l ∷ dump_lines rest) ≡ None
  array_followed e f = rw (some, e, f) refl

  pub array_ended : ends_array (after_first 125 l) ≡ true → list_all ends_array (dump_lines rest) ≡ true → (r : Option (List ℕ)) → words 2 (before_first (is_octet 125) l) ≡ r
      → array_octets o (l ∷ dump_lines rest) ≡ option_map (λ more. o ++ more) r
  array_ended e f r is = rw (some, e, f, is) refl
