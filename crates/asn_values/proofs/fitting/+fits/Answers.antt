use Rattle.std.proofs.Common.{◌≡◌, ◌∙◌, subst, map, length, option_map, false, min, refl, sym, arith}
use Rattle.std.proofs.lemmas.Bool.{le-ltb}
use Rattle.asn_values.specs.Fits.{FitsLength}
use Rattle.asn_values.specs.View.{datum_of, size_range_of, part_of_field, more_alternatives_of}
use Rattle.asn_values.proofs.Alternatives.{no_truth}
use Rattle.asn_values.proofs.Received.{fits_at, fits_nowhere, choice_root, choice_more, choice_closed, fits_choices, fits_lists, other_elements, fits_sequences, fits_closed, fits_split, other_length}
use Rattle.asn_values.proofs.fitting.+fits.Goals as goal

pub fields_have-returns-then-fields-entries : goal.fields_have-returns-then-fields-entries
fields_have-returns-then-fields-entries t c = (λ h. cc, λ h. absurd (other_length c.args.unknown c.args.fields.now c.args.entries.now h c.if-fields-entries.true))

pub alternative_has-returns-then-index-alternatives : goal.alternative_has-returns-then-index-alternatives
alternative_has-returns-then-index-alternatives t c =
    let both = fits_at c.args.unknown c.args.alternatives.now c.args.index c.index-alternatives-index.result (datum_of c.args.chosen.now) c.if-index-alternatives.true c.index-alternatives-index.is in
    (λ h. both.1 ((rw (← c.index-alternatives-index.is) at c.type_has.ensures).0 h), λ f. (rw (← c.index-alternatives-index.is) at c.type_has.ensures).1 (both.0 f))

pub alternative_has-returns-else-index-alternatives : goal.alternative_has-returns-else-index-alternatives
alternative_has-returns-else-index-alternatives t c = (
  λ h. no_truth (rw (le-ltb c.args.index (length c.args.alternatives.now) c.if-index-alternatives.false) at h),
  λ f. absurd (fits_nowhere c.args.unknown c.args.alternatives.now c.args.index (datum_of c.args.chosen.now) c.if-index-alternatives.false f),
)

pub type_has-returns-then-index-len : goal.type_has-returns-then-index-len
type_has-returns-then-index-len t c =
    fits_choices c.args.unknown c.args.ty.now c.args.value.now c.in-Choice.root c.in-Choice.ext c.in-Choice-value.tag c.in-Choice-value.chosen c.in-Choice.is c.in-Choice-value.is
    c.deref-then-index-len.result.now c.deref-then-index-len-2.result.now c.deref-then-index-len.ensures.value c.deref-then-index-len-2.ensures c.alternative_has.result
    (choice_root c.args.unknown c.deref-then-index-len.result.now (more_alternatives_of c.in-Choice.ext) c.in-Choice-value.tag (datum_of c.deref-then-index-len-2.result.now) c.alternative_has.result (omega (arith, c.if-index-len.true, c.len-in-Choice-value.ensures, c.deref-then-index-len.ensures.len)) c.alternative_has.ensures)

pub type_has-returns-in-None-ext : goal.type_has-returns-in-None-ext
type_has-returns-in-None-ext t c =
    fits_choices c.args.unknown c.args.ty.now c.args.value.now c.in-Choice.root c.in-Choice.ext c.in-Choice-value.tag c.in-Choice-value.chosen c.in-Choice.is c.in-Choice-value.is
    c.in-Choice.root.items c.in-Choice-value.chosen.value refl refl false
    (rw c.in-None-ext.is (choice_closed c.args.unknown c.in-Choice.root.items c.in-Choice-value.tag (datum_of c.in-Choice-value.chosen.value) (omega (arith, c.if-index-len.false, c.len-in-Choice-value.ensures))))

pub type_has-returns-in-Some-ext : goal.type_has-returns-in-Some-ext
type_has-returns-in-Some-ext t c =
    let more : c.deref-in-Some-ext.result.now ≡ c.in-Some-ext.additions.items = c.deref-in-Some-ext.ensures.value in
    let count : c.len-in-Some-ext.result ≡ length c.in-Choice.root.items = omega (arith, c.len-in-Some-ext.ensures) in
    fits_choices c.args.unknown c.args.ty.now c.args.value.now c.in-Choice.root c.in-Choice.ext c.in-Choice-value.tag c.in-Choice-value.chosen c.in-Choice.is c.in-Choice-value.is
    c.in-Choice.root.items c.deref-in-Some-ext-2.result.now refl c.deref-in-Some-ext-2.ensures c.alternative_has-in-Some-ext.result
    (rw (c.in-Some-ext.is, ← more)
    (choice_more c.args.unknown c.in-Choice.root.items c.deref-in-Some-ext.result.now c.in-Choice-value.tag (datum_of c.deref-in-Some-ext-2.result.now) c.alternative_has-in-Some-ext.result (omega (arith, c.if-index-len.false, c.len-in-Choice-value.ensures)) (rw count at c.alternative_has-in-Some-ext.ensures)))

pub type_has-returns-in-None : goal.type_has-returns-in-None
type_has-returns-in-None t c =
    fits_sequences c.args.unknown c.args.ty.now c.args.value.now c.in-Seq.root c.in-Seq.ext c.in-Seq-value.entries c.in-Seq.is c.in-Seq-value.is
    c.deref-in-None.result.now c.deref-in-None-2.result.now c.deref-in-None.ensures.value c.deref-in-None-2.ensures.value c.fields_have.result
    (rw c.in-None.is (fits_closed c.args.unknown (map part_of_field c.deref-in-None.result.now) (map (option_map datum_of) c.deref-in-None-2.result.now) c.fields_have.result c.fields_have.ensures))

pub type_has-returns-then-fields_have : goal.type_has-returns-then-fields_have
type_has-returns-then-fields_have t c =
    let fs = c.deref-in-Some-2.result.now in
    let vs = c.deref-in-Some.result.now in
    let more = c.deref-then-fields_have.result.now in
    let items : more ≡ c.in-Some.additions.items = c.deref-then-fields_have.ensures.value in
    let n : c.min.result ≡ min (length fs) (length vs) = omega (arith, c.min.ensures, c.len-in-Some.ensures, c.len-in-Some-2.ensures, c.deref-in-Some.ensures.len, c.deref-in-Some-2.ensures.len) in
    let both = c.fields_have-then-fields_have.ensures in
    let root_fits = c.if-fields_have.ensures.0 refl in
    fits_sequences c.args.unknown c.args.ty.now c.args.value.now c.in-Seq.root c.in-Seq.ext c.in-Seq-value.entries c.in-Seq.is c.in-Seq-value.is
    fs vs c.deref-in-Some-2.ensures.value c.deref-in-Some.ensures.value c.fields_have-then-fields_have.result
    (rw (c.in-Some.is, ← items) (fits_split c.args.unknown fs more vs c.split_at.result.0.now c.split_at.result.1.now c.min.result c.fields_have-then-fields_have.result n c.split_at.ensures.front c.split_at.ensures.back (λ h. (root_fits, both.0 h), λ p. both.1 p.1)))

pub type_has-returns-else-fields_have : goal.type_has-returns-else-fields_have
type_has-returns-else-fields_have t c =
    let fs = c.deref-in-Some-2.result.now in
    let vs = c.deref-in-Some.result.now in
    let more = c.in-Some.additions.items in
    let n : c.min.result ≡ min (length fs) (length vs) = omega (arith, c.min.ensures, c.len-in-Some.ensures, c.len-in-Some-2.ensures, c.deref-in-Some.ensures.len, c.deref-in-Some-2.ensures.len) in
    let none = c.fields_have-in-Some.ensures in
    fits_sequences c.args.unknown c.args.ty.now c.args.value.now c.in-Seq.root c.in-Seq.ext c.in-Seq-value.entries c.in-Seq.is c.in-Seq-value.is
    fs vs c.deref-in-Some-2.ensures.value c.deref-in-Some.ensures.value c.fields_have-in-Some.result
    (rw c.in-Some.is
    (fits_split c.args.unknown fs more vs c.split_at.result.0.now c.split_at.result.1.now c.min.result c.fields_have-in-Some.result n c.split_at.ensures.front c.split_at.ensures.back
    (λ h. no_truth (rw c.if-fields_have.false at h), λ p. none.1 p.0)))

pub type_has-returns-then-length_fits : goal.type_has-returns-then-length_fits
type_has-returns-then-length_fits t c =
    let same : c.len-in-List.result ≡ length c.deref-then-length_fits-2.result.now = c.len-in-List.ensures ∙ sym c.deref-then-length_fits-2.ensures.len in
    fits_lists c.args.unknown c.args.ty.now c.deref-then-length_fits.result.now c.args.value.now c.in-SeqOf.element c.in-SeqOf.size c.in-List.elements c.in-SeqOf.is c.in-List.is c.deref-then-length_fits.ensures
    c.deref-then-length_fits-2.result.now c.deref-then-length_fits-2.ensures.value (subst (λ n. FitsLength (size_range_of c.in-SeqOf.size) n) same (c.if-length_fits.ensures.0 refl)) c.elements_fit.result c.elements_fit.ensures

pub type_has-returns-else-length_fits : goal.type_has-returns-else-length_fits
type_has-returns-else-length_fits t c = let count : length c.in-List.elements.items ≡ c.len-in-List.result = omega (arith, c.len-in-List.ensures) in (
  λ h. no_truth (rw c.if-length_fits.false at h),
  λ f. absurd (other_elements c.args.unknown c.args.ty.now c.in-SeqOf.element.value c.args.value.now c.in-SeqOf.element c.in-SeqOf.size c.in-List.elements c.in-SeqOf.is c.in-List.is refl (λ few.
      no_truth (rw c.if-length_fits.false at (c.length_fits-in-List.ensures.1 (subst (λ n. FitsLength (size_range_of c.in-SeqOf.size) n) count few)))) f),
)
