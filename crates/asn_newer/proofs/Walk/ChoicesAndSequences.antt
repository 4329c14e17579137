-- From the answers for the parts of a SEQUENCE and of a CHOICE to those for the whole, in messages of newer and older
-- senders.
use Rattle.std.proofs.Common.{◌≡◌, ◌≤◌, ◌<◌, ◌+◌, ◌-◌, ◌⊎◌, inl, inr, ℕ, zero, suc, Bool, false, List, [], ◌∷◌, ◌++◌, length, map, get_or, Option, Some, None, is_some, refl, sym, ap, subst, ◌∙◌, append_assoc, arith}
use Rattle.std.proofs.lemmas.List.{append-nil}
use Rattle.asn_values.specs.Datum.{Datum, components, components_of, unknown_alternative}
use Rattle.asn_values.specs.Shape.{Shape, boolean, null, integer, enumerated, bit_string, octet_string, restricted, utf8_string, Label, closed_labels, sequence, choice, Fields, MoreFields, closed, marked, Alternatives, MoreAlternatives, closed_choice, marked_choice, count}
use Rattle.asn_values.specs.Profile.{InProfile, most_alternatives}
use Rattle.asn_values.specs.View.{branch_of, alternatives_of, shape_of, range_of, size_range_of, alphabet_of}
use Rattle.asn_values.specs.declared.types.Alt.{Alt}
use Rattle.asn_values.specs.declared.types.AsnType.{AsnType}
use Rattle.asn_values.specs.declared.types.AsnType as asn_type
use Rattle.asn_values.specs.declared.types.Bounds.{Bounds}
use Rattle.asn_values.specs.declared.types.Size.{Size}
use Rattle.asn_values.specs.declared.types.TextKind.{TextKind}
use Rattle.asn_values.proofs.Views.{shape_of-Bool, shape_of-Null, shape_of-Int, shape_of-Bits, shape_of-Octets, shape_of-Text, shape_of-Utf8}
use Rattle.asn_values.proofs.Alternatives.{shape_of_branch, count-of}
use Rattle.asn_values.proofs.Parts.{components_of_profile}
use Rattle.asn_bits.specs.Numbers.{bits}
use Rattle.asn_rules.specs.Chunks.{Chunk}
use Rattle.asn_rules.specs.Components.{extension_bit}
use Rattle.asn_rules.specs.General.{after_first}
use Rattle.asn_rules.specs.Languages.{Spells, NoSpelling, Then, Map}
use Rattle.asn_rules.specs.Listed.{Spelt, bitmap_length}
use Rattle.asn_rules.specs.Live.{Fielding}
use Rattle.asn_rules.proofs.Languages.Parts.{map_source, map_spells, nothing_spells}
use Rattle.asn_rules.proofs.Languages.Then.{then_none_first}
use Rattle.asn_walk.specs.Coding.{PreambleOf, IndexOf, absent_entries}
use Rattle.asn_newer.specs.declared.path.PathStep.TheVariants as step
use Rattle.asn_newer.specs.Skipped.{SkippedAt, Reading, Entries, Inside, nothing_skipped, sequence_read, alternative_read, alternative_skipped}
use Rattle.asn_newer.specs.Loose.{LooseCoding, AnyBitmap, Known, Unknown, Loose, LooseEach, LooseMore, LooseOpen, LooseRoot, LooseOther, LooseAdded, additions_to_come, alternatives_to_come, by_index}
use Rattle.asn_newer.specs.Walking.{LooseAdditions, ReadingAfter, EntriesAfter, FieldAfter}
use Rattle.asn_newer.specs.Ways.{WayLaws}
use Rattle.asn_newer.proofs.Walk.Following.{taken}
use Rattle.asn_newer.proofs.Walk.Halts.{NoneOn, Onward, on, mapped, second}
use Rattle.asn_newer.proofs.Law.OneReading.{part, each_way, index_way}
use Rattle.asn_newer.proofs.Law.OneWay.{plain_way}

-- ---- SEQUENCE

module _ (l : LooseCoding) (h : WayLaws l) (root : Fields) (more : MoreFields) (good : InProfile (sequence root more)) (us : List ℕ) where
  abbrev R : Fielding
  R = l.coding.ruling.fielding

  whole : Onward R (Then (PreambleOf l.coding (bitmap_length root) (additions_to_come more)) (λ p. Then (LooseEach l 0 root (bits (bitmap_length root) p.1)) (λ _. LooseMore l more p.0))) us (λ p. sequence_read p.1) (Loose l (sequence root more)) us
  whole = mapped R (λ p. sequence_read p.1) (Then (PreambleOf l.coding (bitmap_length root) (additions_to_come more)) (λ p. Then (LooseEach l 0 root (bits (bitmap_length root) p.1)) (λ _. LooseMore l more p.0))) us

  pub preamble_none : NoneOn R (PreambleOf l.coding (bitmap_length root) (additions_to_come more)) us (Loose l (sequence root more)) us
  preamble_none further n = whole.none further (then_none_first n)

  module _ {p : Bool × ℕ} {r : List ℕ} (preamble : Spells R (PreambleOf l.coding (bitmap_length root) (additions_to_come more)) p us r) where
    inside : Onward R (Then (LooseEach l 0 root (bits (bitmap_length root) p.1)) (λ _. LooseMore l more p.0)) r sequence_read (Loose l (sequence root more)) us
    inside = on (second {M = λ p. Then (LooseEach l 0 root (bits (bitmap_length root) p.1)) (λ _. LooseMore l more p.0)} (plain_way (λ p. l.coding.preamble (extension_bit (is_some (additions_to_come more)) p.0 ++ bits (bitmap_length root) p.1)) (part l h) (h.laws.preamble (bitmap_length root) (additions_to_come more))) preamble) whole

    pub root_none : NoneOn R (LooseEach l 0 root (bits (bitmap_length root) p.1)) r (Loose l (sequence root more)) us
    root_none further n = inside.none further (then_none_first n)

    module _ (ss : List SkippedAt) {es : List (Option Datum)} {now : List SkippedAt} {q : List ℕ} (each : Spells R (EntriesAfter [] ss (LooseEach l 0 root (bits (bitmap_length root) p.1))) (es, now) r q) where
      abbrev came : Entries
      came = (map_source each).0

      more_on : Onward R (LooseMore l more p.0) q (λ m. sequence_read (came, m)) (Loose l (sequence root more)) us
      more_on = on (second {M = λ _. LooseMore l more p.0} (each_way l h 0 root (bits (bitmap_length root) p.1) (components_of_profile root more good)) (map_source each).1) inside

      pub more_none : NoneOn R (LooseMore l more p.0) q (Loose l (sequence root more)) us
      more_none = more_on.none

      -- the additions after the root
      pub sequence_done : {all : List (Option Datum)} {end : List SkippedAt} {t : List ℕ} → Spells R (EntriesAfter es now (LooseMore l more p.0)) (all, end) q t → Spells R (ReadingAfter ss (Loose l (sequence root more))) (components (components_of all), end) us t
      sequence_done {all} {end} {t} k =
          let m = map_source k in
          let done = more_on.done m.0 t m.1 in
          let entries : all ≡ came.0 ++ m.0.0 = ap (λ (p : Entries). p.0) m.2 ∙ ap (λ (x : List (Option Datum)). x ++ m.0.0) (ap (λ (p : Entries). p.0) (map_source each).2) in
          let fields : end ≡ ss ++ (came.1 ++ m.0.1) = ap (λ (p : Entries). p.1) m.2 ∙ ap (λ (x : List SkippedAt). x ++ m.0.1) (ap (λ (p : Entries). p.1) (map_source each).2) ∙ append_assoc ss came.1 m.0.1 in
          subst (λ (x : List (Option Datum)). Spells R (ReadingAfter ss (Loose l (sequence root more))) (components (components_of x), end) us t) (sym entries)
          (taken (record { skipped = came.1 ++ m.0.1; same = fields; spelt = done }))

-- without additions
pub no_more : (l : LooseCoding) (es : List (Option Datum)) (now : List SkippedAt) (e : Bool) (us : List ℕ) → Spells l.coding.ruling.fielding (EntriesAfter es now (LooseMore l closed e)) (es, now) us us
no_more l es now e us = subst (λ (p : Entries). Spells l.coding.ruling.fielding (EntriesAfter es now (LooseMore l closed e)) p us us) (λ i. (append-nil es i, append-nil now i)) (map_spells {f = λ (p : Entries). (es ++ p.0, now ++ p.1)} (nothing_spells l.coding.ruling.fielding ([], []) us))

-- where none is present
pub none_present : (l : LooseCoding) (fs : Fields) (es : List (Option Datum)) (now : List SkippedAt) (us : List ℕ) → Spells l.coding.ruling.fielding (EntriesAfter es now (LooseMore l (marked fs) false)) (es ++ absent_entries fs, now) us us
none_present l fs es now us = subst (λ (s : List SkippedAt). Spells l.coding.ruling.fielding (EntriesAfter es now (LooseMore l (marked fs) false)) (es ++ absent_entries fs, s) us us) (append-nil now) (map_spells {f = λ (p : Entries). (es ++ p.0, now ++ p.1)} (nothing_spells l.coding.ruling.fielding (absent_entries fs, []) us))

-- the presence bits, and what stands after them
module _ (l : LooseCoding) (h : WayLaws l) (fs : Fields) (us : List ℕ) where
  bitmap_on : Onward l.coding.ruling.fielding (Then (AnyBitmap l.coding) (λ p. LooseOpen l 0 fs (bits p.0 p.1))) us after_first (LooseAdditions l fs) us
  bitmap_on = mapped l.coding.ruling.fielding after_first (Then (AnyBitmap l.coding) (λ p. LooseOpen l 0 fs (bits p.0 p.1))) us

  pub bitmap_none : NoneOn l.coding.ruling.fielding (AnyBitmap l.coding) us (LooseAdditions l fs) us
  bitmap_none further n = bitmap_on.none further (then_none_first n)

  module _ {p : ℕ × ℕ} {r : List ℕ} (bitmap : Spells l.coding.ruling.fielding (AnyBitmap l.coding) p us r) where
    pub open_on : Onward l.coding.ruling.fielding (LooseOpen l 0 fs (bits p.0 p.1)) r (λ (e : Entries). e) (LooseAdditions l fs) us
    open_on = on (second {M = λ p. LooseOpen l 0 fs (bits p.0 p.1)} h.bitmap bitmap) bitmap_on

    pub additions_done : (es : List (Option Datum)) (ss : List SkippedAt) {all : Entries} {q : List ℕ} → Spells l.coding.ruling.fielding (EntriesAfter es ss (LooseOpen l 0 fs (bits p.0 p.1))) all r q → Spells l.coding.ruling.fielding (EntriesAfter es ss (LooseAdditions l fs)) all us q
    additions_done es ss {all} {q} k =
        let m = map_source k in
        subst (λ (a : Entries). Spells l.coding.ruling.fielding (EntriesAfter es ss (LooseAdditions l fs)) a us q) (sym m.2) (map_spells {f = λ (p : Entries). (es ++ p.0, ss ++ p.1)} (open_on.done m.0 q m.1))

-- ---- CHOICE

module _ (l : LooseCoding) (h : WayLaws l) (root : Alternatives) (more : MoreAlternatives) (good : InProfile (choice root more)) (us : List ℕ) where
  choice_on : Onward l.coding.ruling.fielding (Then (IndexOf l.coding (count root) (alternatives_to_come root more)) (by_index (λ i. LooseRoot l i root i) (λ i. LooseOther l (count root) more i))) us after_first (Loose l (choice root more)) us
  choice_on = mapped l.coding.ruling.fielding after_first (Then (IndexOf l.coding (count root) (alternatives_to_come root more)) (by_index (λ i. LooseRoot l i root i) (λ i. LooseOther l (count root) more i))) us

  pub index_none : NoneOn l.coding.ruling.fielding (IndexOf l.coding (count root) (alternatives_to_come root more)) us (Loose l (choice root more)) us
  index_none further n = choice_on.none further (then_none_first n)

  -- after an index
  pub after_index : {i : ℕ ⊎ ℕ} {r : List ℕ} → Spells l.coding.ruling.fielding (IndexOf l.coding (count root) (alternatives_to_come root more)) i us r
      → Onward l.coding.ruling.fielding (by_index (λ i. LooseRoot l i root i) (λ i. LooseOther l (count root) more i) i) r (λ (a : Reading). a) (Loose l (choice root more)) us
  after_index k = on (second {M = by_index (λ i. LooseRoot l i root i) (λ i. LooseOther l (count root) more i)} (index_way l h root more good) k) choice_on

-- the same, of alternatives that the program holds
module _ (l : LooseCoding) (h : WayLaws l) (root : List Alt) (good : InProfile (choice (alternatives_of (map branch_of root)) closed_choice)) (us : List ℕ) where
  pub closed_none : NoneOn l.coding.ruling.fielding (IndexOf l.coding (length root) None) us (Loose l (choice (alternatives_of (map branch_of root)) closed_choice)) us
  closed_none further n = index_none l h (alternatives_of (map branch_of root)) closed_choice good us further (subst (λ (k : ℕ). NoSpelling l.coding.ruling.fielding (IndexOf l.coding k None) (us ++ further)) (sym (count-of root)) n)

  pub closed_on : {i : ℕ} {r : List ℕ} → Spells l.coding.ruling.fielding (IndexOf l.coding (length root) None) (inl i) us r
      → Onward l.coding.ruling.fielding (LooseRoot l i (alternatives_of (map branch_of root)) i) r (λ (a : Reading). a) (Loose l (choice (alternatives_of (map branch_of root)) closed_choice)) us
  closed_on {i} {r} k = after_index l h (alternatives_of (map branch_of root)) closed_choice good us {i = inl i} (subst (λ (n : ℕ). Spells l.coding.ruling.fielding (IndexOf l.coding n None) (inl i) us r) (sym (count-of root)) k)

module _ (l : LooseCoding) (h : WayLaws l) (root more : List Alt) (good : InProfile (choice (alternatives_of (map branch_of root)) (marked_choice (alternatives_of (map branch_of more))))) (us : List ℕ) where
  pub marked_none : NoneOn l.coding.ruling.fielding (IndexOf l.coding (length root) (Some (most_alternatives - length root))) us (Loose l (choice (alternatives_of (map branch_of root)) (marked_choice (alternatives_of (map branch_of more))))) us
  marked_none further n = index_none l h (alternatives_of (map branch_of root)) (marked_choice (alternatives_of (map branch_of more))) good us further
      (subst (λ (k : ℕ). NoSpelling l.coding.ruling.fielding (IndexOf l.coding k (Some (most_alternatives - k))) (us ++ further)) (sym (count-of root)) n)

  after : {i : ℕ ⊎ ℕ} {r : List ℕ} → Spells l.coding.ruling.fielding (IndexOf l.coding (length root) (Some (most_alternatives - length root))) i us r
      → Spells l.coding.ruling.fielding (IndexOf l.coding (count (alternatives_of (map branch_of root))) (Some (most_alternatives - count (alternatives_of (map branch_of root))))) i us r
  after {i} {r} k = subst (λ (n : ℕ). Spells l.coding.ruling.fielding (IndexOf l.coding n (Some (most_alternatives - n))) i us r) (sym (count-of root)) k

  pub marked_root_on : {i : ℕ} {r : List ℕ} → Spells l.coding.ruling.fielding (IndexOf l.coding (length root) (Some (most_alternatives - length root))) (inl i) us r
      → Onward l.coding.ruling.fielding (LooseRoot l i (alternatives_of (map branch_of root)) i) r (λ (a : Reading). a) (Loose l (choice (alternatives_of (map branch_of root)) (marked_choice (alternatives_of (map branch_of more))))) us
  marked_root_on {i} k = after_index l h (alternatives_of (map branch_of root)) (marked_choice (alternatives_of (map branch_of more))) good us {i = inl i} (after k)

  pub marked_added_on : {i : ℕ} {r : List ℕ} → Spells l.coding.ruling.fielding (IndexOf l.coding (length root) (Some (most_alternatives - length root))) (inr i) us r
      → Onward l.coding.ruling.fielding (LooseAdded l (length root + i) i (alternatives_of (map branch_of more)) i) r (λ (a : Reading). a) (Loose l (choice (alternatives_of (map branch_of root)) (marked_choice (alternatives_of (map branch_of more))))) us
  marked_added_on {i} {r} k = subst (λ (n : ℕ). Onward l.coding.ruling.fielding (LooseAdded l (n + i) i (alternatives_of (map branch_of more)) i) r (λ (a : Reading). a) (Loose l (choice (alternatives_of (map branch_of root)) (marked_choice (alternatives_of (map branch_of more))))) us) (count-of root)
      (after_index l h (alternatives_of (map branch_of root)) (marked_choice (alternatives_of (map branch_of more))) good us {i = inr i} (after k))

-- the alternative at an index of the root
pub root_at : (l : LooseCoding) (tag : ℕ) (alts : List Alt) (i : ℕ) (d : Alt) (us : List ℕ) → i < length alts → Onward l.coding.ruling.fielding (Inside (step.Alternative tag) (Loose l (shape_of (get_or alts i d).ty))) us (alternative_read tag) (LooseRoot l tag (alternatives_of (map branch_of alts)) i) us
root_at l tag [] i d us e = absurd (omega arith)
root_at l tag (a ∷ alts) zero d us e = rw (shape_of_branch a) (mapped l.coding.ruling.fielding (alternative_read tag) (Inside (step.Alternative tag) (Loose l (shape_of a.ty))) us)
root_at l tag (a ∷ alts) (suc i) d us e = root_at l tag alts i d us (omega arith)

-- that at an index of the additions
pub added_at : (l : LooseCoding) (tag place : ℕ) (alts : List Alt) (i : ℕ) (d : Alt) (us : List ℕ) → i < length alts → Onward l.coding.ruling.fielding (Inside (step.Alternative tag) (Known l.coding (Loose l (shape_of (get_or alts i d).ty)))) us (alternative_read tag) (LooseAdded l tag place (alternatives_of (map branch_of alts)) i) us
added_at l tag place [] i d us e = absurd (omega arith)
added_at l tag place (a ∷ alts) zero d us e = rw (shape_of_branch a) (mapped l.coding.ruling.fielding (alternative_read tag) (Inside (step.Alternative tag) (Known l.coding (Loose l (shape_of a.ty)))) us)
added_at l tag place (a ∷ alts) (suc i) d us e = added_at l tag place alts i d us (omega arith)

-- one that the type has not
pub unknown_at : (l : LooseCoding) (tag place : ℕ) (alts : List Alt) (i : ℕ) (us : List ℕ) → length alts ≤ i → Onward l.coding.ruling.fielding (Unknown l.coding place) us (alternative_skipped tag) (LooseAdded l tag place (alternatives_of (map branch_of alts)) i) us
unknown_at l tag place [] i us e = mapped l.coding.ruling.fielding (alternative_skipped tag) (Unknown l.coding place) us
unknown_at l tag place (a ∷ alts) zero us e = absurd (omega arith)
unknown_at l tag place (a ∷ alts) (suc i) us e = unknown_at l tag place alts i us (omega arith)

-- it was skipped
pub alternative_missed : (l : LooseCoding) (tag place : ℕ) (alts : List Alt) (i : ℕ) {us r : List ℕ} (ss : List SkippedAt) {now : List SkippedAt} → length alts ≤ i → Spells l.coding.ruling.fielding (FieldAfter ss (Unknown l.coding place)) now us r
    → Spells l.coding.ruling.fielding (ReadingAfter ss (LooseAdded l tag place (alternatives_of (map branch_of alts)) i)) (unknown_alternative tag, now) us r
alternative_missed l tag place alts i {us} {r} ss {now} e k =
    let m = map_source k in
    taken (record { skipped = m.0 ∷ []; same = m.2; spelt = (unknown_at l tag place alts i us e).done m.0 r m.1 })

-- ---- types that the rules read by themselves

module _ (l : LooseCoding) (us : List ℕ) where
  own : (t : Shape) → Loose l t ≡ Map nothing_skipped (Spelt l.coding.code None t) → Onward l.coding.ruling.fielding (Spelt l.coding.code None t) us nothing_skipped (Loose l t) us
  own t e = subst (λ (L : Reading → List Chunk → Type 0). Onward l.coding.ruling.fielding (Spelt l.coding.code None t) us nothing_skipped L us) (sym e) (mapped l.coding.ruling.fielding nothing_skipped (Spelt l.coding.code None t) us)

  pub closed_enum_on : (root : List Label) → Onward l.coding.ruling.fielding (Spelt l.coding.code None (enumerated root closed_labels)) us nothing_skipped (Loose l (enumerated root closed_labels)) us
  closed_enum_on root = mapped l.coding.ruling.fielding nothing_skipped (Spelt l.coding.code None (enumerated root closed_labels)) us

  pub plain_on : (t : AsnType) → (t ≡ asn_type.Bool) ⊎ (t ≡ asn_type.Null) ⊎ ((b : Bounds) × (t ≡ asn_type.Int b)) ⊎ ((s : Size) × (t ≡ asn_type.Bits s)) ⊎ ((s : Size) × (t ≡ asn_type.Octets s)) ⊎ ((k : TextKind) × (s : Size) × (t ≡ asn_type.Text k s)) ⊎ (t ≡ asn_type.Utf8)
      → Onward l.coding.ruling.fielding (Spelt l.coding.code None (shape_of t)) us nothing_skipped (Loose l (shape_of t)) us
  plain_on t (inl e) = rw (e, shape_of-Bool) (own boolean refl)
  plain_on t (inr (inl e)) = rw (e, shape_of-Null) (own null refl)
  plain_on t (inr (inr (inl (b, e)))) = rw (e, shape_of-Int) (own (integer (range_of b)) refl)
  plain_on t (inr (inr (inr (inl (s, e))))) = rw (e, shape_of-Bits) (own (bit_string (size_range_of s)) refl)
  plain_on t (inr (inr (inr (inr (inl (s, e)))))) = rw (e, shape_of-Octets) (own (octet_string (size_range_of s)) refl)
  plain_on t (inr (inr (inr (inr (inr (inl (k, s, e))))))) = rw (e, shape_of-Text) (own (restricted (alphabet_of k) (size_range_of s)) refl)
  plain_on t (inr (inr (inr (inr (inr (inr e)))))) = rw (e, shape_of-Utf8) (own utf8_string refl)
