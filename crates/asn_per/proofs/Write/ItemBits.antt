-- The bits of an item, as a writer puts them.
use Rattle.std.proofs.Common.{◌≡◌, ◌≤◌, ◌<◌, ◌-◌, inl, inr, ℕ, List, ◌∷◌, Bool, true, map, length, Option, Some, None, refl, ap, ◌∙◌, arith}
use Rattle.std.proofs.lemmas.Bool.{lt-ltb, le-ltb}
use Rattle.std.proofs.lemmas.List.{length-map}
use Rattle.std.specs.Global.{Vec}
use Rattle.asn_values.specs.declared.types.Item.{Item}
use Rattle.asn_values.specs.Datum.{item}
use Rattle.asn_values.specs.Shape.{Label, MoreLabels, closed_labels, marked_labels, has_more_labels, enumerated}
use Rattle.asn_values.specs.Fits.{Fits}
use Rattle.asn_values.specs.Profile.{InProfile, most_items}
use Rattle.asn_values.specs.View.{label_of, more_labels_of}
use Rattle.asn_rules.specs.Chunks.{ones, flat}
use Rattle.asn_rules.specs.Components.{number_at}
use Rattle.asn_rules.proofs.Live.Flat.{flat-ones}
use Rattle.asn_per.specs.Indexes.{index_bits}
use Rattle.asn_per.specs.Per.{spelled, constrained, small, rank, after_mark}
use Rattle.asn_per.specs.Laws.{per_bits}
use Rattle.asn_per.proofs.Types.EnumeratedLanguages.{few_additions}

-- an item of the root has the bits of its index
pub bits_of_root_item : (root : List Label) (more : MoreLabels) (p : ℕ) → p < length root
    → per_bits (enumerated root more) (item p) ≡ index_bits (length root) (has_more_labels more) (inl (rank root (number_at root p)))
bits_of_root_item root closed_labels p h = flat-ones spelled (constrained (length root) (rank root (number_at root p)))
bits_of_root_item root (marked_labels ls) p h =
    ap (λ (b : Bool). flat spelled (ones (after_mark (λ u. u) true b (constrained (length root) (rank root (number_at root p))) (small (p - length root))))) (lt-ltb p (length root) h)
    ∙ flat-ones spelled (0 ∷ constrained (length root) (rank root (number_at root p)))

-- and so has an addition
pub bits_of_addition : (root : List Label) (more : MoreLabels) (p : ℕ) → length root ≤ p → has_more_labels more ≡ true
    → per_bits (enumerated root more) (item p) ≡ index_bits (length root) (has_more_labels more) (inr (p - length root))
bits_of_addition root closed_labels p h e = absurd (cc)
bits_of_addition root (marked_labels ls) p h e =
    ap (λ (b : Bool). flat spelled (ones (after_mark (λ u. u) true b (constrained (length root) (rank root (number_at root p))) (small (p - length root))))) (le-ltb p (length root) h)
    ∙ flat-ones spelled (1 ∷ small (p - length root))

-- an index after the root is that of one of the additions, of which there are few, and there is a mark
pub addition_there : (root : List Item) (more : Option (Vec Item)) (p : ℕ) → InProfile (enumerated (map label_of root) (more_labels_of more)) → Fits (enumerated (map label_of root) (more_labels_of more)) (item p) → length root ≤ p
    → (p - length root < most_items) × (has_more_labels (more_labels_of more) ≡ true)
addition_there root None p good fits h = let e : length (map label_of root) ≡ length root = simp length-map in absurd (omega (arith, e, fits))
addition_there root (Some v) p good fits h =
    let e : length (map label_of root) ≡ length root = simp length-map in
    let few = few_additions (map label_of root) (more_labels_of (Some v)) good in
    (omega (arith, e, fits, few), refl)
