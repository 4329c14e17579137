-- The units of a spelling, part by part.
use Rattle.std.proofs.Common.{◌≡◌, ℕ, List, [], ◌∷◌, ◌++◌, length, map, take, drop, refl, sym, ◌∙◌, ap, append_assoc}
use Rattle.std.proofs.lemmas.List.{length-map, drop-map}
use Rattle.asn_bits.specs.Lengths.{Length, lengths, joined, with_lengths, general}
use Rattle.asn_rules.specs.Chunks.{Chunk, one, sealed, ones, field_units, flat}
use Rattle.asn_bits.proofs.GeneralLengths.{take-map}

module _ (sp : List ℕ → List ℕ) where
  -- two lists of chunks
  pub flat-append : (xs ys : List Chunk) → flat sp (xs ++ ys) ≡ flat sp xs ++ flat sp ys
  flat-append [] ys = refl
  flat-append (one u ∷ xs) ys = ap (λ t. u ∷ t) (flat-append xs ys)
  flat-append (sealed k c ∷ xs) ys = ap (λ t. field_units sp k c ++ t) (flat-append xs ys) ∙ sym (append_assoc (field_units sp k c) (flat sp xs) (flat sp ys))

  -- plain units
  pub flat-ones : (us : List ℕ) → flat sp (ones us) ≡ us
  flat-ones [] = refl
  flat-ones (u ∷ us) = ap (λ t. u ∷ t) (flat-ones us)

  -- parts one after the other
  pub flat-joined : (xs : List (List Chunk)) → flat sp (joined xs) ≡ joined (map (flat sp) xs)
  flat-joined [] = refl
  flat-joined (x ∷ xs) = flat-append x (joined xs) ∙ ap (λ t. flat sp x ++ t) (flat-joined xs)

  -- a list as it is
  same_map : (us : List ℕ) → map (λ u. u) us ≡ us
  same_map [] = refl
  same_map (u ∷ us) = ap (λ t. u ∷ t) (same_map us)

  -- items under lengths
  pub flat-with_lengths : (ls : List Length) (items : List (List Chunk)) → flat sp (with_lengths one ls items) ≡ with_lengths (λ u. u) ls (map (flat sp) items)
  flat-with_lengths [] items = refl
  flat-with_lengths (l ∷ ls) items =
      flat-append (map one l.bits) (joined (take l.items items) ++ with_lengths one ls (drop l.items items))
      ∙ cc (
        flat-ones l.bits,
        same_map l.bits,
        flat-append (joined (take l.items items)) (with_lengths one ls (drop l.items items)),
        flat-joined (take l.items items),
        take-map (flat sp) l.items items,
        flat-with_lengths ls (drop l.items items),
        drop-map (flat sp) l.items items,
      )

  -- items under their general length
  pub flat-general : (items : List (List Chunk)) → flat sp (general one items) ≡ general (λ u. u) (map (flat sp) items)
  flat-general items = flat-with_lengths (lengths (length items)) items ∙ ap (λ n. with_lengths (λ u. u) (lengths n) (map (flat sp) items)) (sym (length-map items (flat sp)))
