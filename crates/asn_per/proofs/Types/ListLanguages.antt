-- SEQUENCE OF in PER is put together from its elements.
use Rattle.std.proofs.Common.{◌≡◌, Some, List, [], ◌∷◌, map, refl, sym, ap, subst}
use Rattle.asn_values.specs.Datum.{Datum, Elements, no_elements, element, elements, element_list, elements_of}
use Rattle.asn_values.specs.Shape.{Shape, SizeRange, sequence_of}
use Rattle.asn_values.specs.Fits.{Fits}
use Rattle.asn_values.specs.Profile.{InProfile, EmptyRange, SizeTooLarge, size_above, large_size, somewhere, empty_range, size_too_large}
use Rattle.asn_values.proofs.Parts.{left_false}
use Rattle.asn_values.proofs.InnerTypes.{element_of_profile}
use Rattle.asn_rules.specs.Languages.{Lawful}
use Rattle.asn_rules.specs.Forks.{Same}
use Rattle.asn_rules.proofs.Languages.Spellings.{same_after, same_map, map_spelled, spelled_lawful}
use Rattle.asn_per.specs.Per.{per, sized}
use Rattle.asn_per.specs.Kinds.{Values, ListsOf}
use Rattle.asn_per.proofs.Types.SizedLists.{FitSize, sized_spelled}
use Rattle.asn_per.proofs.Encodings.Whole.{per_parts}

-- the spellings of two values of a type are one or part
pub values_lawful : (t : Shape) → InProfile t → Lawful (Values t)
values_lawful t good = spelled_lawful (λ v w a b. per_parts t v w good a b)

-- elements of a list are that list
list_of_elements : (ds : List Datum) → element_list (elements_of ds) ≡ ds
list_of_elements [] = refl
list_of_elements (d ∷ ds) = ap (λ l. d ∷ l) (list_of_elements ds)

-- and the list gives the elements back
elements_of_list : (es : Elements) → elements_of (element_list es) ≡ es
elements_of_list no_elements = refl
elements_of_list (element d es) = ap (element d) (elements_of_list es)

-- SEQUENCE OF
pub lists_compose : (t : Shape) (s : SizeRange) → InProfile (sequence_of t s) → Same (ListsOf t s) (Values (sequence_of t s))
lists_compose t s good =
    same_after (same_map (sized_spelled (Fits t) (per t) (values_lawful t (element_of_profile t s good)) s (record { ordered = left_false (size_above s) (somewhere empty_range t) (good EmptyRange); small = left_false (large_size (Some s)) (somewhere size_too_large t) (good SizeTooLarge) }))) (map_spelled there back)
  where
    there : (ds : List Datum) → FitSize (Fits t) (per t) s ds → Fits (sequence_of t s) (elements (elements_of ds)) × (sized s (map (per t) ds) ≡ per (sequence_of t s) (elements (elements_of ds)))
    there ds h = (subst (λ (l : List Datum). FitSize (Fits t) (per t) s l) (sym (list_of_elements ds)) h, ap (λ (l : List Datum). sized s (map (per t) l)) (sym (list_of_elements ds)))

    back : (v : Datum) → Fits (sequence_of t s) v → (ds : List Datum) × FitSize (Fits t) (per t) s ds × (v ≡ elements (elements_of ds))
    back (elements es) h = (element_list es, h, ap elements (sym (elements_of_list es)))
    back _ h = absurd h
