-- A type of the profile as it is printed: it stands for the type again, fits the grammar, and each token has a text.
use Rattle.std.proofs.Common.{◌≡◌, ◌<◌, ◌≤◌, ℕ, zero, suc, Bool, true, false, List, [], ◌∷◌, ◌++◌, Option, Some, None, refl, arith}
use Rattle.std.specs.Prelude.{◌||◌, ◌==◌}
use Rattle.std.specs.List.{list_all}
use Rattle.asn_values.specs.Shape as s
use Rattle.asn_values.specs.Shape.{Shape, Range, SizeRange, Demand, Fields, MoreFields, Alternatives, MoreAlternatives, field_names, more_fields, alternative_names, more_alternatives, count}
use Rattle.asn_values.specs.Measures.{depth, fields_depth, more_depth, choice_depth, more_choice_depth}
use Rattle.asn_values.specs.Profile.{InProfile, EmptyRange, SizeTooLarge, DuplicateName, BadEnumeration, TooMany, somewhere, some_field, some_addition, some_alternative, some_more, low_above_high, is_outside, size_too_large, duplicate_name, too_many_here, empty_range, is_identifier}
use Rattle.asn_values.specs.Parts.{AreOfProfile, AreAllOfProfile}
use Rattle.asn_values.proofs.Parts.{left_false, right_false, components_of_profile}
use Rattle.asn_values.proofs.InnerTypes.{element_of_profile, additions_of_profile, root_alternatives_of_profile, added_alternatives_of_profile}
use Rattle.asn_notation.specs.declared.notation.StringKind.TheVariants as string_kind
use Rattle.asn_notation.specs.declared.token.Word.TheVariants as reserved
use Rattle.asn_notation.specs.Token.{Token, identifier, word}
use Rattle.asn_notation.specs.Tree as t
use Rattle.asn_notation.specs.Tree.{Tree, Components, More}
use Rattle.asn_notation.specs.Grammar as g
use Rattle.asn_notation.specs.Grammar.{written}
use Rattle.asn_notation.specs.Fitting.{IsTree, AreComponents, AreMore, AreAlternatives, AreMoreAlternatives, HasAlternative}
use Rattle.asn_module.specs.Meaning.{Meant, meant, fields_meant, more_meant, alternatives_meant, more_alternatives_meant}
use Rattle.asn_module.specs.Printing.{type_printed, components_printed, additions_printed, alternatives_printed, more_alternatives_printed, need_printed, size_printed, items_printed, more_items_printed, kind_printed, bracketed}
use Rattle.asn_module.proofs.PrintedBounds.{AreWords, Means, words_append, integer_means, range_fits, range_words, text_means, size_fits, size_words, sequence_of_means, list_size_fits, list_size_words, kind_again}
use Rattle.asn_module.proofs.PrintedNames.{identifier_words, are_identifiers, first_name, enumerated_means, enumerated_fits, enumerated_words, need_again}

depth_some : (shape : Shape) → 0 < depth shape
depth_some (s.sequence root more) = omega arith
depth_some (s.sequence_of element b) = omega arith
depth_some (s.choice root more) = omega arith
depth_some s.boolean = omega arith
depth_some s.null = omega arith
depth_some (s.integer b) = omega arith
depth_some (s.enumerated root more) = omega arith
depth_some (s.bit_string b) = omega arith
depth_some (s.octet_string b) = omega arith
depth_some (s.restricted k b) = omega arith
depth_some s.utf8_string = omega arith

-- what holds nowhere in a type does not hold of it
not_here : (test : Shape → Bool) (shape : Shape) → somewhere test shape ≡ false → test shape ≡ false
not_here test (s.sequence root more) e = left_false (test (s.sequence root more)) (some_field test root || some_addition test more) e
not_here test (s.sequence_of element b) e = left_false (test (s.sequence_of element b)) (somewhere test element) e
not_here test (s.choice root more) e = left_false (test (s.choice root more)) (some_alternative test root || some_more test more) e
not_here test s.boolean e = e
not_here test s.null e = e
not_here test (s.integer b) e = e
not_here test (s.enumerated root more) e = e
not_here test (s.bit_string b) e = e
not_here test (s.octet_string b) e = e
not_here test (s.restricted k b) e = e
not_here test s.utf8_string e = e

few_here : (shape : Shape) → InProfile shape → too_many_here shape ≡ false
few_here shape p = not_here too_many_here shape (left_false (somewhere too_many_here shape) _ (p TooMany))

-- what is printed of a type, of at most n levels
pub record TypeAgain (look : List ℕ → Option Meant) (shape : Shape) (n : ℕ) : Type 0 where
  pub fits : IsTree (type_printed shape) n
  pub words : AreWords (g.written (type_printed shape))
  pub means : Means look (type_printed shape) shape

record FieldsAgain (look : List ℕ → Option Meant) (fs : Fields) (n : ℕ) : Type 0 where
  fits : AreComponents (components_printed fs) n
  first : AreWords (g.components (components_printed fs))
  others : AreWords (g.following_components (components_printed fs))
  means : fields_meant look (components_printed fs) ≡ Some fs

record MoreAgain (look : List ℕ → Option Meant) (more : MoreFields) (n : ℕ) : Type 0 where
  fits : AreMore (additions_printed more) n
  words : AreWords (g.extension (additions_printed more))
  means : more_meant look (additions_printed more) ≡ Some more

record AlternativesAgain (look : List ℕ → Option Meant) (alts : Alternatives) (n : ℕ) : Type 0 where
  fits : AreAlternatives (alternatives_printed alts) n
  first : AreWords (g.alternatives (alternatives_printed alts))
  others : AreWords (g.following_alternatives (alternatives_printed alts))
  means : alternatives_meant look (alternatives_printed alts) ≡ Some alts

record MoreChoiceAgain (look : List ℕ → Option Meant) (more : MoreAlternatives) (n : ℕ) : Type 0 where
  fits : AreMoreAlternatives (more_alternatives_printed more) n
  words : AreWords (g.more_alternatives (more_alternatives_printed more))
  means : more_alternatives_meant look (more_alternatives_printed more) ≡ Some more

separator_words : (cs : Components) (more : More) → AreWords (g.separator cs more)
separator_words t.no_components more = tt
separator_words (t.component n ty nd cs) t.closed = tt
separator_words (t.component n ty nd cs) (t.marked more) = (tt, tt)

some_alternative_printed : (root : Alternatives) → (count root == 0) ≡ false → HasAlternative (alternatives_printed root)
some_alternative_printed s.no_alternatives e = absurd cc
some_alternative_printed (s.one_of name shape alts) e = tt

field_words : (name : List ℕ) (tree : Tree) (need : t.Need) (rest : List Token) → is_identifier name ≡ true → AreWords (g.written tree) → AreWords (g.need need) → AreWords rest
    → AreWords ((identifier name ∷ g.written tree ++ g.need need) ++ rest)
field_words name tree need rest e ty nd others =
    words_append (identifier name ∷ g.written tree ++ g.need need) rest (identifier_words name e, words_append (g.written tree) (g.need need) ty nd) others

string_words : (k : s.Alphabet) → AreWords (g.string_words (kind_printed k))
string_words s.ia5 = (tt, tt)
string_words s.numeric = (tt, tt)
string_words s.visible = (tt, tt)

module _ (look : List ℕ → Option Meant) where
  mutual
    unfolding meant written IsTree

    pub type_again : (shape : Shape) (n : ℕ) → depth shape ≤ n → InProfile shape → TypeAgain look shape n
    type_again shape zero d p = absurd (omega (arith, depth_some shape))
    type_again s.boolean (suc n) d p = record { fits = tt; words = (tt, tt); means = record { constraint = None; is = refl } }
    type_again s.null (suc n) d p = record { fits = tt; words = (tt, tt); means = record { constraint = None; is = refl } }
    type_again s.utf8_string (suc n) d p = record { fits = tt; words = (tt, tt); means = record { constraint = None; is = refl } }
    type_again (s.integer b) (suc n) d p =
        let inside = right_false (low_above_high b.low b.high) (is_outside b.low || is_outside b.high) (p EmptyRange) in
        record { fits = range_fits b inside; words = (tt, range_words b inside); means = integer_means look b }
    type_again (s.enumerated root more) (suc n) d p =
        let items = enumerated_words root more (p EmptyRange) (p DuplicateName) (p BadEnumeration) in
        record {
          fits = enumerated_fits root more (p EmptyRange) (p DuplicateName) (p BadEnumeration);
          words = (tt, (tt, words_append (g.with_commas g.item (items_printed root) ++ g.additions g.item (more_items_printed more)) (g.close_brace ∷ []) items (tt, tt)));
          means = enumerated_means root more (p EmptyRange) (p DuplicateName) (p BadEnumeration) look;
        }
    type_again (s.bit_string b) (suc n) d p =
        record { fits = size_fits b (p SizeTooLarge); words = (tt, (tt, size_words b (p SizeTooLarge))); means = text_means look string_kind.Bits b (p SizeTooLarge) }
    type_again (s.octet_string b) (suc n) d p =
        record { fits = size_fits b (p SizeTooLarge); words = (tt, (tt, size_words b (p SizeTooLarge))); means = text_means look string_kind.Octets b (p SizeTooLarge) }
    type_again (s.restricted k b) (suc n) d p = record {
      fits = size_fits b (p SizeTooLarge);
      words = words_append (g.string_words (kind_printed k)) (g.maybe g.size_con (size_printed b)) (string_words k) (size_words b (p SizeTooLarge));
      means = rw (kind_again k b) at (text_means look (kind_printed k) b (p SizeTooLarge));
    }
    type_again (s.sequence_of element b) (suc n) d p =
        let h = type_again element n (omega arith) (element_of_profile element b p) in
        let large = not_here size_too_large (s.sequence_of element b) (p SizeTooLarge) in
        record {
          fits = (list_size_fits b large, h.fits);
          words = (tt, words_append (g.list_sized (bracketed (size_printed b))) (word reserved.Of ∷ g.written (type_printed element)) (list_size_words b large) (tt, h.words));
          means = sequence_of_means look b (type_printed element) element large h.means;
        }
    type_again (s.sequence root more) (suc n) d p =
        let (names, more_names) = are_identifiers (field_names root) (field_names (more_fields more)) (not_here duplicate_name (s.sequence root more) (p DuplicateName)) in
        let h = fields_again root n (omega arith) (components_of_profile root more p) names in
        let m = more_again root more n (omega arith) p more_names in
        let cs = components_printed root in
        let front = words_append (g.components cs) (g.separator cs (additions_printed more)) h.first (separator_words cs (additions_printed more)) in
        let inner = words_append (g.components cs ++ g.separator cs (additions_printed more)) (g.extension (additions_printed more)) front m.words in
        record {
          fits = (h.fits, m.fits);
          words = (tt, (tt, words_append ((g.components cs ++ g.separator cs (additions_printed more)) ++ g.extension (additions_printed more)) (g.close_brace ∷ []) inner (tt, tt)));
          means = record { constraint = None; is = rw (h.means, m.means) refl };
        }
    type_again (s.choice root more) (suc n) d p =
        let (names, more_names) = are_identifiers (alternative_names root) (alternative_names (more_alternatives more)) (not_here duplicate_name (s.choice root more) (p DuplicateName)) in
        let h = alternatives_again root n (omega arith) (root_alternatives_of_profile root more p) names in
        let m = more_choice_again root more n (omega arith) p more_names in
        let inner = words_append (g.alternatives (alternatives_printed root)) (g.more_alternatives (more_alternatives_printed more)) h.first m.words in
        record {
          fits = (some_alternative_printed root (not_here empty_range (s.choice root more) (p EmptyRange)), h.fits, m.fits);
          words = (tt, (tt, words_append (g.alternatives (alternatives_printed root) ++ g.more_alternatives (more_alternatives_printed more)) (g.close_brace ∷ []) inner (tt, tt)));
          means = record { constraint = None; is = rw (h.means, m.means) refl };
        }

    fields_again : (fs : Fields) (n : ℕ) → fields_depth fs ≤ n → AreOfProfile fs → list_all is_identifier (field_names fs) ≡ true → FieldsAgain look fs n
    fields_again s.no_fields n d p names = record { fits = tt; first = tt; others = tt; means = refl }
    fields_again (s.field name demand shape fs) n d p names =
        let (here, others) = first_name name (field_names fs) names in
        let h = type_again shape n (omega arith) p.0 in
        let rest = fields_again fs n (omega arith) p.2 others in
        let nd = need_again shape demand (not_here duplicate_name shape (p.0 DuplicateName)) (few_here shape p.0) p.1 in
        let words = field_words name (type_printed shape) (need_printed shape demand) (g.following_components (components_printed fs)) here h.words nd.words rest.others in
        record {
          fits = (h.fits, nd.fits, rest.fits);
          first = words;
          others = (tt, words);
          means = rw (h.means.is, rest.means, nd.means) refl;
        }

    more_again : (root : Fields) (more : MoreFields) (n : ℕ) → more_depth more ≤ n → InProfile (s.sequence root more) → list_all is_identifier (field_names (more_fields more)) ≡ true → MoreAgain look more n
    more_again root s.closed n d p names = record { fits = tt; words = tt; means = refl }
    more_again root (s.marked fs) n d p names =
        let h = fields_again fs n d (additions_of_profile root fs p) names in
        record { fits = h.fits; words = (tt, h.others); means = rw h.means refl }

    alternatives_again : (alts : Alternatives) (n : ℕ) → choice_depth alts ≤ n → AreAllOfProfile alts → list_all is_identifier (alternative_names alts) ≡ true → AlternativesAgain look alts n
    alternatives_again s.no_alternatives n d p names = record { fits = tt; first = tt; others = tt; means = refl }
    alternatives_again (s.one_of name shape alts) n d p names =
        let (here, others) = first_name name (alternative_names alts) names in
        let h = type_again shape n (omega arith) p.0 in
        let rest = alternatives_again alts n (omega arith) p.1 others in
        let words = words_append (identifier name ∷ g.written (type_printed shape)) (g.following_alternatives (alternatives_printed alts)) (identifier_words name here, h.words) rest.others in
        record {
          fits = (h.fits, rest.fits);
          first = words;
          others = (tt, words);
          means = rw (h.means.is, rest.means) refl;
        }

    more_choice_again : (root : Alternatives) (more : MoreAlternatives) (n : ℕ) → more_choice_depth more ≤ n → InProfile (s.choice root more) → list_all is_identifier (alternative_names (more_alternatives more)) ≡ true → MoreChoiceAgain look more n
    more_choice_again root s.closed_choice n d p names = record { fits = tt; words = tt; means = refl }
    more_choice_again root (s.marked_choice alts) n d p names =
        let h = alternatives_again alts n d (added_alternatives_of_profile root alts p) names in
        record { fits = h.fits; words = (tt, (tt, h.others)); means = rw h.means refl }
