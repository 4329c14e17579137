-- The octets of open type fields and the items of strings keep their laws.
use Rattle.std.proofs.Common.{◌≤◌, ◌<◌, ℕ, List, ◌++◌, refl, sym, ap, ◌∙◌, subst, arith}
use Rattle.asn_values.specs.Shape.{SizeRange, Alphabet, ia5, numeric, visible}
use Rattle.asn_bits.proofs.Unions.{set_meets}
use Rattle.asn_rules.specs.Chunks.{Chunk}
use Rattle.asn_rules.specs.Fields.{Octet}
use Rattle.asn_rules.specs.Forks.{Same}
use Rattle.asn_rules.specs.General.{after_first}
use Rattle.asn_rules.specs.Languages.{Lawful, Inhabited, Then, Map}
use Rattle.asn_rules.proofs.Languages.Parts.{map_lawful}
use Rattle.asn_rules.proofs.Languages.Spellings.{same_after}
use Rattle.asn_rules.proofs.Numbers.Sets.{set_lawful, set_inhabited}
use Rattle.asn_rules.proofs.Sealed.Fields.{octet_lawful}
use Rattle.asn_per.specs.Kinds.{Sized, Character}
use Rattle.asn_per.specs.ListsAhead.{Start}
use Rattle.asn_per.specs.Rules.{per_ruling}
use Rattle.asn_per.specs.Walk.{per_coding}
use Rattle.asn_per.proofs.Read.ListsAhead.{start_lawful, start_some, sized_ahead}
use Rattle.asn_per.proofs.Read.OpenFieldReading.{some_octets}
use Rattle.asn_per.proofs.Read.StringRows.{character_inhabited}
use Rattle.asn_per.proofs.Types.StringLanguages.{character_lawful}
use Rattle.asn_walk.specs.Ahead.{Ahead, Remaining, SomeAhead}
use Rattle.asn_walk.specs.Laws.{IsSizeOfProfile}
use Rattle.asn_walk_feed.specs.Octets.{OctetsOf, OctetLaws, no_first}
use Rattle.asn_walk_feed.specs.OpenFields.{FieldLaws}
use Rattle.asn_per.specs.SingleItems.{at_least, under_size, BitHeld, per_field_coding}
use Rattle.asn_per.proofs.InPieces.Brief.{few_start}
use Rattle.asn_per.proofs.InPieces.Few.{HasFew, brief, few_map, few_digits}

-- ---- items under a size

-- no item stands before the first length
items_after : (s : SizeRange) (item : ℕ → List Chunk → Type 0) → Same (OctetsOf (under_size s item)) (Map after_first (Then (Start s) (λ a. Remaining item a)))
items_after s item = record {
  to = λ v cs h. record {
    source = (h.spelt.spelt.source, h.source.1);
    spelt = record {
      first = h.spelt.first;
      second = h.spelt.second;
      spelt = h.spelt.spelt.spelt;
      follows = subst (λ (p : List ℕ × Ahead). Remaining item p.1 h.source.1 h.spelt.second) h.spelt.spelt.seen h.spelt.follows;
      whole = h.spelt.whole;
    };
    seen = h.seen ∙ ap (λ (p : List ℕ × Ahead). p.0 ++ h.source.1) h.spelt.spelt.seen;
  };
  from = λ v cs h. record {
    source = (no_first h.source.0, h.source.1);
    spelt = record {
      first = h.spelt.first;
      second = h.spelt.second;
      spelt = record { source = h.source.0; spelt = h.spelt.spelt; seen = refl };
      follows = h.spelt.follows;
      whole = h.spelt.whole;
    };
    seen = h.seen;
  };
}

-- they are the items of the size
pub items_sized : (s : SizeRange) (item : ℕ → List Chunk → Type 0) → IsSizeOfProfile s → Same (OctetsOf (under_size s item)) (Sized s item)
items_sized s item good = same_after (items_after s item) (sized_ahead item s good)

-- the laws of items of few bits
pub items_laws : (s : SizeRange) (item : ℕ → List Chunk → Type 0) → IsSizeOfProfile s → Lawful item → Inhabited item → HasFew 8 item → OctetLaws per_coding (under_size s item)
items_laws s item good law some few = record {
  start = map_lawful (λ a b e. ap (λ (p : List ℕ × Ahead). p.1) e) (start_lawful s good);
  ahead = λ p cs h. subst (λ (q : List ℕ × Ahead). SomeAhead q.1) (sym h.seen) (start_some s good h.source cs h.spelt);
  octet = law;
  some = some;
  brief_start = brief 17 (omega arith) (few_map 17 (few_start s good));
  brief_octet = brief 8 (omega arith) few;
}

-- ---- octets, bits and characters

-- a size without an upper bound
pub at_least_none : IsSizeOfProfile (at_least 0)
at_least_none = record { ordered = refl; small = refl; useful = refl }

pub at_least_one : IsSizeOfProfile (at_least 1)
at_least_one = record { ordered = refl; small = refl; useful = refl }

pub octets_laws : (s : SizeRange) → IsSizeOfProfile s → OctetLaws per_coding (under_size s Octet)
octets_laws s good = items_laws s Octet good octet_lawful (set_inhabited (set_meets 2 8 0 (omega arith) (omega arith))) (few_digits 2 8 8 (λ n. n < 256) (omega arith))

pub bits_laws : (s : SizeRange) → IsSizeOfProfile s → OctetLaws per_coding (under_size s BitHeld)
bits_laws s good = items_laws s BitHeld good (set_lawful 2 1 (λ n. n < 2)) (set_inhabited (set_meets 2 1 0 (omega arith) (omega arith))) (few_digits 2 1 8 (λ n. n < 2) (omega arith))

few_character : (k : Alphabet) → HasFew 8 (Character k)
few_character ia5 = few_digits 2 7 8 (λ c. c < 128) (omega arith)
few_character visible = few_digits 2 7 8 (λ c. (32 ≤ c) × (c ≤ 126)) (omega arith)
few_character numeric = few_map 8 (few_digits 2 4 8 (λ n. n < 11) (omega arith))

pub characters_laws : (k : Alphabet) (s : SizeRange) → IsSizeOfProfile s → OctetLaws per_coding (under_size s (Character k))
characters_laws k s good = items_laws s (Character k) good (character_lawful k) (character_inhabited k) (few_character k)

-- ---- open type fields

pub per_field_laws : FieldLaws per_coding per_field_coding
unfolding per_coding per_ruling per_field_coding
per_field_laws = record {
  octets = octets_laws (at_least 1) at_least_one;
  same = same_after (items_sized (at_least 1) Octet at_least_one) some_octets;
}
