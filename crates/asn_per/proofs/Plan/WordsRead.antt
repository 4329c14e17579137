-- Numbers that are told by bits taken at once, by PER.
use Rattle.std.proofs.Common.{◌≡◌, ◌≤◌, ◌<◌, ◌+◌, ◌++◌, ◌∷◌, [], ◌^◌, ℕ, zero, suc, true, false, nat_lt, length, List, Option, Some, None, refl, sym, ap, subst, ◌∙◌, append_assoc, arith}
use Rattle.std.proofs.lemmas.Bool.{true≢false}
use Rattle.asn_values.specs.Datum.{truth, item}
use Rattle.asn_values.specs.Shape.{Shape, boolean, enumerated, has_more_labels}
use Rattle.asn_values.specs.Profile.{InProfile}
use Rattle.asn_values.specs.View.{shape_of}
use Rattle.asn_bits.specs.Numbers.{bits, width}
use Rattle.asn_bits.specs.Sink.{bit_of}
use Rattle.asn_rules.specs.Chunks.{ones}
use Rattle.asn_rules.specs.Languages.{Spells}
use Rattle.asn_rules.specs.Listed.{Spelt}
use Rattle.asn_rules.proofs.Languages.Parts.{contents-ones}
use Rattle.asn_rules.proofs.Live.Flat.{flat-ones}
use Rattle.asn_walk.specs.Coding.{PreambleOf}
use Rattle.asn_plan.specs.Enumerations.{IsEnumeration, HasIndex, root_items_of, other_items_of}
use Rattle.asn_plan.specs.Words.{units_in, before}
use Rattle.asn_plan.specs.declared.enumeration.Enumeration.{Enumeration}
use Rattle.asn_plan.specs.declared.word.Word.{Word}
use Rattle.asn_plan.proofs.RootItems.{enumerated_is, root_items}
use Rattle.asn_per.specs.Kinds.{position_of}
use Rattle.asn_per.specs.Per.{per, per_fields, spelled}
use Rattle.asn_per.specs.Walk.{per_coding}
use Rattle.asn_per.proofs.Law.Enumerations.{rank_inside}
use Rattle.asn_per.proofs.Read.AtOnce.{item_first}
use Rattle.asn_per.proofs.Read.PreambleReading.{marked_preamble}
use Rattle.asn_per.proofs.Types.Ranks.{place_back}

-- the units of a word are its bits
pub units_are_bits : (n m : ℕ) → units_in per_coding n m ≡ bits n m
unfolding per_coding
units_are_bits zero m = refl
units_are_bits (suc n) m = refl

-- the first of them, and the others
pub bits_taken : (old new : Word) (k n : ℕ) (us : List ℕ) → bits old.left old.bits ≡ bits k n ++ bits new.left new.bits
    → before per_coding old us ≡ bits k n ++ before per_coding new us
bits_taken old new k n us e =
    let rest = bits new.left new.bits in
    ap (λ (t : List ℕ). t ++ us) (units_are_bits old.left old.bits ∙ e) ∙ append_assoc (bits k n) rest us
    ∙ ap (λ (t : List ℕ). bits k n ++ (t ++ us)) (sym (units_are_bits new.left new.bits))

-- one bit
pub bit_first : (n : ℕ) → n < 2 → bits 1 n ≡ bit_of (nat_lt 0 n) ∷ []
bit_first zero h = refl
bit_first (suc zero) h = refl
bit_first (suc (suc n)) h = absurd (omega (arith, h))

-- presence bits without an extension bit
pub unmarked_first : (n m : ℕ) (us r : List ℕ) → m < 2 ^ n → us ≡ bits n m ++ r
    → Spells per_fields (PreambleOf per_coding n None) (false, m) us r
unfolding per_coding
unmarked_first n m us r fits e = record {
  chunks = ones (bits n m);
  spelt = record { fits = (fits, λ one. absurd (true≢false (sym one))); same = refl };
  contents = contents-ones per_fields (bits n m);
  split = e ∙ ap (λ (t : List ℕ). t ++ r) (sym (flat-ones spelled (bits n m)));
}

-- and with one
pub marked_first : (n k mark m : ℕ) (a : Option ℕ) (us vs r : List ℕ) → a ≡ Some k → mark < 2 → (nat_lt 0 mark ≡ true → 0 < k)
    → us ≡ bits 1 mark ++ vs → m < 2 ^ n → vs ≡ bits n m ++ r
    → Spells per_fields (PreambleOf per_coding n a) (nat_lt 0 mark, m) us r
marked_first n k mark m a us vs r is one few e fits f =
    let front : us ≡ bit_of (nat_lt 0 mark) ∷ (bits n m ++ r) = e ∙ ap (λ (t : List ℕ). t ++ vs) (bit_first mark one) ∙ ap (λ (t : List ℕ). bit_of (nat_lt 0 mark) ∷ t) f in
    marked_preamble n a (nat_lt 0 mark, m) us r (record { listed = k; mark = is; some = few; fits = fits; split = front })

-- a BOOLEAN
pub truth_first : (n : ℕ) (us r : List ℕ) → n < 2 → us ≡ bits 1 n ++ r
    → Spells per_fields (Spelt per None boolean) (truth (nat_lt 0 n)) us r
truth_first n us r few e = record {
  chunks = per boolean (truth (nat_lt 0 n));
  spelt = record { fits = (tt, tt); same = refl };
  contents = contents-ones per_fields (bit_of (nat_lt 0 n) ∷ []);
  split = e ∙ ap (λ (t : List ℕ). t ++ r) (bit_first n few);
}

-- the item of the root that has this index
pub item_indexed : (e : Enumeration) (p n : ℕ) (us r : List ℕ) → IsEnumeration e → HasIndex (root_items_of (shape_of e.ty)) p n → us ≡ bits e.bits n ++ r
    → Spells per_fields (Spelt per None (shape_of e.ty)) (item p) us r
item_indexed e p n us r good has split =
    let root = root_items_of (shape_of e.ty) in
    let more = other_items_of (shape_of e.ty) in
    let type_is = enumerated_is (shape_of e.ty) good.is in
    let inside_profile : InProfile (enumerated root more) = subst InProfile type_is good.of_profile in
    let items = root_items root more inside_profile in
    let inside : n < length root = subst (λ (k : ℕ). k < length root) has.1 (rank_inside root p has.0) in
    let place : position_of root n ≡ p = ap (position_of root) (sym has.1) ∙ place_back root items.once p has.0 in
    let front : us ≡ bits (bit_of (has_more_labels more) + width (length root)) n ++ r = split ∙ ap (λ (k : ℕ). bits k n ++ r) good.bits in
    let read : Spells per_fields (Spelt per None (enumerated root more)) (item (position_of root n)) us r = item_first root more (bit_of (has_more_labels more)) n us r inside_profile refl inside front in
    let same : Spells per_fields (Spelt per None (enumerated root more)) (item p) us r = subst (λ (q : ℕ). Spells per_fields (Spelt per None (enumerated root more)) (item q) us r) place read in
    subst (λ (t : Shape). Spells per_fields (Spelt per None t) (item p) us r) (sym type_is) same
