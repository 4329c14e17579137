-- From the answers for an index to those for an item, as the readers of the program ask for it.
use Rattle.std.proofs.Common.{◌≡◌, ◌<◌, ◌+◌, ◌-◌, ◌⊎◌, inl, inr, ℕ, List, length, Option, Some, None, refl, sym, ap, ◌∙◌, subst, arith}
use Rattle.std.specs.Option.{option_map}
use Rattle.asn_values.specs.Datum.{Datum, item}
use Rattle.asn_values.specs.Shape.{Label, closed_labels, marked_labels, enumerated}
use Rattle.asn_values.specs.Profile.{InProfile}
use Rattle.asn_bits.specs.Numbers.{width}
use Rattle.asn_bits.specs.Sets.{InSet, Meets}
use Rattle.asn_bits.proofs.Widths.{width_fits}
use Rattle.asn_rules.specs.Forks.{Branch}
use Rattle.asn_rules.specs.Chunks.{Chunk}
use Rattle.asn_rules.specs.Languages.{Inhabited, Plain, Map}
use Rattle.asn_rules.specs.Listed.{Spelt}
use Rattle.asn_rules.proofs.Languages.Forks.{same_flip, same_inhabited}
use Rattle.asn_rules.proofs.Languages.Leads.{Leads, leads_on, leads_map, leads_same}
use Rattle.asn_bits.proofs.Unions.{set_meets}
use Rattle.asn_rules.proofs.Languages.Spellings.{same_after}
use Rattle.asn_per.specs.Kinds.{position_of, Below, SmallBelow, RootItems, Items, RootItemsBut, IndexesBut, IsRootPosition, of_either}
use Rattle.asn_per.specs.Per.{per, per_fields}
use Rattle.asn_per.specs.Indexes.{IsItemWithin, IndexesOf, index_of}
use Rattle.asn_rules.specs.NumberSets.{Admits, up_to}
use Rattle.asn_per.proofs.Types.EnumeratedLanguages.{items_compose}
use Rattle.asn_rules.proofs.Plain.NumberSets.{same_set}
use Rattle.asn_per.proofs.Types.LeftOut.{enumerated_but_one, none_left_out}

-- ---- sets of indexes

-- the indexes that the reader admits are those of the items that are not left out
index_there : (root : List Label) (p : Option ℕ) (n : ℕ) → 0 < length root → Admits (up_to (length root - 1) (index_of root p)) n → IndexesBut root p n
index_there root None n some h = omega (arith, h.1)
index_there root (Some p) n some h = (omega (arith, h.1), h.2)

index_back : (root : List Label) (p : Option ℕ) (n : ℕ) → 0 < length root → IndexesBut root p n → Admits (up_to (length root - 1) (index_of root p)) n
index_back root None n some h = (omega arith, omega arith, tt)
index_back root (Some p) n some h = (omega arith, omega (arith, h.0), h.1)

-- ---- the items of the root

module _ (root : List Label) (p : Option ℕ) (high : ℕ) (is : high + 1 ≡ length root) where
  -- the reader of an index answers for the item
  pub root_leads : (us : List ℕ) → Leads per_fields (Plain (InSet (width (high + 1)) (λ n. Admits (up_to high (index_of root p)) n))) us (λ n. item (position_of root n)) (RootItemsBut root p) us
  root_leads us =
      let less : high ≡ length root - 1 = omega arith in
      let some : 0 < length root = omega arith in
      subst (λ (w : ℕ). Leads per_fields (Plain (InSet (width w) (λ n. Admits (up_to high (index_of root p)) n))) us (λ n. item (position_of root n)) (RootItemsBut root p) us) (sym is)
      (subst (λ (h : ℕ). Leads per_fields (Plain (InSet (width (length root)) (λ n. Admits (up_to h (index_of root p)) n))) us (λ n. item (position_of root n)) (RootItemsBut root p) us) (sym less)
      (leads_on (leads_same per_fields us (same_set 2 (width (length root)) (λ n h. index_there root p n some h) (λ n h. index_back root p n some h))) (leads_map per_fields (λ n. item (position_of root n)) (Plain (InSet (width (length root)) (IndexesBut root p))) us)))

  -- an item that is not left out has an index that the reader admits
  pub some_index : Inhabited (RootItemsBut root p) → Meets (λ n. Admits (up_to high (index_of root p)) n) 0 (width (high + 1))
  some_index i =
      let n = i.spelt.source in
      let less : high ≡ length root - 1 = omega arith in
      let member : Admits (up_to high (index_of root p)) n = subst (λ (h : ℕ). Admits (up_to h (index_of root p)) n) (sym less) (index_back root p n (omega arith) i.spelt.spelt.spelt.member) in
      set_meets 2 (width (high + 1)) n member (width_fits (high + 1) n (omega (arith, member.1)))

-- ---- without a mark

-- an item that may be left out is one of the root
root_place : (root : List Label) (p : Option ℕ) → IsItemWithin root closed_labels p → IsRootPosition root p
root_place root None h = tt
root_place root (Some q) h = h

-- the items of the root are the values
pub closed_leads : (root : List Label) (p : Option ℕ) → InProfile (enumerated root closed_labels) → IsItemWithin root closed_labels p → (us : List ℕ)
    → Leads per_fields (RootItemsBut root p) us (λ v. v) (Spelt per (option_map item p) (enumerated root closed_labels)) us
closed_leads root p good within us = leads_same per_fields us (enumerated_but_one root p good (root_place root p within))

-- where there is a value, there is such an item
pub closed_some : (root : List Label) (p : Option ℕ) → InProfile (enumerated root closed_labels) → IsItemWithin root closed_labels p
    → Inhabited (Spelt per (option_map item p) (enumerated root closed_labels)) → Inhabited (RootItemsBut root p)
closed_some root p good within i = same_inhabited (same_flip (enumerated_but_one root p good (root_place root p within))) i

-- ---- after a mark

module _ (root more : List Label) where
  -- no item may be left out
  pub no_item_left_out : (p : Option ℕ) → IsItemWithin root (marked_labels more) p → p ≡ None
  no_item_left_out None h = refl
  no_item_left_out (Some q) h = absurd h

  -- the items after the mark are the values
  pub marked_leads : InProfile (enumerated root (marked_labels more)) → (us : List ℕ)
      → Leads per_fields (Items root (marked_labels more)) us (λ v. v) (Spelt per None (enumerated root (marked_labels more))) us
  marked_leads good us = leads_same per_fields us (same_after (items_compose root (marked_labels more) good) (none_left_out (enumerated root (marked_labels more))))

  -- the item of an index
  abbrev item_at : ℕ ⊎ ℕ → Datum
  item_at (inl n) = item (position_of root n)
  item_at (inr k) = item (length root + k)

  -- an index after the mark is that of an item
  item_there : (i : ℕ ⊎ ℕ) (cs : List Chunk) → Branch 0 inl (Below (width (length root)) (length root)) i cs ⊎ Branch 1 inr (SmallBelow (length more)) i cs → Items root (marked_labels more) (item_at i) cs
  item_there i cs (inl b) = record {
    source = inl (item (position_of root b.value));
    spelt = record { side = inl (record { value = item (position_of root b.value); rest = b.rest; spelt = record { source = b.value; spelt = b.spelt; seen = refl }; seen = refl; same = b.same }) };
    seen = ap item_at b.seen;
  }
  item_there i cs (inr b) = record {
    source = inr (item (length root + b.value));
    spelt = record { side = inr (record { value = item (length root + b.value); rest = b.rest; spelt = record { source = b.value; spelt = b.spelt; seen = refl }; seen = refl; same = b.same }) };
    seen = ap item_at b.seen;
  }

  -- and an item has an index
  item_back : (v : Datum) (w : Datum ⊎ Datum) (cs : List Chunk) → v ≡ of_either w → Branch 0 inl (RootItems root) w cs ⊎ Branch 1 inr (Map (λ k. item (length root + k)) (SmallBelow (length more))) w cs
      → Map item_at (IndexesOf (length root) (Some (length more))) v cs
  item_back v w cs e (inl b) = record {
    source = inl b.spelt.source;
    spelt = record { side = inl (record { value = b.spelt.source; rest = b.rest; spelt = b.spelt.spelt; seen = refl; same = b.same }) };
    seen = e ∙ ap of_either b.seen ∙ b.spelt.seen;
  }
  item_back v w cs e (inr b) = record {
    source = inr b.spelt.source;
    spelt = record { side = inr (record { value = b.spelt.source; rest = b.rest; spelt = b.spelt.spelt; seen = refl; same = b.same }) };
    seen = e ∙ ap of_either b.seen ∙ b.spelt.seen;
  }

  -- the reader of an index answers for the item
  pub index_leads : (us : List ℕ) → Leads per_fields (IndexesOf (length root) (Some (length more))) us item_at (Items root (marked_labels more)) us
  index_leads us =
      leads_on (leads_map per_fields item_at (IndexesOf (length root) (Some (length more))) us)
      (leads_same per_fields us (record {
        to = λ v cs h. rw h.seen (item_there h.source cs h.spelt.side);
        from = λ v cs h. item_back v h.source cs h.seen h.spelt.side;
      }))
