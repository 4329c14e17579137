-- What PER says of the parts.
use Rattle.std.proofs.Common.{◌≡◌, ◌≢◌, ◌+◌, ◌-◌, ◌<◌, ◌≤◌, ℕ, pos, Bool, true, false, nat_lt, List, [], ◌∷◌, ◌++◌, length, length-append, refl, sym, ap, ◌∙◌, arith, inl, inr}
use Rattle.std.proofs.lemmas.Bool.{ltb-true, ltb-false}
use Rattle.asn_values.specs.Datum.{Datum, item}
use Rattle.asn_values.specs.Shape.{Shape, enumerated, Label, marked_labels}
use Rattle.asn_values.specs.Fits.{Fits}
use Rattle.asn_values.specs.Profile.{InProfile, most_item_additions}
use Rattle.asn_bits.specs.Numbers.{unpacked}
use Rattle.asn_rules.specs.Chunks.{open_field, ones, flat}
use Rattle.asn_rules.specs.Laws.{AreOctets}
use Rattle.asn_walk.specs.Laws.{Laws}
use Rattle.asn_walk.specs.WriteLaws.{WriteLaws}
use Rattle.asn_per.proofs.Walk.WalkLaws.{per_laws}
use Rattle.asn_per.specs.Per.{per, complete, constrained, rank, small, after_mark}
use Rattle.asn_per.specs.Rules.{per_ruling}
use Rattle.asn_per.specs.Walk.{per_coding}
use Rattle.asn_rules.specs.Components.{number_at}
use Rattle.asn_per.proofs.Encodings.Complete.{filled_is, complete_full, complete_octets}
use Rattle.asn_per.proofs.Types.EnumeratedLanguages.{few_additions}
use Rattle.asn_walk.proofs.ItemNumbers.{few_items}
use Rattle.asn_per.proofs.Encodings.SomeOctet.{not_empty}
use Rattle.asn_per.proofs.Encodings.Spelt.{per_spelt}
use Rattle.asn_per.proofs.Walk.WalkWriting.{per_write_laws}
use Rattle.asn_newer.specs.Skipped.{Reading, nothing_skipped, item_skipped}
use Rattle.asn_newer.specs.Loose.{AnyItem}
use Rattle.asn_newer.specs.Versions.{LabelVersions, item_received}
use Rattle.asn_newer.specs.NewerLaws.{PartLaws}
use Rattle.asn_newer.specs.Rules.{per_loose}

per_walk_laws : Laws per_loose.coding
unfolding per_loose
per_walk_laws = per_laws

per_writes : WriteLaws per_loose.coding
unfolding per_loose
per_writes = per_write_laws

per_filled : (t : Shape) (v : Datum) → InProfile t → Fits t v
    → flat per_loose.coding.ruling.fielding.spelled (per_loose.coding.ruling.whole t v)
    ≡ flat per_loose.coding.ruling.fielding.spelled (per_loose.coding.code t v) ++ per_loose.coding.padding (length (flat per_loose.coding.ruling.fielding.spelled (per_loose.coding.code t v)))
unfolding per_loose per_coding per_ruling
per_filled t v good f = filled_is (per t v)

per_octets : (t : Shape) (v : Datum) → InProfile t → Fits t v → AreOctets (per_loose.coding.complete (per_loose.coding.code t v))
unfolding per_loose per_coding
per_octets t v good f = complete_octets (per t v) (per_spelt t v f).bits

-- a complete encoding has an octet at least
some_octet : (t : Shape) (v : Datum) → Fits t v → complete (per t v) ≢ []
unfolding per_ruling
some_octet t v f e = not_empty t v (f, sym (ap unpacked e) ∙ complete_full (per t v) (per_spelt t v f).bits ∙ sym (filled_is (per t v)))

one_at_least : (o : List ℕ) → o ≢ [] → 1 ≤ length o
one_at_least [] n = absurd (n refl)
one_at_least (b ∷ o) n = omega arith

per_some : (t : Shape) (v : Datum) → InProfile t → Fits t v → per_loose.coding.ruling.fielding.shortest open_field ≤ length (per_loose.coding.complete (per_loose.coding.code t v))
unfolding per_loose per_coding per_ruling
per_some t v good f = one_at_least (complete (per t v)) (some_octet t v f)

-- past the root
not_in_root : (p n : ℕ) → n ≤ p → nat_lt p n ≡ false
not_in_root p n h = go (nat_lt p n) refl
  where
    go : (k : Bool) → nat_lt p n ≡ k → nat_lt p n ≡ false
    go false q = q
    go true q = let below = ltb-true p n q in absurd (omega (arith, h, below))

per_items : (a b : Bool) (root ls more : List Label) (p : ℕ) → InProfile (enumerated root (marked_labels ls)) → LabelVersions a b ls more → p < length root + length ls
    → AnyItem per_loose root more (item_received per_loose root ls root more p) (per_loose.coding.code (enumerated root (marked_labels ls)) (item p))
unfolding per_loose per_coding
per_items a b root ls more p good w f = go (nat_lt p (length root + length more)) refl
  where
    go : (k : Bool) → nat_lt p (length root + length more) ≡ k
        → AnyItem per_loose root more (elim k as (λ (z : Bool). Reading) [ true ↦ nothing_skipped (item p) | false ↦ item_skipped (pos (p - length root)) ]) (per (enumerated root (marked_labels ls)) (item p))
    go true q = inl (record { source = item p; spelt = record { fits = (ltb-true p (length root + length more) q, tt); same = refl }; seen = refl })
    go false q =
        let above : length root + length more ≤ p = ltb-false p (length root + length more) q in
        let few : length ls ≤ most_item_additions = few_additions root (marked_labels ls) good in
        let past = not_in_root p (length root) (omega (arith, above)) in
        let low : p - length root < most_item_additions = omega (arith, above, few, f) in
        let high : length more ≤ p - length root = omega (arith, above) in
        inr (record {
          source = pos (p - length root);
          spelt = record {
            fits = record { past = high; few = low; room = omega (arith, above, f, length-append root ls, few_items root (marked_labels ls) good) };
            same = ap (λ (k : Bool). ones (after_mark (λ u. u) true k (constrained (length root) (rank root (number_at root p))) (small (p - length root)))) past;
          };
          seen = refl;
        })

pub per_part_laws : PartLaws per_loose
per_part_laws = record { laws = per_walk_laws; writes = per_writes; filled = per_filled; octets = per_octets; some = per_some; items = per_items }
