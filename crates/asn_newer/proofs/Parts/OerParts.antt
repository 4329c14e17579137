-- What OER says of the parts.
use Rattle.std.proofs.Common.{◌≡◌, ◌≢◌, ◌+◌, ◌-◌, ◌<◌, ◌≤◌, ℕ, zero, suc, ℤ, Bool, true, false, nat_lt, IsTrue, List, [], ◌∷◌, ◌++◌, length, length-append, refl, sym, ap, subst, ◌∙◌, arith, inl, inr}
use Rattle.std.proofs.lemmas.Bool.{true≢false, ltb-true, ltb-false, and_parts, or_parts, not-false}
use Rattle.std.proofs.lemmas.List.{append-nil}
use Rattle.std.specs.List.{AllByRecursion, list_all, list_any}
use Rattle.std.specs.Int.RustNames.{int_lt}
use Rattle.asn_values.specs.Datum.{Datum, item}
use Rattle.asn_values.specs.Shape.{Shape, enumerated, Label, marked_labels}
use Rattle.asn_values.specs.Fits.{Fits}
use Rattle.asn_values.specs.Profile.{InProfile, BadEnumeration, is_rising, is_not_32_bits, has_twice, int_eq}
use Rattle.asn_rules.specs.Chunks.{open_field, ones, flat}
use Rattle.asn_rules.specs.Components.{number_at}
use Rattle.asn_rules.specs.Laws.{AreOctets}
use Rattle.asn_rules.proofs.Law.Items.{numbers, int_eq_refl, good_items}
use Rattle.asn_rules.specs.Fields.{spelled}
use Rattle.asn_walk.specs.Laws.{Laws}
use Rattle.asn_walk.specs.WriteLaws.{WriteLaws}
use Rattle.asn_oer.proofs.Walk.WalkLaws.{oer_laws}
use Rattle.asn_oer.specs.Oer.{oer, item_number}
use Rattle.asn_oer.specs.Rules.{oer_ruling}
use Rattle.asn_oer.specs.Walk.{oer_coding}
use Rattle.asn_oer.proofs.Law.GoodTypes.{good}
use Rattle.asn_oer.proofs.Encodings.SpeltTypes.{oer_spelt, few_levels}
use Rattle.asn_oer.proofs.Walk.WalkWriting.{oer_write_laws}
use Rattle.asn_newer.specs.Skipped.{Reading, nothing_skipped, item_skipped}
use Rattle.asn_newer.specs.Loose.{AnyItem}
use Rattle.asn_newer.specs.Versions.{LabelVersions, item_received}
use Rattle.asn_newer.specs.NewerLaws.{PartLaws}
use Rattle.asn_newer.specs.Rules.{oer_loose}

oer_walk_laws : Laws oer_loose.coding
unfolding oer_loose
oer_walk_laws = oer_laws

oer_writes : WriteLaws oer_loose.coding
unfolding oer_loose
oer_writes = oer_write_laws

oer_filled : (t : Shape) (v : Datum) → InProfile t → Fits t v
    → flat oer_loose.coding.ruling.fielding.spelled (oer_loose.coding.ruling.whole t v)
    ≡ flat oer_loose.coding.ruling.fielding.spelled (oer_loose.coding.code t v) ++ oer_loose.coding.padding (length (flat oer_loose.coding.ruling.fielding.spelled (oer_loose.coding.code t v)))
unfolding oer_loose oer_coding oer_ruling
oer_filled t v h f = sym (append-nil (flat spelled (oer t v)))

oer_octets : (t : Shape) (v : Datum) → InProfile t → Fits t v → AreOctets (oer_loose.coding.complete (oer_loose.coding.code t v))
unfolding oer_loose oer_coding
oer_octets t v h f = (oer_spelt t (good t h) (few_levels t h) v f).units.octets

oer_some : (t : Shape) (v : Datum) → InProfile t → Fits t v → oer_loose.coding.ruling.fielding.shortest open_field ≤ length (oer_loose.coding.complete (oer_loose.coding.code t v))
unfolding oer_loose oer_coding oer_ruling
oer_some t v h f = omega arith

-- ---- the numbers of items

-- what holds of all numbers holds of that at an index
all_at : (q : ℤ → Bool) (ls : List Label) (k : ℕ) → list_all q (numbers ls) ≡ true → k < length ls → q (number_at ls k) ≡ true
all_at q [] k h l = absurd (omega arith)
all_at q (x ∷ ls) zero h l = (and_parts (q x.number) (list_all q (numbers ls)) h).0
all_at q (x ∷ ls) (suc k) h l = all_at q ls k (and_parts (q x.number) (list_all q (numbers ls)) h).1 (omega arith)

none_at : (q : ℤ → Bool) (ls : List Label) (k : ℕ) → list_any q (numbers ls) ≡ false → k < length ls → q (number_at ls k) ≡ false
none_at q [] k h l = absurd (omega arith)
none_at q (x ∷ ls) zero h l = (or_parts (q x.number) (list_any q (numbers ls)) h).0
none_at q (x ∷ ls) (suc k) h l = none_at q ls k (or_parts (q x.number) (list_any q (numbers ls)) h).1 (omega arith)

-- past the root, the number is that of an addition
past_root : (root ls : List Label) (p : ℕ) → length root ≤ p → number_at (root ++ ls) p ≡ number_at ls (p - length root)
past_root [] ls p h = let e : p ≡ p - length {A = Label} [] = omega arith in ap (number_at ls) e
past_root (r ∷ root) ls zero h = absurd (omega arith)
past_root (r ∷ root) ls (suc p) h =
    let e : p - length root ≡ suc p - length (r ∷ root) = omega arith in
    past_root root ls p (omega (arith, h)) ∙ ap (number_at ls) e

-- an item that both versions have has one number
same_added : (a b : Bool) (ls more : List Label) (k : ℕ) → LabelVersions a b ls more → k < length ls → k < length more → number_at ls k ≡ number_at more k
same_added a b [] more k w f g = absurd (omega arith)
same_added a b (x ∷ ls) [] k w f g = absurd (omega arith)
same_added a b (x ∷ ls) (y ∷ more) zero w f g = ap (λ (z : Label). z.number) w.0
same_added a b (x ∷ ls) (y ∷ more) (suc k) w f g = same_added a b ls more k w.1 (omega arith) (omega arith)

same_number : (a b : Bool) (root ls more : List Label) (p : ℕ) → LabelVersions a b ls more → p < length root + length ls → p < length root + length more → number_at (root ++ ls) p ≡ number_at (root ++ more) p
same_number a b [] ls more p w f g = same_added a b ls more p w (omega (arith, f)) (omega (arith, g))
same_number a b (r ∷ root) ls more zero w f g = refl
same_number a b (r ∷ root) ls more (suc p) w f g = same_number a b root ls more p w (omega arith) (omega arith)

-- an addition that the receiver has not has a number above those that it has
above_added : (a b : Bool) (ls more : List Label) (k : ℕ) → LabelVersions a b ls more → length more ≤ k → k < length ls → is_rising (numbers ls) ≡ true → AllByRecursion (λ known. IsTrue (int_lt known.number (number_at ls k))) more
above_added a b ls [] k w g f r = tt
above_added a b [] (y ∷ more) k w g f r = absurd (omega arith)
above_added a b (x ∷ ls) (y ∷ more) zero w g f r = absurd (omega arith)
above_added a b (x ∷ ls) (y ∷ more) (suc k) w g f r =
    let parts = and_parts (list_all (int_lt x.number) (numbers ls)) (is_rising (numbers ls)) r in
    (subst (λ (z : Label). int_lt z.number (number_at ls k) ≡ true) w.0 (all_at (int_lt x.number) ls k parts.0 (omega arith)), above_added a b ls more k w.1 (omega arith) (omega arith) parts.1)

-- and one that no item of the root has
other_at : (x : ℤ) (zs : List ℤ) (ls : List Label) (k : ℕ) → list_any (int_eq x) (zs ++ numbers ls) ≡ false → k < length ls → x ≢ number_at ls k
other_at x [] ls k h f = λ e. true≢false (sym (subst (λ (z : ℤ). int_eq x z ≡ true) e (int_eq_refl x)) ∙ none_at (int_eq x) ls k h f)
other_at x (z ∷ zs) ls k h f = other_at x zs ls k (or_parts (int_eq x z) (list_any (int_eq x) (zs ++ numbers ls)) h).1 f

other_root : (root ls : List Label) (k : ℕ) → has_twice int_eq (numbers root ++ numbers ls) ≡ false → k < length ls → AllByRecursion (λ known. known.number ≢ number_at ls k) root
other_root [] ls k h f = tt
other_root (r ∷ root) ls k h f =
    let parts = or_parts (list_any (int_eq r.number) (numbers root ++ numbers ls)) (has_twice int_eq (numbers root ++ numbers ls)) h in
    (other_at r.number (numbers root) ls k parts.0 f, other_root root ls k parts.1 f)

oer_items : (a b : Bool) (root ls more : List Label) (p : ℕ) → InProfile (enumerated root (marked_labels ls)) → LabelVersions a b ls more → p < length root + length ls
    → AnyItem oer_loose root more (item_received oer_loose root ls root more p) (oer_loose.coding.code (enumerated root (marked_labels ls)) (item p))
unfolding oer_loose oer_coding
oer_items a b root ls more p h w f = go (nat_lt p (length root + length more)) refl
  where
    go : (k : Bool) → nat_lt p (length root + length more) ≡ k
        → AnyItem oer_loose root more (elim k as (λ (z : Bool). Reading) [ true ↦ nothing_skipped (item p) | false ↦ item_skipped (number_at (root ++ ls) p) ]) (oer (enumerated root (marked_labels ls)) (item p))
    go true q =
        let below = ltb-true p (length root + length more) q in
        inl (record { source = item p; spelt = record { fits = (below, tt); same = ap (λ (z : ℤ). ones (item_number z)) (same_number a b root ls more p w f below) }; seen = refl })
    go false q =
        let above : length root + length more ≤ p = ltb-false p (length root + length more) q in
        let k = p - length root in
        let here : k < length ls = omega (arith, above, f) in
        let past : length more ≤ k = omega (arith, above) in
        let bad = h BadEnumeration in
        let s = or_parts (has_twice int_eq (numbers root ++ numbers ls)) _ bad in
        let u = or_parts (list_any is_not_32_bits (numbers root ++ numbers ls)) _ s.1 in
        let rising = not-false (is_rising (numbers ls)) u.1 in
        let number : number_at ls k ≡ number_at (root ++ ls) p = sym (past_root root ls p (omega (arith, above))) in
        inr (record {
          source = number_at (root ++ ls) p;
          spelt = record {
            fits = record {
              above = subst (λ (z : ℤ). AllByRecursion (λ known. IsTrue (int_lt known.number z)) more) number (above_added a b ls more k w past here rising);
              other = subst (λ (z : ℤ). AllByRecursion (λ known. known.number ≢ z) root) number (other_root root ls k s.0 here);
              narrow = none_at is_not_32_bits (root ++ ls) p (good_items root (marked_labels ls) bad).bits_32 (omega (arith, f, length-append root ls));
            };
            same = refl;
          };
          seen = refl;
        })

pub oer_part_laws : PartLaws oer_loose
oer_part_laws = record { laws = oer_walk_laws; writes = oer_writes; filled = oer_filled; octets = oer_octets; some = oer_some; items = oer_items }
