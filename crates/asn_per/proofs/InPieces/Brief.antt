-- The parts of PER that a piece may cut have few bits.
use Rattle.std.proofs.Common.{◌≡◌, ◌≤◌, ◌<◌, ◌+◌, ◌-◌, ◌*◌, ◌%◌, ◌^◌, ◌⊎◌, inl, inr, ⊎_elim, ℕ, zero, suc, ℤ, ◌≤ℤ◌, Bool, true, false, List, [], ◌∷◌, ◌++◌, length, length-append, Option, Some, None, is_some, nat_lt, refl, sym, ap, ◌∙◌, subst, arith}
use Rattle.std.proofs.lemmas.Bool.{cases_lt, ltb-true}
use Rattle.std.proofs.lemmas.Int.{ints}
use Rattle.std.proofs.lemmas.List.{length-replicate}
use Rattle.asn_values.specs.Datum.{Datum}
use Rattle.asn_values.specs.Fits.{lowest_integer, highest_integer}
use Rattle.asn_values.specs.Profile.{InProfile, good_default, most_alternatives}
use Rattle.asn_values.specs.Shape.{Range, SizeRange, Shape, boolean, null, integer, enumerated, bit_string, Label, MoreLabels, closed_labels, marked_labels}
use Rattle.asn_bits.specs.Numbers.{bits, width, above, octet_count, signed_octet_count}
use Rattle.asn_bits.proofs.Above.{pos-above}
use Rattle.asn_bits.specs.Ranges.{Spanned, At}
use Rattle.asn_bits.proofs.Fewest.{width_below, magnitude_below}
use Rattle.asn_bits.proofs.Octets.{length-digits, octet_count_below, signed_count_below}
use Rattle.asn_rules.specs.Chunks.{Chunk, ones}
use Rattle.asn_rules.specs.Components.{extension_bit}
use Rattle.asn_rules.specs.Counted.{SomeOf, Counted, Least, LeastSigned, signed_number}
use Rattle.asn_rules.specs.General.{Few, Many, Blocks, Header}
use Rattle.asn_rules.specs.Languages.{IsFront, Spells, Short}
use Rattle.asn_rules.specs.Listed.{Spelt}
use Rattle.asn_rules.specs.Padding.{AreUnits, Fixed}
use Rattle.asn_rules.specs.Live.{Fielding}
use Rattle.asn_rules.proofs.Languages.Parts.{plain_spells}
use Rattle.asn_per.specs.Indexes.{IndexesOf}
use Rattle.asn_per.specs.Kinds.{Values, Below, SmallBelow, Ranged, Integers, Items}
use Rattle.asn_per.specs.ListsAhead.{StartForm, RootStart, Start, other_counts}
use Rattle.asn_per.specs.Per.{per_fields, filling, small_length}
use Rattle.asn_per.specs.Rules.{per_ruling}
use Rattle.asn_per.specs.Walk.{per_coding}
use Rattle.asn_plan.proofs.RootItems.{root_items}
use Rattle.asn_per.proofs.Types.BooleanAndNull.{booleans_compose, nulls_compose}
use Rattle.asn_per.proofs.Types.EnumeratedLanguages.{items_compose, few_additions}
use Rattle.asn_per.proofs.Types.IntegerLanguages.{offsets_below}
use Rattle.asn_plan.proofs.IntegerRanges.{low_above_lowest, low_below_highest, high_below_highest, low_below_high}
use Rattle.asn_plan.proofs.Bounds.{root_of_profile}
use Rattle.asn_per.proofs.Types.MarkedIntegers.{integers_compose}
use Rattle.asn_per.proofs.Types.SmallNumbers.{IsLarge, one_octet}
use Rattle.asn_per.proofs.Walk.WalkChoices.{index_spelled}
use Rattle.asn_walk.specs.Ahead.{Ahead, items, lengths, end}
use Rattle.asn_walk.specs.Coding.{PreambleOf, AdditionBitmapOf, AreFew, IndexOf}
use Rattle.asn_walk.specs.Laws.{IsSizeOfProfile}
use Rattle.asn_walk_feed.specs.Feeding.{IsBrief, IsScalar, NextOf, FeedLaws}
use Rattle.asn_per.proofs.InPieces.Rows.{per_row_laws}
use Rattle.asn_per.proofs.InPieces.Few.{HasFew, brief, front_few, few_more, few_map, few_same, few_nothing, few_plain, few_digits, few_spelled, few_fork, few_then, few_spelt}

-- ---- numbers

-- a number below a count of at most 2 ^ n
few_below : (values n : ℕ) → values ≤ 2 ^ n → HasFew n (Below (width values) values)
few_below values n h = few_digits 2 (width values) n (λ k. k < values) (width_below values n h)

-- octets after their count, of which there are at most 9
few_counted : (T : ℕ → ℕ → Type 0) → ((k n : ℕ) → T k n → k ≤ 9) → HasFew 80 (Counted 2 8 T)
few_counted T h = few_then 8 72 (few_digits 2 8 8 (SomeOf T) (omega arith)) (λ k cs s. few_digits 2 (8 * k) 72 (T k) (omega (arith, h k s.spelt.member.number s.spelt.member.member)))

-- an unconstrained number of the profile
few_unconstrained : (S : ℤ → Type 0) → ((z : ℤ) → S z → (lowest_integer ≤ℤ z) × (z ≤ℤ highest_integer)) → HasFew 80 (Counted 2 8 (LeastSigned S))
few_unconstrained S within = few_counted (LeastSigned S) (λ k n h.
    let w = within (signed_number (k, n)) h.member in
    let m = magnitude_below (signed_number (k, n)) w.0 w.1 in
    let c : signed_octet_count (signed_number (k, n)) ≤ 9 = signed_count_below (signed_number (k, n)) 9 (omega arith) (omega (arith, m)) in
    omega (arith, c, h.count))

-- a normally small number
few_small : (values : ℕ) → values ≤ 256 → HasFew 81 (SmallBelow values)
few_small values few = few_map 81 (few_fork 80 (few_digits 2 6 80 (λ n. n < values) (omega arith))
    (few_map 80 (few_counted (Least (IsLarge values)) (λ k n h. (let c = one_octet n (omega (arith, few, h.member.1)) in omega (arith, c, h.count))))))

-- ---- the scalars

few_boolean : HasFew 1 (Values boolean)
few_boolean = few_same 1 booleans_compose (few_map 1 (few_map 1 (few_digits 2 1 1 (λ n. n < 2) (omega arith))))

few_null : HasFew 0 (Values null)
few_null = few_same 0 nulls_compose (few_nothing _)

-- an integer of a range
few_ranged : (low high : Option ℤ) → InProfile (integer (record { low = low; high = high; extensible = false })) → HasFew 80 (Ranged low high)
few_ranged (Some low) (Some high) good =
    let a = low_above_lowest low (Some high) good in
    let b = high_below_highest low high good in
    let c = low_below_high low high good in
    let top : above low high < 2 ^ 65 = omega (arith, ints, pos-above low high c) in
    few_map 80 (few_more 65 80 (omega arith) (few_below (suc (above low high)) 65 (omega arith)))
few_ranged (Some low) None good =
    let top = offsets_below low (low_above_lowest low None good) (low_below_highest low None good) in
    few_map 80 (few_map 80 (few_counted (Least (λ n. n ≤ above low highest_integer)) (λ k n h. (let c : octet_count n ≤ 9 = octet_count_below n 9 (omega arith) (omega (arith, top, h.member)) in omega (arith, c, h.count)))))
few_ranged None high good = few_map 80 (few_map 80 (few_unconstrained _ (λ z h. (h.0, h.1))))

few_integer : (b : Range) → InProfile (integer b) → HasFew 81 (Values (integer b))
few_integer b good = few_same 81 (integers_compose b good) (go b.low b.high b.extensible good)
  where
    go : (low high : Option ℤ) (m : Bool) → InProfile (integer (record { low = low; high = high; extensible = m })) → HasFew 81 (Integers (record { low = low; high = high; extensible = m }))
    go low high false good = few_more 80 81 (omega arith) (few_ranged low high good)
    go low high true good = few_map 81 (few_fork 80 (few_ranged low high (root_of_profile (record { low = low; high = high; extensible = true }) good)) (few_map 80 (few_map 80 (few_unconstrained _ (λ z h. (h.least, h.most))))))

-- an item of an ENUMERATED
few_items : (root : List Label) (more : MoreLabels) → InProfile (enumerated root more) → HasFew 82 (Items root more)
few_items root closed_labels good = few_map 82 (few_more 8 82 (omega arith) (few_below (length root) 8 (omega (arith, (root_items root closed_labels good).few))))
few_items root (marked_labels more) good =
    let few = few_additions root (marked_labels more) good in
    few_map 82 (few_fork 81 (few_map 81 (few_more 8 81 (omega arith) (few_below (length root) 8 (omega (arith, (root_items root (marked_labels more) good).few)))))
    (few_map 81 (few_small (length more) (omega (arith, few)))))

-- each of them
few_scalar : (t : Shape) → InProfile t → IsScalar t → HasFew 82 (Values t)
few_scalar boolean good h = few_more 1 82 (omega arith) few_boolean
few_scalar null good h = few_more 0 82 (omega arith) few_null
few_scalar (integer b) good h = few_more 81 82 (omega arith) (few_integer b good)
few_scalar (enumerated root more) good h = few_same 82 (items_compose root more good) (few_items root more good)
few_scalar _ good h = absurd h

-- only they have a DEFAULT
default_scalar : (d : Datum) (t : Shape) → good_default t d ≡ true → IsScalar t
default_scalar d boolean e = tt
default_scalar d null e = tt
default_scalar d (integer b) e = tt
default_scalar d (enumerated root more) e = tt
default_scalar d (bit_string s) e = absurd (no_default d e)
  where
    no_default : (d : Datum) → good_default (bit_string s) d ≡ true → ⊥
    no_default _ e = absurd (cc)
default_scalar d _ e = absurd (cc)

pub scalar_brief : (t : Shape) → InProfile t → IsScalar t → IsBrief per_coding (Spelt per_coding.code None t)
unfolding per_coding
scalar_brief t good h = brief 82 (omega arith) (few_spelt None t 82 (few_scalar t good h))

pub other_brief : (d : Datum) (t : Shape) → InProfile t → good_default t d ≡ true → IsBrief per_coding (Spelt per_coding.code (Some d) t)
unfolding per_coding
other_brief d t good e = brief 82 (omega arith) (few_spelt (Some d) t 82 (few_scalar t good (default_scalar d t e)))

-- ---- what stands in a SEQUENCE and a CHOICE

-- an extension bit, where there is one
mark_few : (m b : Bool) → length (extension_bit m b) ≤ 1
mark_few false b = omega arith
mark_few true b = omega arith

pub preamble_brief : (n : ℕ) (more : Option ℕ) → n ≤ 64 → IsBrief per_coding (PreambleOf per_coding n more)
unfolding per_coding
preamble_brief n more h = brief 65 (omega arith) (few_spelled (λ p. extension_bit (is_some more) p.0 ++ bits n p.1) 65 (λ p g. omega (arith, h, length-append (extension_bit (is_some more) p.0) (bits n p.1), mark_few (is_some more) p.0, length-digits 2 n p.1)))

pub bitmap_brief : (n : ℕ) → n ≤ 64 → IsBrief per_coding (AdditionBitmapOf per_coding n)
unfolding per_coding
bitmap_brief n h = brief 71 (omega arith) (few_spelled (λ m. small_length (length (bits n m)) ++ bits n m) 71 (λ m g. few m))
  where
    few : (m : ℕ) → length (small_length (length (bits n m)) ++ bits n m) ≤ 71
    few m =
        let k = length (bits n m) in
        omega (arith, h, length-append (small_length k) (bits n m), length-digits 2 n m, length-digits 2 6 (k - 1))

-- few alternatives of the root
few_root : (root : ℕ) (more : Option ℕ) → AreFew root more → root ≤ most_alternatives
few_root root None h = h
few_root root (Some more) h = omega (arith, h)

pub index_brief : (root : ℕ) (more : Option ℕ) → AreFew root more → IsBrief per_coding (IndexOf per_coding root more)
index_brief root more h = brief 82 (omega arith) (few_same 82 (index_spelled root more h) (go more h))
  where
    go : (more : Option ℕ) → AreFew root more → HasFew 82 (IndexesOf root more)
    go None h = few_map 82 (few_more 8 82 (omega arith) (few_below root 8 (omega (arith, few_root root None h))))
    go (Some more) h = few_fork 81 (few_more 8 81 (omega arith) (few_below root 8 (omega (arith, few_root root (Some more) h)))) (few_small more (omega (arith, h)))

-- ---- lengths, and what stands before them

few_header : (S : ℕ → Type 0) → HasFew 16 (Header S)
few_header S = few_map 16 (few_fork 15 (few_digits 2 7 15 (Few S) (omega arith)) (few_fork 14 (few_digits 2 14 14 (Many S) (omega arith)) (few_digits 2 6 14 (Blocks S) (omega arith))))

few_next : (a : Ahead) → HasFew 16 (NextOf a)
few_next (items n) = few_more 0 16 (omega arith) (few_nothing _)
few_next (lengths counts so_far closed) = few_map 16 (few_header (At (Spanned counts) so_far closed))
few_next end = record { spelt = λ v cs s. record { units = []; same = s.empty; few = omega arith } }

pub next_brief : (a : Ahead) → IsBrief per_coding (NextOf a)
next_brief a = brief 16 (omega arith) (few_next a)

-- in front of a list of the root
few_root_start : (low : ℕ) (high : Option ℕ) (m : Bool) → IsSizeOfProfile (record { low = low; high = high; extensible = m }) → HasFew 16 (RootStart low high)
few_root_start low (Some high) m good = go (nat_lt high 65536) refl
  where
    go : (b : Bool) → nat_lt high 65536 ≡ b → HasFew 16 (StartForm b low high)
    go true e = (let few = ltb-true high 65536 e in few_map 16 (few_map 16 (few_below (suc (high - low)) 16 (omega (arith, few)))))
    go false e = few_more 0 16 (omega arith) (few_nothing _)
few_root_start low None m good = few_more 0 16 (omega arith) (few_nothing _)

pub few_start : (s : SizeRange) → IsSizeOfProfile s → HasFew 17 (Start s)
few_start s good = go s.low s.high s.extensible good
  where
    go : (low : ℕ) (high : Option ℕ) (m : Bool) → IsSizeOfProfile (record { low = low; high = high; extensible = m }) → HasFew 17 (Start (record { low = low; high = high; extensible = m }))
    go low high false good = few_more 16 17 (omega arith) (few_root_start low high false good)
    go low high true good = few_map 17 (few_fork 16 (few_root_start low high true good) (few_more 0 16 (omega arith) (few_nothing (lengths (other_counts low high) 0 false))))

pub list_start_brief : (s : SizeRange) → IsSizeOfProfile s → IsBrief per_coding (per_coding.list_start s)
unfolding per_coding
list_start_brief s good = brief 17 (omega arith) (few_start s good)

-- ---- what fills up a message

-- how many zeros there are
filling_count : (n : ℕ) → ((n ≡ 0) × (length (filling n) ≡ 8)) ⊎ ((0 < n) × (length (filling n) ≡ (8 - n % 8) % 8))
filling_count zero = inl (refl, length-replicate {A = ℕ} 8 0)
filling_count (suc n) = inr (omega arith, length-replicate {A = ℕ} ((8 - suc n % 8) % 8) 0)

filling_few : (n : ℕ) → length (filling n) ≤ 8
filling_few n = ⊎_elim (λ h. omega (arith, h.1)) (λ h. omega (arith, h.1)) (filling_count n)

few_filling : (n : ℕ) → HasFew 8 (Fixed (filling n))
few_filling n = few_plain 8 (λ v us h. omega (arith, filling_few n, ap length h.same))

pub padding_brief : (n : ℕ) → IsBrief per_coding (Fixed (per_coding.padding n))
unfolding per_coding
padding_brief n = brief 8 (omega arith) (few_filling n)

-- no unit
none_left : (us : List ℕ) → length us ≡ 0 → us ≡ []
none_left [] e = refl
none_left (u ∷ us) e = absurd (omega arith)

-- as many units as plain ones that they begin are these
front_whole : (R : Fielding) (ws us : List ℕ) → IsFront R (ones ws) us → length us ≡ length ws → us ≡ ws ++ []
front_whole R [] [] h e = refl
front_whole R [] (u ∷ us) h e = absurd h
front_whole R (w ∷ ws) [] h e = absurd (omega arith)
front_whole R (w ∷ ws) (u ∷ us) h e = (let rest : us ≡ ws ++ [] = front_whole R ws us h.1 (omega arith) in let first : w ≡ u = h.0 in cc)

-- fewer units than fill up a message want more
short_filling : (R : Fielding) (zs us : List ℕ) → Short R (Fixed zs) us → length us < length zs
short_filling R zs us s = ⊎_elim (λ h. h) (λ h. absurd (whole h)) (cases_lt (length us) (length zs))
  where
    front : IsFront R (ones zs) us
    front =
        let f = s.live.spelt in
        subst (λ (cs : List Chunk). IsFront R cs us) (f.same ∙ ap ones f.spelt.same) s.live.front

    whole : length zs ≤ length us → ⊥
    whole h =
        let e : length us ≡ length zs = omega (arith, h, front_few R zs us front) in
        let is : Spells R (Fixed zs) tt (zs ++ []) [] = plain_spells R {C = AreUnits zs} tt zs [] (record { same = refl }) in
        s.none tt [] (subst (λ (ws : List ℕ). Spells R (Fixed zs) tt ws []) (sym (front_whole R zs us front e)) is)

-- octets that are whole have all of it, or no bit has come
pub unfilled : (n : ℕ) (us : List ℕ) → (n + length us) % per_coding.octet_units ≡ 0 → Short per_coding.ruling.fielding (Fixed (per_coding.padding n)) us → (n ≡ 0) × (us ≡ [])
unfolding per_coding per_ruling
unfilled n us e s =
    let few = short_filling per_fields (filling n) us s in
    ⊎_elim (λ h. (h.0, none_left us (omega (arith, few, h.0, h.1, e)))) (λ h. absurd (omega (arith, few, h.0, h.1, e))) (filling_count n)

pub no_units : per_coding.to_units [] ≡ []
unfolding per_coding
no_units = refl

pub at_unit : per_coding.at_unit []
unfolding per_coding
at_unit = tt

-- all of them
pub per_feed_laws : FeedLaws per_coding
per_feed_laws = record {
  none = no_units;
  begin = at_unit;
  scalar = scalar_brief;
  other = other_brief;
  preamble = preamble_brief;
  bitmap = bitmap_brief;
  index = index_brief;
  next = next_brief;
  list_start = list_start_brief;
  padding = padding_brief;
  unfilled = unfilled;
  rows = per_row_laws;
}
