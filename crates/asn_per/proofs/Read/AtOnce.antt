-- Values whose bits are taken at once: those bits are the ones that a writer puts.
use Rattle.std.proofs.Common.{◌≡◌, ◌<◌, ◌+◌, ◌-◌, inl, ℕ, suc, Bool, true, false, List, [], ◌∷◌, ◌++◌, length, map, Option, Some, None, refl, sym, ◌∙◌, ap, subst, arith, append_assoc}
use Rattle.std.proofs.lemmas.Bool.{le-leb, lt-ltb}
use Rattle.std.proofs.lemmas.List.{length-map, length-replicate}
use Rattle.asn_values.specs.Datum.{Datum, bit_list, octet_list, item}
use Rattle.asn_values.specs.Fits.{Fits, FitsLength, in_size}
use Rattle.asn_values.specs.Profile.{InProfile}
use Rattle.asn_values.specs.Shape.{SizeRange, Shape, bit_string, octet_string, enumerated, Label, MoreLabels, has_more_labels}
use Rattle.asn_bits.specs.Lengths.{joined, general}
use Rattle.asn_bits.specs.Numbers.{bits, width}
use Rattle.asn_bits.specs.Sink.{bit_of}
use Rattle.asn_bits.proofs.ItemRows.{one_bit, bits_joined}
use Rattle.asn_rules.specs.Chunks.{Chunk, one, ones, flat}
use Rattle.asn_rules.specs.Components.{extension_bit}
use Rattle.asn_rules.specs.Languages.{AllContents, Spells}
use Rattle.asn_rules.specs.Listed.{Spelt}
use Rattle.asn_rules.proofs.Languages.Parts.{contents-ones}
use Rattle.asn_rules.proofs.Law.SomeValue.{shortest_fits}
use Rattle.asn_rules.proofs.Live.Chunks.{contents-append}
use Rattle.asn_walk.specs.AtOnce.{BitsFirst, OctetsFirst}
use Rattle.asn_per.specs.Indexes.{index_bits}
use Rattle.asn_per.specs.Kinds.{position_of}
use Rattle.asn_per.specs.Laws.{per_bits}
use Rattle.asn_per.specs.Per.{per, per_fields, enumeration, spelled, constrained, sized, within, after_mark}
use Rattle.asn_per.specs.StringItems.{row_bits}
use Rattle.asn_plan.proofs.RootItems.{root_items}
use Rattle.asn_per.proofs.Read.StringReading.{bits_size, octets_size}
use Rattle.asn_per.proofs.Types.Ranks.{place_there}
use Rattle.asn_per.proofs.Write.IndexBits.{root_index_bits}
use Rattle.asn_per.proofs.Write.ItemBits.{bits_of_root_item}
use Rattle.asn_per.proofs.Write.SizesWritten.{root_bits}
use Rattle.asn_per.proofs.Write.Words.{octets_joined, row_of}

-- a value whose bits stand at the front is read
spelt_first : (t : Shape) (d : Datum) (us r : List ℕ) → Fits t d → AllContents per_fields (per t d) → us ≡ flat spelled (per t d) ++ r → Spells per_fields (Spelt per None t) d us r
spelt_first t d us r h all e = record { chunks = per t d; spelt = record { fits = (h, tt); same = refl }; contents = all; split = e }

-- ---- strings of the only length of a size

-- items in bits have no sealed fields
plain_items : {A : Type 0} (code : A → List ℕ) (xs : List A) → AllContents per_fields (joined (map (λ a. ones (code a)) xs))
plain_items code [] = tt
plain_items code (x ∷ xs) = contents-append per_fields (ones (code x)) (joined (map (λ a. ones (code a)) xs)) (contents-ones per_fields (code x)) (plain_items code xs)

-- the size that has this length alone
abbrev only_size : ℕ → Bool → SizeRange
only_size n m = record { low = n; high = Some n; extensible = m }

only_inside : (n : ℕ) (m : Bool) → in_size (only_size n m) n ≡ true
only_inside n m = rw (le-leb n n (omega arith)) refl

-- items of that count
count_contents : (n : ℕ) (xs : List (List Chunk)) → n < 65536 → AllContents per_fields (joined xs) → AllContents per_fields (within n (Some n) xs)
count_contents n xs few h =
    let count = constrained (suc (n - n)) (length xs - n) in
    subst (λ (b : Bool). AllContents per_fields (elim b [ true ↦ ones count ++ joined xs | false ↦ general one xs ])) (sym (lt-ltb n 65536 few)) (contents-append per_fields (ones count) (joined xs) (contents-ones per_fields count) h)

-- the items follow the extension bit
only_contents : (m : Bool) (xs : List (List Chunk)) → length xs < 65536 → AllContents per_fields (joined xs) → AllContents per_fields (sized (only_size (length xs) m) xs)
only_contents false xs few h = count_contents (length xs) xs few h
only_contents true xs few h =
    subst (λ b. AllContents per_fields (after_mark one true b (within (length xs) (Some (length xs)) xs) (general one xs))) (sym (only_inside (length xs) true)) (count_contents (length xs) xs few h)

only_bits : (m : Bool) (xs : List (List Chunk)) → length xs < 65536 → flat spelled (sized (only_size (length xs) m) xs) ≡ extension_bit m false ++ row_bits xs
only_bits m xs few =
    let n = length xs in
    let none : suc (n - n) ≡ 1 = omega arith in
    root_bits n n m few xs (only_inside n m) ∙ ap (λ k. extension_bit m false ++ (bits (width k) (n - n) ++ row_bits xs)) none

-- what is said of that size is said of the one with these bounds
of_only : (P : SizeRange → Type 0) (low n : ℕ) (high : Option ℕ) (m : Bool) → low ≡ n → high ≡ Some n → P (only_size n m) → P (record { low = low; high = high; extensible = m })
of_only P low n high m e f p = subst (λ l. P (record { low = l; high = high; extensible = m })) (sym e) (subst (λ h. P (record { low = n; high = h; extensible = m })) (sym f) p)

-- the chunks of a bit and of an octet
abbrev one_chunk : Bool → List Chunk
one_chunk b = one (bit_of b) ∷ []

abbrev octet_chunks : ℕ → List Chunk
octet_chunks o = ones (bits 8 o)

-- a BIT STRING
pub bits_first : (s : SizeRange) (d : Datum) (us r : List ℕ) → InProfile (bit_string s) → BitsFirst s d us r → Spells per_fields (Spelt per None (bit_string s)) d us r
bits_first s d us r good h =
    let ts = h.truths in
    let size = bits_size s good in
    let xs = map one_chunk ts in
    let many : length xs ≡ length ts = length-map ts one_chunk in
    let few : length xs < 65536 = omega (arith, many, h.few) in
    let fits : FitsLength s (length ts) = subst (FitsLength s) (length-replicate s.low true ∙ h.only.low) (shortest_fits s true size.ordered size.small) in
    let parts : (AllContents per_fields (sized s xs)) × (flat spelled (sized s xs) ≡ extension_bit s.extensible false ++ row_bits xs) =
    of_only (λ z. AllContents per_fields (sized z xs) × (flat spelled (sized z xs) ≡ extension_bit z.extensible false ++ row_bits xs)) s.low (length xs) s.high s.extensible
    (h.only.low ∙ sym many) (h.only.high ∙ ap Some (sym many)) (only_contents s.extensible xs few (plain_items (λ b. bit_of b ∷ []) ts), only_bits s.extensible xs few) in
    let e : us ≡ flat spelled (sized s xs) ++ r =
    h.split ∙ sym (append_assoc (extension_bit s.extensible false) (map bit_of ts) r) ∙ ap (λ t. (extension_bit s.extensible false ++ t) ++ r) (sym (row_of one_bit ts ∙ bits_joined ts)) ∙ ap (λ t. t ++ r) (sym parts.1) in
    rw h.is (spelt_first (bit_string s) (bit_list ts) us r fits parts.0 e)

-- an OCTET STRING
pub octets_first : (s : SizeRange) (d : Datum) (us r : List ℕ) → InProfile (octet_string s) → OctetsFirst s d us r → Spells per_fields (Spelt per None (octet_string s)) d us r
octets_first s d us r good h =
    let os = h.octets in
    let size = octets_size s good in
    let xs = map octet_chunks os in
    let many : length xs ≡ length os = length-map os octet_chunks in
    let few : length xs < 65536 = omega (arith, many, h.few) in
    let fits : FitsLength s (length os) = subst (FitsLength s) (length-replicate s.low true ∙ h.only.low) (shortest_fits s true size.ordered size.small) in
    let parts : (AllContents per_fields (sized s xs)) × (flat spelled (sized s xs) ≡ extension_bit s.extensible false ++ row_bits xs) =
    of_only (λ z. AllContents per_fields (sized z xs) × (flat spelled (sized z xs) ≡ extension_bit z.extensible false ++ row_bits xs)) s.low (length xs) s.high s.extensible
    (h.only.low ∙ sym many) (h.only.high ∙ ap Some (sym many)) (only_contents s.extensible xs few (plain_items (λ o. bits 8 o) os), only_bits s.extensible xs few) in
    let e : us ≡ flat spelled (sized s xs) ++ r =
    h.split ∙ ap (λ t. t ++ r) (sym (row_of (λ o. bits 8 o) os ∙ octets_joined os)) ∙ ap (λ b. (extension_bit b false ++ row_bits xs) ++ r) (sym h.unmarked) ∙ ap (λ t. t ++ r) (sym parts.1) in
    rw h.is (spelt_first (octet_string s) (octet_list os) us r (fits, h.each) parts.0 e)

-- ---- an item of the root

pub item_first : (root : List Label) (more : MoreLabels) (mark n : ℕ) (us r : List ℕ) → InProfile (enumerated root more) → mark ≡ bit_of (has_more_labels more) → n < length root
    → us ≡ bits (mark + width (length root)) n ++ r → Spells per_fields (Spelt per None (enumerated root more)) (item (position_of root n)) us r
item_first root more mark n us r good m inside e =
    let items = root_items root more good in
    let p = position_of root n in
    let there = place_there root items.once n inside in
    let same : per_bits (enumerated root more) (item p) ≡ bits (mark + width (length root)) n =
    bits_of_root_item root more p there.0 ∙ ap (λ i. index_bits (length root) (has_more_labels more) (inl i)) there.1
    ∙ root_index_bits (length root) n inside (has_more_labels more) mark m in
    spelt_first (enumerated root more) (item p) us r (omega (arith, there.0)) (contents-ones per_fields (enumeration root more p)) (e ∙ ap (λ t. t ++ r) (sym same))
