-- BIT STRING in OER as the octets that it has.
use Rattle.std.proofs.Common.{◌≡◌, ◌≤◌, ◌-◌, ◌*◌, ℕ, Bool, true, false, List, [], ◌∷◌, ◌++◌, length, take, drop, get_or, refl, sym, ap, subst, ◌∙◌, arith}
use Rattle.std.proofs.lemmas.List.{take_all}
use Rattle.asn_values.specs.Datum.{bit_list}
use Rattle.asn_values.specs.Fits.{FitsLength, max_len}
use Rattle.asn_values.specs.Profile.{InProfile, is_fixed_size}
use Rattle.asn_values.specs.Shape.{SizeRange, bit_string}
use Rattle.asn_bits.specs.Sets.{InDigits}
use Rattle.asn_bits.proofs.Unions.{set_meets}
use Rattle.asn_rules.specs.Chunks.{Chunk}
use Rattle.asn_rules.specs.Fields.{OneOctet, OctetLength, octet_fields}
use Rattle.asn_rules.specs.Filled.{filled_octets}
use Rattle.asn_rules.specs.Forks.{Same}
use Rattle.asn_rules.specs.Languages.{Spells, Refused, Then, Map, Nothing, Row, Plain}
use Rattle.asn_rules.specs.Laws.{AreOctets}
use Rattle.asn_rules.specs.OctetStrings.{BitsLength, UnusedBits, PackedBits, VariableBits, last_told}
use Rattle.asn_rules.specs.declared.stop.Stop.{Stop}
use Rattle.asn_rules.specs.declared.stop.Stop.TheVariants as stop
use Rattle.asn_rules.proofs.Answer.Answers.{done_stays}
use Rattle.asn_rules.proofs.Languages.Leads.{LeadsStops, Leads, leads_on, leads_map, leads_same, leads_second, stops_on}
use Rattle.asn_rules.proofs.Languages.Spellings.{same_after}
use Rattle.asn_rules.proofs.Languages.Parts.{map_source}
use Rattle.asn_rules.proofs.Languages.Then.{Follows, Both, then_inhabited, then_splits}
use Rattle.asn_rules.proofs.Numbers.OctetLengths.{length_spelled, length_lawful, octets_itself}
use Rattle.asn_rules.proofs.Numbers.Sets.{set_lawful, set_inhabited}
use Rattle.asn_rules.proofs.Octets.BitStrings.{short}
use Rattle.asn_rules.proofs.Octets.Characters.{row_front}
use Rattle.asn_rules.proofs.Octets.OctetFields.{octet_fields_part}
use Rattle.asn_walk_feed.specs.Octets.{OctetCoding, OctetsOf}
use Rattle.asn_oer.specs.Oer.{oer_fields}
use Rattle.asn_oer.specs.Reading.{ValuesOf}
use Rattle.asn_oer.specs.Rules.{oer_ruling}
use Rattle.asn_oer.specs.Walk.{oer_coding}
use Rattle.asn_oer.proofs.Types.BitLanguages.{bit_string_language}
use Rattle.asn_oer.proofs.Types.LeftOut.{none_left_out}
use Rattle.asn_oer.specs.SingleItems.{InFront, AfterUnused, bit_octets_of, AreBitsOf, AreNoBits, RefusedAtEnd}
use Rattle.asn_oer.proofs.InPieces.PackedItems.{bits_coarser, bits_refused, some_bits}
use Rattle.asn_oer.proofs.InPieces.Coarser.{Coarser, coarser_stops, coarser_then, coarser_map}
use Rattle.asn_oer.proofs.InPieces.Starts.{counted_same, unspelt, unused_told, Unused, unused_same}

-- the octets of bits, where the size is fixed or not
abbrev coding_at : SizeRange → Bool → OctetCoding
coding_at s t = record { start = elim t [ true ↦ InFront (Nothing (filled_octets s.low)) | false ↦ AfterUnused (FitsLength s) ]; octet = OneOctet }

abbrev bits_at : SizeRange → Bool → List Bool → List Chunk → Type 0
bits_at s t = elim t [ true ↦ PackedBits s.low | false ↦ VariableBits (FitsLength s) ]

pub bits_lead : (s : SizeRange) → InProfile (bit_string s) → (t : Bool) → is_fixed_size s ≡ t → (us : List ℕ) → Leads oer_fields (bits_at s t) us bit_list (ValuesOf (bit_string s)) us
bits_lead s good t e us = leads_on (leads_map oer_fields bit_list (bits_at s t) us) (leads_same oer_fields us whole)
  where
    whole : Same (Map bit_list (bits_at s t)) (ValuesOf (bit_string s))
    whole = subst (λ (b : Bool). Same (Map bit_list (bits_at s b)) (ValuesOf (bit_string s))) e (same_after (bit_string_language s good) (none_left_out (bit_string s)))

-- of a fixed size
fixed_same : (n : ℕ) → Same (OctetsOf (record { start = InFront (Nothing n); octet = OneOctet })) (Row OneOctet n)
fixed_same n = same_after (counted_same (Nothing n) OneOctet) (unspelt OneOctet n)

-- after their length and the number of unused bits
module _ (S : ℕ → Type 0) (small : (n : ℕ) → S n → n ≤ max_len) where
  abbrev Lengths : ℕ → List Chunk → Type 0
  Lengths = OctetLength (BitsLength S)

  abbrev UnusedOf : ℕ → ℕ → List Chunk → Type 0
  UnusedOf l = Plain (InDigits 256 1 (UnusedBits S l))

  abbrev Bits : ℕ → ℕ → List Bool → List Chunk → Type 0
  Bits l u = PackedBits (8 * (l - 1) - u)

  abbrev UnusedAndBits : ℕ → ℕ × List Bool → List Chunk → Type 0
  UnusedAndBits l = Then (UnusedOf l) (λ u. Bits l u)

  told : (l : ℕ) (cs : List Chunk) → Lengths l cs → BitsLength S l
  told l cs h = ((length_spelled (BitsLength S) (short S small)).to l cs h).fits

  bits_follow : (l : ℕ) → Follows (UnusedOf l) (λ u. Bits l u)
  bits_follow l = record { follow = λ u cs h. some_bits (8 * (l - 1) - u) }

  -- some number of unused bits stands after a length
  pub some_unused : Follows Lengths UnusedOf
  some_unused = record {
    follow = λ l cs h.
        (let b = told l cs h in
        let u = 8 * (l - 1) - b.count in
        let same : b.count ≡ 8 * (l - 1) - u = omega (arith, b.same) in
        let is : UnusedBits S l u = record { few = omega (arith, b.same); left = omega arith; member = subst S same b.member } in
        set_inhabited (set_meets 256 1 u is (omega (arith, is.few))));
  }

  unused_follow : Follows Lengths UnusedAndBits
  unused_follow = record { follow = λ l cs h. then_inhabited (some_unused.follow l cs h) (bits_follow l) }

  pub filled_by : (l u : ℕ) → UnusedBits S l u → filled_octets (8 * (l - 1) - u) ≡ l - 1
  filled_by l u h = omega (arith, h.few, h.left)

  unused_coarser : Coarser octet_fields (Then Lengths (Unused S)) (Then Lengths UnusedAndBits)
  unused_coarser = coarser_then octet_fields_part unused_follow (λ l cs h. coarser_then octet_fields_part (bits_follow l) (λ u ds g.
      subst (λ (n : ℕ). Coarser octet_fields (Row OneOctet n) (Bits l u)) (filled_by l u g.spelt.member) (bits_coarser (8 * (l - 1) - u))))

  variable_stops : (us : List ℕ) → LeadsStops octet_fields (OctetsOf (record { start = AfterUnused S; octet = OneOctet })) us (VariableBits S) us
  variable_stops us = stops_on (leads_same octet_fields us (unused_same S)).stops (coarser_stops (coarser_map unused_told last_told unused_coarser) us)

  -- what is known of such octets
  pub record UnusedRead (u : ℕ) (fs us r : List ℕ) : Type 0 where
    pub l : ℕ
    pub unused : UnusedBits S l u
    pub count : length fs ≡ l - 1
    pub octets : AreOctets fs
    pub before : List ℕ
    pub rest : before ≡ fs ++ r
    pub leads : Leads octet_fields (Bits l u) before (λ bs. bs) (VariableBits S) us

  pub unused_read : (os us r : List ℕ) → Spells octet_fields (OctetsOf (record { start = AfterUnused S; octet = OneOctet })) os us r
      → (u : ℕ) × (fs : List ℕ) × (os ≡ u ∷ fs) × UnusedRead u fs us r
  unused_read os us r h = (u, fs, src.2, read)
    where
      src : (p : ℕ × (ℕ × List ℕ)) × Spells octet_fields (Then Lengths (Unused S)) p us r × (os ≡ unused_told p)
      src = map_source ((leads_same octet_fields us (unused_same S)).done os r h)

      l : ℕ
      l = src.0.0

      u : ℕ
      u = src.0.1.0

      fs : List ℕ
      fs = src.0.1.1

      first : Both octet_fields Lengths (Unused S) src.0 us r
      first = then_splits src.1

      second : Both octet_fields (UnusedOf l) (λ u. Row OneOctet (l - 1)) src.0.1 first.rest r
      second = then_splits first.later

      row : (second.rest ≡ fs ++ r) × (length fs ≡ l - 1)
      row = row_front (l - 1) fs second.rest r second.later

      read : UnusedRead u fs us r
      read = record {
        l = l;
        unused = second.earlier.spelt.spelt.member;
        count = row.1;
        octets = ((octets_itself (l - 1)).to fs second.later.chunks second.later.spelt).fits.1;
        before = second.rest;
        rest = row.0;
        leads =
            leads_on (leads_second {M = λ v. Bits l v} octet_fields_part (set_lawful 256 1 (UnusedBits S l)) second.earlier)
            (leads_on (leads_second {M = UnusedAndBits} octet_fields_part (length_lawful (BitsLength S)) first.earlier) (leads_map octet_fields last_told (Then Lengths UnusedAndBits) us));
      }

pub bits_stop : (s : SizeRange) → InProfile (bit_string s) → (us : List ℕ) → LeadsStops oer_fields (OctetsOf (bit_octets_of s)) us (ValuesOf (bit_string s)) us
bits_stop s good us = go (is_fixed_size s) refl
  where
    go : (t : Bool) → is_fixed_size s ≡ t → LeadsStops oer_fields (OctetsOf (coding_at s t)) us (ValuesOf (bit_string s)) us
    go true e = stops_on (leads_same oer_fields us (fixed_same (filled_octets s.low))).stops (stops_on (coarser_stops (bits_coarser s.low) us) (bits_lead s good true e us).stops)
    go false e = stops_on (variable_stops (FitsLength s) (λ n h. h.0) us) (bits_lead s good false e us).stops

-- ---- what is told of all octets

-- of a fixed size
fixed_row : (s : SizeRange) → is_fixed_size s ≡ true → (os us r : List ℕ) → Spells octet_fields (OctetsOf (bit_octets_of s)) os us r
    → Spells octet_fields (Row OneOctet (filled_octets s.low)) os us r
fixed_row s e os us r h =
    let k : Spells octet_fields (OctetsOf (coding_at s true)) os us r = subst (λ (t : Bool). Spells octet_fields (OctetsOf (coding_at s t)) os us r) e h in
    (leads_same octet_fields us (fixed_same (filled_octets s.low))).done os r k

-- they have as many octets as the bits fill
pub fixed_filled : (s : SizeRange) → is_fixed_size s ≡ true → (os : List ℕ) (cs : List Chunk) → OctetsOf (bit_octets_of s) os cs
    → length os ≡ filled_octets s.low
fixed_filled s e os cs h =
    let k : OctetsOf (coding_at s true) os cs = subst (λ (t : Bool). OctetsOf (coding_at s t) os cs) e h in
    ((octets_itself (filled_octets s.low)).to os cs ((fixed_same (filled_octets s.low)).to os cs k)).fits.0

pub fixed_bits : (s : SizeRange) → InProfile (bit_string s) → is_fixed_size s ≡ true → (os : List ℕ) (bs : List Bool)
    → Spells octet_fields (PackedBits s.low) bs os [] → AreBitsOf s os (bit_list bs)
unfolding oer_coding oer_ruling
fixed_bits s good e os bs read us r h =
    let row = row_front (filled_octets s.low) os us r (fixed_row s e os us r h) in
    let here : Spells octet_fields (PackedBits s.low) bs us r = subst (λ (xs : List ℕ). Spells octet_fields (PackedBits s.low) bs xs r) (sym row.0) (done_stays r read) in
    (bits_lead s good true e us).done bs r here

pub fixed_no_bits : (s : SizeRange) → InProfile (bit_string s) → is_fixed_size s ≡ true → (os : List ℕ) (left : ℕ) (why : Stop)
    → RefusedAtEnd s.low os left why → AreNoBits s os left why
unfolding oer_coding oer_ruling
fixed_no_bits s good e os left (stop.Refused m w) end us r h l =
    let k = fixed_row s e os us r h in
    let row = row_front (filled_octets s.low) os us r k in
    let octets : AreOctets os = ((octets_itself (filled_octets s.low)).to os k.chunks k.spelt).fits.1 in
    let here : Refused octet_fields (PackedBits s.low) us (length r) =
    subst (λ (xs : List ℕ). Refused octet_fields (PackedBits s.low) xs (length r)) (sym row.0) (bits_refused s.low os r row.1 octets end.1) in
    record { told = subst (Refused oer_fields (ValuesOf (bit_string s)) us) (l ∙ sym end.0) ((bits_lead s good true e us).stops.refused (length r) here) }
fixed_no_bits s good e os left stop.Short end us r h l = absurd end
fixed_no_bits s good e os left stop.Memory end us r h l = record { told = tt }

-- after a length and the number of unused bits
module _ (s : SizeRange) (good : InProfile (bit_string s)) (e : is_fixed_size s ≡ false) where
  read : (os us r : List ℕ) → Spells octet_fields (OctetsOf (bit_octets_of s)) os us r
      → (u : ℕ) × (fs : List ℕ) × (os ≡ u ∷ fs) × UnusedRead (FitsLength s) (λ n h. h.0) u fs us r
  read os us r h = unused_read (FitsLength s) (λ n h. h.0) os us r (subst (λ (t : Bool). Spells octet_fields (OctetsOf (coding_at s t)) os us r) e h)

  -- the same of the number of unused bits and the octets, as the program holds them
  read_as : (u : ℕ) (fs us r : List ℕ) → Spells octet_fields (OctetsOf (bit_octets_of s)) (u ∷ fs) us r → UnusedRead (FitsLength s) (λ n h. h.0) u fs us r
  read_as u fs us r h =
      let w = read (u ∷ fs) us r h in
      let a : w.0 ≡ u = cc w.2 in
      let b : w.1 ≡ fs = cc w.2 in
      subst (λ (v : ℕ). UnusedRead (FitsLength s) (λ n h. h.0) v fs us r) a (subst (λ (xs : List ℕ). UnusedRead (FitsLength s) (λ n h. h.0) w.0 xs us r) b w.3)

  -- how many bits they have
  count_is : (u : ℕ) (fs us r : List ℕ) (w : UnusedRead (FitsLength s) (λ n h. h.0) u fs us r) → 8 * (w.l - 1) - u ≡ 8 * length fs - u
  count_is u fs us r w = omega (arith, w.count)

  -- what the octets are to the program
  pub record UnusedParts (os : List ℕ) : Type 0 where
    pub unused : ℕ
    pub filled : List ℕ
    pub is : os ≡ unused ∷ filled
    pub within : unused ≤ 8 * length filled
    pub small : length filled ≤ 33554432
    pub count : length filled ≡ filled_octets (8 * length filled - unused)
    pub first : get_or os 0 0 ≡ unused
    pub rest : take (length os - 1) (drop 1 os) ≡ filled

  pub unused_parts : (os : List ℕ) (cs : List Chunk) → OctetsOf (bit_octets_of s) os cs → UnusedParts os
  unused_parts os cs h =
      let k = (unused_same (FitsLength s)).to os cs (subst (λ (t : Bool). OctetsOf (coding_at s t) os cs) e h) in
      let l = k.source.0 in
      let u = k.source.1.0 in
      let fs = k.source.1.1 in
      let m : UnusedBits (FitsLength s) l u = k.spelt.follows.spelt.spelt.member in
      let b : BitsLength (FitsLength s) l = told (FitsLength s) (λ n h. h.0) l k.spelt.first k.spelt.spelt in
      let c : length fs ≡ l - 1 = ((octets_itself (l - 1)).to fs k.spelt.follows.second k.spelt.follows.follows).fits.0 in
      let n : 8 * (l - 1) - u ≡ 8 * length fs - u = omega (arith, c) in
      let is : os ≡ u ∷ fs = k.seen in
      record {
        unused = u;
        filled = fs;
        is = is;
        within = omega (arith, m.left, c);
        small = omega (arith, c, b.same, b.member.0);
        count = c ∙ sym (filled_by (FitsLength s) (λ n h. h.0) l u m) ∙ ap filled_octets n;
        first = ap (λ (xs : List ℕ). get_or xs 0 0) is;
        rest = ap (λ (xs : List ℕ). take (length xs - 1) (drop 1 xs)) is ∙ take_all (length (u ∷ fs) - 1) fs (omega arith);
      }

  pub unused_bits_are : (u : ℕ) (fs : List ℕ) (bs : List Bool) → Spells octet_fields (PackedBits (8 * length fs - u)) bs fs [] → AreBitsOf s (u ∷ fs) (bit_list bs)
  unfolding oer_coding oer_ruling
  unused_bits_are u fs bs p us r h =
      let w = read_as u fs us r h in
      let n : 8 * (w.l - 1) - u ≡ 8 * length fs - u = count_is u fs us r w in
      let here : Spells octet_fields (PackedBits (8 * length fs - u)) bs w.before r = subst (λ (xs : List ℕ). Spells octet_fields (PackedBits (8 * length fs - u)) bs xs r) (sym w.rest) (done_stays r p) in
      (bits_lead s good false e us).done bs r (w.leads.done bs r (subst (λ (k : ℕ). Spells octet_fields (PackedBits k) bs w.before r) (sym n) here))

  pub unused_no_bits : (u : ℕ) (fs : List ℕ) (left : ℕ) (why : Stop) → RefusedAtEnd (8 * length fs - u) fs left why → AreNoBits s (u ∷ fs) left why
  unfolding oer_coding oer_ruling
  unused_no_bits u fs left (stop.Refused m y) end us r h l =
      let w = read_as u fs us r h in
      let n : 8 * (w.l - 1) - u ≡ 8 * length fs - u = count_is u fs us r w in
      let filled : length fs ≡ filled_octets (8 * length fs - u) = w.count ∙ sym (filled_by (FitsLength s) (λ n h. h.0) w.l u w.unused) ∙ ap filled_octets n in
      let here : Refused octet_fields (PackedBits (8 * length fs - u)) w.before (length r) =
      subst (λ (xs : List ℕ). Refused octet_fields (PackedBits (8 * length fs - u)) xs (length r)) (sym w.rest) (bits_refused (8 * length fs - u) fs r filled w.octets end.1) in
      let there : Refused octet_fields (PackedBits (8 * (w.l - 1) - u)) w.before (length r) = subst (λ (k : ℕ). Refused octet_fields (PackedBits k) w.before (length r)) (sym n) here in
      record { told = subst (Refused oer_fields (ValuesOf (bit_string s)) us) (l ∙ sym end.0) ((bits_lead s good false e us).stops.refused (length r) (w.leads.stops.refused (length r) there)) }
  unused_no_bits u fs left stop.Short end us r h l = absurd end
  unused_no_bits u fs left stop.Memory end us r h l = record { told = tt }
