-- The octets of a tag of CHOICE: what their reader cites at each exit.
use Rattle.std.proofs.Common.{◌≡◌, ◌≤◌, ◌<◌, ◌-◌, ◌+◌, ◌*◌, ℕ, Bool, true, false, List, inl, inr, min, nat_lt, subst, arith}
use Rattle.std.proofs.lemmas.Bool.{lt-ltb, le-ltb}
use Rattle.asn_bits.specs.Sets.{Among, InDigits}
use Rattle.asn_rules.specs.Chunks.{Chunk}
use Rattle.asn_rules.specs.Forks.{Same}
use Rattle.asn_rules.specs.Languages.{Map, Nothing, Plain, Spells, Then}
use Rattle.asn_rules.specs.OctetReading.{OctetsAmong, OctetsIn, from_to}
use Rattle.asn_rules.proofs.Languages.Forks.{same_spells}
use Rattle.asn_rules.proofs.Languages.Leads.{Leads, LeadsStops, leads_on, leads_map, leads_same, leads_second, stops_first, stops_on}
use Rattle.asn_rules.proofs.Languages.Parts.{nothing_spells}
use Rattle.asn_rules.proofs.Numbers.Sets.{set_lawful}
use Rattle.asn_rules.proofs.Octets.OctetFields.{octet_fields_part}
use Rattle.asn_rules.proofs.Plain.NumberSets.{same_set}
use Rattle.asn_oer.specs.Constructed.{TagOctet, LongTagOctet, tag_ended, LastTagOctet, AfterLongTagOctet, tag_told, LongTags, AfterTagOctet, Tags}
use Rattle.asn_oer.specs.Oer.{oer_fields}
use Rattle.asn_oer.proofs.Types.TagLanguages.{long_follows, tag_follows}

-- the same language by a test that is known
chosen : {V : Type 0} (L M : V → List Chunk → Type 0) (t b : Bool) → t ≡ b → Same {V = V} (elim b [ true ↦ L | false ↦ M ]) (elim t [ true ↦ L | false ↦ M ])
chosen {V} L M t b e = subst (λ (c : Bool). Same {V = V} (elim c [ true ↦ L | false ↦ M ]) (elim t [ true ↦ L | false ↦ M ])) e (record { to = λ v cs h. h; from = λ v cs h. h })

module _ (n : ℕ) (few : n ≤ 16384) where
  -- ---- after 191

  -- the first octet of base 128
  long_first : (is : List (ℕ × ℕ)) → ((b : ℕ) → Among is b → LongTagOctet n b) → ((b : ℕ) → LongTagOctet n b → Among is b) → (us : List ℕ)
      → Leads oer_fields (OctetsAmong 1 is) us (λ b. b) (Plain (InDigits 256 1 (LongTagOctet n))) us
  long_first is there back us = leads_same oer_fields us (same_set 256 1 there back)

  pub long_stops : (is : List (ℕ × ℕ)) → ((b : ℕ) → Among is b → LongTagOctet n b) → ((b : ℕ) → LongTagOctet n b → Among is b) → (us : List ℕ)
      → LeadsStops oer_fields (OctetsAmong 1 is) us (LongTags n) us
  long_stops is there back us =
      stops_on (long_first is there back us).stops
      (stops_on (stops_first oer_fields us (long_follows n few)) (leads_map oer_fields tag_told (Then (Plain (InDigits 256 1 (LongTagOctet n))) (AfterLongTagOctet n)) us).stops)

  -- what follows it
  after_long : (is : List (ℕ × ℕ)) → ((b : ℕ) → Among is b → LongTagOctet n b) → ((b : ℕ) → LongTagOctet n b → Among is b) → {b : ℕ} {us vs : List ℕ} → Spells oer_fields (OctetsAmong 1 is) b us vs
      → Leads oer_fields (AfterLongTagOctet n b) vs (λ t. t) (LongTags n) us
  after_long is there back {b} {us} {vs} s =
      leads_on (leads_second octet_fields_part (set_lawful 256 1 (LongTagOctet n)) ((long_first is there back us).done b vs s))
      (leads_map oer_fields tag_told (Then (Plain (InDigits 256 1 (LongTagOctet n))) (AfterLongTagOctet n)) us)

  -- nothing, where the octet is below 128
  pub long_ends : (is : List (ℕ × ℕ)) → ((b : ℕ) → Among is b → LongTagOctet n b) → ((b : ℕ) → LongTagOctet n b → Among is b) → {b : ℕ} {us vs : List ℕ} → b < 128 → Spells oer_fields (OctetsAmong 1 is) b us vs
      → Spells oer_fields (LongTags n) b us vs
  long_ends is there back {b} {us} {vs} l s =
      (after_long is there back s).done b vs (same_spells (chosen (Nothing b) (Map (tag_ended b) (Plain (InDigits 256 1 (LastTagOctet n b)))) (nat_lt b 128) true (lt-ltb b 128 l)) (nothing_spells oer_fields b vs))

  -- else the last octet
  pub last_leads : (is : List (ℕ × ℕ)) → ((b : ℕ) → Among is b → LongTagOctet n b) → ((b : ℕ) → LongTagOctet n b → Among is b) → {b m : ℕ} {us vs : List ℕ} → 128 ≤ b → LongTagOctet n b → m ≡ min (n - 1 - 128 * (b - 128)) 127 → Spells oer_fields (OctetsAmong 1 is) b us vs
      → Leads oer_fields (OctetsIn 1 (from_to 0 m)) vs (tag_ended b) (LongTags n) us
  last_leads is there back {b} {m} {us} {vs} l a e s =
      leads_on (leads_same oer_fields vs (same_set 256 1 (λ c h. in_there c h.1) (λ c h. (omega arith, in_back c h, tt))))
      (leads_on (leads_map oer_fields (tag_ended b) (Plain (InDigits 256 1 (LastTagOctet n b))) vs)
      (leads_on (leads_same oer_fields vs (chosen (Nothing b) (Map (tag_ended b) (Plain (InDigits 256 1 (LastTagOctet n b)))) (nat_lt b 128) false (le-ltb b 128 l)))
      (after_long is there back s)))
    where
      room : 128 * (b - 128) < n
      room = go a
        where
          go : LongTagOctet n b → 128 * (b - 128) < n
          go (inl h) = absurd (omega (arith, l, h.1))
          go (inr (inl h)) = omega (arith, h.0, h.1)
          go (inr (inr h)) = absurd h

      in_there : (c : ℕ) → c ≤ m → LastTagOctet n b c
      in_there c h = (omega (arith, h, e), omega (arith, h, e, room))

      in_back : (c : ℕ) → LastTagOctet n b c → c ≤ m
      in_back c h = omega (arith, h.0, h.1, e)

  pub room_after : (b : ℕ) → 128 ≤ b → LongTagOctet n b → (128 * (b - 128) < n) × (b < 256)
  room_after b l (inl h) = absurd (omega (arith, l, h.1))
  room_after b l (inr (inl h)) = (omega (arith, h.0, h.1), omega (arith, h.1, few))
  room_after b l (inr (inr h)) = absurd h

  -- ---- the first octet

  first_leads : (us : List ℕ) → Leads oer_fields (OctetsIn 1 (from_to 128 (127 + min n 64))) us (λ b. b) (Plain (InDigits 256 1 (TagOctet n))) us
  first_leads us = leads_same oer_fields us (same_set 256 1 (λ b h. (h.0, h.1)) (λ b h. (h.0, h.1, tt)))

  pub tag_stops : (us : List ℕ) → LeadsStops oer_fields (OctetsIn 1 (from_to 128 (127 + min n 64))) us (Tags n) us
  tag_stops us =
      stops_on (first_leads us).stops
      (stops_on (stops_first oer_fields us (tag_follows n few)) (leads_map oer_fields tag_told (Then (Plain (InDigits 256 1 (TagOctet n))) (AfterTagOctet n)) us).stops)

  after_first : {b : ℕ} {us vs : List ℕ} → Spells oer_fields (OctetsIn 1 (from_to 128 (127 + min n 64))) b us vs → Leads oer_fields (AfterTagOctet n b) vs (λ t. t) (Tags n) us
  after_first {b} {us} {vs} s =
      leads_on (leads_second octet_fields_part (set_lawful 256 1 (TagOctet n)) ((first_leads us).done b vs s))
      (leads_map oer_fields tag_told (Then (Plain (InDigits 256 1 (TagOctet n))) (AfterTagOctet n)) us)

  -- the whole tag
  pub tag_ends : {b : ℕ} {us vs : List ℕ} → b < 191 → Spells oer_fields (OctetsIn 1 (from_to 128 (127 + min n 64))) b us vs → Spells oer_fields (Tags n) (b - 128) us vs
  tag_ends {b} {us} {vs} l s =
      (after_first s).done (b - 128) vs (same_spells (chosen (Nothing (b - 128)) (LongTags n) (nat_lt b 191) true (lt-ltb b 191 l)) (nothing_spells oer_fields (b - 128) vs))

  -- or 191, and base 128 after it
  pub long_leads : {b : ℕ} {us vs : List ℕ} → 191 ≤ b → Spells oer_fields (OctetsIn 1 (from_to 128 (127 + min n 64))) b us vs → Leads oer_fields (LongTags n) vs (λ t. t) (Tags n) us
  long_leads {b} {us} {vs} l s =
      leads_on (leads_same oer_fields vs (chosen (Nothing (b - 128)) (LongTags n) (nat_lt b 191) false (le-ltb b 191 l))) (after_first s)
