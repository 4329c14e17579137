-- Bits and characters in a row, as the numbers that their readers take.
use Rattle.std.proofs.Common.{◌≡◌, ◌<◌, ℕ, zero, suc, ◌+◌, ◌-◌, ◌*◌, ◌/◌, ◌%◌, ◌^◌, Bool, List, [], ◌∷◌, ◌++◌, map, length, length-append, append_assoc, refl, sym, ap, subst, ◌∙◌, arith}
use Rattle.std.specs.Prelude.{replicate}
use Rattle.std.proofs.Math.Nat.{mul-suc}
use Rattle.std.proofs.lemmas.List.{length-replicate, length-map}
use Rattle.std.specs.List.{AllByRecursion}
use Rattle.asn_values.specs.Shape.{Alphabet, ia5, numeric, visible}
use Rattle.asn_bits.specs.Numbers.{bits}
use Rattle.asn_bits.specs.Lengths.{joined}
use Rattle.asn_bits.specs.Sets.{AreBits, InSet, Meets}
use Rattle.asn_bits.specs.Sink.{bit_of}
use Rattle.asn_bits.proofs.Octets.{length-digits}
use Rattle.asn_bits.proofs.Splits.{digits-add, digits-mod}
use Rattle.asn_rules.specs.Chunks.{Chunk, one, ones}
use Rattle.asn_rules.specs.Languages.{Spells, Short, Inhabited, Row, Map, Plain}
use Rattle.asn_rules.specs.Forks.{Same}
use Rattle.asn_rules.specs.Spellings.{SpelledBy}
use Rattle.asn_bits.proofs.Weights.{bits_are, digits-append}
use Rattle.asn_rules.proofs.Languages.Rows.{row_lawful}
use Rattle.asn_bits.proofs.Unions.{set_meets}
use Rattle.asn_rules.proofs.Numbers.Sets.{set_spells, set_inhabited}
use Rattle.asn_rules.proofs.Languages.Leads.{Leads, leads_on, leads_map, leads_same}
use Rattle.asn_rules.proofs.Languages.Parts.{map_inhabited}
use Rattle.asn_rules.proofs.Languages.Forks.{same_flip, same_inhabited, map_same}
use Rattle.asn_rules.proofs.Languages.Spellings.{same_after, same_row, same_spelled, same_map, row_spelled, units_front, units_short}
use Rattle.asn_per.specs.Per.{per_fields}
use Rattle.asn_per.specs.Kinds.{Bit, Character, truth_of}
use Rattle.asn_rules.specs.NumberSets.{Admits}
use Rattle.asn_per.specs.Reading.{Appends, code_width, codes_of, character_at}
use Rattle.asn_per.proofs.Encodings.PerFields.{per_fields_part}
use Rattle.asn_per.proofs.Types.BooleanAndNull.{bit_spelled}
use Rattle.asn_per.proofs.Types.StringLanguages.{bit_lawful}
use Rattle.asn_rules.proofs.Plain.NumberSets.{same_set}
use Rattle.asn_per.proofs.Read.Appending.{appends_more, appends_one}

-- ---- bits

-- bits in front of others
joined_truths : (bs : List Bool) → joined (map (λ b. one (bit_of b) ∷ []) bs) ≡ ones (map bit_of bs)
joined_truths [] = refl
joined_truths (b ∷ bs) = ap (λ (l : List Chunk). one (bit_of b) ∷ l) (joined_truths bs)

-- n bits in a row
bits_row : (n : ℕ) → Same (Row Bit n) (SpelledBy (λ bs. (length bs ≡ n) × AllByRecursion (λ (b : Bool). Unit {0}) bs) (λ bs. ones (map bit_of bs)))
bits_row n = same_after (same_row bit_spelled n) (same_after (row_spelled n) (same_spelled (λ v h. h) (λ v h. h) (λ v h. joined_truths v)))

-- nothing is said of a bit
any_bits : (bs : List Bool) → AllByRecursion (λ (b : Bool). Unit {0}) bs
any_bits [] = tt
any_bits (b ∷ bs) = (tt, any_bits bs)

-- bits as truth values
truths : (us : List ℕ) → AreBits us → map bit_of (map truth_of us) ≡ us
truths [] h = refl
truths (zero ∷ us) h = ap (λ l. 0 ∷ l) (truths us h.1)
truths (suc zero ∷ us) h = ap (λ l. 1 ∷ l) (truths us h.1)
truths (suc (suc u) ∷ us) h = absurd (omega (arith, h.0))

-- zeros are bits
zero_bits : (n : ℕ) → AreBits (replicate n 0)
zero_bits zero = tt
zero_bits (suc n) = (omega arith, zero_bits n)

-- there are too few
pub bits_few : (n : ℕ) (us : List ℕ) → AreBits us → length us < n → Short per_fields (Row Bit n) us
bits_few n us h l =
    let m = n - length us - 1 in
    let whole = us ++ 0 ∷ replicate m 0 in
    let good : AreBits whole = digits-append 2 us (0 ∷ replicate m 0) h (omega arith, zero_bits m) in
    let count : length whole ≡ n = length-append us (0 ∷ replicate m 0) ∙ ap (λ (i : ℕ). length us + suc i) (length-replicate {A = ℕ} m 0) ∙ omega arith in
    units_short (map bit_of) per_fields_part (row_lawful bit_lawful n) (bits_row n) (map truth_of whole) (length-map whole truth_of ∙ count, any_bits (map truth_of whole)) us 0 (replicate m 0) (sym (truths whole good))

-- there is a bit
pub bit_inhabited : Inhabited Bit
bit_inhabited = map_inhabited (set_inhabited (set_meets 2 1 0 (omega arith) (omega arith)))

-- a bit in front of others
bit_front : (b : Bool) (r : List ℕ) → Spells per_fields Bit b (bit_of b ∷ r) r
bit_front b r = units_front (λ b. bit_of b ∷ []) per_fields bit_spelled b tt r

-- the next bit of a number
pub next_bit : (i n word : ℕ) (b : Bool) {old mid new : List Bool} → i < n → bit_of b ≡ word / 2 ^ (n - 1 - i) % 2 → new ≡ mid ++ b ∷ []
    → ((r : List ℕ) → Appends Bit i old mid (bits n word ++ r) (bits (n - i) word ++ r))
    → (r : List ℕ) → Appends Bit (i + 1) old new (bits n word ++ r) (bits (n - (i + 1)) word ++ r)
next_bit i n word b {old} {mid} {new} l e s h r =
    let j = n - 1 - i in
    let before : n - i ≡ suc j = omega arith in
    let after : n - (i + 1) ≡ j = omega arith in
    let here : bits (n - i) word ++ r ≡ bit_of b ∷ (bits j word ++ r) = ap (λ k. bits k word ++ r) before ∙ ap (λ d. d ∷ (bits j word ++ r)) (sym e) in
    subst (λ k. Appends Bit (i + 1) old new (bits n word ++ r) (bits k word ++ r)) (sym after)
    (appends_more i 1 (i + 1) refl (h r) (subst (λ us. Appends Bit 1 mid new us (bits j word ++ r)) (sym here) (appends_one s (bit_front b (bits j word ++ r)))))

-- how many bits stand after a number
pub after_word : (k word : ℕ) (us r : List ℕ) → us ≡ bits k word ++ r → length us ≡ k + length r
after_word k word us r e = ap length e ∙ length-append (bits k word) r ∙ ap (λ (n : ℕ). n + length r) (length-digits 2 k word)

-- ---- characters

-- the characters of a kind have the codes
character_codes : (k : Alphabet) → Same (Map (character_at k) (Plain (InSet (code_width k) (λ m. Admits (codes_of k) m)))) (Character k)
character_codes ia5 = same_after (same_flip (map_same (λ a. refl))) (same_set 2 7 (λ c h. omega (arith, h.1)) (λ c h. (omega arith, omega (arith, h), tt)))
character_codes visible = same_after (same_flip (map_same (λ a. refl))) (same_set 2 7 (λ c h. (h.0, h.1)) (λ c h. (h.0, h.1, tt)))
character_codes numeric = same_map (same_set 2 4 (λ c h. omega (arith, h.1)) (λ c h. (omega arith, omega (arith, h), tt)))

-- a reader of a code is one of the character
pub character_leads : (k : Alphabet) (us : List ℕ) → Leads per_fields (Plain (InSet (code_width k) (λ m. Admits (codes_of k) m))) us (character_at k) (Character k) us
character_leads k us = leads_on (leads_map per_fields (character_at k) (Plain (InSet (code_width k) (λ m. Admits (codes_of k) m))) us) (leads_same per_fields us (character_codes k))

-- a code has that many bits
code_fits : (k : Alphabet) (c : ℕ) → Admits (codes_of k) c → c < 2 ^ code_width k
code_fits ia5 c h = omega (arith, h.1)
code_fits visible c h = omega (arith, h.1)
code_fits numeric c h = omega (arith, h.1)

-- some code is that of a character
pub some_code : (k : Alphabet) → Meets (λ m. Admits (codes_of k) m) 0 (code_width k)
some_code ia5 = set_meets 2 7 32 (omega arith, omega arith, tt) (omega arith)
some_code visible = set_meets 2 7 32 (omega arith, omega arith, tt) (omega arith)
some_code numeric = set_meets 2 4 0 (omega arith, omega arith, tt) (omega arith)

-- there is a character
pub character_inhabited : (k : Alphabet) → Inhabited (Character k)
character_inhabited k = same_inhabited (character_codes k) (map_inhabited (set_inhabited (some_code k)))

-- a character in front of others
character_front : (k : Alphabet) (c : ℕ) (r : List ℕ) → Admits (codes_of k) c → Spells per_fields (Character k) (character_at k c) (bits (code_width k) c ++ r) r
character_front k c r h = (character_leads k (bits (code_width k) c ++ r)).done c r (set_spells per_fields c (bits (code_width k) c) r (bits_are (code_width k) c (code_fits k c h)) h)

-- the next character of a number
pub next_character : (k : Alphabet) (i n word c : ℕ) {old mid new : List ℕ} → i < n → c ≡ word / 2 ^ (code_width k * (n - 1 - i)) % 2 ^ code_width k → Admits (codes_of k) c → new ≡ mid ++ character_at k c ∷ []
    → ((r : List ℕ) → Appends (Character k) i old mid (bits (code_width k * n) word ++ r) (bits (code_width k * (n - i)) word ++ r))
    → (r : List ℕ) → Appends (Character k) (i + 1) old new (bits (code_width k * n) word ++ r) (bits (code_width k * (n - (i + 1))) word ++ r)
next_character k i n word c {old} {mid} {new} l e a s h r =
    let w = code_width k in
    let j = n - 1 - i in
    let before : n - i ≡ suc j = omega arith in
    let after : n - (i + 1) ≡ j = omega arith in
    let wide : w * (n - i) ≡ w + w * j = ap (λ (x : ℕ). w * x) before ∙ mul-suc w j ∙ omega arith in
    let first : bits w (word / 2 ^ (w * j)) ≡ bits w c = sym (digits-mod 2 (omega arith) w (word / 2 ^ (w * j))) ∙ ap (bits w) (sym e) in
    let here : bits (w * (n - i)) word ++ r ≡ bits w c ++ (bits (w * j) word ++ r) =
    ap (λ x. bits x word ++ r) wide ∙ ap (λ d. d ++ r) (digits-add 2 w (w * j) word ∙ ap (λ d. d ++ bits (w * j) word) first) ∙ append_assoc (bits w c) (bits (w * j) word) r in
    subst (λ x. Appends (Character k) (i + 1) old new (bits (w * n) word ++ r) (bits (w * x) word ++ r)) (sym after)
    (appends_more i 1 (i + 1) refl (h r) (subst (λ us. Appends (Character k) 1 mid new us (bits (w * j) word ++ r)) (sym here) (appends_one s (character_front k c (bits (w * j) word ++ r) a))))
