-- What is taken of entries, one after the other.
use Rattle.std.proofs.Common.{◌≡◌, ◌<◌, ◌+◌, ◌-◌, ◌==◌, ℕ, zero, suc, List, [], ◌∷◌, ◌++◌, length, get_or, map, option_map, take, drop, Bool, true, false, Option, Some, None, refl, sym, ap, subst, ◌∙◌, append_assoc, arith}
use Rattle.std.proofs.Math.Numerals.{add-one}
use Rattle.std.proofs.lemmas.List.{drop_more, take_at, drop_at, length-map, map_push}
use Rattle.asn_values.specs.Datum.{Datum}
use Rattle.asn_values.specs.View.{datum_of, entries_seen}
use Rattle.asn_values.specs.declared.value.Value.{Value}
use Rattle.asn_plan.specs.Plans.{absents}
use Rattle.asn_plan.proofs.Building.{absents_more}
use Rattle.asn_message.specs.declared.slots.Slot.{Slot}
use Rattle.asn_message.specs.declared.slots.Span.{Span}
use Rattle.asn_message.specs.Slots.{entries_in, entries_inside, bits_at, octets_at, value_at, values_of}

-- the octets of a string that were added
pub span_found : (os xs more : List ℕ) (s : Span) → s.begin ≡ length os → s.length ≡ length xs
    → octets_at ((os ++ xs) ++ more) s ≡ xs
span_found os xs more s b l =
    ap (λ (o : List ℕ). take s.length (drop s.begin o)) (append_assoc os xs more) ∙ ap (λ (o : List ℕ). take s.length o) (drop_at os (xs ++ more) s.begin (sym b)) ∙ take_at xs more s.length (sym l)

-- one more is taken, or none is left
next_taken : (es : List (Option Datum)) (i : ℕ) (x : Option Datum) (xs : List (Option Datum)) → drop i es ≡ x ∷ xs
    → (take (suc i) es ≡ take i es ++ x ∷ []) × (drop (suc i) es ≡ xs)
next_taken [] zero x xs h = absurd (let e : [] ≡ x ∷ xs = h in cc)
next_taken (e ∷ es) zero x xs h = (ap (λ (l : List (Option Datum)). take 1 l) h, ap (λ (l : List (Option Datum)). drop 1 l) h)
next_taken [] (suc i) x xs h = absurd (let e : [] ≡ x ∷ xs = h in cc)
next_taken (e ∷ es) (suc i) x xs h =
    let k = next_taken es i x xs h in
    (ap (λ (l : List (Option Datum)). e ∷ l) k.0, k.1)

pub taken_more : (es : List (Option Datum)) (i : ℕ) (x : Option Datum) (xs : List (Option Datum)) → drop i es ≡ x ∷ xs
    → (take (i + 1) es ≡ take i es ++ x ∷ []) × (drop (i + 1) es ≡ xs)
taken_more es i x xs h = rw add-one (next_taken es i x xs h)

none_left : (es : List (Option Datum)) (i : ℕ) → drop i es ≡ [] → (take (suc i) es ≡ take i es) × (drop (suc i) es ≡ [])
none_left [] zero h = (refl, refl)
none_left (e ∷ es) zero h = absurd (let f : e ∷ es ≡ [] = h in cc)
none_left [] (suc i) h = (refl, refl)
none_left (e ∷ es) (suc i) h =
    let k = none_left es i h in
    (ap (λ (l : List (Option Datum)). e ∷ l) k.0, k.1)

pub taken_none : (es : List (Option Datum)) (i : ℕ) → drop i es ≡ [] → (take (i + 1) es ≡ take i es) × (drop (i + 1) es ≡ [])
taken_none es i h = rw add-one (none_left es i h)

-- a list that is what is left of itself
pub nothing_left : (vs : List (Option Value)) → vs ≡ drop 1 vs → vs ≡ []
nothing_left [] e = refl
nothing_left (v ∷ vs) e = absurd (let n : suc (length vs) ≡ length vs = ap (λ (l : List (Option Value)). length l) e in omega (arith, n))

-- the next entry is taken, and put after those that were
pub entry_taken : (es : List (Option Datum)) (i : ℕ) (vs ws old left : List (Option Value)) (v : Option Value)
    → entries_seen vs ≡ take i es → entries_seen old ≡ drop i es → old ≡ v ∷ left → ws ≡ vs ++ v ∷ []
    → (entries_seen ws ≡ take (i + 1) es) × (entries_seen left ≡ drop (i + 1) es)
entry_taken es i vs ws old left v h k e f =
    let next : drop i es ≡ option_map datum_of v ∷ entries_seen left = sym k ∙ ap (λ (l : List (Option Value)). entries_seen l) e in
    let t = taken_more es i (option_map datum_of v) (entries_seen left) next in
    (ap (λ (l : List (Option Value)). entries_seen l) f ∙ map_push (option_map datum_of) vs v ∙ ap (λ (l : List (Option Datum)). l ++ option_map datum_of v ∷ []) h ∙ sym t.0, sym t.1)

-- there is none
pub no_entry_taken : (es : List (Option Datum)) (i : ℕ) (vs old left : List (Option Value)) → entries_seen vs ≡ take i es
    → entries_seen old ≡ drop i es → old ≡ left → left ≡ drop 1 old
    → (entries_seen vs ≡ take (i + 1) es) × (entries_seen left ≡ drop (i + 1) es)
no_entry_taken es i vs old left h k same rest =
    let none : old ≡ [] = nothing_left old (same ∙ rest) in
    let t = taken_none es i (sym k ∙ ap (λ (l : List (Option Value)). entries_seen l) none) in
    (h ∙ sym t.0, ap (λ (l : List (Option Value)). entries_seen l) (sym same ∙ none) ∙ sym t.1)

values_both : (xs ys : List (Option Datum)) → values_of (xs ++ ys) ≡ values_of xs ++ values_of ys
values_both [] ys = refl
values_both (None ∷ xs) ys = values_both xs ys
values_both (Some d ∷ xs) ys = ap (λ (l : List Datum). d ∷ l) (values_both xs ys)

-- the next element is taken
pub element_taken : (es : List (Option Datum)) (i : ℕ) (ds ws : List Datum) (old left : List (Option Value)) (v : Option Value)
    → ds ≡ values_of (take i es) → entries_seen old ≡ drop i es → old ≡ v ∷ left
    → ws ≡ ds ++ values_of (option_map datum_of v ∷ [])
    → (ws ≡ values_of (take (i + 1) es)) × (entries_seen left ≡ drop (i + 1) es)
element_taken es i ds ws old left v h k e f =
    let next : drop i es ≡ option_map datum_of v ∷ entries_seen left = sym k ∙ ap (λ (l : List (Option Value)). entries_seen l) e in
    let t = taken_more es i (option_map datum_of v) (entries_seen left) next in
    (f ∙ ap (λ (l : List Datum). l ++ values_of (option_map datum_of v ∷ [])) h ∙ sym (values_both (take i es) (option_map datum_of v ∷ [])) ∙ ap values_of (sym t.0), sym t.1)

pub no_element_taken : (es : List (Option Datum)) (i : ℕ) (ds : List Datum) (old left : List (Option Value)) → ds ≡ values_of (take i es)
    → entries_seen old ≡ drop i es → old ≡ left → left ≡ drop 1 old
    → (ds ≡ values_of (take (i + 1) es)) × (entries_seen left ≡ drop (i + 1) es)
no_element_taken es i ds old left h k same rest =
    let none : old ≡ [] = nothing_left old (same ∙ rest) in
    let t = taken_none es i (sym k ∙ ap (λ (l : List (Option Value)). entries_seen l) none) in
    (h ∙ ap values_of (sym t.0), ap (λ (l : List (Option Value)). entries_seen l) (sym same ∙ none) ∙ sym t.1)

-- one that is absent after those that were taken
pub absent_pushed : (es : List (Option Datum)) (n : ℕ) (vs ws : List (Option Value)) → entries_seen vs ≡ es ++ absents n
    → ws ≡ vs ++ None ∷ [] → entries_seen ws ≡ es ++ absents (n + 1)
absent_pushed es n vs ws h f =
    ap (λ (l : List (Option Value)). entries_seen l) f ∙ map_push (option_map datum_of) vs None ∙ ap (λ (l : List (Option Datum)). l ++ None ∷ []) h ∙ append_assoc es (absents n) (None ∷ []) ∙ ap (λ (l : List (Option Datum)). es ++ l) (sym (rw add-one (absents_more n)))

-- ---- a slot more, from the last one on

pub restored_one : (os : List ℕ) (ss : List Slot) (i : ℕ) (x d : Slot) (old new : List (Option Datum)) → i < length ss
    → x ≡ get_or ss (length ss - 1 - i) d → old ≡ entries_in os (drop (length ss - i) ss) []
    → new ≡ absents x.absent_before ++ (Some (value_at os x.content old) ∷ drop (entries_inside x.content) old)
    → new ≡ entries_in os (drop (length ss - (i + 1)) ss) []
restored_one os ss i x d old new l is h k =
    let at = length ss - 1 - i in
    let one : drop at ss ≡ x ∷ drop (at + 1) ss = drop_more ss at d (omega (arith, l)) ∙ ap (λ (y : Slot). y ∷ drop (at + 1) ss) (sym is) in
    let after : length ss - i ≡ at + 1 = omega (arith, l) in
    let here : length ss - (i + 1) ≡ at = omega (arith, l) in
    let before : old ≡ entries_in os (drop (at + 1) ss) [] = h ∙ ap (λ (n : ℕ). entries_in os (drop n ss) []) after in
    let all : new ≡ entries_in os (x ∷ drop (at + 1) ss) [] = subst (λ (es : List (Option Datum)). new ≡ absents x.absent_before ++ (Some (value_at os x.content es) ∷ drop (entries_inside x.content) es)) before k in
    all ∙ ap (λ (s : List Slot). entries_in os s []) (sym one) ∙ ap (λ (n : ℕ). entries_in os (drop n ss) []) (sym here)

-- an octet for each bit
abbrev pub octet_of_bit : Bool → ℕ
octet_of_bit true = 1
octet_of_bit false = 0

bits_again : (bs : List Bool) → map (λ (n : ℕ). n == 1) (map octet_of_bit bs) ≡ bs
bits_again [] = refl
bits_again (true ∷ bs) = ap (λ (l : List Bool). true ∷ l) (bits_again bs)
bits_again (false ∷ bs) = ap (λ (l : List Bool). false ∷ l) (bits_again bs)

-- the bits of a string that were added
pub bits_found : (os more : List ℕ) (bs : List Bool) (s : Span) → s.begin ≡ length os → s.length ≡ length bs
    → bits_at ((os ++ map octet_of_bit bs) ++ more) s ≡ bs
bits_found os more bs s b l =
    ap (λ (xs : List ℕ). map (λ (n : ℕ). n == 1) xs) (span_found os (map octet_of_bit bs) more s b (l ∙ sym (length-map bs octet_of_bit))) ∙ bits_again bs
