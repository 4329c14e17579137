-- Each line has an answer.
use Rattle.std.proofs.Common.{◌≡◌, ◌≢◌, ◌≤◌, ◌<◌, ◌+◌, ◌*◌, ◌/◌, ◌⊎◌, ◌++◌, ℕ, zero, suc, Bool, true, false, List, [], ◌∷◌, length, take, Ok, Err, Result, refl, sym, ap, subst, ◌∙◌, inl, inr, ⊎_elim, arith}
use Rattle.std.specs.Prelude.{codes, slice_get}
use Rattle.std.specs.Fmt.{decimal}
use Rattle.std.specs.List.{AllByRecursion}
use Rattle.std.proofs.lemmas.Bool.{cases_lt}
use Rattle.std.proofs.lemmas.List.{take_all, length-take-le}
use Rattle.std.proofs.Math.Nat.{mul-div_cancel_left}
use Rattle.hex.specs.Hex.{decode_of, encode_lower}
use Rattle.hex.specs.declared.error.FromHexError.{FromHexError}
use Rattle.hex.proofs.HexLemmas.{decode_of-ok}
use Rattle.serde_json.specs.Data.{Data}
use Rattle.serde_json.specs.Written.{compact_text}
use Rattle.asn_values.specs.Datum.{Datum}
use Rattle.asn_values.specs.Shape.{Shape}
use Rattle.asn_values.specs.Fits.{Fits}
use Rattle.asn_values.specs.Profile.{InProfile}
use Rattle.asn_rules.specs.Answer.{Ruling, IsEncoding, NoFront, LiveOctets, max_octets}
use Rattle.asn_rules.specs.Codec.{Decoded}
use Rattle.asn_rules.specs.CodecLaws.{Encoded}
use Rattle.asn_rules.specs.Laws.{AreOctets, RulesLaws}
use Rattle.asn_rules.specs.Live.{Live, Place}
use Rattle.asn_rules.specs.Reading.{RulesTell}
use Rattle.asn_rules.specs.Reasons.{text_of_fault}
use Rattle.asn_rules.specs.declared.fault.DecodeFault.{DecodeFault}
use Rattle.asn_rules.specs.declared.fault.DecodeFault.TheVariants as decode
use Rattle.asn_rules.specs.declared.fault.Why.TheVariants as why
use Rattle.asn_rules.proofs.Answer.CodecLaws.{each_octet}
use Rattle.asn_newer.specs.declared.fault.NewerFault.TheVariants as newer
use Rattle.asn_newer.specs.Loose.{LooseCoding, IsLoose}
use Rattle.asn_newer.specs.Skipped.{Skipped}
use Rattle.asn_json.specs.Written.{json_of}
use Rattle.asn_json.specs.Shown.{value_of}
use Rattle.asn_json.specs.Errors.{bad, Shown}
use Rattle.asn_json.specs.Texts.{ReadsAs, HasKeysOnce}
use Rattle.asn_jobs.specs.declared.job.Order.{Order}
use Rattle.asn_jobs.specs.declared.job.Order.TheVariants as order
use Rattle.asn_jobs.specs.declared.job.RuleName.{RuleName}
use Rattle.asn_convert.specs.Answers.{Terms, AnswersBy, AnswersShow, AnswersCheck, AnswersConvert, AnswersNewer, AnswersOctets, AnswersHex, AnswersValue, AnswersJson, line_digits, newer_text, unit_of}
use Rattle.asn_convert.specs.Converted.{IsTooLong}
use Rattle.asn_convert.specs.Text.{HasAnswer}

-- it cannot be that it is not so
abbrev Surely : Type 0 → Type 0
Surely A = (A → ⊥) → ⊥

decided : (A : Type 0) → Surely (A ⊎ (A → ⊥))
decided A f = f (inr (λ a. f (inl a)))

-- some text is told of, with its status
abbrev SomeAnswer : (List ℕ → Bool → Type 0) → Type 0
SomeAnswer P = ((text : List ℕ) (good : Bool) → P text good → ⊥) → ⊥

-- ---- octets are an encoding, or a fault is told of them

abbrev Settled : Ruling → Shape → List ℕ → Type 0
Settled r t o = ((v : Datum) × Encoded r t v o) ⊎ ((fault : DecodeFault) × Decoded r (Err fault) t o × (fault ≢ decode.Memory))

-- they begin with an encoding
front_settled : (r : Ruling) (t : Shape) (o : List ℕ) (v : Datum) (n : ℕ) → AreOctets o → n ≤ length (take max_octets o) → IsEncoding r t v (take n (take max_octets o)) → Settled r t o
front_settled r t o v n os le is = by_size (cases_lt n (length o)) (cases_lt max_octets (length o))
  where
    by_size : (n < length o) ⊎ (length o ≤ n) → (max_octets < length o) ⊎ (length o ≤ max_octets) → Settled r t o
    by_size (inl fewer) _ = inr (decode.Rest n, (fewer, v, (le, is)), λ e. cc e)
    by_size (inr all) (inl long) =
        let cut : length (take max_octets o) ≡ max_octets = length-take-le max_octets o (omega (arith, long)) in
        absurd (omega (arith, all, long, cut, le))
    by_size (inr all) (inr within) =
        let whole : take max_octets o ≡ o = take_all max_octets o within in
        let same : take n (take max_octets o) ≡ o = ap (λ s. take n s) whole ∙ take_all n o all in
        inl (v, record { octets = os; encoding = subst (λ s. IsEncoding r t v s) same is; within = within })

-- the first place after which P holds no more
place_found : (P : List ℕ → Type 0) (us : List ℕ) (left n : ℕ) → n + left ≡ length us → (P us → ⊥) → ((j : ℕ) → j < n → P (take j us)) → Surely ((k : ℕ) × Place P us k)
place_found P us zero n e dead live none = none (n, (omega (arith, e), (λ h. dead (subst P (take_all n us (omega (arith, e))) h)), live))
place_found P us (suc left) n e dead live none =
    decided (P (take n us))
    (λ h. ⊎_elim (λ here. place_found P us left (suc n) (omega (arith, e)) dead (one_more here) none)
    (λ gone. none (n, (omega (arith, e), gone, live))) h)
  where
    one_more : P (take n us) → (j : ℕ) → j < suc n → P (take j us)
    one_more here j below = ⊎_elim (λ less. live j less) (λ most. let last : n ≡ j = omega (arith, below, most) in subst (λ i. P (take i us)) last here) (cases_lt j n)

-- no front of them is an encoding
other_settled : (r : Ruling) (t : Shape) (o : List ℕ) → NoFront r t (take max_octets o) → Surely (Settled r t o)
other_settled r t o never none = decided (LiveOctets r t (take max_octets o)) (λ h. ⊎_elim live dead h)
  where
    live : LiveOctets r t (take max_octets o) → ⊥
    live l = ⊎_elim short long (cases_lt (length o) max_octets)
      where
        short : length o < max_octets → ⊥
        short less =
            let whole : take max_octets o ≡ o = take_all max_octets o (omega (arith, less)) in
            none (inr (decode.Truncated (length (r.units o)), (refl, (subst (λ s. NoFront r t s) whole never, subst (λ s. LiveOctets r t s) whole l, less)), λ e. cc e))

        long : max_octets ≤ length o → ⊥
        long most = none (inr (decode.TooLong, (never, l, length-take-le max_octets o most), λ e. cc e))

    dead : (LiveOctets r t (take max_octets o) → ⊥) → ⊥
    dead d =
        let us = r.units (take max_octets o) in
        place_found (λ b. Live r.fielding r.whole t b) us (length us) 0 (omega arith) d (λ j below. absurd (omega (arith, below)))
        (λ p. none (inr (decode.Refused p.0 why.Number, (never, p.1), λ e. cc e)))

settled : (r : Ruling) (t : Shape) (o : List ℕ) → AreOctets o → Surely (Settled r t o)
settled r t o os none =
    decided ((v : Datum) × (n : ℕ) × (n ≤ length (take max_octets o)) × IsEncoding r t v (take n (take max_octets o)))
    (λ h. ⊎_elim (λ f. none (front_settled r t o f.0 f.1 os f.2 f.3)) (λ never. other_settled r t o (λ v n le is. never (v, n, le, is)) none) h)

-- ---- a value has an encoding, or is too long

same_product : (w n m : ℕ) → 1 ≤ w → w * n ≡ w * m → n ≡ m
same_product w n m some e = sym (mul-div_cancel_left n some) ∙ (ap (λ k. k / w) e ∙ mul-div_cancel_left m some)

too_long : (r : Ruling) (t : Shape) (v : Datum) → RulesLaws r → RulesTell r → InProfile t → Fits t v → (((o : List ℕ) × Encoded r t v o) → ⊥) → IsTooLong r t v
too_long r t v laws tell good fits none p is =
    let w = laws.encoding t v good fits in
    let counted : tell.weight * length p ≡ tell.weight * length w.0 = sym (tell.count p) ∙ (ap (λ us. length us) (is.1 ∙ sym w.2.1) ∙ tell.count w.0) in
    let long : length w.0 ≡ length p = sym (same_product tell.weight (length p) (length w.0) tell.some counted) in
    ⊎_elim (λ more. subst (λ n. max_octets < n) long more) (λ few. absurd (none (w.0, record { octets = w.1; encoding = w.2; within = few }))) (cases_lt max_octets (length w.0))

-- ---- octets

show_answered : (r : Ruling) (name : RuleName) (t : Shape) (o : List ℕ) → AreOctets o → SomeAnswer (λ text good. AnswersShow r name t o text good)
show_answered r name t o os none =
    settled r t o os
    (λ s. ⊎_elim (λ e. none (compact_text (json_of t e.0)) true (e.0, e.1, refl)) (λ f. none (codes "! " ++ text_of_fault (unit_of name) f.0) false (f.0, f.1, (f.2, refl))) s)

check_answered : (r : Ruling) (name : RuleName) (t : Shape) (o : List ℕ) → AreOctets o → SomeAnswer (λ text good. AnswersCheck r name t o text good)
check_answered r name t o os none =
    settled r t o os
    (λ s. ⊎_elim (λ e. none (codes "ok " ++ decimal (length o)) true (e.0, e.1, refl)) (λ f. none (codes "! " ++ text_of_fault (unit_of name) f.0) false (f.0, f.1, (f.2, refl))) s)

convert_answered : (a b : Ruling) (name : RuleName) (t : Shape) (o : List ℕ) → RulesLaws b → RulesTell b → InProfile t → AreOctets o → SomeAnswer (λ text good. AnswersConvert a b name t o text good)
convert_answered a b name t o laws tell good os none =
    settled a t o os
    (λ s. ⊎_elim converted (λ f. none (codes "! " ++ text_of_fault (unit_of name) f.0) false (inl (f.0, f.1, (f.2, refl)))) s)
  where
    converted : ((v : Datum) × Encoded a t v o) → ⊥
    converted e =
        decided ((p : List ℕ) × Encoded b t e.0 p)
        (λ h. ⊎_elim (λ p. none (encode_lower p.0) true (p.0, (e.0, e.1, p.1), refl))
        (λ never. none (codes "! too long") false (inr (e.0, e.1, too_long b t e.0 laws tell good e.1.encoding.0 never, refl))) h)

newer_answered : (l : LooseCoding) (t : Shape) (o : List ℕ) → SomeAnswer (λ text good. AnswersNewer l t o text good)
newer_answered l t o none = ⊎_elim (λ long. none (codes "! too long") false (newer.TooLong, long, refl)) read (cases_lt max_octets (length o))
  where
    read : length o ≤ max_octets → ⊥
    read few =
        decided ((v : Datum) × (s : List Skipped) × IsLoose l t v s o)
        (λ h. ⊎_elim (λ r. none (newer_text t r.0 r.1) true (r.0, r.1, r.2, few, refl))
        (λ never. none (codes "! cut short") false (newer.Truncated, (few, λ v s is. never (v, s, is)), refl)) h)

hex_answered : (w : Terms) (by : Order) (line : List ℕ) → ((o : List ℕ) → AreOctets o → SomeAnswer (λ text good. AnswersOctets w by o text good)) → SomeAnswer (λ text good. AnswersHex w by line text good)
hex_answered w by line each none = by_text (decode_of (line_digits line)) refl
  where
    by_text : (d : Result (List ℕ) FromHexError) → decode_of (line_digits line) ≡ d → ⊥
    by_text (Ok o) e = each o (each_octet o (decode_of-ok (line_digits line) o e).3) (λ text good a. none text good (inr (o, e, a)))
    by_text (Err fault) e = none (codes "! hex") false (inl ((λ o is. cc (sym e ∙ is)), refl, refl))

-- ---- JSON

value_answered : (r : Ruling) (t : Shape) (j : Data) → RulesLaws r → RulesTell r → InProfile t → SomeAnswer (λ text good. AnswersValue r t j text good)
value_answered r t j laws tell good none = by_errors (bad t j) refl
  where
    by_errors : (ps : List (List ℕ)) → bad t j ≡ ps → ⊥
    by_errors (p ∷ ps) e = none (codes "! shape " ++ p) false (inl (inl (p, ap (λ xs. slice_get xs 0) e, refl)))
    by_errors [] e = decided (Fits t (value_of t j)) (λ h. ⊎_elim fitting other h)
      where
        shown : Shown t j (value_of t j)
        shown = record { no_errors = e; is = refl }

        fitting : Fits t (value_of t j) → ⊥
        fitting fits =
            decided ((o : List ℕ) × Encoded r t (value_of t j) o)
            (λ h. ⊎_elim (λ o. none (encode_lower o.0) true (value_of t j, o.0, shown, o.1, refl))
            (λ never. none (codes "! too long") false (inr (value_of t j, shown, fits, too_long r t (value_of t j) laws tell good fits never, refl))) h)

        other : (Fits t (value_of t j) → ⊥) → ⊥
        other never = none (codes "! not of type") false (inl (inr (e, (λ v s f. never (subst (λ d. Fits t d) s.is f)), refl)))

json_answered : (r : Ruling) (t : Shape) (line : List ℕ) → RulesLaws r → RulesTell r → InProfile t → SomeAnswer (λ text good. AnswersJson r t line text good)
json_answered r t line laws tell good none =
    decided ((j : Data) × ReadsAs line j)
    (λ h. ⊎_elim (λ j. decided (HasKeysOnce line) (λ k. ⊎_elim (λ once. of_value j.0 j.1 once)
    (λ twice. none (codes "! shape " ++ codes "$") false (inl (inr (codes "$", twice, refl, refl), refl))) k))
    (λ never. none (codes "! json") false (inl (inl ((λ j is. never (j, is)), refl), refl))) h)
  where
    of_value : (j : Data) → ReadsAs line j → HasKeysOnce line → ⊥
    of_value j is once =
        value_answered r t j laws tell good (λ text good_ a. none text good_ (inr (j, record { reads = is; once = once }, a)))

-- ---- a line

module _ (w : Terms) (from : RulesLaws w.rulings.from) (from_tells : RulesTell w.rulings.from) (to : RulesLaws w.rulings.to) (to_tells : RulesTell w.rulings.to) (good : InProfile w.shape) where
  answered_by : (by : Order) (line : List ℕ) → SomeAnswer (λ text is_good. AnswersBy w by line text is_good)
  answered_by order.Encode line none = json_answered w.rulings.from w.shape line from from_tells good none
  answered_by order.Show line none = hex_answered w order.Show line (λ o os. show_answered w.rulings.from w.name w.shape o os) none
  answered_by order.Check line none = hex_answered w order.Check line (λ o os. check_answered w.rulings.from w.name w.shape o os) none
  answered_by order.Convert line none =
      hex_answered w order.Convert line (λ o os. convert_answered w.rulings.from w.rulings.to w.name w.shape o to to_tells good os) none
  answered_by order.Newer line none = hex_answered w order.Newer line (λ o os. newer_answered w.rulings.newer w.shape o) none

  pub each_answered : (line : List ℕ) → HasAnswer w line
  each_answered line none = answered_by w.order line none

-- so all have
pub have_answers : (w : Terms) → ((line : List ℕ) → HasAnswer w line) → (lines : List (List ℕ)) → AllByRecursion (λ line. HasAnswer w line) lines
have_answers w each [] = tt
have_answers w each (line ∷ lines) = (each line, have_answers w each lines)
