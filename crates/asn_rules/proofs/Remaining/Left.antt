-- What is left of numbers and of given units that have begun: a language of the same sort, of fewer units.
use Rattle.std.proofs.Common.{◌≡◌, ℕ, suc, ◌+◌, ◌*◌, ◌^◌, List, [], ◌∷◌, ◌++◌, length, length-append, pow-add, refl, sym, ap, ◌∙◌, subst, arith}
use Rattle.std.proofs.lemmas.List.{append_cancel_left}
use Rattle.asn_rules.specs.Chunks.{Chunk}
use Rattle.asn_rules.specs.Live.{Fielding}
use Rattle.asn_rules.specs.Languages.{Lawful, Map, Plain, Carries}
use Rattle.asn_bits.specs.Sets.{AreDigits, weighted, InDigits}
use Rattle.asn_rules.specs.Forks.{Same}
use Rattle.asn_rules.specs.Padding.{AreUnits, Fixed}
use Rattle.asn_rules.specs.Left.{ending, NumberLeft}
use Rattle.asn_rules.proofs.Live.Chunks.{FieldsPart}
use Rattle.asn_rules.proofs.Languages.Parts.{map_lawful}
use Rattle.asn_bits.proofs.Weights.{digits-append, digits-second, weighted-append}
use Rattle.asn_rules.proofs.Numbers.Sets.{Taking, set_lawful, taking_live}
use Rattle.asn_rules.proofs.Sealed.Padding.{Matching, fixed_code}
use Rattle.asn_rules.proofs.Languages.Parts.{plain_short}
use Rattle.asn_rules.proofs.Languages.Forks.{carries_left}
use Rattle.asn_rules.proofs.Remaining.Carries.{carries_plain, carries_map}
use Rattle.asn_rules.proofs.Languages.Spellings.{same_after}

-- ---- numbers

-- the digits after those read so far, by themselves or with them in front
number_after : (base k p r : ℕ) (S : ℕ → Type 0) (before : List ℕ) → AreDigits base before → weighted base before ≡ p → length before + r ≡ k → Same (NumberLeft base S p r) (Plain (λ n us. InDigits base k S n (before ++ us)))
number_after base k p r S before d w c = record { to = to; from = from }
  where
    sum : (us : List ℕ) → length us ≡ r → weighted base (before ++ us) ≡ p * base ^ r + weighted base us
    sum us l = weighted-append base before us ∙ ap (λ (i : ℕ). i * base ^ length us + weighted base us) w ∙ ap (λ (i : ℕ). p * base ^ i + weighted base us) l

    to : (n : ℕ) (cs : List Chunk) → NumberLeft base S p r n cs → Plain (λ n us. InDigits base k S n (before ++ us)) n cs
    to n cs h =
        let us = h.spelt.units in
        let i = h.spelt.spelt.digits in
        record {
          units = us;
          spelt = record {
            digits = record {
              digits = digits-append base before us d i.digits;
              count = omega (arith, length-append before us, i.count, c);
              sum = sum us i.count ∙ ap (λ (m : ℕ). p * base ^ r + m) i.sum ∙ sym h.seen;
            };
            member = subst S (sym h.seen) h.spelt.spelt.member;
          };
          same = h.spelt.same;
        }

    from : (n : ℕ) (cs : List Chunk) → Plain (λ n us. InDigits base k S n (before ++ us)) n cs → NumberLeft base S p r n cs
    from n cs h =
        let us = h.units in
        let i = h.spelt.digits in
        let l : length us ≡ r = omega (arith, length-append before us, i.count, c) in
        let e : n ≡ p * base ^ r + weighted base us = sym i.sum ∙ sum us l in
        record {
          source = weighted base us;
          spelt = record { units = us; spelt = record { digits = record { digits = digits-second base before us i.digits; count = l; sum = refl }; member = subst S e h.spelt.member }; same = h.same };
          seen = e;
        }

-- where its reader waits, the last digits are left
pub taking_left : {base k p r : ℕ} {S : ℕ → Type 0} {us rest : List ℕ} {R : Fielding} → FieldsPart R → (h : Taking base k S us rest p (suc r)) → Carries R (NumberLeft base S p (suc r)) (Plain (InDigits base k S)) h.before
taking_left {base} {k} {p} {r} {S} ok h = carries_left (number_after base k p (suc r) S h.before h.digits h.value h.count) (carries_plain h.before (taking_live ok h).none)

-- before any digit has been read
pub number_starts : (base k : ℕ) (S : ℕ → Type 0) → Same (NumberLeft base S 0 k) (Plain (InDigits base k S))
number_starts base k S = same_after (number_after base k 0 k S [] tt refl (omega arith)) (record { to = λ n cs h. h; from = λ n cs h. h })

-- the last digits begun: fewer are left
pub left_further : {base q r c : ℕ} (S : ℕ → Type 0) (p j : ℕ) {us rest : List ℕ} {R : Fielding} → FieldsPart R → j + suc r ≡ q → (h : Taking base q (λ m. S (ending base p q m)) us rest c (suc r)) → Carries R (NumberLeft base S (p * base ^ j + c) (suc r)) (NumberLeft base S p q) h.before
left_further {base} {q} {r} {c} S p j {R = R} ok e h = carries_left same (carries_map (taking_left ok h))
  where
    number : (m : ℕ) → ending base p q (ending base c (suc r) m) ≡ ending base (p * base ^ j + c) (suc r) m
    number m =
        let power : base ^ q ≡ base ^ j * base ^ suc r = ap (λ (i : ℕ). base ^ i) (sym e) ∙ pow-add base j (suc r) in
        ap (λ (i : ℕ). p * i + (c * base ^ suc r + m)) power ∙ omega arith

    same : Same (NumberLeft base S (p * base ^ j + c) (suc r)) (Map (ending base p q) (NumberLeft base (λ m. S (ending base p q m)) c (suc r)))
    same = record {
      to = λ n cs x. record {
        source = ending base c (suc r) x.source;
        spelt = record { source = x.source; spelt = record { units = x.spelt.units; spelt = record { digits = x.spelt.spelt.digits; member = subst S (sym (number x.source)) x.spelt.spelt.member }; same = x.spelt.same }; seen = refl };
        seen = x.seen ∙ sym (number x.source);
      };
      from = λ n cs x. record {
        source = x.spelt.source;
        spelt = record { units = x.spelt.spelt.units; spelt = record { digits = x.spelt.spelt.spelt.digits; member = subst S (number x.spelt.source) x.spelt.spelt.spelt.member }; same = x.spelt.spelt.same };
        seen = x.seen ∙ ap (ending base p q) x.spelt.seen ∙ number x.spelt.source;
      };
    }

-- what is left of a number is lawful
pub left_lawful : (base p r : ℕ) (S : ℕ → Type 0) → Lawful (NumberLeft base S p r)
left_lawful base p r S = map_lawful (λ a b e. omega (arith, e)) (set_lawful base r (λ m. S (ending base p r m)))

-- ---- given units

-- where their reader waits, the others are left
pub matching_left : {zs us rest more : List ℕ} {z : ℕ} {R : Fielding} → FieldsPart R → (f : Matching zs us rest (z ∷ more)) → Carries R (Fixed (z ∷ more)) (Fixed zs) f.matched
matching_left {zs} {more = more} {z = z} {R = R} ok f = carries_left same (carries_plain f.matched (plain_short ok (fixed_code zs) tt f.matched z more (record { same = sym f.all })).none)
  where
    same : Same (Fixed (z ∷ more)) (Plain (λ v us. AreUnits zs v (f.matched ++ us)))
    same = record {
      to = λ v cs h. record { units = h.units; spelt = record { same = ap (λ (l : List ℕ). f.matched ++ l) h.spelt.same ∙ sym f.all }; same = h.same };
      from = λ v cs h. record { units = h.units; spelt = record { same = append_cancel_left f.matched h.units (z ∷ more) (h.spelt.same ∙ f.all) }; same = h.same };
    }
