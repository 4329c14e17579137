-- Numbers of a set in a fixed count of bits: the same set in other words, and what their reader cites at each exit.
use Rattle.std.proofs.Common.{◌≡◌, ◌*◌, ℕ, List, [], ◌∷◌, ◌++◌, length}
use Rattle.asn_bits.specs.Begun.{Begins}
use Rattle.asn_bits.specs.Sets.{InDigits}
use Rattle.asn_rules.specs.Counted.{SomeOf, Counted}
use Rattle.asn_rules.specs.Forks.{Same}
use Rattle.asn_rules.specs.Languages.{Spells, Short, Refused, Plain}
use Rattle.asn_rules.specs.Live.{Fielding}
use Rattle.asn_rules.proofs.Languages.Exits.{leads_octets}
use Rattle.asn_rules.proofs.Languages.Leads.{Leads}
use Rattle.asn_rules.proofs.Languages.PlainUnits.{AreUnits, plain_units, then_units, spells_under, leads_under, short_under, refused_under, no_fields_part}
use Rattle.asn_rules.proofs.Numbers.Sets.{Giving, giving_waits, giving_stops}

-- the same numbers of a set
pub same_set : {S T : ℕ → Type 0} (b k : ℕ) → ((n : ℕ) → S n → T n) → ((n : ℕ) → T n → S n) → Same (Plain (InDigits b k S)) (Plain (InDigits b k T))
same_set b k there back = record {
  to = λ v cs h. record { units = h.units; spelt = record { digits = h.spelt.digits; member = there v h.spelt.member }; same = h.same };
  from = λ v cs h. record { units = h.units; spelt = record { digits = h.spelt.digits; member = back v h.spelt.member }; same = h.same };
}

-- no unit is left
pub number_waits : {k : ℕ} {S : ℕ → Type 0} {us rest given : List ℕ} (R : Fielding) → Giving k S us rest given → rest ≡ [] → Short R (Plain (InDigits 2 k S)) us
number_waits {k} {S} R h e = short_under (plain_units (InDigits 2 k S)) (giving_waits no_fields_part h e)

-- a unit is read with which no number begins
pub number_stops : {k u : ℕ} {S : ℕ → Type 0} {us rest after given : List ℕ} (R : Fielding) → Giving k S us rest given → rest ≡ u ∷ after → (Begins k S (given ++ u ∷ []) → ⊥) → Refused R (Plain (InDigits 2 k S)) us (length after)
number_stops {k} {S = S} R h e dead = refused_under (plain_units (InDigits 2 k S)) (giving_stops no_fields_part h e dead)

-- the octets after a count
pub counted_leads : {T : ℕ → ℕ → Type 0} {k : ℕ} {us r : List ℕ} (R : Fielding) → Spells R (Plain (InDigits 2 8 (SomeOf T))) k us r → Leads R (Plain (InDigits 2 (8 * k) (T k))) r (λ n. (k, n)) (Counted 2 8 T) us
counted_leads {T} {k} R s =
    let count = plain_units (InDigits 2 8 (SomeOf T)) in
    let octets = plain_units (InDigits 2 (8 * k) (T k)) in
    let both : AreUnits (Counted 2 8 T) = then_units count (λ j. plain_units (InDigits 2 (8 * j) (T j))) in
    leads_under octets both (leads_octets no_fields_part (spells_under count s))
