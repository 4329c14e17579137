-- Octets are read loosely in one way: one value, one list of skipped fields, and none begins another.
use Rattle.std.proofs.Common.{◌≡◌, ◌+◌, ◌*◌, ◌≤◌, ℕ, zero, suc, Bool, true, false, List, [], ◌∷◌, ◌++◌, length, length-append, Some, None, is_some, ◌⊎◌, ◌<◌, refl, sym, ap, subst, ◌∙◌, arith, append_assoc, inl, inr}
use Rattle.std.proofs.Math.Nat.{mul-le-mul_left}
use Rattle.std.proofs.lemmas.List.{append-nil, append_cancel_right}
use Rattle.std.specs.List.{AllByRecursion}
use Rattle.asn_values.specs.Shape.{Shape, boolean, null, integer, enumerated, bit_string, octet_string, restricted, utf8_string, sequence, sequence_of, choice, closed_labels, marked_labels, must, optional, default, Fields, no_fields, field, MoreFields, closed, marked, Alternatives, no_alternatives, one_of, MoreAlternatives, closed_choice, marked_choice, more_alternatives, count}
use Rattle.asn_values.specs.Fits.{max_len}
use Rattle.asn_values.specs.Parts.{AreOfProfile, AreAllOfProfile}
use Rattle.asn_values.specs.Profile.{InProfile}
use Rattle.asn_values.proofs.InnerTypes.{element_of_profile, root_alternatives_of_profile, added_alternatives_of_profile, additions_of_profile}
use Rattle.asn_values.proofs.Parts.{components_of_profile}
use Rattle.asn_bits.specs.Numbers.{bits}
use Rattle.asn_rules.specs.Answer.{max_octets}
use Rattle.asn_rules.specs.Components.{extension_bit}
use Rattle.asn_rules.specs.Chunks.{Chunk, open_field, flat}
use Rattle.asn_rules.specs.Languages.{Spells, AllContents}
use Rattle.asn_rules.specs.Listed.{bitmap_length}
use Rattle.asn_rules.specs.Live.{Fielding}
use Rattle.asn_rules.proofs.Live.Chunks.{FieldsPart}
use Rattle.asn_rules.proofs.Live.Places.{contents_by_length}
use Rattle.asn_walk.specs.Coding.{AreFew, IndexOf, absent_entries}
use Rattle.asn_walk.proofs.Parts.{fields_part_of, few_indexes}
use Rattle.asn_walk.proofs.Listing.{list_size}
use Rattle.asn_newer.specs.Skipped.{Reading}
use Rattle.asn_newer.specs.Loose.{LooseCoding, Complete, Unknown, Known, AllUnknown, additions_to_come, alternatives_to_come, by_index, Loose, LooseEach, LooseMore, LooseOpen, LooseRoot, LooseOther, LooseAdded}
use Rattle.asn_newer.specs.Ways.{OneWay, OneReading, WayLaws}
use Rattle.asn_newer.proofs.Law.OneWay.{lawful_way, plain_way, map_way, then_way, nothing_way, never_way, sealed_way, remaining_way, spelt_way}

module _ (l : LooseCoding) (h : WayLaws l) where
  abbrev R : Fielding
  R = l.coding.ruling.fielding

  pub part : FieldsPart R
  part = fields_part_of l.coding h.laws

  -- ---- open type fields

  -- the chunks of few octets have no content that is too long
  contents : {A : Type 0} {L : A → List Chunk → Type 0} (a : A) (o : List ℕ) → OneWay R L → length o ≤ max_octets → (x : Complete l.coding L a o) → AllContents R x.chunks
  contents a o way few x =
      let tells = h.laws.tells in
      let e : length (l.coding.ruling.units o) ≡ length (flat R.spelled x.chunks) + length (l.coding.padding (length (flat R.spelled x.chunks))) = ap length x.units ∙ length-append (flat R.spelled x.chunks) (l.coding.padding (length (flat R.spelled x.chunks))) in
      contents_by_length R tells.weight tells.some tells.long x.chunks (way.sealed a x.chunks x.spelt) (bound tells.weight (length o) (length (flat R.spelled x.chunks)) (length (l.coding.padding (length (flat R.spelled x.chunks)))) few (sym (tells.count o) ∙ e))
    where
      bound : (w n a b : ℕ) → n ≤ max_octets → w * n ≡ a + b → a ≤ w * max_len
      bound w n a b f e = let g : w * n ≤ w * max_len = mul-le-mul_left w f in omega (arith, e, g)

  -- a complete encoding at the front of units
  pub complete_front : {A : Type 0} {L : A → List Chunk → Type 0} (a : A) (o : List ℕ) → OneWay R L → length o ≤ max_octets → (x : Complete l.coding L a o) → Spells R L a (l.coding.ruling.units o) (l.coding.padding (length (flat R.spelled x.chunks)))
  complete_front a o way few x = record { chunks = x.chunks; spelt = x.spelt; contents = contents a o way few x; split = x.units }

  complete_once : {A : Type 0} {L : A → List Chunk → Type 0} → OneWay R L → (a b : A) (o : List ℕ) → length o ≤ max_octets → Complete l.coding L a o → Complete l.coding L b o → a ≡ b
  complete_once way a b o few x y = (way.once a b (l.coding.ruling.units o) _ _ (complete_front a o way few x) (complete_front b o way few y)).0

  pub known_way : {A : Type 0} {L : A → List Chunk → Type 0} → OneWay R L → OneWay R (Known l.coding L)
  known_way way = sealed_way part (λ a c x b. (h.some (flat R.spelled x.chunks) c x.units, b, x.octets)) (λ a b c x p q. complete_once way a b c x.1 p q)

  pub unknown_way : (place : ℕ) → OneWay R (Unknown l.coding place)
  unknown_way place = map_way (sealed_way part (λ a c x b. (subst (λ (os : List ℕ). R.shortest open_field ≤ length os) (sym x.same) x.some, b, subst (λ (os : List ℕ). AllByRecursion (λ o. o < 256) os) (sym x.same) x.octets)) (λ a b c x p q. sym p.same ∙ q.same))

  pub all_unknown_way : (place : ℕ) (present : List ℕ) → OneWay R (AllUnknown l.coding place present)
  all_unknown_way place [] = nothing_way [] part
  all_unknown_way place (zero ∷ present) = all_unknown_way (suc place) present
  all_unknown_way place (suc b ∷ present) = map_way (then_way (unknown_way place) (λ _. all_unknown_way (suc place) present))

  -- ---- the alternatives of a CHOICE

  few_to_come : (root : Alternatives) (more : MoreAlternatives) → InProfile (choice root more) → AreFew (count root) (alternatives_to_come root more)
  few_to_come root closed_choice good = few_indexes root closed_choice good
  few_to_come root (marked_choice alts) good = (let few = few_indexes root (marked_choice alts) good in omega (arith, few))

  pub index_way : (root : Alternatives) (more : MoreAlternatives) → InProfile (choice root more) → OneWay R (IndexOf l.coding (count root) (alternatives_to_come root more))
  index_way root more good = plain_way (λ i. l.coding.index (count root) (is_some (alternatives_to_come root more)) i) part (h.laws.index (count root) (alternatives_to_come root more) (few_to_come root more good))

  by_way : {A : Type 0} {L M : ℕ → A → List Chunk → Type 0} → ((i : ℕ) → OneWay R (L i)) → ((i : ℕ) → OneWay R (M i)) → (i : ℕ ⊎ ℕ) → OneWay R (by_index L M i)
  by_way here there (inl i) = here i
  by_way here there (inr i) = there i

  others_good : (root : Alternatives) (more : MoreAlternatives) → InProfile (choice root more) → AreAllOfProfile (more_alternatives more)
  others_good root closed_choice good = tt
  others_good root (marked_choice alts) good = added_alternatives_of_profile root alts good

  -- ---- all types

  mutual
    pub loose_way : (t : Shape) → InProfile t → OneWay R (Loose l t)
    loose_way (enumerated root (marked_labels additions)) good = h.items root additions good
    loose_way (enumerated root closed_labels) good = map_way (spelt_way l.coding h.laws None (enumerated root closed_labels) good)
    loose_way (sequence root more) good =
        map_way (then_way (plain_way (λ p. l.coding.preamble (extension_bit (is_some (additions_to_come more)) p.0 ++ bits (bitmap_length root) p.1)) part (h.laws.preamble (bitmap_length root) (additions_to_come more)))
        (λ p. then_way (each_way 0 root (bits (bitmap_length root) p.1) (components_of_profile root more good)) (λ _. more_way root more p.0 good)))
    loose_way (sequence_of t s) good =
        map_way (map_way (then_way (lawful_way part (h.laws.list_start s (list_size t s good)) (h.start s)) (λ a. remaining_way part (loose_way t (element_of_profile t s good)) a)))
    loose_way (choice root more) good = map_way (then_way (index_way root more good) (by_way (λ i. root_way i root i (root_alternatives_of_profile root more good)) (λ i. other_way (count root) more i (others_good root more good))))
    loose_way boolean good = map_way (spelt_way l.coding h.laws None boolean good)
    loose_way null good = map_way (spelt_way l.coding h.laws None null good)
    loose_way (integer b) good = map_way (spelt_way l.coding h.laws None (integer b) good)
    loose_way (bit_string s) good = map_way (spelt_way l.coding h.laws None (bit_string s) good)
    loose_way (octet_string s) good = map_way (spelt_way l.coding h.laws None (octet_string s) good)
    loose_way (restricted k s) good = map_way (spelt_way l.coding h.laws None (restricted k s) good)
    loose_way utf8_string good = map_way (spelt_way l.coding h.laws None utf8_string good)

    pub each_way : (i : ℕ) (fs : Fields) (present : List ℕ) → AreOfProfile fs → OneWay R (LooseEach l i fs present)
    each_way i no_fields present good = nothing_way ([], []) part
    each_way i (field name must t fs) present good = map_way (then_way (map_way (loose_way t good.0)) (λ _. each_way (suc i) fs present good.2))
    each_way i (field name optional t fs) [] good = never_way
    each_way i (field name optional t fs) (zero ∷ present) good = map_way (each_way (suc i) fs present good.2)
    each_way i (field name optional t fs) (suc b ∷ present) good = map_way (then_way (map_way (loose_way t good.0)) (λ _. each_way (suc i) fs present good.2))
    each_way i (field name (default d) t fs) [] good = never_way
    each_way i (field name (default d) t fs) (zero ∷ present) good = map_way (each_way (suc i) fs present good.2)
    each_way i (field name (default d) t fs) (suc b ∷ present) good = map_way (then_way (map_way (spelt_way l.coding h.laws (Some d) t good.0)) (λ _. each_way (suc i) fs present good.2))

    pub more_way : (root : Fields) (more : MoreFields) (extended : Bool) → InProfile (sequence root more) → OneWay R (LooseMore l more extended)
    more_way root closed extended good = nothing_way ([], []) part
    more_way root (marked fs) false good = nothing_way (absent_entries fs, []) part
    more_way root (marked fs) true good = map_way (then_way h.bitmap (λ p. open_way 0 fs (bits p.0 p.1) (additions_of_profile root fs good)))

    pub open_way : (place : ℕ) (fs : Fields) (present : List ℕ) → AreOfProfile fs → OneWay R (LooseOpen l place fs present)
    open_way place no_fields present good = map_way (all_unknown_way place present)
    open_way place (field name demand t fs) [] good = nothing_way (absent_entries (field name demand t fs), []) part
    open_way place (field name demand t fs) (zero ∷ present) good = map_way (open_way (suc place) fs present good.2)
    open_way place (field name demand t fs) (suc b ∷ present) good = map_way (then_way (map_way (known_way (loose_way t good.0))) (λ _. open_way (suc place) fs present good.2))

    pub root_way : (tag : ℕ) (alts : Alternatives) (i : ℕ) → AreAllOfProfile alts → OneWay R (LooseRoot l tag alts i)
    root_way tag no_alternatives i good = never_way
    root_way tag (one_of name t alts) zero good = map_way (map_way (loose_way t good.0))
    root_way tag (one_of name t alts) (suc i) good = root_way tag alts i good.1

    pub other_way : (roots : ℕ) (more : MoreAlternatives) (i : ℕ) → AreAllOfProfile (more_alternatives more) → OneWay R (LooseOther l roots more i)
    other_way roots closed_choice i good = never_way
    other_way roots (marked_choice alts) i good = added_way (roots + i) i alts i good

    pub added_way : (tag place : ℕ) (alts : Alternatives) (i : ℕ) → AreAllOfProfile alts → OneWay R (LooseAdded l tag place alts i)
    added_way tag place no_alternatives i good = map_way (unknown_way place)
    added_way tag place (one_of name t alts) zero good = map_way (map_way (known_way (loose_way t good.0)))
    added_way tag place (one_of name t alts) (suc i) good = added_way tag place alts i good.1

  -- ---- messages

  pub one_reading : OneReading l
  one_reading t v w s z o p good few x y b =
      let way = loose_way t good in
      let tells = h.laws.tells in
      let fits : length o ≤ max_octets = omega (arith, few, ap length b.1, length-append o b.0) in
      let c = complete_front (w, z) p way few y in
      let fill = l.coding.padding (length (flat R.spelled x.chunks)) in
      let filled = l.coding.padding (length (flat R.spelled y.chunks)) in
      let units : l.coding.ruling.units p ≡ flat R.spelled x.chunks ++ (fill ++ l.coding.ruling.units b.0) =
      ap l.coding.ruling.units b.1 ∙ tells.joined o b.0 ∙ ap (λ (us : List ℕ). us ++ l.coding.ruling.units b.0) x.units ∙ append_assoc (flat R.spelled x.chunks) fill (l.coding.ruling.units b.0) in
      let e = way.once (v, s) (w, z) (l.coding.ruling.units p) (fill ++ l.coding.ruling.units b.0) filled (record { chunks = x.chunks; spelt = x.spelt; contents = contents (v, s) o way fits x; split = units }) c in
      let same : flat R.spelled x.chunks ≡ flat R.spelled y.chunks =
      append_cancel_right (flat R.spelled x.chunks) (flat R.spelled y.chunks) filled (ap (λ (us : List ℕ). flat R.spelled x.chunks ++ us) (sym e.1) ∙ sym units ∙ y.units) in
      let fills : fill ≡ filled = ap (λ (us : List ℕ). l.coding.padding (length us)) same in
      let none : length (l.coding.ruling.units b.0) ≡ 0 = omega (arith, ap length e.1, length-append fill (l.coding.ruling.units b.0), ap length fills) in
      let rest : b.0 ≡ [] = no_octets tells.weight b.0 tells.some (sym (tells.count b.0) ∙ none) in
      (ap (λ (r : Reading). r.0) e.0, ap (λ (r : Reading). r.1) e.0, sym (b.1 ∙ ap (λ (us : List ℕ). o ++ us) rest ∙ append-nil o))
    where
      no_octets : (w : ℕ) (us : List ℕ) → 1 ≤ w → w * length us ≡ 0 → us ≡ []
      no_octets w [] some e = refl
      no_octets w (u ∷ us) some e = let g : w * 1 ≤ w * length (u ∷ us) = mul-le-mul_left w (omega arith) in absurd (omega (arith, e, g, some))
