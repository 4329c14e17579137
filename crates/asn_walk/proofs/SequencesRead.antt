-- From the answers for the preamble, the components and the additions to those for a SEQUENCE, in any rules.
use Rattle.std.proofs.Common.{◌≡◌, ◌<◌, ℕ, zero, suc, Bool, true, false, List, ◌++◌, length, Option, Some, None, refl, subst, append-nil, arith}
use Rattle.asn_values.specs.Datum.{Datum, components, components_of}
use Rattle.asn_values.specs.Shape.{Fields, MoreFields, sequence, closed, marked, more_fields, demands}
use Rattle.asn_values.specs.Profile.{InProfile}
use Rattle.asn_values.proofs.InnerTypes.{additions_of_profile}
use Rattle.asn_values.proofs.Parts.{components_of_profile}
use Rattle.asn_bits.specs.Numbers.{bits}
use Rattle.asn_bits.proofs.Octets.{length-digits}
use Rattle.asn_rules.specs.Chunks.{Chunk}
use Rattle.asn_rules.specs.Languages.{Spells, Inhabited, Then, Nothing}
use Rattle.asn_rules.specs.Listed.{Spelt, Listed, bitmap_length}
use Rattle.asn_rules.proofs.Languages.Leads.{LeadsStops, Leads, leads_on, leads_map, leads_same, leads_second, stops_first, stops_on}
use Rattle.asn_rules.proofs.Languages.Standing.{StandsIn, stands_on, stands_map, stands_same, stands_first, stands_second}
use Rattle.asn_rules.proofs.Components.Listed.{listed_inhabited, listed_lawful}
use Rattle.asn_rules.proofs.Components.ListedReading.{nothing_read}
use Rattle.asn_rules.proofs.Languages.Parts.{map_source, nothing_inhabited}
use Rattle.asn_rules.proofs.Languages.Then.{Follows, then_inhabited}
use Rattle.asn_walk.specs.Coding.{Coding, CanExtend, added, PreambleOf, AdditionsOf, AddedOf, absent_entries, sequence_told}
use Rattle.asn_walk.specs.Laws.{Laws}
use Rattle.asn_walk.specs.Reading.{After}
use Rattle.asn_walk.proofs.AdditionsRead.{some_additions}
use Rattle.asn_walk.proofs.Parts.{fields_part_of}

-- where additions can be present some are listed
pub some_listed : (k : ℕ) → CanExtend (Some k) → 0 < k
some_listed zero e = absurd e
some_listed (suc k) e = omega arith

-- without a mark none is
closed_false : (b : Bool) → (b ≡ true → ⊥) → b ≡ false
closed_false true h = absurd (h refl)
closed_false false h = refl

module _ (c : Coding) (laws : Laws c) (root : Fields) (more : MoreFields) (good : InProfile (sequence root more)) where
  abbrev n : ℕ
  n = bitmap_length root

  -- what follows the preamble
  abbrev AfterPreamble : Bool × ℕ → List (Option Datum) × List (Option Datum) → List Chunk → Type 0
  AfterPreamble p = Then (Listed c.code root (bits n p.1)) (λ _. AddedOf c more p.0)

  -- the additions have entries
  pub added_inhabited : (b : Bool) → (b ≡ true → CanExtend (added more)) → Inhabited (AddedOf c more b)
  added_inhabited false h = nothing_inhabited (absent_entries (more_fields more))
  added_inhabited true h = go more good (h refl)
    where
      go : (m : MoreFields) → InProfile (sequence root m) → CanExtend (added m) → Inhabited (AddedOf c m true)
      go closed g e = absurd e
      go (marked fs) g e = some_additions c laws fs (additions_of_profile root fs g) (some_listed (length (demands fs)) e)

  after_inhabited : (p : Bool × ℕ) → (p.0 ≡ true → CanExtend (added more)) → Inhabited (AfterPreamble p)
  after_inhabited p h = then_inhabited (listed_inhabited c.code root (bits n p.1) (components_of_profile root more good) (length-digits 2 n p.1)) (record { follow = λ es cs k. added_inhabited p.0 h })

  follows : Follows (PreambleOf c n (added more)) AfterPreamble
  follows = record { follow = λ p cs h. after_inhabited p h.fits.1 }

  whole : (us : List ℕ)
      → Leads c.ruling.fielding (Then (PreambleOf c n (added more)) AfterPreamble) us sequence_told
      (Spelt c.code None (sequence root more)) us
  whole us = leads_on (leads_map c.ruling.fielding sequence_told (Then (PreambleOf c n (added more)) AfterPreamble) us) (leads_same c.ruling.fielding us (laws.sequences root more good))

  stands_whole : (us : List ℕ)
      → StandsIn c.ruling.fielding (Then (PreambleOf c n (added more)) AfterPreamble) us
      (Spelt c.code None (sequence root more)) us
  stands_whole us = stands_on (stands_map c.ruling.fielding sequence_told (Then (PreambleOf c n (added more)) AfterPreamble) us) (stands_same c.ruling.fielding us (laws.sequences root more good))

  -- the preamble stands in front
  pub preamble_stands : (us : List ℕ)
      → StandsIn c.ruling.fielding (PreambleOf c n (added more)) us (Spelt c.code None (sequence root more)) us
  preamble_stands us = stands_on (stands_first c.ruling.fielding us follows) (stands_whole us)

  -- within the preamble
  pub preamble_stops : (us : List ℕ)
      → LeadsStops c.ruling.fielding (PreambleOf c n (added more)) us (Spelt c.code None (sequence root more)) us
  preamble_stops us = stops_on (stops_first c.ruling.fielding us follows) (whole us).stops

  -- after it
  module _ (p : Bool × ℕ) (us r : List ℕ) (h : Spells c.ruling.fielding (PreambleOf c n (added more)) p us r) where
    after : Leads c.ruling.fielding (AfterPreamble p) r (λ q. sequence_told (p, q))
        (Spelt c.code None (sequence root more)) us
    after = leads_on (leads_second {M = AfterPreamble} (fields_part_of c laws) (laws.preamble n (added more)) h) (whole us)

    stands_after : StandsIn c.ruling.fielding (AfterPreamble p) r (Spelt c.code None (sequence root more)) us
    stands_after = stands_on (stands_second {M = AfterPreamble} h) (stands_whole us)

    -- the components stand there, and after them the additions
    pub components_stand : StandsIn c.ruling.fielding (Listed c.code root (bits n p.1)) r
        (Spelt c.code None (sequence root more)) us
    components_stand = stands_on (stands_first c.ruling.fielding r (record { follow = λ es cs k. added_inhabited p.0 h.spelt.fits.1 })) stands_after

    pub added_stands : (es : List (Option Datum)) (s : List ℕ) → Spells c.ruling.fielding (Listed c.code root (bits n p.1)) es r s
        → StandsIn c.ruling.fielding (AddedOf c more p.0) s (Spelt c.code None (sequence root more)) us
    added_stands es s k = stands_on (stands_second {M = λ _. AddedOf c more p.0} k) stands_after

    -- within the components
    pub components_stop : LeadsStops c.ruling.fielding (Listed c.code root (bits n p.1)) r
        (Spelt c.code None (sequence root more)) us
    components_stop = stops_on (stops_first c.ruling.fielding r (record { follow = λ es cs k. added_inhabited p.0 h.spelt.fits.1 })) after.stops

    -- after them
    module _ (es : List (Option Datum)) (s : List ℕ) (k : Spells c.ruling.fielding (Listed c.code root (bits n p.1)) es r s) where
      pub added_leads : Leads c.ruling.fielding (AddedOf c more p.0) s (λ gs. components (components_of (es ++ gs)))
          (Spelt c.code None (sequence root more)) us
      added_leads = leads_on (leads_second {M = λ _. AddedOf c more p.0} (fields_part_of c laws) (listed_lawful c.code laws.part root (bits n p.1) (components_of_profile root more good)) k) after

      -- no addition is present
      pub none_added : p.0 ≡ false
          → Spells c.ruling.fielding (Spelt c.code None (sequence root more))
          (components (components_of (es ++ absent_entries (more_fields more)))) us s
      none_added e =
          let l : Leads c.ruling.fielding (Nothing (absent_entries (more_fields more))) s (λ gs. components (components_of (es ++ gs))) (Spelt c.code None (sequence root more)) us = rw e at added_leads in
          l.done (absent_entries (more_fields more)) s (nothing_read c.ruling.fielding (absent_entries (more_fields more)) s)

      -- some addition is
      some_added : p.0 ≡ true
          → Leads c.ruling.fielding (AdditionsOf c (more_fields more)) s (λ gs. components (components_of (es ++ gs)))
          (Spelt c.code None (sequence root more)) us
      some_added e = rw e at added_leads

      pub additions_stop : p.0 ≡ true
          → LeadsStops c.ruling.fielding (AdditionsOf c (more_fields more)) s
          (Spelt c.code None (sequence root more)) us
      additions_stop e = (some_added e).stops

      pub additions_done : p.0 ≡ true → (new : List (Option Datum)) (t : List ℕ)
          → Spells c.ruling.fielding (After es (AdditionsOf c (more_fields more))) new s t
          → Spells c.ruling.fielding (Spelt c.code None (sequence root more)) (components (components_of new)) us t
      additions_done e new t g =
          let w = map_source g in
          rw w.2 ((some_added e).done w.0 t w.1)

-- a SEQUENCE without a mark
pub closed_done : (c : Coding) (laws : Laws c) (root : Fields) (good : InProfile (sequence root closed)) (p : Bool × ℕ)
    (us r : List ℕ) → Spells c.ruling.fielding (PreambleOf c (bitmap_length root) (added closed)) p us r
    → (es : List (Option Datum)) (s : List ℕ)
    → Spells c.ruling.fielding (Listed c.code root (bits (bitmap_length root) p.1)) es r s
    → Spells c.ruling.fielding (Spelt c.code None (sequence root closed)) (components (components_of es)) us s
closed_done c laws root good p us r h es s k =
    subst (λ (l : List (Option Datum)). Spells c.ruling.fielding (Spelt c.code None (sequence root closed)) (components (components_of l)) us s) (append-nil es)
    (none_added c laws root closed good p us r h es s k (closed_false p.0 h.spelt.fits.1))
