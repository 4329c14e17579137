-- Where the walk of a plan stands in the elements of a SEQUENCE OF.
use Rattle.std.proofs.Common.{◌≡◌, ◌+◌, ℕ, List, [], ◌∷◌, ◌++◌, None, Some, refl, sym, subst, append_assoc, append-nil}
use Rattle.asn_values.specs.Datum.{Datum, elements, elements_of}
use Rattle.asn_values.specs.Profile.{InProfile}
use Rattle.asn_values.specs.Shape.{Shape, SizeRange, sequence_of}
use Rattle.asn_rules.specs.Chunks.{Chunk}
use Rattle.asn_rules.specs.Languages.{Spells, Row}
use Rattle.asn_rules.specs.Listed.{Spelt}
use Rattle.asn_rules.proofs.Components.Listed.{spelt_inhabited, spelt_lawful}
use Rattle.asn_rules.proofs.Languages.Parts.{map_spells}
use Rattle.asn_rules.proofs.Languages.Rows.{row_starts, row_spells, row_one}
use Rattle.asn_walk.specs.Ahead.{Ahead, end, Remaining, Next}
use Rattle.asn_walk.specs.Coding.{Coding, ListingOf}
use Rattle.asn_walk.specs.Laws.{Laws, IsSizeOfProfile}
use Rattle.asn_walk.proofs.AdditionsRead.{after_nothing}
use Rattle.asn_walk.proofs.Listing.{FragmentsUpTo, fragments_start, fragments_further, fragments_end, start_leads, list_leads}
use Rattle.asn_plan.specs.Fields.{BeginsList}
use Rattle.asn_plan.specs.Plans.{BuildsRow}

-- no element is read
pub row_begins : (c : Coding) (P : List Datum → Type 0) (L : Datum → List Chunk → Type 0) (us : List ℕ)
    → BuildsRow c P P (Row L 0) us us
row_begins c P L us = record { row = λ ds p. ([], subst P (sym (append-nil ds)) p, row_starts c.ruling.fielding L us) }

-- one more is
pub row_further : (c : Coding) (P M N : List Datum → Type 0) (Q : Datum → Type 0) (L : Datum → List Chunk → Type 0) (i : ℕ)
    (us vs ws : List ℕ) → ((ds : List Datum) (d : Datum) → M ds → Q d → N (ds ++ d ∷ [])) → BuildsRow c P M (Row L i) us vs
    → (d : Datum) → Q d → Spells c.ruling.fielding L d vs ws → BuildsRow c P N (Row L (i + 1)) us ws
row_further c P M N Q L i us vs ws add h d q read = record {
  row = λ ds p. (let r = h.row ds p in (r.0 ++ d ∷ [], subst N (append_assoc ds r.0 (d ∷ [])) (add (ds ++ r.0) d r.1 q), row_spells L i 1 (i + 1) refl r.2 (row_one read)));
}

-- ---- fragments

-- the elements that were read, and what is ahead
pub record ListedUpTo (c : Coding) (P : List Datum → Type 0) (t : Shape) (first : Ahead) (us : List ℕ) (ahead : Ahead) (vs : List ℕ) : Type 0 where
  pub value : List Datum
  pub of_value : P value
  pub read : FragmentsUpTo c (Spelt c.code None t) (Remaining (Spelt c.code None t) first) us [] ahead value vs

pub listed_starts : (c : Coding) (P : List Datum → Type 0) (t : Shape) (first : Ahead) (us : List ℕ) → P []
    → ListedUpTo c P t first us first us
listed_starts c P t first us p = record { value = []; of_value = p; read = fragments_start c (Spelt c.code None t) us [] first }

pub listed_further : (c : Coding) → Laws c → (P N : List Datum → Type 0) (t : Shape) → InProfile t → (first ahead new : Ahead)
    (count : ℕ) (us vs r ws : List ℕ) → Next c.ruling.fielding ahead (Some count) new vs r
    → BuildsRow c P N (Row (Spelt c.code None t) count) r ws → ListedUpTo c P t first us ahead vs
    → ListedUpTo c N t first us new ws
listed_further c laws P N t good first ahead new count us vs r ws next row h =
    let k = row.row h.value h.of_value in
    record {
      value = h.value ++ k.0;
      of_value = k.1;
      read = fragments_further c laws (spelt_inhabited c.code t good) (spelt_lawful c.code laws.part None t good) next (map_spells {f = λ es. h.value ++ es} k.2) h.read;
    }

pub listed_ends : {c : Coding} {P : List Datum → Type 0} {t : Shape} {first ahead new : Ahead} {us vs r : List ℕ}
    → Next c.ruling.fielding ahead None new vs r → (h : ListedUpTo c P t first us ahead vs)
    → Spells c.ruling.fielding (Remaining (Spelt c.code None t) first) h.value us r
listed_ends next h = after_nothing (fragments_end next h.read)

-- ---- the type

pub list_read : (c : Coding) → Laws c → (t : Shape) (s : SizeRange) → InProfile (sequence_of t s) → (us ws : List ℕ) (ds : List Datum)
    → Spells c.ruling.fielding (ListingOf c s (Spelt c.code None t)) ds us ws
    → Spells c.ruling.fielding (Spelt c.code None (sequence_of t s)) (elements (elements_of ds)) us ws
list_read c laws t s good us ws ds k = (list_leads c laws t s us good).done ds ws k

-- a count, and as many elements
pub counted_read : (c : Coding) → Laws c → (t : Shape) → InProfile t → (s : SizeRange) → IsSizeOfProfile s → (n : ℕ) (us vs ws : List ℕ)
    → BeginsList c s n us vs → (ds : List Datum) → Spells c.ruling.fielding (Row (Spelt c.code None t) n) ds vs ws
    → Spells c.ruling.fielding (ListingOf c s (Spelt c.code None t)) ds us ws
counted_read c laws t good s size n us vs ws h ds k =
    let L = Spelt c.code None t in
    let N = λ (es : List Datum). es ≡ ds in
    let row : BuildsRow c (λ es. es ≡ []) N (Row L n) vs ws = record { row = λ es p. (ds, rw p refl, k) } in
    let all = listed_further c laws (λ es. es ≡ []) N t good h.ahead h.ahead end n h.between h.between vs ws h.next row (listed_starts c (λ es. es ≡ []) t h.ahead h.between refl) in
    let none : Next c.ruling.fielding end None end ws ws = record { advances = refl } in
    let read = subst (λ (es : List Datum). Spells c.ruling.fielding (Remaining L h.ahead) es h.between ws) all.of_value (listed_ends none all) in
    (start_leads c laws L s size h.start).done ds ws read

-- what is ahead of a list, and its elements
pub started_read : (c : Coding) → Laws c → (t : Shape) (s : SizeRange) → IsSizeOfProfile s → (ahead : Ahead) (us vs ws : List ℕ)
    → Spells c.ruling.fielding (c.list_start s) ahead us vs → (ds : List Datum)
    → Spells c.ruling.fielding (Remaining (Spelt c.code None t) ahead) ds vs ws
    → Spells c.ruling.fielding (ListingOf c s (Spelt c.code None t)) ds us ws
started_read c laws t s size ahead us vs ws h ds k = (start_leads c laws (Spelt c.code None t) s size h).done ds ws k
