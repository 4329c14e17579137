-- Items in a row that are read a few at a time and put after those of a list.
use Rattle.std.proofs.Common.{◌≡◌, ℕ, ◌+◌, List, [], ◌∷◌, ◌++◌, append-nil, append_assoc, sym, ap, ◌∙◌, arith}
use Rattle.asn_bits.specs.Moves.{Taken}
use Rattle.asn_rules.specs.Chunks.{Chunk}
use Rattle.asn_rules.specs.Fields.{Octet}
use Rattle.asn_rules.proofs.Numbers.OctetRows.{octet_bits_front}
use Rattle.asn_rules.specs.Languages.{Spells, Lawful, Inhabited, Row}
use Rattle.asn_rules.proofs.Languages.Leads.{LeadsStops}
use Rattle.asn_rules.proofs.Languages.Rows.{row_starts, row_spells, row_one, row_short, row_refused}
use Rattle.asn_rules.proofs.Languages.Exits.{stops_next}
use Rattle.asn_per.specs.Per.{per_fields}
use Rattle.asn_per.specs.Reading.{Appends}
use Rattle.asn_per.proofs.Encodings.PerFields.{per_fields_part}

-- before any is read
pub appends_none : {A : Type 0} (L : A → List Chunk → Type 0) (vs : List A) (us : List ℕ) → Appends L 0 vs vs us us
appends_none L vs us = record { row = []; same = sym (append-nil vs); spelt = row_starts per_fields L us }

-- after i items, m more
pub appends_more : {A : Type 0} {L : A → List Chunk → Type 0} (i m k : ℕ) {old mid new : List A} {us r s : List ℕ} → i + m ≡ k → Appends L i old mid us r → Appends L m mid new r s → Appends L k old new us s
appends_more {L = L} i m k {old} e f g = record {
  row = f.row ++ g.row;
  same = g.same ∙ ap (λ l. l ++ g.row) f.same ∙ append_assoc old f.row g.row;
  spelt = row_spells L i m k e f.spelt g.spelt;
}

-- one item
pub appends_one : {A : Type 0} {L : A → List Chunk → Type 0} {a : A} {old new : List A} {us r : List ℕ} → new ≡ old ++ a ∷ [] → Spells per_fields L a us r → Appends L 1 old new us r
appends_one {a = a} e h = record { row = a ∷ []; same = e; spelt = row_one h }

-- after i items the others stop
pub appends_stops : {A : Type 0} {L : A → List Chunk → Type 0} (i m k : ℕ) {old mid : List A} {us r : List ℕ} → Lawful L → i + m ≡ k → Appends L i old mid us r → LeadsStops per_fields (Row L m) r (Row L k) us
appends_stops {L = L} i m k law e f = record { short = λ g. row_short L per_fields_part law i m k e f.spelt g; refused = λ n g. row_refused L per_fields_part law i m k e f.spelt g }

-- after i items the next one stops
pub appends_stops_next : {A : Type 0} {L : A → List Chunk → Type 0} (i m k : ℕ) {old mid : List A} {us r : List ℕ} → Lawful L → Inhabited L → i + (m + 1) ≡ k → Appends L i old mid us r → LeadsStops per_fields L r (Row L k) us
appends_stops_next {L = L} i m k law some e f = stops_next L i m k per_fields_part law some (omega (arith, e)) f.spelt

-- octets that were taken
pub appends_taken : (n : ℕ) {us r old new : List ℕ} → Taken n us r old new → Appends Octet n old new us r
appends_taken n {us} {r} h = record { row = h.octets; same = h.added; spelt = rw h.taken (octet_bits_front per_fields n h.octets r h.count h.each) }
