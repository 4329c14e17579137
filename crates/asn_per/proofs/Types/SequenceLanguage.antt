-- A SEQUENCE as a language: a presence bitmap, and the components under it.
use Rattle.std.proofs.Common.{◌≡◌, ◌+◌, ◌^◌, ℕ, suc, List, [], ◌∷◌, ◌++◌, length, take, Option, None, refl, sym, ap, ◌∙◌, subst, arith}
use Rattle.std.proofs.lemmas.List.{append-nil}
use Rattle.std.proofs.Math.Seq.{take-length}
use Rattle.asn_values.specs.Datum.{Datum, components, components_of, component_list}
use Rattle.asn_values.specs.Shape.{must, optional, default, Fields, no_fields, field, demands, sequence, closed}
use Rattle.asn_values.specs.Fits.{Fits, FitsEach}
use Rattle.asn_values.specs.Parts.{AreOfProfile}
use Rattle.asn_values.proofs.Entries.{fits_sequence}
use Rattle.asn_bits.specs.Numbers.{bits}
use Rattle.asn_rules.specs.Chunks.{Chunk, ones}
use Rattle.asn_rules.specs.Components.{presence, if_spelled}
use Rattle.asn_rules.specs.Forks.{Same}
use Rattle.asn_rules.specs.Languages.{Spells, Then, Map, Plain}
use Rattle.asn_bits.specs.Sets.{weighted, InSet, IsBits, Meets}
use Rattle.asn_rules.specs.Listed.{Spelt, Listed, each_of, bitmap_length}
use Rattle.asn_bits.proofs.Weights.{bits_are, bits_only}
use Rattle.asn_rules.proofs.Law.Entries.{components_again, presence_bits}
use Rattle.asn_rules.proofs.Languages.Leads.{LeadsStops, Leads, leads_on, leads_map, leads_same, leads_second, stops_first, stops_on}
use Rattle.asn_rules.proofs.Components.Listed.{listed_inhabited}
use Rattle.asn_rules.proofs.Components.ListedEach.{listed_is, is_listed}
use Rattle.asn_rules.proofs.Numbers.Sets.{set_lawful}
use Rattle.asn_per.specs.Per.{per, per_each, per_fields}
use Rattle.asn_rules.specs.NumberSets.{Admits, up_to}
use Rattle.asn_per.proofs.Encodings.PerFields.{per_fields_part}
use Rattle.asn_per.proofs.Write.Spellings.{component_list-of, entries_count}

-- the components, one after the other
pub per_each_is : (fs : Fields) (es : List (Option Datum)) → per_each fs es ≡ each_of per fs es
per_each_is no_fields es = refl
per_each_is (field name demand t fs) [] = refl
per_each_is (field name demand t fs) (e ∷ es) = ap (λ (l : List Chunk). if_spelled demand e (λ d. per t d) ++ l) (per_each_is fs es)

-- the spelling of a SEQUENCE
chunks_of_sequence : (fs : Fields) (es : List (Option Datum)) → FitsEach fs es → per (sequence fs closed) (components (components_of es)) ≡ ones (presence (demands fs) es) ++ each_of per fs es
chunks_of_sequence fs es h =
    let all : take (length (demands fs)) (component_list (components_of es)) ≡ es =
    ap (take (length (demands fs))) (component_list-of es) ∙ ap (λ n. take n es) (sym (entries_count fs es h)) ∙ take-length es in
    ap (λ root_entries. (ones (presence (demands fs) root_entries) ++ per_each fs root_entries) ++ []) all
    ∙ append-nil (ones (presence (demands fs) es) ++ per_each fs es)
    ∙ ap (λ (l : List Chunk). ones (presence (demands fs) es) ++ l) (per_each_is fs es)

-- there are as many presence bits as components that may be absent
pub presence_length : (fs : Fields) (es : List (Option Datum)) → FitsEach fs es → length (presence (demands fs) es) ≡ bitmap_length fs
presence_length no_fields es h = refl
presence_length (field name demand t fs) [] h = absurd h
presence_length (field name must t fs) (e ∷ es) h = presence_length fs es h.1
presence_length (field name optional t fs) (e ∷ es) h = ap suc (presence_length fs es h.1)
presence_length (field name (default d) t fs) (e ∷ es) h = ap suc (presence_length fs es h.1)

-- a presence bitmap as a number
abbrev pub Bitmaps : Fields → ℕ → ℕ → List Chunk → Type 0
Bitmaps fs high = Plain (InSet (bitmap_length fs) (λ n. Admits (up_to high None) n))

-- it, and the components under it
abbrev pub Bitmapped : Fields → ℕ → ℕ × List (Option Datum) → List Chunk → Type 0
Bitmapped fs high = Then (Bitmaps fs high) (λ n. Listed per fs (bits (bitmap_length fs) n))

abbrev pub sequence_from : ℕ × List (Option Datum) → Datum
sequence_from p = components (components_of p.1)

module _ (fs : Fields) (high : ℕ) (good : AreOfProfile fs) (all : high + 1 ≡ 2 ^ bitmap_length fs) where
  sequence_spelt : (v : Datum) (cs : List Chunk) → Map sequence_from (Bitmapped fs high) v cs → Spelt per None (sequence fs closed) v cs
  sequence_spelt v cs h =
      let n = h.source.0 in
      let es = h.source.1 in
      let k = bitmap_length fs in
      let only = bits_only k n h.spelt.spelt.units h.spelt.spelt.spelt.digits in
      let are = bits_are k n only.0 in
      let w = listed_is per fs (bits k n) good are.digits are.count es h.spelt.second h.spelt.follows in
      let chunks : cs ≡ ones (presence (demands fs) es) ++ each_of per fs es =
      h.spelt.whole ∙ ap (λ (l : List Chunk). l ++ h.spelt.second) (h.spelt.spelt.same ∙ ap ones (only.1 ∙ sym w.bitmap)) ∙ ap (λ (l : List Chunk). ones (presence (demands fs) es) ++ l) w.chunks in
      rw h.seen (record { fits = ((fits_sequence fs es).0 w.fits, tt); same = chunks ∙ sym (chunks_of_sequence fs es w.fits) })

  -- the bits of a list of entries as a number
  entries_read : (es : List (Option Datum)) (cs : List Chunk) → FitsEach fs es → cs ≡ per (sequence fs closed) (components (components_of es)) → Map sequence_from (Bitmapped fs high) (components (components_of es)) cs
  entries_read es cs f e =
      let k = bitmap_length fs in
      let n = weighted 2 (presence (demands fs) es) in
      let is : IsBits k n (presence (demands fs) es) = record { digits = presence_bits (demands fs) es; count = presence_length fs es f; sum = refl } in
      let only = bits_only k n (presence (demands fs) es) is in
      record {
        source = (n, es);
        spelt = record {
          first = ones (presence (demands fs) es);
          second = each_of per fs es;
          spelt = record { units = presence (demands fs) es; spelt = record { digits = is; member = (omega arith, omega (arith, all, only.0), tt) }; same = refl };
          follows = subst (λ (b : List ℕ). Listed per fs b es (each_of per fs es)) only.1 (is_listed per fs es f);
          whole = e ∙ chunks_of_sequence fs es f;
        };
        seen = refl;
      }

  sequence_read : (v : Datum) (cs : List Chunk) → Spelt per None (sequence fs closed) v cs → Map sequence_from (Bitmapped fs high) v cs
  sequence_read (components c) cs h =
      let e : components (components_of (component_list c)) ≡ components c = ap components (components_again c) in
      let f : FitsEach fs (component_list c) = (fits_sequence fs (component_list c)).1 (subst (λ (v : Datum). Fits (sequence fs closed) v) (sym e) h.fits.0) in
      subst (λ (v : Datum). Map sequence_from (Bitmapped fs high) v cs) e (entries_read (component_list c) cs f (h.same ∙ ap (per (sequence fs closed)) (sym e)))
  sequence_read _ cs h = absurd h.fits.0

  pub sequence_language : Same (Map sequence_from (Bitmapped fs high)) (Spelt per None (sequence fs closed))
  sequence_language = record { to = sequence_spelt; from = sequence_read }

  whole_leads : (us : List ℕ) → Leads per_fields (Bitmapped fs high) us sequence_from (Spelt per None (sequence fs closed)) us
  whole_leads us = leads_on (leads_map per_fields sequence_from (Bitmapped fs high) us) (leads_same per_fields us sequence_language)

  -- within the bitmap
  pub bitmap_stops : (us : List ℕ) → LeadsStops per_fields (Bitmaps fs high) us (Spelt per None (sequence fs closed)) us
  bitmap_stops us =
      stops_on (stops_first per_fields us (record { follow = λ n x h. (let are = bits_are (bitmap_length fs) n (bits_only (bitmap_length fs) n h.units h.spelt.digits).0 in listed_inhabited per fs (bits (bitmap_length fs) n) good are.count) })) (whole_leads us).stops

  -- after it
  pub components_leads : (n : ℕ) (us r : List ℕ) → Spells per_fields (Bitmaps fs high) n us r → Leads per_fields (Listed per fs (bits (bitmap_length fs) n)) r (λ es. components (components_of es)) (Spelt per None (sequence fs closed)) us
  components_leads n us r h = leads_on (leads_second per_fields_part (set_lawful 2 (bitmap_length fs) (λ m. Admits (up_to high None) m)) h) (whole_leads us)

  -- some bitmap is there
  pub some_bitmap : Meets (λ n. Admits (up_to high None) n) 0 (bitmap_length fs)
  some_bitmap = record { number = 0; member = (omega arith, omega arith, tt); least = omega arith; below = omega (arith, all) }
