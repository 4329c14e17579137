-- Items of an ENUMERATED that may be unknown, read in one way.
use Rattle.std.proofs.Common.{◌≡◌, ◌++◌, ℕ, ℤ, List, None, sym, ap, ◌∙◌}
use Rattle.asn_values.specs.Datum.{Datum}
use Rattle.asn_values.specs.Fits.{Fits}
use Rattle.asn_values.specs.Profile.{InProfile}
use Rattle.asn_values.specs.Shape.{enumerated, Label, marked_labels}
use Rattle.asn_bits.proofs.Codes.{IsCode}
use Rattle.asn_rules.specs.Chunks.{Chunk, ones, flat}
use Rattle.asn_rules.specs.Languages.{Spells, Map}
use Rattle.asn_rules.specs.Listed.{Spelt}
use Rattle.asn_rules.specs.Live.{Fielding}
use Rattle.asn_rules.specs.Spellings.{SpelledBy}
use Rattle.asn_rules.proofs.Live.Flat.{flat-ones}
use Rattle.asn_rules.proofs.Languages.Parts.{map_source}
use Rattle.asn_walk.specs.Laws.{Laws}
use Rattle.asn_newer.specs.Skipped.{Reading, nothing_skipped, item_skipped}
use Rattle.asn_newer.specs.Loose.{LooseCoding, AnyItem}
use Rattle.asn_newer.specs.Ways.{OneWay}
use Rattle.asn_newer.proofs.Law.OneWay.{code_way, map_way, spelt_way, either_way}

module _ (l : LooseCoding) (laws : Laws l.coding) (root additions : List Label) (good : InProfile (enumerated root (marked_labels additions))) where
  abbrev R : Fielding
  R = l.coding.ruling.fielding

  abbrev Known : Reading → List Chunk → Type 0
  Known = Map nothing_skipped (Spelt l.coding.code None (enumerated root (marked_labels additions)))

  abbrev Unknown : Reading → List Chunk → Type 0
  Unknown = Map item_skipped (SpelledBy (l.IsUnknown root additions) (λ z. ones (l.unknown_units z)))

  -- where unknown items are a code, and none begins as a known one does
  pub items_way : IsCode (l.IsUnknown root additions) (λ z. l.unknown_units z)
      → ((d : Datum) (z : ℤ) (r s : List ℕ) → Fits (enumerated root (marked_labels additions)) d → l.IsUnknown root additions z → flat R.spelled (l.coding.code (enumerated root (marked_labels additions)) d) ++ r ≡ l.unknown_units z ++ s → ⊥)
      → OneWay R (AnyItem l root additions)
  items_way code apart = either_way Known Unknown (map_way (spelt_way l.coding laws None (enumerated root (marked_labels additions)) good)) (map_way (code_way (λ z. l.unknown_units z) code)) parted
    where
      parted : (v w : Reading) (us r s : List ℕ) → Spells R Known v us r → Spells R Unknown w us s → ⊥
      parted v w us r s a b =
          let p = map_source a in
          let q = map_source b in
          let e = p.1.split ∙ ap (λ (cs : List Chunk). flat R.spelled cs ++ r) p.1.spelt.same in
          let f = q.1.split ∙ ap (λ (cs : List Chunk). flat R.spelled cs ++ s) q.1.spelt.same ∙ ap (λ (us : List ℕ). us ++ s) (flat-ones R.spelled (l.unknown_units q.0)) in
          apart p.0 q.0 r s p.1.spelt.fits.0 q.1.spelt.fits (sym e ∙ f)
