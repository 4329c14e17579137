-- The fast path of a component that is an INTEGER with two bounds: its entry is read as the number alone is.
use Rattle.std.proofs.Common.{◌≡◌, inl, inr, ℕ, true, false, List, [], Some, None, refl}
use Rattle.std.proofs.lemmas.Bool.{true≢false}
use Rattle.asn_values.specs.Datum.{Datum}
use Rattle.asn_values.specs.View.{part_of_field, shape_of}
use Rattle.asn_values.specs.declared.types.AsnType as asn_type
use Rattle.asn_values.specs.declared.types.Bounds.{Bounds}
use Rattle.asn_values.specs.declared.types.Field.{Field}
use Rattle.asn_values.specs.declared.types.Need.{Need}
use Rattle.asn_values.specs.declared.types.Need.TheVariants as needs
use Rattle.asn_rules.specs.Components.{has_presence_bit}
use Rattle.asn_rules.specs.Listed.{Spelt}
use Rattle.asn_walk.proofs.Widths.{demand_of_part}
use Rattle.asn_newer.specs.declared.path.PathStep.TheVariants as step
use Rattle.asn_newer.specs.Skipped.{part_read}
use Rattle.asn_newer.specs.Loose.{LooseCoding, Loose}
use Rattle.asn_newer.specs.Walking.{LooseEntry}
use Rattle.asn_newer.proofs.Walk.Following.{entry_on}
use Rattle.asn_newer.proofs.Walk.ChoicesAndSequences.{plain_on}
use Rattle.asn_newer.proofs.Walk.Halts.{Onward, on, mapped}

-- it has to be there
must_be : (x : Field) → has_presence_bit (part_of_field x).demand ≡ false → x.need ≡ needs.Must
must_be x e = go x.need refl
  where
    go : (n : Need) → x.need ≡ n → x.need ≡ needs.Must
    go needs.Must k = k
    go needs.Optional k = absurd (true≢false (rw (demand_of_part x, k) at e))
    go (needs.Default d) k = absurd (true≢false (rw (demand_of_part x, k) at e))

pub bounded_entry : (l : LooseCoding) (i : ℕ) (x : Field) (b : Bounds) (us : List ℕ) → has_presence_bit (part_of_field x).demand ≡ false → x.ty ≡ asn_type.Int b
    → Onward l.coding.ruling.fielding (Spelt l.coding.code None (shape_of x.ty)) us (λ (d : Datum). (Some d, [])) (LooseEntry l i (part_of_field x).demand (part_of_field x).shape true) us
bounded_entry l i x b us e f = on (plain_on l us x.ty (inr (inr (inl (b, f))))) (on (mapped l.coding.ruling.fielding (part_read (step.Component i)) (Loose l (shape_of x.ty)) us) (entry_on l i x us (inl (must_be x e))))
