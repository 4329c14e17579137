-- Sealed fields part, whatever was read of them, where contents and their lengths are told by their units.
use Rattle.std.proofs.Common.{◌≡◌, ◌≢◌, ◌<◌, ℕ, List, [], ◌∷◌, ◌++◌, length, drop, sym, ◌∙◌, ap, append_assoc}
use Rattle.std.proofs.Math.Seq.{drop-append_seam}
use Rattle.std.specs.List.{AllByRecursion}
use Rattle.asn_rules.specs.Chunks.{Kind, open_field, utf8_field, rest_of, field_units}
use Rattle.asn_rules.specs.Live.{Fielding, IsContent, BeginsProperly}
use Rattle.asn_rules.proofs.Live.Chunks.{FieldsPart}

module _ (R : Fielding)
    (code : (c d s t : List ℕ) → AllByRecursion (λ o. o < 256) c → AllByRecursion (λ o. o < 256) d → R.spelled c ++ s ≡ R.spelled d ++ t → c ≡ d)
    (some : (c : List ℕ) → R.spelled c ≢ []) where
  -- the units of a field that was read in part are those after what was read
  after : (k : Kind) (us c : List ℕ) → BeginsProperly us (field_units R.spelled k c) → field_units R.spelled k c ≡ us ++ field_units R.spelled (rest_of k us) c
  after k us c b = b.2 ∙ ap (λ l. us ++ l) (sym (drop-append_seam us (b.0 ∷ b.1)) ∙ ap (drop (length us)) (sym b.2))

  tells : (k : Kind) (c d s t : List ℕ) → IsContent R k c → IsContent R k d → field_units R.spelled k c ++ s ≡ field_units R.spelled k d ++ t → c ≡ d
  tells open_field c d s t p q e = code c d s t p.2 q.2 e
  tells utf8_field c d s t p q e = code c d s t p.2 q.2 e
  tells (rest_of k us) c d s t p q e =
      tells k c d s t p.0 q.0 (
      ap (λ l. l ++ s) (after k us c p.1)
      ∙ append_assoc us (field_units R.spelled (rest_of k us) c) s
      ∙ ap (λ l. us ++ l) e
      ∙ sym (append_assoc us (field_units R.spelled (rest_of k us) d) t)
      ∙ ap (λ l. l ++ t) (sym (after k us d q.1))
      )

  some_units : (k : Kind) (c : List ℕ) → IsContent R k c → field_units R.spelled k c ≢ []
  some_units open_field c p e = some c e
  some_units utf8_field c p e = some c e
  some_units (rest_of k us) c p e =
      let f : p.1.0 ∷ p.1.1 ≡ [] = sym (drop-append_seam us (p.1.0 ∷ p.1.1)) ∙ ap (drop (length us)) (sym p.1.2) ∙ e in cc

  pub fields_part : FieldsPart R
  fields_part = record { tells = tells; some_units = some_units }
