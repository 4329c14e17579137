-- What has no units by any rules has no octets.
use Rattle.std.proofs.Common.{◌≡◌, ◌++◌, ◌∷◌, [], List, Option, Some, None, true, false, take, length, refl, sym, ap, ◌∙◌}
use Rattle.std.proofs.lemmas.Bool.{and_parts, true≢false}
use Rattle.asn_values.specs.Datum.{Datum, components, component_list}
use Rattle.asn_values.specs.Fits.{Fits, FitsEach}
use Rattle.asn_values.specs.Shape.{Shape, null, sequence, Fields, no_fields, field, must, closed, demands}
use Rattle.asn_bits.specs.Sink.{bit_of}
use Rattle.asn_rules.specs.Chunks.{Chunk, ones}
use Rattle.asn_rules.specs.Components.{presence}
use Rattle.asn_rules.specs.Filled.{filled_bits}
use Rattle.asn_plan.specs.Nothing.{HasNothing, has_nothing, have_nothing, SpellsNothing}
use Rattle.asn_oer.specs.Oer.{oer, oer_each}
use Rattle.asn_oer.specs.Walk.{oer_coding}

-- no other type is such
not_such : {A : Type 0} → false ≡ true → A
not_such e = absurd (true≢false (sym e))

-- such components have no presence bits
presence_empty : (fs : Fields) (es : List (Option Datum)) → have_nothing false fs ≡ true → presence (demands fs) es ≡ []
presence_empty no_fields es h = refl
presence_empty (field name must t fs) [] h = refl
presence_empty (field name must t fs) (e ∷ es) h = presence_empty fs es (and_parts (has_nothing false t) (have_nothing false fs) h).1
presence_empty (field name demand t fs) es h = not_such h

mutual
  value_empty : (t : Shape) (d : Datum) → HasNothing false t → Fits t d → oer t d ≡ []
  value_empty null d h f = refl
  value_empty (sequence root closed) (components cs) h f =
      let es = take (length (demands root)) (component_list cs) in
      let front : ones (filled_bits (presence (demands root) es)) ≡ [] = ap (λ bs. ones (filled_bits bs)) (presence_empty root es h) in
      let back : oer_each root es ≡ [] = each_empty root es h f.0 in
      ap (λ us. (us ++ oer_each root es) ++ []) front ∙ ap (λ cs. cs ++ []) back
  value_empty (sequence root closed) d h f = absurd f
  value_empty t d h f = not_such h

  each_empty : (fs : Fields) (es : List (Option Datum)) → have_nothing false fs ≡ true → FitsEach fs es → oer_each fs es ≡ []
  each_empty no_fields es h f = refl
  each_empty (field name demand t fs) [] h f = refl
  each_empty (field name must t fs) (None ∷ es) h f = absurd f.0
  each_empty (field name must t fs) (Some d ∷ es) h f =
      let w = and_parts (has_nothing false t) (have_nothing false fs) h in
      ap (λ cs. cs ++ oer_each fs es) (value_empty t d w.0 f.0) ∙ each_empty fs es w.1 f.1
  each_empty (field name demand t fs) (e ∷ es) h f = not_such h

pub nothing_spelt : SpellsNothing false oer_coding.code
unfolding oer_coding
nothing_spelt t d h f = value_empty t d h f
