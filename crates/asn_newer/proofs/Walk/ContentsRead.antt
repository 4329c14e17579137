-- Octets that are read as a complete encoding: the value, what fills up its octets, and nothing after it.
use Rattle.std.proofs.Common.{◌≡◌, ◌-◌, ◌+◌, ◌≤◌, ◌<◌, ℕ, List, [], ◌++◌, length, length-append, refl, sym, ap, subst, ◌∙◌, arith}
use Rattle.std.proofs.lemmas.List.{append-nil}
use Rattle.asn_values.specs.Datum.{Datum}
use Rattle.asn_values.specs.Shape.{Shape}
use Rattle.asn_values.specs.Profile.{InProfile}
use Rattle.asn_rules.specs.Answer.{max_octets}
use Rattle.asn_rules.specs.Chunks.{open_field, ones, flat}
use Rattle.asn_rules.specs.Frames.{Frame}
use Rattle.asn_rules.specs.Languages.{Spells}
use Rattle.asn_rules.specs.Laws.{AreOctets}
use Rattle.asn_rules.specs.Live.{Fielding}
use Rattle.asn_rules.specs.Padding.{Fixed}
use Rattle.asn_rules.specs.Stops.{Stops}
use Rattle.asn_rules.specs.declared.stop.Stop.{Stop}
use Rattle.asn_rules.specs.declared.stop.Stop.TheVariants as stop
use Rattle.asn_rules.proofs.Answer.Answers.{done_stays}
use Rattle.asn_rules.proofs.Live.Flat.{flat-ones}
use Rattle.asn_rules.proofs.Sealed.Headed.{plain_front}
use Rattle.asn_rules.proofs.Languages.Parts.{contents-ones}
use Rattle.asn_newer.specs.Skipped.{SkippedAt, Reading}
use Rattle.asn_newer.specs.Loose.{LooseCoding, Complete, Known, Loose}
use Rattle.asn_newer.specs.Halting.{NoBeginning, Halts, halt_of, halt_of_field}
use Rattle.asn_newer.specs.Walking.{ReadingAfter, ReadsContent, NoContent, HaltsContent}
use Rattle.asn_newer.specs.declared.halt.Halt.{Halt}
use Rattle.asn_newer.specs.declared.halt.Halt.TheVariants as halt
use Rattle.asn_newer.specs.Ways.{OneWay, WayLaws}
use Rattle.asn_newer.proofs.Walk.Following.{took, taken}
use Rattle.asn_newer.proofs.Walk.Halts.{field_read, no_content, held, refused_begins}
use Rattle.asn_newer.proofs.Law.OneReading.{loose_way, complete_front, part}

-- nothing follows
no_content_yet : (l : LooseCoding) (t : Shape) (o : List ℕ) → length o ≤ max_octets → ((after : List ℕ) → length (o ++ after) ≤ max_octets → NoContent l t (o ++ after)) → NoContent l t o
no_content_yet l t o few n = subst (λ (q : List ℕ). NoContent l t q) (append-nil o) (n [] (subst (λ (q : List ℕ). length q ≤ max_octets) (sym (append-nil o)) few))

module _ (l : LooseCoding) (h : WayLaws l) (t : Shape) (good : InProfile t) (o : List ℕ) (few : length o ≤ max_octets) where
  abbrev R : Fielding
  R = l.coding.ruling.fielding

  abbrev us : List ℕ
  us = l.coding.ruling.units o

  way : OneWay R (Loose l t)
  way = loose_way l h t good

  -- a complete encoding is a value and what fills it up
  front : (a : Reading) (x : Complete l.coding (Loose l t) a o) → Spells R (Loose l t) a us (l.coding.padding (length (flat R.spelled x.chunks)))
  front a x = complete_front l h a o way few x

  filled : (a : Reading) (x : Complete l.coding (Loose l t) a o) → length us - length (l.coding.padding (length (flat R.spelled x.chunks))) ≡ length (flat R.spelled x.chunks)
  filled a x = omega (arith, ap length x.units ∙ length-append (flat R.spelled x.chunks) (l.coding.padding (length (flat R.spelled x.chunks))))

  -- the same of octets that begin with these
  module _ (after : List ℕ) (fits : length (o ++ after) ≤ max_octets) (a : Reading) (x : Complete l.coding (Loose l t) a (o ++ after)) where
    abbrev further : List ℕ
    further = l.coding.ruling.units after

    longer : us ++ further ≡ flat R.spelled x.chunks ++ l.coding.padding (length (flat R.spelled x.chunks))
    longer = sym (h.laws.tells.joined o after) ∙ x.units

    front_on : Spells R (Loose l t) a (us ++ further) (l.coding.padding (length (flat R.spelled x.chunks)))
    front_on = subst (λ (q : List ℕ). Spells R (Loose l t) a q (l.coding.padding (length (flat R.spelled x.chunks)))) (h.laws.tells.joined o after) (complete_front l h a (o ++ after) way fits x)

  -- no value is read
  pub no_value : (why : Halt) → Halts l.coding (Loose l t) us why → HaltsContent l t o why
  no_value halt.Refused n = record { told = λ after fits a x. n.told (l.coding.ruling.units after) a _ (front_on after fits a x) }
  no_value halt.Short n = record { told = λ a x. n.told a _ (front a x) }
  no_value halt.TooMany n = record { told = λ after fits a x. n.told (l.coding.ruling.units after) a _ (front_on after fits a x) }
  no_value halt.Memory n = record { told = tt }

  -- nothing, whatever is told and whatever follows
  pub none_complete : (why : Halt) → ((after : List ℕ) → length (o ++ after) ≤ max_octets → NoContent l t (o ++ after)) → HaltsContent l t o why
  none_complete halt.Refused n = record { told = n }
  none_complete halt.Short n = record { told = no_content_yet l t o few n }
  none_complete halt.TooMany n = record { told = n }
  none_complete halt.Memory n = record { told = tt }

  module _ (before : List SkippedAt) {v : Datum} {after : List SkippedAt} {r : List ℕ} (read : Spells R (ReadingAfter before (Loose l t)) (v, after) us r) where
    -- what stands after the value fills it up
    fills : (a : Reading) (x : Complete l.coding (Loose l t) a o) → r ≡ l.coding.padding (length us - length r)
    fills a x =
        let w = took read in
        let e = way.once (v, w.skipped) a us r _ w.spelt (front a x) in
        e.1 ∙ ap l.coding.padding (sym (filled a x) ∙ ap (λ (q : List ℕ). length us - length q) (sym e.1))

    -- and so it does in octets that begin with these
    fills_on : (on : List ℕ) → length (o ++ on) ≤ max_octets → (a : Reading) → Complete l.coding (Loose l t) a (o ++ on) → r ++ l.coding.ruling.units on ≡ l.coding.padding (length us - length r)
    fills_on on fits a x =
        let w = took read in
        let ws = l.coding.ruling.units on in
        let e = way.once (v, w.skipped) a (us ++ ws) (r ++ ws) _ (done_stays ws w.spelt) (front_on on fits a x) in
        let whole : length us + length ws ≡ length (flat R.spelled x.chunks) + length (l.coding.padding (length (flat R.spelled x.chunks))) = sym (length-append us ws) ∙ ap length (longer on fits a x) ∙ length-append (flat R.spelled x.chunks) (l.coding.padding (length (flat R.spelled x.chunks))) in
        let left : length r + length ws ≡ length (l.coding.padding (length (flat R.spelled x.chunks))) = sym (length-append r ws) ∙ ap length e.1 in
        let count : length (flat R.spelled x.chunks) ≡ length us - length r = omega (arith, whole, left) in
        e.1 ∙ ap l.coding.padding count

    fixed : (q zs : List ℕ) → q ≡ zs → Spells R (Fixed zs) tt q []
    fixed q zs e = record { chunks = ones zs; spelt = record { units = zs; spelt = record { same = refl }; same = refl }; contents = contents-ones R zs; split = e ∙ sym (append-nil zs) ∙ ap (λ (q : List ℕ). q ++ []) (sym (flat-ones R.spelled zs)) }

    -- it does not
    pub no_filling : (why : Stop) → Stops R (Fixed (l.coding.padding (length us - length r))) r why → HaltsContent l t o (halt_of why)
    no_filling (stop.Refused left why) s = record { told = λ on fits a x. refused_begins (part l h) s.told (l.coding.ruling.units on) tt [] (fixed _ _ (fills_on on fits a x)) }
    no_filling stop.Short s = record { told = λ a x. s.told.none tt [] (fixed _ _ (fills a x)) }
    no_filling stop.Memory s = record { told = tt }

    module _ {u : Unit {0}} {rest : List ℕ} (filling : Spells R (Fixed (l.coding.padding (length us - length r))) u r rest) where
      after_filling : r ≡ l.coding.padding (length us - length r) ++ rest
      after_filling = let p = plain_front filling in p.2 ∙ ap (λ (q : List ℕ). q ++ rest) p.1.same

      -- something is left
      pub too_much : 0 < length rest → (why : Halt) → HaltsContent l t o why
      too_much some why = none_complete why
          (λ on fits a x. let e = ap length (after_filling) ∙ length-append (l.coding.padding (length us - length r)) rest in let f = sym (length-append r (l.coding.ruling.units on)) ∙ ap length (fills_on on fits a x) in absurd (omega (arith, some, e, f)))

      -- nothing is left
      pub content_read : rest ≡ [] → AreOctets o → ReadsContent l t before v after o
      content_read none octets =
          let w = took read in
          let k = w.spelt in
          let all : r ≡ l.coding.padding (length us - length r) = after_filling ∙ ap (λ (q : List ℕ). l.coding.padding (length us - length r) ++ q) none ∙ append-nil (l.coding.padding (length us - length r)) in
          let count : length us - length r ≡ length (flat R.spelled k.chunks) = omega (arith, ap length k.split ∙ length-append (flat R.spelled k.chunks) r) in
          record { skipped = w.skipped; same = w.same; complete = record { octets = octets; chunks = k.chunks; spelt = k.spelt; units = k.split ∙ ap (λ (q : List ℕ). flat R.spelled k.chunks ++ q) (all ∙ ap l.coding.padding count) } }

-- ---- an open type field with a known addition

module _ (l : LooseCoding) (h : WayLaws l) (t : Shape) {os us r : List ℕ} (frame : Spells l.coding.ruling.fielding (Frame l.coding.ruling.fielding open_field) os us r) where
  pub known_read : {before : List SkippedAt} {v : Datum} {after : List SkippedAt} → ReadsContent l t before v after os → Spells l.coding.ruling.fielding (ReadingAfter before (Known l.coding (Loose l t))) (v, after) us r
  known_read {before} {v} {after} k = taken (record { skipped = k.skipped; same = k.same; spelt = field_read {C = Complete l.coding (Loose l t)} {a = (v, k.skipped)} frame k.complete })

  no_fields : NoContent l t os → NoBeginning l.coding.ruling.fielding (Known l.coding (Loose l t)) us
  no_fields n = λ after. no_content (part l h) (done_stays after frame) n

  abbrev few : length os ≤ max_octets
  few = (held frame).1

  pub known_none : (why : Halt) → HaltsContent l t os why → Halts l.coding (Known l.coding (Loose l t)) us (halt_of_field why)
  known_none halt.Refused n = record { told = no_fields (no_content_yet l t os few n.told) }
  known_none halt.Short n = record { told = no_fields n.told }
  known_none halt.TooMany n = record { told = no_fields (no_content_yet l t os few n.told) }
  known_none halt.Memory n = record { told = tt }
