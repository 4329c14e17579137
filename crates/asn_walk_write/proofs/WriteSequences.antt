-- The bits of a SEQUENCE as its writer puts them, in any rules: the root, and the extension additions.
use Rattle.std.proofs.Common.{◌≡◌, ◌⊎◌, ◌<◌, ◌+◌, ℕ, Bool, true, false, List, [], ◌∷◌, ◌++◌, length, map, take, drop, Option, Some, None, Vec, Global, refl, sym, ◌∙◌, ap, subst, arith}
use Rattle.std.specs.List.{list_all}
use Rattle.std.proofs.lemmas.List.{append-nil, take_all}
use Rattle.asn_values.specs.Datum.{Datum, components, components_of}
use Rattle.asn_values.specs.Shape.{Shape, Demand, must, optional, default, Fields, field, MoreFields, closed, marked, demands, sequence}
use Rattle.asn_values.specs.declared.types.Field.{Field}
use Rattle.asn_values.specs.Fits.{Fits, FitsEach}
use Rattle.asn_values.specs.View.{Part, fields_of, more_fields_of, part_of_field}
use Rattle.asn_values.specs.Profile.{InProfile, is_optional}
use Rattle.asn_values.proofs.Entries.{each_length, length-demands}
use Rattle.asn_values.proofs.Views.{component_list-components_of}
use Rattle.asn_bits.specs.Numbers.{bits}
use Rattle.asn_bits.proofs.Octets.{length-digits}
use Rattle.asn_sinks.proofs.Pushing.{pushed_same}
use Rattle.asn_rules.specs.Chunks.{Chunk, ones}
use Rattle.asn_rules.specs.Components.{presence, any_present}
use Rattle.asn_walk.specs.Coding.{Coding}
use Rattle.asn_walk.specs.Composites.{in_open_field, each_code, open_code, additions_code, root_code, sequence_code}
use Rattle.asn_walk.specs.WriteLaws.{WriteLaws}
use Rattle.asn_walk.specs.Writing.{Pushing, AreOptional, written, Writes, WritesUnits, mark_bits}
use Rattle.asn_walk_write.proofs.Taking.{PushLaws}
use Rattle.asn_walk_write.proofs.WriteComponents.{FitsHere, Written, absent_fits, written_starts, written_on, written_past, written_ends, written-append, writes_both, writes_units, writes_nothing}
use Rattle.asn_walk_write.proofs.WriteEntries.{OfSequence, root_entries_are, addition_entries_are}
use Rattle.asn_walk_write.proofs.WritePresence.{Left}

-- ---- the open fields

-- the bits of the additions that are present
abbrev pub open_bits : Coding → Fields → List (Option Datum) → List ℕ
open_bits c fs es = written c (open_code c fs es)

-- those written, and those left, which are OPTIONAL
pub record Opened {Sink : Type 0} (push : Pushing Sink) (c : Coding) (all : List Part) (entries : List (Option Datum)) (before now : Sink) (left : List Part) (rest : List (Option Datum)) : Type 0 where
  pub written : Written push (open_bits c) all entries before now left rest
  pub optional : AreOptional (fields_of left)

pub opened_starts : {Sink : Type 0} {push : Pushing Sink} (pushing : PushLaws push) (c : Coding) (before : Sink) (all : List Part) (entries : List (Option Datum)) → Left all entries
    → AreOptional (fields_of all) → Opened push c all entries before before all entries
opened_starts pushing c before all entries h o = record { written = written_starts pushing (open_bits c) before all entries h; optional = o }

-- the first of OPTIONAL components, and the others
first_optional : (p : Part) (left : List Part) → AreOptional (fields_of (p ∷ left))
    → (p.demand ≡ optional) × AreOptional (fields_of left)
first_optional p left o = go p.demand o
  where
    go : (d : Demand) → list_all is_optional (d ∷ demands (fields_of left)) ≡ true
        → (d ≡ optional) × AreOptional (fields_of left)
    go optional h = (refl, h)
    go must h = absurd (cc)
    go (default e) h = absurd (cc)

-- an addition that is present
pub opened_more : {Sink : Type 0} {push : Pushing Sink} {c : Coding} (laws : WriteLaws c) {all : List Part} {entries : List (Option Datum)}
    {before now new : Sink} {left : List Part} {p : Part} {rest : List (Option Datum)} {d : Datum}
    → Opened push c all entries before now (p ∷ left) (Some d ∷ rest) → Fits p.shape d
    → Writes push c now new (in_open_field c (c.code p.shape d)) → Opened push c all entries before new left rest
opened_more {c = c} laws {left = left} {p = p} {rest = rest} {d = d} h f e =
    let o = first_optional p left h.optional in
    let both : open_bits c (fields_of (p ∷ left)) (Some d ∷ rest) ≡ written c (in_open_field c (c.code p.shape d)) ++ open_bits c (fields_of left) rest =
    ap (λ (x : Demand). open_bits c (field p.name x p.shape (fields_of left)) (Some d ∷ rest)) o.0 ∙ written-append laws (in_open_field c (c.code p.shape d)) (open_code c (fields_of left) rest) in
    record { written = written_on (written c (in_open_field c (c.code p.shape d))) h.written f both e; optional = o.1 }

-- all of them
pub open_ends : {Sink : Type 0} {push : Pushing Sink} {c : Coding} → WriteLaws c → {all : List Part} {entries : List (Option Datum)}
    {before now : Sink} {left : List Part} {rest : List (Option Datum)}
    → Opened push c all entries before now left rest → (left ≡ []) ⊎ (rest ≡ [])
    → Writes push c before now (open_code c (fields_of all) entries)
open_ends laws h e = written_ends h.written e (λ es. laws.none)

-- one that is absent
pub opened_passes : {Sink : Type 0} {push : Pushing Sink} (c : Coding) {all : List Part} {entries : List (Option Datum)} {before now : Sink}
    {left : List Part} {p : Part} {rest : List (Option Datum)} {e : Option Datum}
    → Opened push c all entries before now (p ∷ left) (e ∷ rest) → e ≡ None → Opened push c all entries before now left rest
opened_passes c {left = left} {p = p} {rest = rest} {e = e} h n =
    let o = first_optional p left h.optional in
    record {
      written = written_past h.written (subst (FitsHere p) (sym n) (absent_fits p.shape p.demand o.0)) (ap (λ (x : Option Datum). open_bits c (fields_of (p ∷ left)) (x ∷ rest)) n);
      optional = o.1;
    }

-- where none is present, each entry is one of its addition
pub none_fit : (parts : List Part) (es : List (Option Datum)) → AreOptional (fields_of parts) → length parts ≡ length es
    → any_present es ≡ false → FitsEach (fields_of parts) es
none_fit [] [] o n e = tt
none_fit [] (x ∷ es) o n e = absurd (omega (arith, n))
none_fit (p ∷ parts) [] o n e = absurd (omega (arith, n))
none_fit (p ∷ parts) (Some d ∷ es) o n e = absurd (cc)
none_fit (p ∷ parts) (None ∷ es) o n e =
    let w = first_optional p parts o in
    (absent_fits p.shape p.demand w.0, none_fit parts es w.1 (omega (arith, n)) e)

-- where one is present, there is a presence bit
pub some_bits_there : (parts : List Part) (es : List (Option Datum)) (count bitmap : ℕ) → AreOptional (fields_of parts)
    → length parts ≡ length es → any_present es ≡ true
    → bits count bitmap ≡ presence (demands (fields_of parts)) es → 0 < count
some_bits_there parts [] count bitmap o n some e = absurd (cc)
some_bits_there [] (x ∷ es) count bitmap o n some e = absurd (omega (arith, n))
some_bits_there (p ∷ parts) (x ∷ es) count bitmap o n some e =
    let w = first_optional p parts o in
    let one : length (presence (optional ∷ demands (fields_of parts)) (x ∷ es)) ≡ length (presence (demands (fields_of parts)) es) + 1 = omega arith in
    let all : count ≡ length (presence (p.demand ∷ demands (fields_of parts)) (x ∷ es)) = sym (length-digits 2 count bitmap) ∙ ap length e in
    omega (arith, one, all, ap (λ (d : Demand). length (presence (d ∷ demands (fields_of parts)) (x ∷ es))) w.0)

module _ {Sink : Type 0} {push : Pushing Sink} (pushing : PushLaws push) {c : Coding} (laws : WriteLaws c) where
  -- ---- the additions

  -- nothing is written where none is present
  pub none_written : (old : Sink) (fs : Fields) (es : List (Option Datum)) → any_present es ≡ false
      → Writes push c old old (additions_code c fs es)
  none_written old fs es none =
      let all = ones (c.addition_bitmap (presence (demands fs) es)) ++ open_code c fs es in
      pushed_same push old old (ap (λ (b : Bool). written c (elim b [ true ↦ all | false ↦ [] ])) (sym none)) (writes_nothing pushing laws old)

  -- and else their presence bits and their open fields
  pub additions_written : (old mid new : Sink) (bitmap : List ℕ) (fs : Fields) (es : List (Option Datum)) → any_present es ≡ true
      → bitmap ≡ presence (demands fs) es
      → WritesUnits push c old mid (c.addition_bitmap bitmap) → Writes push c mid new (open_code c fs es)
      → Writes push c old new (additions_code c fs es)
  additions_written old mid new bitmap fs es some b e f =
      let all = ones (c.addition_bitmap (presence (demands fs) es)) ++ open_code c fs es in
      pushed_same push old new (ap (λ (b : Bool). written c (elim b [ true ↦ all | false ↦ [] ])) (sym some))
      (writes_units pushing laws old mid new (c.addition_bitmap (presence (demands fs) es)) (open_code c fs es)
      (pushed_same push old mid (ap (λ (l : List ℕ). c.to_bits (c.addition_bitmap l)) b) e) f)

  -- ---- the root

  -- what stands before its components, and those
  pub root_written : (old mid new : Sink) (mark bitmap : List ℕ) (fs : Fields) (es : List (Option Datum))
      → bitmap ≡ presence (demands fs) es
      → WritesUnits push c old mid (c.preamble (mark ++ bitmap)) → Writes push c mid new (each_code c fs es)
      → Writes push c old new (root_code c mark fs es)
  root_written old mid new mark bitmap fs es b e f =
      writes_units pushing laws old mid new (c.preamble (mark ++ presence (demands fs) es)) (each_code c fs es)
      (pushed_same push old mid (ap (λ (l : List ℕ). c.to_bits (c.preamble (mark ++ l))) b) e) f

  -- ---- the SEQUENCE

  -- its spelling, by entries
  code_of_sequence : {t : Shape} {d : Datum} {parts : List Part} {more : MoreFields} {es : List (Option Datum)}
      → OfSequence t d parts more es → InProfile t → Fits t d → c.code t d ≡ sequence_code c (fields_of parts) more es
  code_of_sequence {t} {d} {parts} {more} {es} s good fits =
      let root = fields_of parts in
      let fit : Fits (sequence root more) (components (components_of es)) = subst (Fits (sequence root more)) s.datum (subst (λ (x : Shape). Fits x d) s.shape fits) in
      ap (λ (x : Shape). c.code x d) s.shape ∙ ap (λ (x : Datum). c.code (sequence root more) x) s.datum
      ∙ laws.sequences root more (components_of es) (subst InProfile s.shape good) fit
      ∙ ap (λ (l : List (Option Datum)). sequence_code c root more l) (component_list-components_of es)

  -- its root after the extension bit, and its additions
  pub sequence_written : {t : Shape} {d : Datum} (old mid new : Sink) (fs gs : List Field)
      (ext : Option (Vec Field Global)) (es root_entries addition_entries : List (Option Datum)) (b : Bool)
      → OfSequence t d (map part_of_field fs) (more_fields_of ext) es → InProfile t
      → Fits t d → more_fields_of ext ≡ marked (fields_of (map part_of_field gs))
      → root_entries ≡ take (length fs) es → addition_entries ≡ drop (length fs) es
      → b ≡ any_present addition_entries
      → Writes push c old mid (root_code c (mark_bits (Some b)) (fields_of (map part_of_field fs)) root_entries)
      → Writes push c mid new (additions_code c (fields_of (map part_of_field gs)) addition_entries)
      → Writes push c old new (c.code t d)
  sequence_written {t} {d} old mid new fs gs ext es root_entries addition_entries b s good fits m o h p e f =
      let root = fields_of (map part_of_field fs) in
      let added = fields_of (map part_of_field gs) in
      let n = length (demands root) in
      pushed_same push old new
      (ap (λ (i : Bool). written c (root_code c (mark_bits (Some i)) root root_entries ++ additions_code c added addition_entries)) p
      ∙ ap (λ (l : List (Option Datum)). written c (root_code c (mark_bits (Some (any_present l))) root root_entries ++ additions_code c added l)) (addition_entries_are fs es addition_entries h)
      ∙ ap (λ (l : List (Option Datum)). written c (root_code c (mark_bits (Some (any_present (drop n es)))) root l ++ additions_code c added (drop n es))) (root_entries_are fs es root_entries o)
      ∙ ap (λ (x : MoreFields). written c (sequence_code c root x es)) (sym m)
      ∙ ap (λ (cs : List Chunk). written c cs) (sym (code_of_sequence s good fits)))
      (writes_both pushing laws old mid new (root_code c (mark_bits (Some b)) root root_entries) (additions_code c added addition_entries) e f)

  -- its root alone, where there is no extension mark
  pub unmarked_written : {t : Shape} {d : Datum} (old new : Sink) (fs : List Field) (more : MoreFields)
      (es : List (Option Datum))
      → OfSequence t d (map part_of_field fs) more es → InProfile t → Fits t d
      → more ≡ closed → FitsEach (fields_of (map part_of_field fs)) es
      → Writes push c old new (root_code c (mark_bits None) (fields_of (map part_of_field fs)) es)
      → Writes push c old new (c.code t d)
  unmarked_written {t} {d} old new fs more es s good fits none each e =
      let root = fields_of (map part_of_field fs) in
      let n = length (demands root) in
      let all : take n es ≡ es = take_all n es (omega (arith, each_length (map part_of_field fs) es each, length-demands (map part_of_field fs))) in
      pushed_same push old new
      (ap (λ (l : List (Option Datum)). written c (root_code c [] root l)) (sym all)
      ∙ ap (λ (cs : List Chunk). written c cs) (sym (append-nil (root_code c [] root (take n es))))
      ∙ ap (λ (x : MoreFields). written c (sequence_code c root x es)) (sym none)
      ∙ ap (λ (cs : List Chunk). written c cs) (sym (code_of_sequence s good fits))) e
