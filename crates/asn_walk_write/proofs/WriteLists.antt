-- Where a writer of the elements of a SEQUENCE OF stands, in any rules.
use Rattle.std.proofs.Common.{◌≡◌, ◌↔◌, ◌<◌, ◌≤◌, ◌+◌, ◌-◌, ℕ, zero, suc, List, [], ◌∷◌, ◌++◌, length, map, take, drop, Option, Some, None, refl, sym, ap, subst, ◌∙◌, append_assoc, arith}
use Rattle.std.specs.List.{AllByRecursion}
use Rattle.std.proofs.lemmas.List.{append-nil, drop-map, take-map, length-map, length-drop}
use Rattle.asn_values.specs.Datum.{Datum, elements, elements_of}
use Rattle.asn_values.specs.Shape.{Shape, SizeRange, sequence_of}
use Rattle.asn_values.specs.Fits.{Fits, FitsLength}
use Rattle.asn_bits.specs.Lengths.{joined}
use Rattle.asn_bits.proofs.GeneralLengths.{all_take}
use Rattle.asn_sinks.proofs.Pushing.{pushed_same}
use Rattle.asn_rules.specs.Chunks.{Chunk}
use Rattle.asn_rules.proofs.Law.SomeValue.{list_again}
use Rattle.asn_source.specs.Parts.{first_element}
use Rattle.asn_walk.specs.Coding.{Coding}
use Rattle.asn_walk.specs.WriteLaws.{WriteLaws}
use Rattle.asn_walk.specs.Writing.{Pushing, written, Writes, LeavesToWrite, Advances}
use Rattle.asn_walk_write.proofs.Taking.{PushLaws}
use Rattle.asn_walk_write.proofs.WriteComponents.{written-append}

-- ---- a list of elements

-- the spellings of elements
abbrev pub codes : Coding → Shape → List Datum → List (List Chunk)
codes c t ds = map (λ d. c.code t d) ds

-- as many as there are values
pub codes_count : (c : Coding) (t : Shape) (values : List Datum)
    → length (codes c t values) ≡ length values
codes_count c t values = length-map values (λ d. c.code t d)

-- they are a value where their number fits and each of them
pub list_fits : (t : Shape) (s : SizeRange) (values : List Datum) → FitsLength s (length values)
    → AllByRecursion (λ d. Fits t d) values
    ↔ Fits (sequence_of t s) (elements (elements_of values))
list_fits t s values few =
    rw (list_again values)
    (λ h. (few, h), λ h. h.1)

-- and else they are none
pub other_count : (t : Shape) (s : SizeRange) (values : List Datum) → (FitsLength s (length values) → ⊥)
    → Fits (sequence_of t s) (elements (elements_of values)) → ⊥
other_count t s values never h =
    let fit : FitsLength s (length values) × AllByRecursion (λ d. Fits t d) values =
    subst (λ (l : List Datum). FitsLength s (length l) × AllByRecursion (λ d. Fits t d) l) (list_again values) h in
    never fit.0

-- ---- elements one after the other

-- a sink has taken the elements before those that are left; and all are values of the type where those that are left are
pub record ElementsUpTo {Sink : Type 0} (push : Pushing Sink) (c : Coding) (t : Shape) (all left : List Datum) (before now : Sink) : Type 0 where
  pub pushing : PushLaws push
  pub fits : AllByRecursion (λ d. Fits t d) left ↔ AllByRecursion (λ d. Fits t d) all
  pub known : LeavesToWrite push c before (joined (codes c t all)) now (joined (codes c t left))

pub elements_start : {Sink : Type 0} {push : Pushing Sink} (pushing : PushLaws push) (c : Coding) (t : Shape) (ds : List Datum) (before : Sink)
    → ElementsUpTo push c t ds ds before before
elements_start pushing c t ds before = record {
  pushing = pushing;
  fits = (λ h. h, λ h. h);
  known = record { done = []; pushed = pushing.none before; rest = refl };
}

-- one more
pub elements_next : {Sink : Type 0} {push : Pushing Sink} {c : Coding} (laws : WriteLaws c) {t : Shape} {all left : List Datum} {before now new : Sink}
    {d : Datum} → ElementsUpTo push c t all (d ∷ left) before now → Fits t d → Writes push c now new (c.code t d)
    → ElementsUpTo push c t all left before new
elements_next {c = c} laws {t} {left = left} {before = before} {now = now} {new = new} {d = d} h f e =
    let k = h.known in
    let one = written c (c.code t d) in
    let more = joined (codes c t left) in
    record {
      pushing = h.pushing;
      fits = (λ g. h.fits.0 (f, g), λ a. (h.fits.1 a).1);
      known = record {
        done = k.done ++ one;
        pushed = h.pushing.joined before now new k.done one k.pushed e;
        rest =
            append_assoc k.done one (written c more)
            ∙ ap (λ (l : List ℕ). k.done ++ l) (sym (written-append laws (c.code t d) more)) ∙ k.rest;
      };
    }

-- one that is none of the type
pub elements_never : {Sink : Type 0} {push : Pushing Sink} {c : Coding} {t : Shape} {all left : List Datum} {before now : Sink} {d : Datum}
    → ElementsUpTo push c t all (d ∷ left) before now → (Fits t d → ⊥) → AllByRecursion (λ d. Fits t d) all → ⊥
elements_never h never a = never (h.fits.1 a).0

-- all of them
pub elements_end : {Sink : Type 0} {push : Pushing Sink} {c : Coding} (laws : WriteLaws c) {t : Shape} {all left : List Datum} {before now : Sink}
    → ElementsUpTo push c t all left before now → left ≡ [] → Writes push c before now (joined (codes c t all))
elements_end {push = push} {c = c} laws {t} {before = before} {now = now} h e =
    let k = h.known in
    pushed_same push before now
    (sym (append-nil k.done) ∙ ap (λ (l : List ℕ). k.done ++ l) (sym laws.none) ∙ ap (λ (l : List Datum). k.done ++ written c (joined (codes c t l))) (sym e) ∙ k.rest)
    k.pushed

pub elements_fit : {Sink : Type 0} {push : Pushing Sink} {c : Coding} {t : Shape} {all left : List Datum} {before now : Sink}
    → ElementsUpTo push c t all left before now → left ≡ [] → AllByRecursion (λ d. Fits t d) all
elements_fit h e = h.fits.0 (rw e tt)

-- the first element, and those after it
pub next_value : (left others : List Datum) (d : Datum) → Some d ≡ first_element left → others ≡ drop 1 left
    → left ≡ d ∷ others
next_value [] others d first rest = absurd (cc)
next_value (x ∷ left) others d first rest =
    let same : d ≡ x = cc in
    rw (same, rest) refl

-- past the last
pub no_value : (left : List Datum) → None ≡ first_element left → left ≡ []
no_value [] e = refl
no_value (x ∷ left) e = absurd (cc)

-- ---- elements in fragments

-- those of the first ones, and those after them
all_join : {A : Type 0} (P : A → Type 0) (n : ℕ) (xs : List A) → AllByRecursion P (take n xs)
    → AllByRecursion P (drop n xs) → AllByRecursion P xs
all_join P zero xs f g = g
all_join P (suc n) [] f g = tt
all_join P (suc n) (x ∷ xs) f g = (f.0, all_join P n xs f.1 g)

-- values fit where this many of them do, and the others
pub parts_fit : (t : Shape) (n : ℕ) (values next others : List Datum) → next ≡ take n values → others ≡ drop n values
    → (AllByRecursion (λ d. Fits t d) next × AllByRecursion (λ d. Fits t d) others)
    ↔ AllByRecursion (λ d. Fits t d) values
parts_fit t n values next others p q =
    let P = λ (l : List Datum). AllByRecursion (λ d. Fits t d) l in (
      λ h. all_join (λ d. Fits t d) n values (subst P p h.0) (subst P q h.1),
      λ h. (let both = all_take (λ d. Fits t d) n values h in (subst P (sym p) both.0, subst P (sym q) both.1)),
    )

-- the elements that are left are still to be written; and all are values of the type where those that are left are
pub record FragmentsUpTo {Sink : Type 0} (push : Pushing Sink) (c : Coding) (t : Shape) (first rest : List (List Chunk) → List Chunk) (values left : List Datum) (before now : Sink) : Type 0 where
  pub pushing : PushLaws push
  pub fits : AllByRecursion (λ d. Fits t d) left ↔ AllByRecursion (λ d. Fits t d) values
  pub known : LeavesToWrite push c before (first (codes c t values)) now
      (rest (codes c t left))

pub fragments_start : {Sink : Type 0} {push : Pushing Sink} (pushing : PushLaws push) (c : Coding) (t : Shape) (first : List (List Chunk) → List Chunk) (values : List Datum)
    (before : Sink) → FragmentsUpTo push c t first first values values before before
fragments_start pushing c t first values before = record {
  pushing = pushing;
  fits = (λ h. h, λ h. h);
  known = record { done = []; pushed = pushing.none before; rest = refl };
}

-- the spellings of some of them
some_codes : (c : Coding) (t : Shape) (n : ℕ) (values next : List Datum) → next ≡ take n values
    → codes c t next ≡ take n (codes c t values)
some_codes c t n values next e = ap (codes c t) e ∙ sym (take-map (λ d. c.code t d) n values)

other_codes : (c : Coding) (t : Shape) (n : ℕ) (values others : List Datum) → others ≡ drop n values
    → codes c t others ≡ drop n (codes c t values)
other_codes c t n values others e = ap (codes c t) e ∙ sym (drop-map (λ d. c.code t d) n values)

-- a fragment more
pub fragments_next : {Sink : Type 0} {push : Pushing Sink} {c : Coding} (laws : WriteLaws c) {t : Shape} {first rest : List (List Chunk) → List Chunk}
    {values left : List Datum} {before now : Sink}
    (then : List (List Chunk) → List Chunk) (k n : ℕ) (mid new : Sink) (next others : List Datum)
    → FragmentsUpTo push c t first rest values left before now → n ≡ length left
    → Advances push c rest n now then mid (Some k) → next ≡ take k left → others ≡ drop k left
    → AllByRecursion (λ d. Fits t d) next → Writes push c mid new (joined (codes c t next))
    → FragmentsUpTo push c t first then values others before new
fragments_next {push = push} {c = c} laws {t} {rest = rest} {left = left} {before = before} {now = now} then k n mid new next others h count a p q f e =
    let both = parts_fit t k left next others p q in
    let xs = codes c t left in
    let step : LeavesToWrite push c now (rest xs) mid (joined (take k xs) ++ then (drop k xs)) = a.2 xs (codes_count c t left ∙ sym count) in
    let known = h.known in
    let put = joined (codes c t next) in
    let more = then (codes c t others) in
    let last : step.done ++ (written c put ++ written c more) ≡ written c (rest xs) =
    ap (λ (l : List ℕ). step.done ++ l) (sym (written-append laws put more))
    ∙ ap (λ (ys : List (List Chunk)). step.done ++ written c (joined ys ++ more)) (some_codes c t k left next p)
    ∙ ap (λ (ys : List (List Chunk)). step.done ++ written c (joined (take k xs) ++ then ys)) (other_codes c t k left others q)
    ∙ step.rest in
    record {
      pushing = h.pushing;
      fits = (λ g. h.fits.0 (both.0 (f, g)), λ g. (both.1 (h.fits.1 g)).1);
      known = record {
        done = known.done ++ (step.done ++ written c put);
        pushed = h.pushing.joined before now new known.done (step.done ++ written c put) known.pushed
            (h.pushing.joined now mid new step.done (written c put) step.pushed e);
        rest =
            append_assoc known.done (step.done ++ written c put) (written c more)
            ∙ ap (λ (l : List ℕ). known.done ++ l) (append_assoc step.done (written c put) (written c more) ∙ last) ∙ known.rest;
      };
    }

-- the same, and how many elements are left
pub record Fragments {Sink : Type 0} (push : Pushing Sink) (c : Coding) (t : Shape) (first rest : List (List Chunk) → List Chunk) (values left : List Datum) (many : ℕ) (before now : Sink) : Type 0 where
  pub up_to : FragmentsUpTo push c t first rest values left before now
  pub count : many ≡ length left

-- this many are left after those that were taken
pub fewer_left : (left others : List Datum) (many k : ℕ) → many ≡ length left → others ≡ drop k left → many - k ≡ length others
fewer_left left others many k count rest = ap (λ (n : ℕ). n - k) count ∙ sym (length-drop k left) ∙ ap (λ (l : List Datum). length l) (sym rest)

-- none is left
left_none : (left : List Datum) (n : ℕ) → n ≡ length left → n ≡ 0 → left ≡ []
left_none [] n count none = refl
left_none (x ∷ left) n count none = absurd (omega (arith, count, none))

pub fragments_end : {Sink : Type 0} {push : Pushing Sink} {c : Coding} {t : Shape} {first rest : List (List Chunk) → List Chunk}
    {values left : List Datum} {before now : Sink}
    (then : List (List Chunk) → List Chunk) (n : ℕ) (new : Sink) → FragmentsUpTo push c t first rest values left before now
    → n ≡ length left → Advances push c rest n now then new None
    → Writes push c before new (first (codes c t values))
fragments_end {push = push} {c = c} {t} {rest = rest} {left = left} {before = before} {now = now} then n new h count a =
    let known = h.known in
    let last = written c (rest []) in
    pushed_same push before new
    (ap (λ (l : List Datum). known.done ++ written c (rest (codes c t l))) (sym (left_none left n count a.0)) ∙ known.rest)
    (h.pushing.joined before now new known.done last known.pushed a.1)

pub fragments_fit : {Sink : Type 0} {push : Pushing Sink} {c : Coding} {t : Shape} {first rest : List (List Chunk) → List Chunk} {values left : List Datum}
    {before now : Sink} (n : ℕ) → FragmentsUpTo push c t first rest values left before now → n ≡ length left → n ≡ 0
    → AllByRecursion (λ d. Fits t d) values
fragments_fit {left = left} n h count none = h.fits.0 (rw (left_none left n count none) tt)

-- after what stands before the items, the list is written
pub list_written : {Sink : Type 0} {push : Pushing Sink} (pushing : PushLaws push) {c : Coding} (laws : WriteLaws c) (t : Shape) (s : SizeRange)
    (first : List (List Chunk) → List Chunk) (values : List Datum) (old mid new : Sink) (n : ℕ)
    → ((items : List (List Chunk)) → length items ≡ n → LeavesToWrite push c old (c.sized s items) mid (first items))
    → n ≡ length values
    → Writes push c mid new (first (codes c t values))
    → Writes push c old new (c.code (sequence_of t s) (elements (elements_of values)))
list_written {push = push} pushing {c = c} laws t s first values old mid new n start count e =
    let begun = start (codes c t values) (codes_count c t values ∙ sym count) in
    pushed_same push old new
    (begun.rest
    ∙ ap (λ (ds : List Datum). written c (c.sized s (codes c t ds))) (sym (list_again values))
    ∙ ap (λ (cs : List Chunk). written c cs) (sym (laws.lists t s (elements_of values))))
    (pushing.joined old mid new begun.done (written c (first (codes c t values))) begun.pushed e)

-- ---- the parts that a set of rules writes, inside open type fields

-- what is still to be written
pub leaves_at : {Sink : Type 0} {push other : Pushing Sink} → ((a b : Sink) (xs : List ℕ) → push a b xs → other a b xs)
    → {c : Coding} {old new : Sink} {all others : List Chunk} → LeavesToWrite push c old all new others → LeavesToWrite other c old all new others
leaves_at f {old = old} {new = new} l = record { done = l.done; pushed = f old new l.done l.pushed; rest = l.rest }

pub advances_at : {Sink : Type 0} {push other : Pushing Sink} → ((a b : Sink) (xs : List ℕ) → push a b xs → other a b xs)
    → (c : Coding) (before rest : List (List Chunk) → List Chunk) (left : ℕ) (old new : Sink) (count : Option ℕ)
    → Advances push c before left old rest new count → Advances other c before left old rest new count
advances_at f c before rest left old new None a = (a.0, f old new (written c (before [])) a.1)
advances_at f c before rest left old new (Some k) a = (a.0, a.1, λ items n. leaves_at f (a.2 items n))
