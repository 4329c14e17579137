-- What is found in the contents of a value.
use Rattle.std.proofs.Common.{◌≡◌, ◌<◌, ◌≤◌, ◌-◌, ◌+◌, ℕ, zero, suc, List, [], ◌∷◌, length, get_or, drop, map, reverse, Option, Some, None, subst, sym, refl, inl, inr, ◌⊎◌, arith}
use Rattle.std.specs.Prelude.{Result, Ok, Err, IfOk}
use Rattle.std.specs.List.{Contains, slice_get, slice_index_or}
use Rattle.std.proofs.lemmas.List.{drop_all}
use Rattle.std.proofs.Math.Seq.{drop-cons}
use Rattle.std.proofs.Math.Numerals.{add-one}
use Rattle.asn_values.specs.Datum.{Datum}
use Rattle.asn_rules.specs.Answer.{Ruling}
use Rattle.asn_contents.specs.Contents.{Contents, Content, places_in}
use Rattle.asn_contents.specs.declared.finding.Content as finding
use Rattle.asn_contents.specs.View.{content_of, content_list}
use Rattle.asn_containing.specs.declared.broken.BrokenContents.{BrokenContents}
use Rattle.asn_containing.specs.declared.broken.ContentsReason.{ContentsReason}
use Rattle.asn_containing.specs.declared.broken.ContentsReason.TheVariants as reasons
use Rattle.asn_containing.specs.declared.table.TableType as declared
use Rattle.asn_containing.specs.Containing.{TableType, type_in, AllMeet, Within, MeetContents}
use Rattle.asn_containing.specs.View.{place_of, place_of_content, type_of, table_of}
use Rattle.asn_containing.specs.Judged.{NotContent, IsContentOnly, IsAt, itself, inside, Breaks, FindsIn, Finds, Judged, most_levels}
use Rattle.asn_containing.proofs.Meeting.{holds_within, broken_not_met}

-- ---- the table

pub type_there : (T : List declared.TableType) (i : ℕ) (e : declared.TableType) → i < length T → e ≡ get_or T i e → slice_get (table_of T) i ≡ Some (type_of e)
type_there [] i e h is = absurd (omega arith)
type_there (q ∷ T) zero e h is = rw is refl
type_there (q ∷ T) (suc i) e h is = type_there T i e (omega arith) is

pub no_type_there : (T : List declared.TableType) (i : ℕ) → length T ≤ i → slice_get (table_of T) i ≡ None
no_type_there [] i h = refl
no_type_there (q ∷ T) zero h = absurd (omega arith)
no_type_there (q ∷ T) (suc i) h = no_type_there T i (omega arith)

next : {A : Type 0} (xs : List A) (i : ℕ) (x : A) → i < length xs → x ≡ get_or xs i x → drop i xs ≡ x ∷ drop (i + 1) xs
next xs i x h e = rw (add-one, drop-cons xs i x h, ← e) refl

module _ (r : Ruling) (T : List TableType) where
  -- ---- at octets

  -- octets that are not what they have to be
  pub breaks_here : (n : ℕ) (x : Content) (why : ContentsReason) → NotContent r T n x why → (o : Option BrokenContents) → IsAt x why o → FindsIn r T n x o
  breaks_here n x why h None i = absurd i
  breaks_here n x why h (Some b) i = rw (i.1, i.0) (itself n x why h)

  pub found_here : {E : Type 0} (n : ℕ) (x : Content) (why : ContentsReason) (answer : Result (Option BrokenContents) E) → NotContent r T n x why
      → IfOk answer (λ o. IsAt x why o) → IfOk answer (λ o. FindsIn r T n x o)
  found_here n x why (Ok o) h i = breaks_here n x why h o i
  found_here n x why (Err e) h i = tt

  -- octets in whose value some are not, or all are
  pub breaks_inside : (n : ℕ) (x : Content) (e : TableType) (v : Datum) (o : Option BrokenContents) (b inner : BrokenContents) → 1 ≤ n → type_in T x.type ≡ Some e → IsContentOnly r e v x.octets
      → Finds r T (n - 1) e.contents v o → o ≡ Some inner
      → b.reason ≡ inner.reason → map place_of (reverse b.places.items) ≡ place_of_content x ∷ map place_of (reverse inner.places.items)
      → FindsIn r T n x (Some b)
  breaks_inside zero x e v o b inner h is only f some reason places = absurd (omega arith)
  breaks_inside (suc n) x e v o b inner h is only f some reason places =
      let less : suc n - 1 ≡ n = omega arith in
      let found : Finds r T n e.contents v (Some inner) = subst (λ (q : Option BrokenContents). Finds r T n e.contents v q) some (subst (λ (l : ℕ). Finds r T l e.contents v o) less f) in
      rw (places, reason) (inside n x found.0 e v (map place_of (reverse inner.places.items)) inner.reason is only found.1 found.2)

  pub all_inside : (n : ℕ) (x : Content) (e : TableType) (v : Datum) (o : Option BrokenContents) → 1 ≤ n → type_in T x.type ≡ Some e → IsContentOnly r e v x.octets
      → Finds r T (n - 1) e.contents v o → o ≡ None → FindsIn r T n x None
  all_inside zero x e v o h is only f none = absurd (omega arith)
  all_inside (suc n) x e v o h is only f none =
      let less : suc n - 1 ≡ n = omega arith in
      let all : Finds r T n e.contents v None = subst (λ (q : Option BrokenContents). Finds r T n e.contents v q) none (subst (λ (l : ℕ). Finds r T l e.contents v o) less f) in
      holds_within r T n x.type x.octets (rw is (v, only.0, all))

-- ---- all octets of a value

contained : (found : List finding.Content) (i : ℕ) (x : finding.Content) → i < length found → x ≡ get_or found i x → (k : ℕ) × (k < length (content_list found)) × (slice_index_or (content_list found) k (content_of x) ≡ content_of x)
contained [] i x h is = absurd (omega arith)
contained (y ∷ ys) zero x h is = (0, omega arith, rw is refl)
contained (y ∷ ys) (suc i) x h is =
    let rest = contained ys i x (omega arith) is in
    (suc rest.0, omega (arith, rest.1), rest.2)

-- all meet where those do that are still to be looked at
pub record Looking (r : Ruling) (T : List TableType) (n : ℕ) (found : List finding.Content) (i : ℕ) : Type 0 where
  pub rest : AllMeet (Within r T n) (content_list (drop i found)) → AllMeet (Within r T n) (content_list found)

module _ (r : Ruling) (T : List TableType) (n : ℕ) (found : List finding.Content) where
  pub looking_first : Looking r T n found 0
  looking_first = record { rest = λ h. h }

  pub looking_next : (i : ℕ) (x : finding.Content) → i < length found → x ≡ get_or found i x → (o : Option BrokenContents) → FindsIn r T n (content_of x) o → o ≡ None → Looking r T n found i → Looking r T n found (i + 1)
  looking_next i x h is o finds none l = record { rest = λ all. l.rest (rest all) }
    where
      met : FindsIn r T n (content_of x) None
      met = subst (λ (q : Option BrokenContents). FindsIn r T n (content_of x) q) none finds

      rest : AllMeet (Within r T n) (content_list (drop (i + 1) found)) → AllMeet (Within r T n) (content_list (drop i found))
      rest all = subst (λ xs. AllMeet (Within r T n) (content_list xs)) (sym (next found i x h is)) (met, all)

  pub all_looked_at : (c : Contents) (d : Datum) (i : ℕ) → length found ≤ i → content_list found ≡ places_in c [] d → Looking r T n found i → Finds r T n c d None
  all_looked_at c d i h is l =
      let past : drop i found ≡ [] = drop_all i found h in
      let none : AllMeet (Within r T n) (content_list (drop i found)) = subst (λ xs. AllMeet (Within r T n) (content_list xs)) (sym past) tt in
      subst (λ xs. AllMeet (Within r T n) xs) is (l.rest none)

  pub breaks_among : (c : Contents) (d : Datum) (i : ℕ) (x : finding.Content) (b : BrokenContents) → i < length found → x ≡ get_or found i x → content_list found ≡ places_in c [] d
      → (o : Option BrokenContents) → FindsIn r T n (content_of x) o → o ≡ Some b → Finds r T n c d (Some b)
  breaks_among c d i x b h is same o finds some =
      (content_of x, subst (λ (l : List Content). Contains l (content_of x)) same (contained found i x h is), subst (λ (q : Option BrokenContents). FindsIn r T n (content_of x) q) some finds)

-- ---- what is answered

pub judged : (r : Ruling) (T : List TableType) (c : Contents) (d : Datum) (b turned : BrokenContents) → turned.reason ≡ b.reason → turned.places.items ≡ reverse b.places.items
    → Finds r T most_levels c d (Some b) → Judged r T c d (Some turned)
judged r T c d b turned reason places f = (breaks, λ all. broken_not_met r T most_levels most_levels c d (map place_of turned.places.items) turned.reason breaks (λ deep. refl) all, deep_or_never turned.reason refl)
  where
    breaks : Breaks r T most_levels c d (map place_of turned.places.items) turned.reason
    breaks = rw (places, reason) f

    never : (turned.reason ≡ reasons.TooDeep → ⊥) → MeetContents r T c d → ⊥
    never other m = broken_not_met r T most_levels m.0 c d (map place_of turned.places.items) turned.reason breaks (λ deep. absurd (other deep)) m.1

    deep_or_never : (why : ContentsReason) → why ≡ turned.reason → (turned.reason ≡ reasons.TooDeep) ⊎ (MeetContents r T c d → ⊥)
    deep_or_never reasons.TooDeep e = inl (sym e)
    deep_or_never reasons.NoType e = inr (never (λ z. absurd (cc)))
    deep_or_never (reasons.Octets fault) e = inr (never (λ z. absurd (cc)))
