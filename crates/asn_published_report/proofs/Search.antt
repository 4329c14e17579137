-- The search for the types of which a type is made, and when it is done.
use Rattle.std.proofs.Common.{◌≡◌, ◌<◌, ◌≤◌, ◌+◌, ◌++◌, ◌∙◌, ◌⊎◌, inl, inr, ⊎_elim, ℕ, zero, suc, Bool, true, false, cond, List, [], ◌∷◌, Contains, get_or, length, length-append, map, replicate, set, ap, sym, refl, subst, arith}
use Rattle.std.proofs.lemmas.Bool.{cases_lt, true≢false}
use Rattle.std.proofs.lemmas.Bool.Decides.{eqb_tells}
use Rattle.std.proofs.lemmas.List.{get_or-replicate, length-map, get_or-set_same, get_or-set_other, get_or_default, length-set, length-replicate}
use Rattle.std.proofs.Math.ListN.{get_or-eq_default}
use Rattle.std.proofs.lemmas.List.Elements.{Contains-append_left, Contains-append_right, Contains-append_cases}
use Rattle.asn_published_types.specs.declared.report.TypeReport.{TypeReport}
use Rattle.asn_published_report.specs.Parts.{uses_of, IsPart, itself, further, AreParts, Visited}

-- a type is marked, or it is still to be looked at, or the report has none
abbrev pub Met : List TypeReport → List Bool → List ℕ → ℕ → Type 0
Met types marks todo k = (length types ≤ k) ⊎ ((get_or marks k false ≡ true) ⊎ Contains todo k)

-- where the search stands
pub record Searching (types : List TypeReport) (whole : ℕ) (marks : List Bool) (todo : List ℕ) : Type 0 where
  pub sized : length marks ≡ length types
  pub sound : (k : ℕ) → get_or marks k false ≡ true → IsPart types whole k
  pub asked : (k : ℕ) → Contains todo k → IsPart types whole k
  pub closed : (j k : ℕ) → get_or marks j false ≡ true → Contains (uses_of types j) k → Met types marks todo k
  pub begun : Met types marks todo whole

none_marked : (n k : ℕ) → get_or (replicate n false) k false ≡ false
none_marked n k = ⊎_elim (λ below. get_or-replicate n k false false below) (λ above. get_or-eq_default (replicate n false) false (subst (λ l. l ≤ k) (sym (length-replicate n false)) above)) (cases_lt k n)

only_at : (i a k : ℕ) → i < 1 → get_or (a ∷ []) i k ≡ k → k ≡ a
only_at zero a k below is = sym is
only_at (suc i) a k below is = absurd (omega (arith, below))

only : (a k : ℕ) → Contains (a ∷ []) k → k ≡ a
only a k has = only_at has.0 a k has.1 has.2

pub starts : (types : List TypeReport) (whole : ℕ) → Searching types whole (replicate (length types) false) (whole ∷ [])
starts types whole = record {
  sized = length-replicate (length types) false;
  sound = λ k m. absurd (true≢false (sym m ∙ none_marked (length types) k));
  asked = λ k has. subst (λ n. IsPart types whole n) (sym (only whole k has)) itself;
  closed = λ j k m u. absurd (true≢false (sym m ∙ none_marked (length types) j));
  begun = inr (inr (0, omega arith, refl));
}

-- one that is marked already, or that the report has not, needs no look
pub passed : (types : List TypeReport) (whole : ℕ) (marks : List Bool) (todo : List ℕ) (at : ℕ) → get_or marks at true ≡ true → Searching types whole marks (todo ++ at ∷ []) → Searching types whole marks todo
passed types whole marks todo at marked s =
    let here : (length types ≤ at) ⊎ (get_or marks at false ≡ true) =
    ⊎_elim (λ below. inr (get_or_default marks at false true (subst (λ n. at < n) (sym s.sized) below) ∙ marked)) (λ above. inl above) (cases_lt at (length types)) in
    let still : (k : ℕ) → Met types marks (todo ++ at ∷ []) k → Met types marks todo k =
    λ k met. ⊎_elim inl (λ m. ⊎_elim (λ a. inr (inl a)) (λ has. ⊎_elim (λ a. inr (inr a)) (λ a. subst (λ n. Met types marks todo n) (sym (only at k a)) (⊎_elim inl (λ b. inr (inl b)) here)) (Contains-append_cases todo (at ∷ []) k has)) m) met in
    record {
      sized = s.sized;
      sound = s.sound;
      asked = λ k has. s.asked k (Contains-append_left todo (at ∷ []) k has);
      closed = λ j k m u. still k (s.closed j k m u);
      begun = still whole s.begun;
    }

-- one that is marked now has those that it refers to looked at
pub marked : (types : List TypeReport) (whole : ℕ) (marks : List Bool) (todo : List ℕ) (at : ℕ) → get_or marks at true ≡ false → Searching types whole marks (todo ++ at ∷ []) → Searching types whole (set marks at true) (todo ++ uses_of types at)
marked types whole marks todo at unmarked s =
    let inside : at < length marks = ⊎_elim (λ below. below) (λ above. absurd (true≢false (sym (get_or-eq_default marks true above) ∙ unmarked))) (cases_lt at (length marks)) in
    let here : get_or (set marks at true) at false ≡ true = get_or-set_same marks at true false inside in
    let kept : (k : ℕ) → get_or marks k false ≡ true → get_or (set marks at true) k false ≡ true =
    λ k m. ⊎_elim (λ e. subst (λ n. get_or (set marks at true) n false ≡ true) (sym e.1) here) (λ e. get_or-set_other marks at k true false e.1 ∙ m) (eqb_tells k at) in
    let before : (k : ℕ) → get_or (set marks at true) k false ≡ true → (k ≡ at) ⊎ (get_or marks k false ≡ true) =
    λ k m. ⊎_elim (λ e. inl e.1) (λ e. inr (sym (get_or-set_other marks at k true false e.1) ∙ m)) (eqb_tells k at) in
    let whole_at : IsPart types whole at = s.asked at (Contains-append_right todo (at ∷ []) at (0, omega arith, refl)) in
    let still : (k : ℕ) → Met types marks (todo ++ at ∷ []) k → Met types (set marks at true) (todo ++ uses_of types at) k =
    λ k met. ⊎_elim inl (λ m. ⊎_elim (λ a. inr (inl (kept k a))) (λ has. ⊎_elim (λ a. inr (inr (Contains-append_left todo (uses_of types at) k a))) (λ a. inr (inl (subst (λ n. get_or (set marks at true) n false ≡ true) (sym (only at k a)) here))) (Contains-append_cases todo (at ∷ []) k has)) m) met in
    record {
      sized = length-set marks at true ∙ s.sized;
      sound = λ k m. ⊎_elim (λ e. subst (λ n. IsPart types whole n) (sym e) whole_at) (λ a. s.sound k a) (before k m);
      asked = λ k has. ⊎_elim (λ a. s.asked k (Contains-append_left todo (at ∷ []) k a)) (λ a. further at k whole_at a) (Contains-append_cases todo (uses_of types at) k has);
      closed = λ j k m u. ⊎_elim (λ e. inr (inr (Contains-append_right todo (uses_of types at) k (subst (λ n. Contains (uses_of types n) k) e u)))) (λ a. still k (s.closed j k a u)) (before j m);
      begun = still whole s.begun;
    }

none_left : (k : ℕ) → Contains [] k → ⊥
none_left k has = omega (arith, has.1)

-- a type that refers to another is one of the report
in_report : (types : List TypeReport) (j k : ℕ) → Contains (uses_of types j) k → j < length types
in_report types j k has = ⊎_elim (λ below. below) (λ above. absurd (none_left k (subst (λ xs. Contains xs k) (get_or-eq_default (map (λ t. t.uses.items) types) [] (subst (λ n. n ≤ j) (sym (length-map types (λ t. t.uses.items))) above)) has))) (cases_lt j (length types))

found : (types : List TypeReport) (marks : List Bool) (k : ℕ) → k < length types → Met types marks [] k → get_or marks k false ≡ true
found types marks k below met = ⊎_elim (λ above. absurd (omega (arith, below, above))) (λ m. ⊎_elim (λ a. a) (λ has. absurd (none_left k has)) m) met

reached : (types : List TypeReport) (whole : ℕ) (marks : List Bool) → Searching types whole marks [] → (k : ℕ) → k < length types → IsPart types whole k → get_or marks k false ≡ true
reached types whole marks s _ below itself = found types marks whole below s.begun
reached types whole marks s _ below (further j k part used) = found types marks k below (s.closed j k (reached types whole marks s j (in_report types j k used) part) used)

-- where nothing is left to be looked at, all are marked
pub ends : (types : List TypeReport) (whole : ℕ) (marks : List Bool) → Searching types whole marks [] → AreParts types whole marks
ends types whole marks s = record { sound = s.sound; complete = reached types whole marks s }

-- how much there is to be looked at of types that are not marked
unfoldable pub weight : List TypeReport → List Bool → ℕ
weight [] marks = 0
weight (t ∷ ts) [] = 0
weight (t ∷ ts) (m ∷ ms) = cond m 0 (suc (length t.uses.items)) + weight ts ms

pub lighter : (types : List TypeReport) (marks : List Bool) (at : ℕ) → length marks ≡ length types → get_or marks at true ≡ false → weight types (set marks at true) + suc (length (uses_of types at)) ≡ weight types marks
unfolding weight
lighter [] [] at same unmarked = absurd (true≢false unmarked)
lighter [] (m ∷ ms) at same unmarked = absurd (omega (arith, same))
lighter (t ∷ ts) [] at same unmarked = absurd (true≢false unmarked)
lighter (t ∷ ts) (m ∷ ms) zero same unmarked =
    subst (λ b. (0 + weight ts ms) + suc (length t.uses.items) ≡ cond b 0 (suc (length t.uses.items)) + weight ts ms) (sym unmarked) (omega arith)
lighter (t ∷ ts) (m ∷ ms) (suc at) same unmarked =
    let rest = lighter ts ms at (omega (arith, same)) unmarked in
    omega (arith, rest)

-- a type was looked at
pub visited : (types : List TypeReport) (whole : ℕ) (marks : List Bool) (before todo : List ℕ) (at : ℕ) (marks_now : List Bool) (todo_now : List ℕ) → before ≡ todo ++ at ∷ [] → Searching types whole marks before → Visited types at marks todo marks_now todo_now → Searching types whole marks_now todo_now
visited types whole marks before todo at marks_now todo_now is s seen =
    let t = subst (λ xs. Searching types whole marks xs) is s in
    let both : (ms : List Bool) (xs : List ℕ) → marks_now ≡ ms → todo_now ≡ xs → Searching types whole ms xs → Searching types whole marks_now todo_now =
    λ ms xs m x r. subst (λ a. Searching types whole a todo_now) (sym m) (subst (λ b. Searching types whole ms b) (sym x) r) in
    ⊎_elim (λ a. both marks todo a.1 a.2 (passed types whole marks todo at a.0 t)) (λ b. both (set marks at true) (todo ++ uses_of types at) b.1 b.2 (marked types whole marks todo at b.0 t)) seen

-- and less is to be looked at
pub smaller : (types : List TypeReport) (marks : List Bool) (before todo : List ℕ) (at : ℕ) (marks_now : List Bool) (todo_now : List ℕ) → before ≡ todo ++ at ∷ [] → length marks ≡ length types → Visited types at marks todo marks_now todo_now → weight types marks_now + length todo_now < weight types marks + length before
smaller types marks before todo at marks_now todo_now is sized seen =
    let count : length before ≡ length todo + 1 = ap length is ∙ length-append todo (at ∷ []) in
    let both : (ms : List Bool) (xs : List ℕ) → marks_now ≡ ms → todo_now ≡ xs → weight types ms + length xs < weight types marks + length before → weight types marks_now + length todo_now < weight types marks + length before =
    λ ms xs m x r. subst (λ a. weight types a + length todo_now < weight types marks + length before) (sym m) (subst (λ b. weight types ms + length b < weight types marks + length before) (sym x) r) in
    ⊎_elim (λ a. both marks todo a.1 a.2 (omega (arith, count))) (λ b. both (set marks at true) (todo ++ uses_of types at) b.1 b.2 (omega (arith, count, lighter types marks at sized b.0, length-append todo (uses_of types at)))) seen
