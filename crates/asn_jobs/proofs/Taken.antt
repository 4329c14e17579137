-- Lines of an input, taken one after the other.
use Rattle.std.proofs.Common.{◌≡◌, ◌∙◌, ◌==◌, ◌+◌, ◌-◌, ◌<◌, ◌++◌, ℕ, Bool, true, false, List, [], ◌∷◌, length, take, drop, take_all, length-drop, Option, Some, None, refl, sym, ap, subst, append-nil, append_assoc, arith}
use Rattle.std.specs.Prelude.{IfSome}
use Rattle.std.specs.Io.BufRead.{take_through, drop_through, DropsThrough}
use Rattle.std.specs.Io.KnownBytes.{IsAtEnd}
use Rattle.asn_jobs.specs.Cutting.{ended_lines, numbered, number_after, lines_after, has_word, is_blank_line, from_word, block, after_block, first_block, Leaves}

-- ---- one line

-- an input that is not at its end begins with a line
pub first_ended_line : (x : ℕ) (xs : List ℕ) → ended_lines (x ∷ xs) ≡ take_through 10 (x ∷ xs) ∷ ended_lines (drop_through 10 (x ∷ xs))
first_ended_line x [] = by_test (x == 10) refl
  where
    by_test : (b : Bool) → (x == 10) ≡ b → ended_lines (x ∷ []) ≡ take_through 10 (x ∷ []) ∷ ended_lines (drop_through 10 (x ∷ []))
    by_test true e = rw e refl
    by_test false e = rw e refl
first_ended_line x (y ∷ ys) = by_test (x == 10) refl (first_ended_line y ys)
  where
    by_test : (b : Bool) → (x == 10) ≡ b → ended_lines (y ∷ ys) ≡ take_through 10 (y ∷ ys) ∷ ended_lines (drop_through 10 (y ∷ ys))
        → ended_lines (x ∷ y ∷ ys) ≡ take_through 10 (x ∷ y ∷ ys) ∷ ended_lines (drop_through 10 (x ∷ y ∷ ys))
    by_test true e later = rw e refl
    by_test false e later = rw (e, later) refl

pub no_line_more : (given left : Option (List ℕ)) (old new : List ℕ) → IsAtEnd given → IfSome given (λ xs. new ≡ old ++ take_through 10 xs) → DropsThrough given left 10
    → IfSome given (λ octets. (new ≡ old) × (octets ≡ []) × (left ≡ Some []))
no_line_more None left old new end text rest = tt
no_line_more (Some xs) left old new end text rest = (text ∙ (ap (λ ys. old ++ take_through 10 ys) end ∙ append-nil old), end, rest ∙ ap (λ ys. Some (drop_through 10 ys)) end)

pub one_line_more : (given left : Option (List ℕ)) (n at : ℕ) (old new : List ℕ) (count : ℕ) → length new ≡ length old + count → 0 < count → at ≡ number_after n
    → IfSome given (λ xs. new ≡ old ++ take_through 10 xs) → DropsThrough given left 10
    → IfSome given (λ octets. (line : List ℕ) × (new ≡ old ++ line) × Leaves (lines_after n octets) at line left)
one_line_more None left n at old new count size some is text rest = tt
one_line_more (Some []) left n at old new count size some is text rest =
    let same : length new ≡ length old = ap length (text ∙ append-nil old) in absurd (omega (arith, same, size))
one_line_more (Some (x ∷ xs)) left n at old new count size some is text rest =
    (take_through 10 (x ∷ xs), text, (drop_through 10 (x ∷ xs), rest, ap (numbered n) (first_ended_line x xs) ∙ ap (λ m. (m, take_through 10 (x ∷ xs)) ∷ numbered m (ended_lines (drop_through 10 (x ∷ xs)))) (sym is)))

-- ---- lines that are passed over

-- from the first line that has a word, the lines are those that are left
abbrev pub HasPassed : Option (List ℕ) → ℕ → Option (List ℕ) → ℕ → Type 0
HasPassed given n left at = IfSome given (λ octets. (rest : List ℕ) × (left ≡ Some rest) × (from_word (lines_after n octets) ≡ from_word (lines_after at rest)))

pub none_passed : (given : Option (List ℕ)) (n : ℕ) → HasPassed given n given n
none_passed None n = tt
none_passed (Some octets) n = (octets, refl, refl)

pub no_word_left : (given : Option (List ℕ)) (n : ℕ) (left : Option (List ℕ)) (at : ℕ) → HasPassed given n left at → IfSome left (λ octets. lines_after at octets ≡ [])
    → IfSome given (λ octets. from_word (lines_after n octets) ≡ [])
no_word_left None n left at passed none = tt
no_word_left (Some octets) n left at (rest, is, lines) none = lines ∙ ap from_word (subst (λ l. IfSome l (λ octets. lines_after at octets ≡ [])) is none)

pub word_found : (given : Option (List ℕ)) (n : ℕ) (left : Option (List ℕ)) (at : ℕ) (after : Option (List ℕ)) (next : ℕ) (line : List ℕ) → HasPassed given n left at → has_word line ≡ true
    → IfSome left (λ octets. Leaves (lines_after at octets) next line after) → IfSome given (λ octets. Leaves (from_word (lines_after n octets)) next line after)
word_found None n left at after next line passed has found = tt
word_found (Some octets) n left at after next line (rest, is, lines) has found =
    let here = subst (λ l. IfSome l (λ octets. Leaves (lines_after at octets) next line after)) is found in
    (here.0, here.1, lines ∙ rw (here.2, has) refl)

pub one_passed : (given : Option (List ℕ)) (n : ℕ) (left : Option (List ℕ)) (at : ℕ) (after : Option (List ℕ)) (next : ℕ) (line : List ℕ) → HasPassed given n left at → has_word line ≡ false
    → IfSome left (λ octets. Leaves (lines_after at octets) next line after) → HasPassed given n after next
one_passed None n left at after next line passed has found = tt
one_passed (Some octets) n left at after next line (rest, is, lines) has found =
    let here = subst (λ l. IfSome l (λ octets. Leaves (lines_after at octets) next line after)) is found in
    (here.0, here.1, lines ∙ rw (here.2, has) refl)

-- ---- lines of a block

drop_front : (front line : List ℕ) → drop (length front) (front ++ line) ≡ line
drop_front [] line = refl
drop_front (x ∷ front) line = drop_front front line

-- the line that was added
line_added : (text new line : List ℕ) → new ≡ text ++ line → drop (length text) new ≡ line
line_added text new line is = ap (λ xs. drop (length text) xs) is ∙ drop_front text line

-- the line that a slice of the text looks at
pub line_seen : (is_blank : Bool) (n m : ℕ) (text slice : List ℕ) → is_blank ≡ is_blank_line (take (length slice - n) (drop n slice)) → n ≡ m → slice ≡ text → is_blank_line (drop m text) ≡ is_blank
line_seen is_blank n m text slice seen same is =
    let whole : take (length slice - n) (drop n slice) ≡ drop n slice = take_all (length slice - n) (drop n slice) (omega (arith, length-drop n slice)) in
    sym (seen ∙ ap is_blank_line (whole ∙ (ap (λ k. drop k slice) same ∙ ap (λ xs. drop m xs) is)))

joined : (old added line text new all : List ℕ) → text ≡ old ++ added → new ≡ text ++ line → all ≡ added ++ line → new ≡ old ++ all
joined old added line text new all so longer is = longer ∙ (ap (λ xs. xs ++ line) so ∙ (append_assoc old added line ∙ ap (λ xs. old ++ xs) (sym is)))

-- these lines of the block were added, and the others are left
abbrev pub HasAdded : Option (List ℕ) → ℕ → Option (List ℕ) → ℕ → List ℕ → List ℕ → Type 0
HasAdded given n left at old text = IfSome given (λ octets. (rest added : List ℕ) × (left ≡ Some rest) × (text ≡ old ++ added)
    × (block (lines_after n octets) ≡ added ++ block (lines_after at rest)) × (after_block (lines_after n octets) ≡ after_block (lines_after at rest)))

pub none_added : (given : Option (List ℕ)) (n : ℕ) (old : List ℕ) → HasAdded given n given n old old
none_added None n old = tt
none_added (Some octets) n old = (octets, [], refl, sym (append-nil old), refl, refl)

abbrev pub AllAdded : Option (List ℕ) → ℕ → Option (List ℕ) → ℕ → List ℕ → List ℕ → Type 0
AllAdded given n left at old new = IfSome given (λ given. (octets : List ℕ) × (left ≡ Some octets) × (new ≡ old ++ block (lines_after n given)) × (lines_after at octets ≡ after_block (lines_after n given)))

abbrev pub OneAdded : Option (List ℕ) → ℕ → Option (List ℕ) → ℕ → List ℕ → List ℕ → Type 0
OneAdded left at after next text new = IfSome left (λ octets. (line : List ℕ) × (new ≡ text ++ line) × Leaves (lines_after at octets) next line after)

pub block_ends_there : (given : Option (List ℕ)) (n : ℕ) (left : Option (List ℕ)) (at : ℕ) (after : Option (List ℕ)) (next : ℕ) (old text new : List ℕ) → HasAdded given n left at old text
    → IfSome left (λ octets. (new ≡ text) × (octets ≡ []) × (after ≡ Some [])) → AllAdded given n after next old new
block_ends_there None n left at after next old text new sofar ends = tt
block_ends_there (Some octets) n left at after next old text new (rest, added, is, so, lines, more) ends =
    let here = subst (λ l. IfSome l (λ octets. (new ≡ text) × (octets ≡ []) × (after ≡ Some []))) is ends in
    let none : block (lines_after at rest) ≡ [] = rw here.1 refl in
    let no_more : after_block (lines_after at rest) ≡ [] = rw here.1 refl in
    ([], here.2, here.0 ∙ (so ∙ ap (λ xs. old ++ xs) (sym (lines ∙ (ap (λ xs. added ++ xs) none ∙ append-nil added)))), sym (more ∙ no_more))

pub block_ends_here : (given : Option (List ℕ)) (n : ℕ) (left : Option (List ℕ)) (at : ℕ) (after : Option (List ℕ)) (next : ℕ) (old text new : List ℕ) → HasAdded given n left at old text
    → OneAdded left at after next text new → is_blank_line (drop (length text) new) ≡ true → AllAdded given n after next old new
block_ends_here None n left at after next old text new sofar one blank = tt
block_ends_here (Some octets) n left at after next old text new (rest, added, is, so, lines, more) one blank =
    let (line, longer, (octets_after, left_is, first)) = subst (λ l. IfSome l (λ octets. (line : List ℕ) × (new ≡ text ++ line) × Leaves (lines_after at octets) next line after)) is one in
    let line_blank : is_blank_line line ≡ true = rw (line_added text new line longer) at blank in
    let here : block (lines_after at rest) ≡ line = rw (first, line_blank) refl in
    let later : after_block (lines_after at rest) ≡ lines_after next octets_after = rw (first, line_blank) refl in
    (octets_after, left_is, joined old added line text new _ so longer (lines ∙ ap (λ xs. added ++ xs) here), sym (more ∙ later))

pub block_goes_on : (given : Option (List ℕ)) (n : ℕ) (left : Option (List ℕ)) (at : ℕ) (after : Option (List ℕ)) (next : ℕ) (old text new : List ℕ) → HasAdded given n left at old text
    → OneAdded left at after next text new → is_blank_line (drop (length text) new) ≡ false → HasAdded given n after next old new
block_goes_on None n left at after next old text new sofar one full = tt
block_goes_on (Some octets) n left at after next old text new (rest, added, is, so, lines, more) one full =
    let (line, longer, (octets_after, left_is, first)) = subst (λ l. IfSome l (λ octets. (line : List ℕ) × (new ≡ text ++ line) × Leaves (lines_after at octets) next line after)) is one in
    let line_full : is_blank_line line ≡ false = rw (line_added text new line longer) at full in
    let here : block (lines_after at rest) ≡ line ++ block (lines_after next octets_after) = rw (first, line_full) refl in
    let later : after_block (lines_after at rest) ≡ after_block (lines_after next octets_after) = rw (first, line_full) refl in
    (octets_after, added ++ line, left_is, joined old added line text new _ so longer refl, lines ∙ (ap (λ xs. added ++ xs) here ∙ sym (append_assoc added line (block (lines_after next octets_after)))), more ∙ later)

-- the first block, with its first line
pub block_cut : (given : Option (List ℕ)) (n : ℕ) (left : Option (List ℕ)) (at : ℕ) (after : Option (List ℕ)) (next : ℕ) (text new : List ℕ)
    → IfSome given (λ octets. Leaves (from_word (lines_after n octets)) at text left) → AllAdded left at after next text new
    → IfSome given (λ octets. (rest : List ℕ) × (after ≡ Some rest) × (first_block (from_word (lines_after n octets)) ≡ Some (at, new, lines_after next rest)))
block_cut None n left at after next text new found added = tt
block_cut (Some octets) n left at after next text new (rest, is, lines) added =
    let (others, after_is, longer, more) = subst (λ l. AllAdded l at after next text new) is added in
    (others, after_is, ap first_block lines ∙ (ap (λ xs. Some (at, xs, after_block (lines_after at rest))) (sym longer) ∙ ap (λ ls. Some (at, new, ls)) (sym more)))
