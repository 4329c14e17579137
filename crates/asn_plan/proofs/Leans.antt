-- A type and its lean type have the same spellings.
use Rattle.std.proofs.Common.{◌≡◌, ◌⊎◌, ℕ, zero, suc, Bool, true, false, List, [], ◌∷◌, ◌++◌, length, Option, Some, None, inl, inr, refl, sym, ap, ◌∙◌, subst}
use Rattle.std.specs.Prelude.{⊤}
use Rattle.std.proofs.lemmas.Bool.{true≢false}
use Rattle.asn_values.specs.Datum.{Datum, item, elements, elements_of}
use Rattle.asn_values.specs.Parts.{AreOfProfile, AreAllOfProfile}
use Rattle.asn_values.specs.Profile.{InProfile}
use Rattle.asn_values.specs.Shape.{Shape, Label, MoreLabels, enumerated, sequence, sequence_of, choice, must, optional, default, Fields, no_fields, field, MoreFields, closed, marked, demands, Alternatives, no_alternatives, one_of, MoreAlternatives, closed_choice, marked_choice, count}
use Rattle.asn_values.proofs.InnerTypes.{element_of_profile, root_alternatives_of_profile, added_alternatives_of_profile, additions_of_profile}
use Rattle.asn_values.proofs.Parts.{components_of_profile}
use Rattle.asn_bits.specs.Numbers.{bits}
use Rattle.asn_rules.specs.Answer.{Ruling, IsEncoding}
use Rattle.asn_rules.specs.Chunks.{Chunk, flat, open_field}
use Rattle.asn_rules.specs.Forks.{Same}
use Rattle.asn_rules.specs.General.{after_first}
use Rattle.asn_rules.specs.Languages.{Then, Map, prepended}
use Rattle.asn_rules.specs.Listed.{Spelt, Listed, Before, bitmap_length}
use Rattle.asn_rules.specs.Reading.{Wholes}
use Rattle.asn_walk.specs.Coding.{Coding, PreambleOf, AdditionBitmapOf, IndexOf, OpenOf, OpenListed, AdditionsOf, AddedOf, SequencesOf, sequence_told, ChoicesOf, ChosenOf, ChosenBy, chosen_value, added, added_alternatives, absent_entries}
use Rattle.asn_walk.specs.Laws.{Laws}
use Rattle.asn_plan.specs.InOrder.{numbered, numbered_if, AreSpeltAs, SpellsIndexes}
use Rattle.asn_plan.specs.Lean.{lean, lean_root, lean_each, lean_more, lean_alternatives, lean_others}
use Rattle.asn_plan.specs.Nothing.{has_nothing, only_value, SpellsNothing}
use Rattle.asn_plan.specs.SimpleTypes.{is_simple}
use Rattle.asn_plan.proofs.Covers.{Covers, covers_self, covers_on, covers_to, covers_from, covers_nothing, covers_map, covers_after, covers_both, covers_remaining, covers_sealed, covers_padded}
use Rattle.asn_plan.proofs.LeafTypes.{default_is_simple}
use Rattle.asn_plan.proofs.Nothings.{only_fits}

-- both languages have the same spellings
pub record AreAlike {V W : Type 0} (L : V → List Chunk → Type 0) (M : W → List Chunk → Type 0) : Type 0 where
  pub to : Covers L M
  pub from : Covers M L

alike_self : {V : Type 0} (L : V → List Chunk → Type 0) → AreAlike L L
alike_self L = record { to = covers_self L; from = covers_self L }

alike_on : {U V W : Type 0} {K : U → List Chunk → Type 0} {L : V → List Chunk → Type 0} {M : W → List Chunk → Type 0}
    → AreAlike K L → AreAlike L M → AreAlike K M
alike_on f g = record { to = covers_on f.to g.to; from = covers_on g.from f.from }

alike_to : {V : Type 0} {L M : V → List Chunk → Type 0} → Same L M → AreAlike L M
alike_to s = record { to = covers_to s; from = covers_from s }

alike_from : {V : Type 0} {L M : V → List Chunk → Type 0} → Same L M → AreAlike M L
alike_from s = record { to = covers_from s; from = covers_to s }

alike_map : {A B V W : Type 0} (f : A → V) (g : B → W) {L : A → List Chunk → Type 0} {M : B → List Chunk → Type 0}
    → AreAlike L M → AreAlike (Map f L) (Map g M)
alike_map f g k = record { to = covers_map f g k.to; from = covers_map g f k.from }

alike_after : {A B C : Type 0} {L : A → List Chunk → Type 0} {M : A → B → List Chunk → Type 0} {N : A → C → List Chunk → Type 0}
    → ((a : A) → AreAlike (M a) (N a)) → AreAlike (Then L M) (Then L N)
alike_after k = record { to = covers_after (λ a. (k a).to); from = covers_after (λ a. (k a).from) }

alike_both : {A B V W : Type 0} {L : A → List Chunk → Type 0} {M : B → List Chunk → Type 0} {P : V → List Chunk → Type 0} {Q : W → List Chunk → Type 0}
    → AreAlike L M → AreAlike P Q → AreAlike (Then L (λ a. P)) (Then M (λ b. Q))
alike_both f g = record { to = covers_both f.to g.to; from = covers_both f.from g.from }

-- a part that is there, and those after it
alike_before : {L M : Datum → List Chunk → Type 0} {P Q : List (Option Datum) → List Chunk → Type 0} → AreAlike L M
    → AreAlike P Q → AreAlike (Before L P) (Before M Q)
alike_before f g = alike_map prepended prepended (alike_both (alike_map Some Some f) g)

-- one that is not
alike_absent : {P Q : List (Option Datum) → List Chunk → Type 0} → AreAlike P Q
    → AreAlike (Map (λ es. None ∷ es) P) (Map (λ es. None ∷ es) Q)
alike_absent g = alike_map (λ es. None ∷ es) (λ es. None ∷ es) g

no_language : {V W : Type 0} → AreAlike {V = V} {W = W} (λ v cs. ⊥) (λ w cs. ⊥)
no_language = record { to = λ v cs h. absurd h; from = λ w cs h. absurd h }

-- ---- encodings

pub encodes_alike : (r : Ruling) (t u : Shape) → Covers (Wholes r t) (Wholes r u) → (v : Datum) (o : List ℕ)
    → IsEncoding r t v o → (w : Datum) × IsEncoding r u w o
encodes_alike r t u k v o h =
    let w = k v (r.whole t v) (record { fits = h.0; same = refl }) in
    (w.0, (w.1.fits, h.1 ∙ ap (flat r.fielding.spelled) w.1.same))

-- ---- what the two types have in common

lean_simple : (t : Shape) → is_simple t ≡ true → lean false t ≡ t
lean_simple (sequence root more) e = absurd (true≢false (sym e))
lean_simple (sequence_of t s) e = absurd (true≢false (sym e))
lean_simple (choice root more) e = absurd (true≢false (sym e))
lean_simple t e = refl

lean_bitmap : (single : Bool) (fs : Fields) → bitmap_length (lean_root single fs) ≡ bitmap_length fs
lean_bitmap single no_fields = refl
lean_bitmap single (field name must t fs) = go (has_nothing single t) (lean_bitmap single fs)
  where
    go : (b : Bool) → bitmap_length (lean_root single fs) ≡ bitmap_length fs → bitmap_length (elim b [ true ↦ lean_root single fs | false ↦ field name must (lean single t) (lean_root single fs) ]) ≡ bitmap_length fs
    go true e = e
    go false e = e
lean_bitmap single (field name optional t fs) = ap suc (lean_bitmap single fs)
lean_bitmap single (field name (default d) t fs) = ap suc (lean_bitmap single fs)

lean_many : (single : Bool) (fs : Fields) → length (demands (lean_each single fs)) ≡ length (demands fs)
lean_many single no_fields = refl
lean_many single (field name must t fs) = ap suc (lean_many single fs)
lean_many single (field name optional t fs) = ap suc (lean_many single fs)
lean_many single (field name (default d) t fs) = ap suc (lean_many single fs)

lean_added : (single : Bool) (more : MoreFields) → added (lean_more single more) ≡ added more
lean_added single closed = refl
lean_added single (marked fs) = ap Some (lean_many single fs)

lean_count : (single : Bool) (alts : Alternatives) → count (lean_alternatives single alts) ≡ count alts
lean_count single no_alternatives = refl
lean_count single (one_of name t alts) = ap suc (lean_count single alts)

lean_others_count : (single : Bool) (more : MoreAlternatives) → added_alternatives (lean_others single more) ≡ added_alternatives more
lean_others_count single closed_choice = refl
lean_others_count single (marked_choice alts) = ap Some (lean_count single alts)

-- the additions are of the profile, where there is a mark
abbrev MoreOfProfile : MoreFields → Type 0
MoreOfProfile closed = ⊤
MoreOfProfile (marked fs) = AreOfProfile fs

more_of_profile : (root : Fields) (more : MoreFields) → InProfile (sequence root more) → MoreOfProfile more
more_of_profile root closed good = tt
more_of_profile root (marked fs) good = additions_of_profile root fs good

abbrev OthersOfProfile : MoreAlternatives → Type 0
OthersOfProfile closed_choice = ⊤
OthersOfProfile (marked_choice alts) = AreAllOfProfile alts

others_of_profile : (root : Alternatives) (more : MoreAlternatives) → InProfile (choice root more) → OthersOfProfile more
others_of_profile root closed_choice good = tt
others_of_profile root (marked_choice alts) good = added_alternatives_of_profile root alts good

-- ---- spellings

module _ (c : Coding) (laws : Laws c) (single : Bool) (law : SpellsNothing single c.code) (indexes : single ≡ true → SpellsIndexes c.code) where
  -- the whole encodings, and open type fields
  wholes_alike : (t u : Shape) → InProfile t → InProfile u → AreAlike (Spelt c.code None t) (Spelt c.code None u)
      → AreAlike (Wholes c.ruling t) (Wholes c.ruling u)
  wholes_alike t u good other k = record {
    to = covers_on (covers_from (laws.filled t good)) (covers_on (covers_padded c.ruling.fielding c.padding k.to) (covers_to (laws.filled u other)));
    from = covers_on (covers_from (laws.filled u other)) (covers_on (covers_padded c.ruling.fielding c.padding k.from) (covers_to (laws.filled t good)));
  }

  open_covers : (t u : Shape) → Covers (Wholes c.ruling t) (Wholes c.ruling u) → Covers (OpenOf c t) (OpenOf c u)
  open_covers t u k = covers_sealed open_field (λ v o h. (let w = encodes_alike c.ruling t u k v o h.encoding in (w.0, record { octets = h.octets; encoding = w.1 })))

  -- a component that has to be there and has no units
  left_out : (name : List ℕ) (t : Shape) (fs : Fields) (bs : List ℕ) {M : List (Option Datum) → List Chunk → Type 0}
      → InProfile t → has_nothing single t ≡ true → AreAlike (Listed c.code fs bs) M → AreAlike (Listed c.code (field name must t fs) bs) M
  left_out name t fs bs {M} good none k = record {
    to = λ v cs h. (
        let x = h.spelt in
        let e : x.first ≡ [] = x.spelt.spelt.same ∙ law t x.spelt.source none x.spelt.spelt.fits.0 in
        let rest : cs ≡ x.second = x.whole ∙ ap (λ (l : List Chunk). l ++ x.second) e in
        let w = k.to h.source.1 x.second x.follows in
        (w.0, subst (λ (l : List Chunk). M w.0 l) (sym rest) w.1));
    from = λ w cs h. (
        let v = k.from w cs h in
        let fits = only_fits single t good none in (
          Some (only_value t) ∷ v.0,
          record {
            source = (Some (only_value t), v.0);
            spelt = record {
              first = [];
              second = cs;
              spelt = record { source = only_value t; spelt = record { fits = (fits, tt); same = sym (law t (only_value t) none fits) }; seen = refl };
              follows = v.1;
              whole = refl;
            };
            seen = refl;
          },
        ));
  }

  -- items that are spelt as others are
  items_cover : (root : List Label) (more : MoreLabels) (u : Shape) → AreSpeltAs c.code (enumerated root more) u
      → Covers (Spelt c.code None (enumerated root more)) (Spelt c.code None u)
  items_cover root more u k (item p) cs h =
      let w = k p h.fits.0 in
      (item w.0, record { fits = (w.1, tt); same = h.same ∙ w.2 })
  items_cover root more u k v cs h = absurd h.fits.0

  items_alike : (b : Bool) → (b ≡ true → SpellsIndexes c.code) → (root : List Label) (more : MoreLabels) → InProfile (enumerated root more)
      → AreAlike (Spelt c.code None (enumerated root more)) (Spelt c.code None (enumerated (numbered_if b root) more))
  items_alike true k root more good =
      let w = k refl root more good in
      record {
        to = items_cover root more (enumerated (numbered 0 root) more) w.0;
        from = items_cover (numbered 0 root) more (enumerated root more) w.1;
      }
  items_alike false k root more good = alike_self (Spelt c.code None (enumerated root more))

  -- SEQUENCEs whose parts are alike
  sequences_alike : (root other : Fields) (more others : MoreFields) → bitmap_length other ≡ bitmap_length root
      → added others ≡ added more → ((bs : List ℕ) → AreAlike (Listed c.code root bs) (Listed c.code other bs))
      → ((b : Bool) → AreAlike (AddedOf c more b) (AddedOf c others b))
      → AreAlike (SequencesOf c root more) (SequencesOf c other others)
  sequences_alike root other more others e f listed rest =
      alike_map sequence_told sequence_told
      (subst (λ n. AreAlike (Then (PreambleOf c (bitmap_length root) (added more)) (λ p. Then (Listed c.code root (bits (bitmap_length root) p.1)) (λ x. AddedOf c more p.0))) (Then (PreambleOf c n (added others)) (λ p. Then (Listed c.code other (bits n p.1)) (λ x. AddedOf c others p.0)))) (sym e)
      (subst (λ m. AreAlike (Then (PreambleOf c (bitmap_length root) (added more)) (λ p. Then (Listed c.code root (bits (bitmap_length root) p.1)) (λ x. AddedOf c more p.0))) (Then (PreambleOf c (bitmap_length root) m) (λ p. Then (Listed c.code other (bits (bitmap_length root) p.1)) (λ x. AddedOf c others p.0)))) (sym f)
      (alike_after (λ p. alike_both (listed (bits (bitmap_length root) p.1)) (rest p.0)))))

  -- extension additions that are alike
  additions_alike : (fs gs : Fields) → length (demands gs) ≡ length (demands fs)
      → ((bs : List ℕ) → AreAlike (OpenListed c fs bs) (OpenListed c gs bs)) → AreAlike (AdditionsOf c fs) (AdditionsOf c gs)
  additions_alike fs gs e k =
      alike_map after_first after_first
      (subst (λ n. AreAlike (Then (AdditionBitmapOf c (length (demands fs))) (λ m. OpenListed c fs (bits (length (demands fs)) m))) (Then (AdditionBitmapOf c n) (λ m. OpenListed c gs (bits n m)))) (sym e)
      (alike_after (λ m. k (bits (length (demands fs)) m))))

  -- CHOICEs whose alternatives are
  choices_alike : (root other : Alternatives) (more others : MoreAlternatives) → count other ≡ count root
      → added_alternatives others ≡ added_alternatives more
      → ((i : ℕ ⊎ ℕ) → AreAlike (ChosenBy c root more i) (ChosenBy c other others i))
      → AreAlike (ChoicesOf c root more) (ChoicesOf c other others)
  choices_alike root other more others e f k =
      alike_map (chosen_value root) (chosen_value other)
      (subst (λ n. AreAlike (Then (IndexOf c (count root) (added_alternatives more)) (ChosenBy c root more)) (Then (IndexOf c n (added_alternatives others)) (ChosenBy c other others))) (sym e)
      (subst (λ m. AreAlike (Then (IndexOf c (count root) (added_alternatives more)) (ChosenBy c root more)) (Then (IndexOf c (count root) m) (ChosenBy c other others))) (sym f)
      (alike_after k)))

  open_alike : (t : Shape) → InProfile t → InProfile (lean single t) → AreAlike (Spelt c.code None t) (Spelt c.code None (lean single t))
      → AreAlike (OpenOf c t) (OpenOf c (lean single t))
  open_alike t good other k =
      let w = wholes_alike t (lean single t) good other k in
      record { to = open_covers t (lean single t) w.to; from = open_covers (lean single t) t w.from }

  -- the alternatives of the root, and the others
  chosen_alike : (root : Alternatives) (more : MoreAlternatives)
      → ((i : ℕ) → AreAlike (ChosenBy c root more (inl i)) (ChosenBy c (lean_alternatives single root) (lean_others single more) (inl i)))
      → ((i : ℕ) → AreAlike (ChosenBy c root more (inr i)) (ChosenBy c (lean_alternatives single root) (lean_others single more) (inr i)))
      → (i : ℕ ⊎ ℕ) → AreAlike (ChosenBy c root more i) (ChosenBy c (lean_alternatives single root) (lean_others single more) i)
  chosen_alike root more one other (inl i) = one i
  chosen_alike root more one other (inr i) = other i

  mutual
    pub lean_alike : (t : Shape) → InProfile t → InProfile (lean single t) → AreAlike (Spelt c.code None t) (Spelt c.code None (lean single t))
    lean_alike (enumerated root more) good other = items_alike single indexes root more good
    lean_alike (sequence root more) good other =
        alike_on (alike_from (laws.sequences root more good))
        (alike_on (sequences_alike root (lean_root single root) more (lean_more single more) (lean_bitmap single root) (lean_added single more)
        (root_alike root (components_of_profile root more good) (components_of_profile (lean_root single root) (lean_more single more) other))
        (more_alike more (more_of_profile root more good) (more_of_profile (lean_root single root) (lean_more single more) other)))
        (alike_to (laws.sequences (lean_root single root) (lean_more single more) other)))
    lean_alike (sequence_of t s) good other =
        let k = lean_alike t (element_of_profile t s good) (element_of_profile (lean single t) s other) in
        alike_on (alike_from (laws.lists t s good))
        (alike_on (alike_map (λ vs. elements (elements_of vs)) (λ vs. elements (elements_of vs))
        (alike_map after_first after_first (alike_after (λ a. record { to = covers_remaining k.to a; from = covers_remaining k.from a }))))
        (alike_to (laws.lists (lean single t) s other)))
    lean_alike (choice root more) good other =
        alike_on (alike_from (laws.choices root more good))
        (alike_on (choices_alike root (lean_alternatives single root) more (lean_others single more) (lean_count single root) (lean_others_count single more)
        (chosen_alike root more
        (root_chosen root (root_alternatives_of_profile root more good) (root_alternatives_of_profile (lean_alternatives single root) (lean_others single more) other))
        (others_chosen root more (others_of_profile root more good) (others_of_profile (lean_alternatives single root) (lean_others single more) other))))
        (alike_to (laws.choices (lean_alternatives single root) (lean_others single more) other)))
    lean_alike t good other = alike_self (Spelt c.code None t)

    root_alike : (fs : Fields) → AreOfProfile fs → AreOfProfile (lean_root single fs) → (bs : List ℕ)
        → AreAlike (Listed c.code fs bs) (Listed c.code (lean_root single fs) bs)
    root_alike no_fields good other bs = alike_self (Listed c.code no_fields bs)
    root_alike (field name must t fs) good other bs =
        go (has_nothing single t) refl other (λ h. lean_alike t good.0 h) (λ h. root_alike fs good.2 h bs)
      where
        go : (b : Bool) → has_nothing single t ≡ b
            → AreOfProfile (elim b [ true ↦ lean_root single fs | false ↦ field name must (lean single t) (lean_root single fs) ])
            → (InProfile (lean single t) → AreAlike (Spelt c.code None t) (Spelt c.code None (lean single t)))
            → (AreOfProfile (lean_root single fs) → AreAlike (Listed c.code fs bs) (Listed c.code (lean_root single fs) bs))
            → AreAlike (Listed c.code (field name must t fs) bs)
            (Listed c.code (elim b [ true ↦ lean_root single fs | false ↦ field name must (lean single t) (lean_root single fs) ]) bs)
        go true e h one rest = left_out name t fs bs good.0 e (rest h)
        go false e h one rest = alike_before (one h.0) (rest h.2)
    root_alike (field name optional t fs) good other (suc b ∷ bs) =
        alike_before (lean_alike t good.0 other.0) (root_alike fs good.2 other.2 bs)
    root_alike (field name optional t fs) good other (zero ∷ bs) = alike_absent (root_alike fs good.2 other.2 bs)
    root_alike (field name optional t fs) good other [] = no_language
    root_alike (field name (default d) t fs) good other (suc b ∷ bs) =
        rw (lean_simple t (default_is_simple t d good.1)) (alike_before (alike_self (Spelt c.code (Some d) t)) (root_alike fs good.2 other.2 bs))
    root_alike (field name (default d) t fs) good other (zero ∷ bs) =
        alike_map (λ es. Some d ∷ es) (λ es. Some d ∷ es) (root_alike fs good.2 other.2 bs)
    root_alike (field name (default d) t fs) good other [] = no_language

    more_alike : (more : MoreFields) → MoreOfProfile more → MoreOfProfile (lean_more single more) → (b : Bool)
        → AreAlike (AddedOf c more b) (AddedOf c (lean_more single more) b)
    more_alike closed good other b = alike_self (AddedOf c closed b)
    more_alike (marked fs) good other false = record {
      to = covers_nothing (absent_entries fs) (absent_entries (lean_each single fs));
      from = covers_nothing (absent_entries (lean_each single fs)) (absent_entries fs);
    }
    more_alike (marked fs) good other true = additions_alike fs (lean_each single fs) (lean_many single fs) (each_alike fs good other)

    each_alike : (fs : Fields) → AreOfProfile fs → AreOfProfile (lean_each single fs) → (bs : List ℕ)
        → AreAlike (OpenListed c fs bs) (OpenListed c (lean_each single fs) bs)
    each_alike no_fields good other bs = alike_self (OpenListed c no_fields bs)
    each_alike (field name must t fs) good other (suc b ∷ bs) =
        alike_before (open_alike t good.0 other.0 (lean_alike t good.0 other.0)) (each_alike fs good.2 other.2 bs)
    each_alike (field name must t fs) good other (zero ∷ bs) = alike_absent (each_alike fs good.2 other.2 bs)
    each_alike (field name must t fs) good other [] = no_language
    each_alike (field name optional t fs) good other (suc b ∷ bs) =
        alike_before (open_alike t good.0 other.0 (lean_alike t good.0 other.0)) (each_alike fs good.2 other.2 bs)
    each_alike (field name optional t fs) good other (zero ∷ bs) = alike_absent (each_alike fs good.2 other.2 bs)
    each_alike (field name optional t fs) good other [] = no_language
    each_alike (field name (default d) t fs) good other (suc b ∷ bs) =
        rw (lean_simple t (default_is_simple t d good.1)) (alike_before (alike_self (OpenOf c t)) (each_alike fs good.2 other.2 bs))
    each_alike (field name (default d) t fs) good other (zero ∷ bs) = alike_absent (each_alike fs good.2 other.2 bs)
    each_alike (field name (default d) t fs) good other [] = no_language

    others_chosen : (root : Alternatives) (more : MoreAlternatives) → OthersOfProfile more → OthersOfProfile (lean_others single more)
        → (i : ℕ) → AreAlike (ChosenBy c root more (inr i)) (ChosenBy c (lean_alternatives single root) (lean_others single more) (inr i))
    others_chosen root closed_choice first rest i = alike_self (ChosenOf (λ t. OpenOf c t) no_alternatives i)
    others_chosen root (marked_choice alts) first rest i = added_chosen alts first rest i

    root_chosen : (alts : Alternatives) → AreAllOfProfile alts → AreAllOfProfile (lean_alternatives single alts) → (i : ℕ)
        → AreAlike (ChosenOf (λ t. Spelt c.code None t) alts i) (ChosenOf (λ t. Spelt c.code None t) (lean_alternatives single alts) i)
    root_chosen no_alternatives good other i = no_language
    root_chosen (one_of name t alts) good other zero = lean_alike t good.0 other.0
    root_chosen (one_of name t alts) good other (suc i) = root_chosen alts good.1 other.1 i

    added_chosen : (alts : Alternatives) → AreAllOfProfile alts → AreAllOfProfile (lean_alternatives single alts) → (i : ℕ)
        → AreAlike (ChosenOf (λ t. OpenOf c t) alts i) (ChosenOf (λ t. OpenOf c t) (lean_alternatives single alts) i)
    added_chosen no_alternatives good other i = no_language
    added_chosen (one_of name t alts) good other zero = open_alike t good.0 other.0 (lean_alike t good.0 other.0)
    added_chosen (one_of name t alts) good other (suc i) = added_chosen alts good.1 other.1 i

  pub lean_wholes : (t : Shape) → InProfile t → InProfile (lean single t) → AreAlike (Wholes c.ruling t) (Wholes c.ruling (lean single t))
  lean_wholes t good other = wholes_alike t (lean single t) good other (lean_alike t good other)
