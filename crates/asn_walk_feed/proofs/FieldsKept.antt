-- What is kept of a sealed field of which some units have come: its content so far.
use Rattle.std.proofs.Common.{◌≡◌, ◌≢◌, ◌≤◌, ◌+◌, ◌*◌, ◌⊎◌, inl, inr, ⊎_elim, ℕ, zero, suc, List, [], ◌∷◌, ◌++◌, length, map, append-nil, append_assoc, Option, Some, None, refl, sym, ap, subst, ◌∙◌, arith}
use Rattle.std.proofs.lemmas.List.{append_cancel_left}
use Rattle.std.specs.Bool.{⊤}
use mathlib.Core.List.{map-id}
use Rattle.asn_bits.specs.Ranges.{Spanned, At}
use Rattle.asn_rules.specs.Chunks.{Kind, Chunk, sealed, ones, flat, field_units}
use Rattle.asn_rules.specs.Forks.{Same}
use Rattle.asn_rules.specs.Frames.{IsField, Frame as FieldOf}
use Rattle.asn_rules.specs.General.{Length, last, fragment, Left, Header, Body, General}
use Rattle.asn_rules.specs.Kept.{ContentSoFar, EndsIn}
use Rattle.asn_rules.specs.Languages.{AllContents, IsFront, Spells, Short, Lawful, Inhabited, Row}
use Rattle.asn_rules.specs.Live.{Begins, BeginsProperly, Fielding, IsContent}
use Rattle.asn_rules.proofs.Languages.Forks.{same_flip, same_spells, same_short, same_lawful}
use Rattle.asn_rules.proofs.Languages.Parts.{contents-ones, front_ones, map_source, plain_spells}
use Rattle.asn_rules.proofs.Languages.Rows.{row_inhabited}
use Rattle.asn_rules.proofs.Languages.Standing.{StandsIn}
use Rattle.asn_rules.proofs.Languages.Then.{one_front, then_splits}
use Rattle.asn_rules.proofs.Live.Chunks.{FieldsPart, contents-first, contents-second, front_after, front_longer}
use Rattle.asn_rules.proofs.Live.Flat.{flat-ones, flat-append}
use Rattle.asn_rules.proofs.Numbers.General.{general_once, general_inhabited, general_last_only, general_row_only, row_length}
use Rattle.asn_rules.proofs.Numbers.Headers.{Tells, header_tells}
use Rattle.asn_rules.proofs.Sealed.Frames.{frame_begun, frame_lawful}
use Rattle.asn_walk.specs.Ahead.{Ahead, items, lengths, end, Remaining, SomeAhead, Advances}
use Rattle.asn_walk.specs.Coding.{Coding}
use Rattle.asn_walk.specs.Laws.{Laws}
use Rattle.asn_walk.proofs.Listing.{Going, going_next_stands}
use Rattle.asn_walk.proofs.Parts.{fields_part_of}
use Rattle.asn_walk_feed.specs.Feeding.{Waits, NextOf, FeedLaws}
use Rattle.asn_walk_feed.specs.Items.{InFragment, Stands}
use Rattle.asn_walk_feed.specs.Keeping.{octets_of, OtherOctet, OctetsDiffer}
use Rattle.asn_walk_feed.specs.Octets.{OctetCoding, OctetsOf, OctetLaws, OctetsGoOn, OctetsTook}
use Rattle.asn_walk_feed.specs.declared.frame.Elements.{Elements}
use Rattle.asn_walk_feed.specs.declared.frame.Frame.{Frame}
use Rattle.asn_walk_feed.specs.declared.frame.Frame.TheVariants as frame
use Rattle.asn_walk_feed.proofs.ListsRead.{element_done}
use Rattle.asn_walk_feed.proofs.OctetsRead.{start_stops}
use Rattle.asn_rules.specs.declared.stop.Stop.TheVariants as stop

-- ---- lists

-- the first is not this one, where there is a first
abbrev FirstIsOther : ℕ → List ℕ → Type 0
FirstIsOther o [] = ⊤
FirstIsOther o (w ∷ ws) = w ≢ o

-- so the list does not go on with it
not_next : (o : ℕ) (es ws : List ℕ) → FirstIsOther o ws → Begins (es ++ o ∷ []) (es ++ ws) → ⊥
not_next o es ws f b = go ws f (append_cancel_left es ws (o ∷ b.0) (b.1 ∙ append_assoc es (o ∷ []) b.0))
  where
    go : (ws : List ℕ) → FirstIsOther o ws → ws ≡ o ∷ b.0 → ⊥
    go [] f e = absurd cc
    go (w ∷ ws) f e = f cc

-- two lists that begin another begin alike
same_next : (x o : ℕ) (es a : List ℕ) → Begins (es ++ x ∷ []) a → Begins (es ++ o ∷ []) a → x ≡ o
same_next x o es a b d =
    let e : x ∷ b.0 ≡ o ∷ d.0 = append_cancel_left es (x ∷ b.0) (o ∷ d.0) (sym (append_assoc es (x ∷ []) b.0) ∙ sym b.1 ∙ d.1 ∙ append_assoc es (o ∷ []) d.0) in
    cc

-- ---- the items that are read are the first of each list that goes on so

-- of a row
row_begins : {A : Type 0} {R : Fielding} (L : A → List Chunk → Type 0) → FieldsPart R → Lawful L → (i m k : ℕ) → i + m ≡ k → (row ys : List A) (us q s : List ℕ)
    → Spells R (Row L i) row us q → Spells R (Row L k) ys us s → (zs : List A) × (ys ≡ row ++ zs)
row_begins L ok law zero m k e row ys us q s f h = (ys, ap (λ l. l ++ ys) (sym f.spelt.same))
row_begins L ok law (suc i) m zero e row ys us q s f h = absurd (omega (arith, e))
row_begins {A} L ok law (suc i) m (suc k) e row ys us q s f h =
    let x = map_source f in
    let y = map_source h in
    let a = then_splits x.1 in
    let b = then_splits y.1 in
    let o = one_front ok law b.earlier a.earlier in
    let later = row_begins L ok law i m k (omega (arith, e)) x.0.1 y.0.1 a.rest q s a.later (rw o.1 at b.later) in
    (later.0, y.2 ∙ (λ j. o.0 j ∷ later.1 j) ∙ ap (λ (l : List A). l ++ later.0) (sym x.2))

module _ {A : Type 0} (c : Coding) (laws : Laws c) (L : A → List Chunk → Type 0) (some : Inhabited L) (law : Lawful L) {T : List A → List Chunk → Type 0} where
  told_at : (n : ℕ) (ahead : Ahead) (es : List A) (us come : List ℕ) → Stands c L T n ahead es us come → (ws : List A) (s : List ℕ) → Spells c.ruling.fielding T ws us s → (zs : List A) × (ws ≡ es ++ zs)
  told_at zero ahead es us come h ws s k = (let o = h.only ws s k in (o.0, o.1))
  told_at (suc n) ahead es us come h ws s k =
      let o = h.going.only ws s k in
      let z = go h.was h.next.advances o.0 o.2 in
      (z.0, o.1 ∙ ap (λ (l : List A). h.before ++ l) z.1 ∙ sym (append_assoc h.before h.so_far.row z.0) ∙ ap (λ (l : List A). l ++ z.0) (sym h.so_far.same))
    where
      in_row : (ys : List A) (q : List ℕ) → Spells c.ruling.fielding (Row L h.count) ys h.first q → (zs : List A) × (ys ≡ h.so_far.row ++ zs)
      in_row ys q x = row_begins L (fields_part_of c laws) law h.done (suc n) h.count h.sum h.so_far.row ys h.first come q h.so_far.spelt x

      go : (a : Ahead) → Advances c.ruling.fielding a (Some h.count) ahead h.rest h.first → (ys : List A) → Spells c.ruling.fielding (Remaining L a) ys h.rest s → (zs : List A) × (ys ≡ h.so_far.row ++ zs)
      go end e ys x = absurd e
      go (items k) e ys x = (let y : Spells c.ruling.fielding (Row L h.count) ys h.first s = rw (e.0, e.2) x in in_row ys s y)
      go (lengths is so_far closed) e ys x = ⊎_elim
          (λ y. in_row ys s (general_last_only L (fields_part_of c laws) some y.0 x))
          (λ y.
          (let p = general_row_only L (fields_part_of c laws) some y.1 x in
          let first : Spells c.ruling.fielding (Row L h.count) p.0 h.first p.2 = subst (λ (j : ℕ). Spells c.ruling.fielding (Row L j) p.0 h.first p.2) (sym y.2) p.3 in
          let z = in_row p.0 p.2 first in
          (z.0 ++ p.1, p.4 ∙ ap (λ (l : List A). l ++ p.1) z.1 ∙ append_assoc h.so_far.row z.0 p.1)))
          e.read

-- ---- the field

module _ {F : Type 0} (c : Coding) (laws : Laws c) (feeds : FeedLaws c) (f : OctetCoding) (parts : OctetLaws c f) (k : Kind) (same : Same (OctetsOf f) (FieldOf c.ruling.fielding k)) (differ : OctetsDiffer c f) (ahead : F → Ahead) (between : F → Type 0) where
  abbrev R : Fielding
  R = c.ruling.fielding

  abbrev T : List ℕ → List Chunk → Type 0
  T = OctetsOf f

  abbrev field : List ℕ → List ℕ
  field a = field_units R.spelled k a

  ok : FieldsPart R
  ok = fields_part_of c laws

  law : Lawful T
  law = same_lawful (same_flip same) (frame_lawful ok k)

  -- octets that a field may hold are spelt so
  is_spelt : (a s : List ℕ) → IsContent R k a → Spells R T a (field a ++ s) s
  is_spelt a s h = same_spells (same_flip same) (plain_spells R {C = IsField R k} a (field a) s (record { contents = h; same = refl }))

  -- what is spelt is such a field
  is_field : (a : List ℕ) (ds : List Chunk) → T a ds → IsContent R k a × (ds ≡ ones (field a))
  is_field a ds h =
      let w = same.to a ds h in
      (w.spelt.contents, w.same ∙ ap ones w.spelt.same)

  module _ (us : List ℕ) (short : Short R T us) where
    -- units that begin a field are fewer than it has
    properly : (a : List ℕ) → IsContent R k a → Begins us (field a) → BeginsProperly us (field a)
    properly a h b = go b.0 b.1
      where
        go : (rest : List ℕ) → field a ≡ us ++ rest → BeginsProperly us (field a)
        go [] e =
            let all : field a ++ [] ≡ us = append-nil (field a) ∙ e ∙ append-nil us in
            absurd (short.none a [] (subst (λ (l : List ℕ). Spells R T a l []) all (is_spelt a [] h)))
        go (m ∷ ms) e = (m, ms, e)

    -- a content whose field they begin, of which the spelling of b stands in front of what follows
    record Found {B : Type 0} (M : B → List Chunk → Type 0) (b : B) (come : List ℕ) : Type 0 where
      content : List ℕ
      contents : IsContent R k content
      begun : BeginsProperly us (field content)
      further : List ℕ
      whole : Spells R T content (us ++ further) []
      rest : List ℕ
      part : Spells R M b (come ++ further) rest

    -- where b stands
    found : {B : Type 0} (M : B → List Chunk → Type 0) (b : B) (cs : List Chunk) (come : List ℕ) → M b cs → IsFront R cs come → StandsIn R M come T us → Found M b come
    found {B} M b cs come h i s =
        let w = s.within b cs h in
        let ds = s.front ++ (cs ++ w.1) in
        let g = is_field w.0 ds w.2 in
        let fine : AllContents R ds = subst (λ (l : List Chunk). AllContents R l) (sym g.1) (contents-ones R (field w.0)) in
        let there : IsFront R ds (flat R.spelled s.front ++ come) = front_after ok s.front (cs ++ w.1) come s.contents (front_longer R cs w.1 come i) in
        let front : IsFront R (ones (field w.0)) us = subst (λ (l : List ℕ). IsFront R (ones (field w.0)) l) (sym s.split) (subst (λ (l : List Chunk). IsFront R l (flat R.spelled s.front ++ come)) g.1 there) in
        let e = front_ones R (field w.0) us front in
        let all : Spells R T w.0 (us ++ e.0) [] = subst (λ (l : List ℕ). Spells R T w.0 l []) (append-nil (field w.0) ∙ e.1) (is_spelt w.0 [] g.0) in
        let units : flat R.spelled ds ≡ field w.0 = ap (flat R.spelled) g.1 ∙ flat-ones R.spelled (field w.0) in
        let parts_of : flat R.spelled ds ≡ flat R.spelled s.front ++ (flat R.spelled cs ++ flat R.spelled w.1) = flat-append R.spelled s.front (cs ++ w.1) ∙ ap (λ (l : List ℕ). flat R.spelled s.front ++ l) (flat-append R.spelled cs w.1) in
        let lined : flat R.spelled s.front ++ (come ++ e.0) ≡ flat R.spelled s.front ++ (flat R.spelled cs ++ flat R.spelled w.1) =
        sym (append_assoc (flat R.spelled s.front) come e.0) ∙ ap (λ (l : List ℕ). l ++ e.0) (sym s.split) ∙ sym e.1 ∙ sym units ∙ parts_of in
        record {
          content = w.0;
          contents = g.0;
          begun = properly w.0 g.0 e;
          further = e.0;
          whole = all;
          rest = flat R.spelled w.1;
          part = record {
            chunks = cs;
            spelt = h;
            contents = contents-first R cs w.1 (contents-second R s.front (cs ++ w.1) fine);
            split = append_cancel_left (flat R.spelled s.front) (come ++ e.0) (flat R.spelled cs ++ flat R.spelled w.1) lined;
          };
        }

  -- ---- octets of which the first is another than o

  module _ (o : ℕ) where
    -- such octets, which these units begin
    record OthersAhead (a : Ahead) (come : List ℕ) : Type 0 where
      octets : List ℕ
      chunks : List Chunk
      spelt : Remaining f.octet a octets chunks
      front : IsFront R chunks come
      first : FirstIsOther o octets

    another : OtherOctet c f o []
    another = differ.other o [] (inl refl)

    -- a row of them
    row_of : (n : ℕ) → (ws : List ℕ) × (cs : List Chunk) × Row f.octet n ws cs × FirstIsOther o ws
    row_of zero = ([], [], record { same = refl; empty = refl }, tt)
    row_of (suc n) =
        let i = row_inhabited parts.some n in
        (another.octet ∷ i.value, another.chunks ++ i.chunks, record { source = (another.octet, i.value); spelt = record { first = another.chunks; second = i.chunks; spelt = another.spelt; follows = i.spelt; whole = refl }; seen = refl }, another.differs)

    -- after a length
    body_of : (S : ℕ → Type 0) (l : Length) → Tells S l → (ws : List ℕ) × (cs : List Chunk) × Body f.octet (General f.octet) S l ws cs × FirstIsOther o ws
    body_of S (last n) t = row_of n
    body_of S (fragment m) t =
        let i : Inhabited (General f.octet (Left S m)) = general_inhabited parts.some t.rest t.left in
        let r = row_of (16384 * m) in
        (r.0 ++ i.value, r.1 ++ i.chunks, record { source = (r.0, i.value); spelt = record { first = r.1; second = i.chunks; spelt = r.2; follows = i.spelt; whole = refl }; seen = refl }, longer r.0 i.value (some_blocks m r.0 r.1 t.some r.2) r.3)
      where
        longer : (ws vs : List ℕ) → ws ≢ [] → FirstIsOther o ws → FirstIsOther o (ws ++ vs)
        longer [] vs n x = absurd (n refl)
        longer (w ∷ ws) vs n x = x

        some_blocks : (m : ℕ) (ws : List ℕ) (cs : List Chunk) → 1 ≤ m → Row f.octet (16384 * m) ws cs → ws ≢ []
        some_blocks m ws cs l h e = (let z = row_length f.octet (16384 * m) ws cs h in let y : length ws ≡ 0 = ap length e in absurd (omega (arith, z, y, l)))

    -- with the length in front
    general_of : (S : ℕ → Type 0) (l : Length) (hs : List Chunk) (come : List ℕ) → Header S l hs → IsFront R hs come
        → (ws : List ℕ) × (cs : List Chunk) × General f.octet S ws cs × IsFront R cs come × FirstIsOther o ws
    general_of S l hs come h i =
        let b = body_of S l (header_tells h) in
        (b.0, hs ++ b.1, (general_once f.octet S).to b.0 (hs ++ b.1) (record { source = (l, b.0); spelt = record { first = hs; second = b.1; spelt = h; follows = b.2; whole = refl }; seen = refl }), front_longer R hs b.1 come i, b.3)

    others_ahead : (a : Ahead) (come : List ℕ) → SomeAhead a → (come ≡ []) ⊎ Short R (NextOf a) come → OthersAhead a come
    others_ahead end come s (inl e) = record { octets = []; chunks = []; spelt = record { same = refl; empty = refl }; front = rw e tt; first = tt }
    others_ahead end come s (inr h) = absurd (h.none (None, end) come (nothing_spelt (None, end) come))
      where
        nothing_spelt : (p : Option ℕ × Ahead) (r : List ℕ) → Spells R (NextOf end) (None, p.1) r r
        nothing_spelt p r = record { chunks = []; spelt = record { same = refl; empty = refl }; contents = tt; split = refl }
    others_ahead (items n) come s (inl e) = (let r = row_of n in record { octets = r.0; chunks = r.1; spelt = r.2; front = rw e tt; first = r.3 })
    others_ahead (items n) come s (inr h) = absurd (h.none (Some n, end) come (record { chunks = []; spelt = record { same = refl; empty = refl }; contents = tt; split = refl }))
    others_ahead (lengths is so_far closed) come s (inl e) =
        let i : Inhabited (General f.octet (At (Spanned is) so_far closed)) = general_inhabited parts.some s.0 s.1 in
        let w = (general_once f.octet (At (Spanned is) so_far closed)).from i.value i.chunks i.spelt in
        let g = general_of (At (Spanned is) so_far closed) w.source.0 w.spelt.first come w.spelt.spelt (rw e tt) in
        record { octets = g.0; chunks = g.1; spelt = g.2; front = g.3; first = g.4 }
    others_ahead (lengths is so_far closed) come s (inr h) =
        let g = general_of (At (Spanned is) so_far closed) h.live.spelt.source h.live.chunks come h.live.spelt.spelt h.live.front in
        record { octets = g.0; chunks = g.1; spelt = g.2; front = g.3; first = g.4 }

  -- ---- what is kept

  -- what of a part has come
  come_of : {V : Type 0} {L : V → List Chunk → Type 0} {b come : List ℕ} → Waits c L b come → (come ≡ []) ⊎ Short R L come
  come_of {L = L} {b = b} w = ⊎_elim (λ e. inl (sym w.come ∙ ap c.to_units e ∙ feeds.none)) (λ s. inr (subst (λ (l : List ℕ). Short R L l) w.come s)) w.begins

  module _ (q : Elements F ℕ) (us : List ℕ) (short : Short R T us) (h : OctetsGoOn c f ahead between q us []) where
    abbrev es : List ℕ
    es = q.elements.items

    -- whatever units follow
    stands : (n : ℕ) → q.left ≡ n → (more : List ℕ) → Stands c f.octet T n (ahead q.fragments) es (us ++ more) (h.come ++ more)
    stands n e more =
        let st : Stands c f.octet T n (ahead q.fragments) (map (λ o. o) es) (us ++ more) ((h.come ++ []) ++ more) = rw e at h.stands more in
        subst (λ (l : List ℕ). Stands c f.octet T n (ahead q.fragments) l (us ++ more) (h.come ++ more)) (map-id es)
        (subst (λ (l : List ℕ). Stands c f.octet T n (ahead q.fragments) (map (λ o. o) es) (us ++ more) (l ++ more)) (append-nil h.come) st)

    told_kept : (a : List ℕ) → IsContent R k a → BeginsProperly us (field a) → Begins es a
    told_kept a g b =
        let whole : Spells R T a (us ++ b.0 ∷ b.1) [] = subst (λ (l : List ℕ). Spells R T a l []) (append-nil (field a) ∙ b.2) (is_spelt a [] g) in
        told_at c laws f.octet parts.some parts.octet q.left (ahead q.fragments) es (us ++ b.0 ∷ b.1) (h.come ++ b.0 ∷ b.1) (stands q.left refl (b.0 ∷ b.1)) a [] whole

    abbrev Further : ℕ → Type 0
    Further o = (a : List ℕ) → IsContent R k a → BeginsProperly us (field a) → Begins (es ++ o ∷ []) a

    abbrev no_frames : List (Frame F)
    no_frames = []

    -- between fragments
    at_length : q.left ≡ 0 → (o : ℕ) → Further o → ⊥
    at_length e o next =
        let inner : ((no_frames ≡ []) × Waits c (NextOf (ahead q.fragments)) q.next_part h.come) = rw e at h.inner in
        let x = others_ahead o (ahead q.fragments) h.come h.some (come_of inner.1) in
        let here : Going c f.octet T (us ++ []) (ahead q.fragments) es (h.come ++ []) = stands 0 e [] in
        let st : StandsIn R (Remaining f.octet (ahead q.fragments)) h.come T us =
        subst (λ (l : List ℕ). StandsIn R (Remaining f.octet (ahead q.fragments)) l T us) (append-nil h.come) (subst (λ (l : List ℕ). StandsIn R (Remaining f.octet (ahead q.fragments)) (h.come ++ []) T l) (append-nil us) here.stands) in
        let y = found us short (Remaining f.octet (ahead q.fragments)) x.octets x.chunks h.come x.spelt x.front st in
        let there : Going c f.octet T (us ++ y.further) (ahead q.fragments) es (h.come ++ y.further) = stands 0 e y.further in
        let all : Spells R T (es ++ x.octets) (us ++ y.further) y.rest = there.leads.done x.octets y.rest y.part in
        let is : y.content ≡ es ++ x.octets = (one_front ok law y.whole all).0 in
        not_next o es x.octets x.first (subst (λ (l : List ℕ). Begins (es ++ o ∷ []) l) is (next y.content y.contents y.begun))

    -- within one
    at_octet : (n : ℕ) → q.left ≡ suc n → (o : ℕ) → Further o → ⊥
    at_octet n e o next =
        let w : Waits c f.octet q.next_part h.come = (let inner = h.inner in let z = rw e at inner in z.1) in
        let x = differ.other o h.come (come_of w) in
        let here : InFragment c f.octet T (suc n) (ahead q.fragments) es (us ++ []) (h.come ++ []) = stands (suc n) e [] in
        let first : StandsIn R f.octet (h.come ++ []) T (us ++ []) = going_next_stands c here.done here.count parts.some (omega (arith, here.sum)) here.next here.so_far here.going in
        let st : StandsIn R f.octet h.come T us =
        subst (λ (l : List ℕ). StandsIn R f.octet l T us) (append-nil h.come) (subst (λ (l : List ℕ). StandsIn R f.octet (h.come ++ []) T l) (append-nil us) first) in
        let y = found us short f.octet x.octet x.chunks h.come x.spelt x.front st in
        let there : Stands c f.octet T n (ahead q.fragments) (es ++ x.octet ∷ []) (us ++ y.further) y.rest = element_done c laws f.octet parts.some parts.octet n (ahead q.fragments) es x.octet (us ++ y.further) (h.come ++ y.further) y.rest (stands (suc n) e y.further) y.part in
        let begins : Begins (es ++ x.octet ∷ []) y.content = told_at c laws f.octet parts.some parts.octet n (ahead q.fragments) (es ++ x.octet ∷ []) (us ++ y.further) y.rest there y.content [] y.whole in
        x.differs (same_next x.octet o es y.content begins (next y.content y.contents y.begun))

    all_kept : (o : ℕ) → Further o → ⊥
    all_kept = go q.left refl
      where
        go : (n : ℕ) → q.left ≡ n → (o : ℕ) → Further o → ⊥
        go zero e = at_length e
        go (suc n) e = at_octet n e

    octets_kept : ContentSoFar R k us es
    octets_kept =
        let b = frame_begun (same_short same short) in
        record { begun = (b.content, b.contents, (b.next, b.more, sym b.split)); told = told_kept; all = all_kept }

  -- within what stands before the octets
  start_short : (us : List ℕ) → Short R f.start us → Short R T us
  start_short us s = (start_stops c laws feeds f parts ahead between us stop.Short (record { told = s })).told

  module _ (us : List ℕ) (begun : Short R f.start us) (short : Short R T us) where
    start_kept : ContentSoFar R k us []
    start_kept =
        let b = frame_begun (same_short same short) in
        record { begun = (b.content, b.contents, (b.next, b.more, sym b.split)); told = λ a g p. (a, refl); all = none }
      where
        none : (o : ℕ) → ((a : List ℕ) → IsContent R k a → BeginsProperly us (field a) → Begins (o ∷ []) a) → ⊥
        none o next =
            let l = begun.live in
            let x = others_ahead o l.value.1 [] (parts.ahead l.value l.chunks l.spelt) (inl refl) in
            let first = differ.none_first l.value l.chunks l.spelt in
            let cs = l.chunks ++ x.chunks in
            let spelt : T (l.value.0 ++ x.octets) cs = record { source = (l.value, x.octets); spelt = record { first = l.chunks; second = x.chunks; spelt = l.spelt; follows = x.spelt; whole = refl }; seen = refl } in
            let is : T x.octets cs = subst (λ (p : List ℕ). T (p ++ x.octets) cs) first spelt in
            let g = is_field x.octets cs is in
            let front : IsFront R (ones (field x.octets)) us = subst (λ (d : List Chunk). IsFront R d us) g.1 (front_longer R l.chunks x.chunks us l.front) in
            not_next o [] x.octets x.first (next x.octets g.0 (properly us short x.octets g.0 (front_ones R (field x.octets) us front)))

  -- where none has come, none is kept
  none_kept : (es : List ℕ) → Short R T [] → ContentSoFar R k [] es → es ≡ []
  none_kept [] short h = refl
  none_kept (e ∷ es) short h =
      let d = short.live.spelt in
      let x = others_ahead e d.source.0.1 [] (parts.ahead d.source.0 d.spelt.first d.spelt.spelt) (inl refl) in
      let first = differ.none_first d.source.0 d.spelt.first d.spelt.spelt in
      let cs = d.spelt.first ++ x.chunks in
      let spelt : T (d.source.0.0 ++ x.octets) cs = record { source = (d.source.0, x.octets); spelt = record { first = d.spelt.first; second = x.chunks; spelt = d.spelt.spelt; follows = x.spelt; whole = refl }; seen = refl } in
      let is : T x.octets cs = subst (λ (p : List ℕ). T (p ++ x.octets) cs) first spelt in
      let g = is_field x.octets cs is in
      let b = h.told x.octets g.0 (properly [] short x.octets g.0 (field x.octets, refl)) in
      absurd (not_next e [] x.octets x.first (es ++ b.0, b.1))

  -- of the nodes of a field of which some units have come
  field_kept : (fs : List (Frame F)) (us : List ℕ) → OctetsTook c f ahead between fs us → us ≢ [] → ContentSoFar R k us (octets_of fs)
  field_kept [] us h n = absurd (n h)
  field_kept (frame.Start b ∷ []) us h n = ⊎_elim (λ e. absurd (n e)) (λ s. start_kept us s (start_short us s)) (come_of h)
  field_kept (frame.Octets q ∷ fs) us h n = octets_kept q us h.1 h.2
  field_kept (frame.Start b ∷ x ∷ fs) us h n = absurd h
  field_kept (frame.Elements q ∷ fs) us h n = absurd h
  field_kept (frame.Components q ∷ fs) us h n = absurd h
  field_kept (frame.Bitmap p ∷ fs) us h n = absurd h
  field_kept (frame.Additions q ∷ fs) us h n = absurd h
  field_kept (frame.Chosen i ∷ fs) us h n = absurd h
  field_kept (frame.Added i ∷ fs) us h n = absurd h

  -- of those of one of which none has come
  nothing_kept : (fs : List (Frame F)) → OctetsTook c f ahead between fs [] → octets_of fs ≡ []
  nothing_kept [] h = refl
  nothing_kept (frame.Start b ∷ fs) h = refl
  nothing_kept (frame.Octets q ∷ fs) h = none_kept q.elements.items h.1 (octets_kept q [] h.1 h.2)
  nothing_kept (frame.Elements q ∷ fs) h = refl
  nothing_kept (frame.Components q ∷ fs) h = refl
  nothing_kept (frame.Bitmap p ∷ fs) h = refl
  nothing_kept (frame.Additions q ∷ fs) h = refl
  nothing_kept (frame.Chosen i ∷ fs) h = refl
  nothing_kept (frame.Added i ∷ fs) h = refl

  -- the units end in the field, and that is kept of it
  pub field_ends : (fs : List (Frame F)) (us a : List ℕ) → OctetsTook c f ahead between fs us → EndsIn R (sealed k a ∷ []) us (octets_of fs)
  field_ends fs [] a h = nothing_kept fs h
  field_ends fs (u ∷ us) a h = inl (field_kept fs (u ∷ us) h (λ e. absurd cc))
