-- How items that stand in fragments go on where they may be cut, whatever they are.
use Rattle.std.proofs.Common.{◌≡◌, ◌≤◌, ◌<◌, ◌+◌, ◌*◌, inl, inr, ℕ, zero, suc, List, [], ◌∷◌, ◌++◌, length, map, append-nil, append_assoc, Some, None, refl, sym, ap, subst, ◌∙◌, arith}
use Rattle.std.proofs.lemmas.List.{map_push, length-append}
use Rattle.std.proofs.Math.Nat.{mul-add}
use Rattle.asn_rules.specs.Chunks.{Chunk}
use Rattle.asn_rules.specs.Languages.{Spells, Short, Inhabited, Lawful, Row}
use Rattle.asn_rules.specs.Stops.{Stops}
use Rattle.asn_rules.specs.declared.stop.Stop.{Stop}
use Rattle.asn_rules.specs.declared.stop.Stop.TheVariants as stop
use Rattle.asn_rules.proofs.Answer.Answers.{done_stays}
use Rattle.asn_walk.specs.Ahead.{Ahead, SomeAhead}
use Rattle.asn_walk.specs.Coding.{Coding}
use Rattle.asn_walk.specs.Laws.{Laws}
use Rattle.asn_walk.proofs.Listing.{Going, going_ends, steps_left}
use Rattle.asn_walk_feed.specs.Feeding.{Waits, FeedLaws, NextOf, HasBegun}
use Rattle.asn_walk_feed.specs.Items.{InFragment, Stands, NextPart, ItemsGoOn}
use Rattle.asn_walk_feed.specs.Weights.{total, Weighs}
use Rattle.asn_walk_feed.specs.declared.frame.Frame.{Frame}
use Rattle.asn_walk_feed.specs.declared.frame.Elements.{Elements}
use Rattle.asn_walk_feed.proofs.Weights.{total-append, total-last, row_weighs, spells_weigh, spells_fewer, still_light}
use Rattle.asn_walk_feed.proofs.ListsRead.{next_is, next_some, next_nearer, list_next_stops, element_stops, element_done, row_done, fragment_begins}

module _ {F A V : Type 0} (c : Coding) (laws : Laws c) (feeds : FeedLaws c) (ahead : F → Ahead) (between : F → Type 0) (S : List A → List Chunk → Type 0) (L : A → List Chunk → Type 0) (T : List A → List Chunk → Type 0) (seen : V → A) (some : Inhabited L) (law : Lawful L) (Element : List ℕ → List (Frame F) → List ℕ → Type 0) (fresh : (b : List ℕ) → b ≡ [] → Element b [] []) where
  abbrev R : Elements F V → List (Frame F) → List ℕ → List ℕ → Type 0
  R q fs all units = ItemsGoOn c ahead between S L T seen Element q fs all units

  -- the elements vs weigh no more than the units in front of the last ones allow
  abbrev Light : List A → ℕ → ℕ → Type 0
  Light vs left all = (w : A → ℕ) (k : ℕ) → Weighs c.ruling.fielding S (total w) k → Weighs c.ruling.fielding L w k → total w vs + k * left ≤ k * all

  -- less is left
  light_later : (vs : List A) (x y all : ℕ) → y ≤ x → Light vs x all → Light vs y all
  light_later vs x y all l h w k f g = still_light k (total w vs) (total w vs) (k * all) x y (h w k f g) l (omega arith)

  -- ---- the next length

  -- between fragments
  pub record LengthAhead (q : Elements F V) (fs : List (Frame F)) (all units : List ℕ) : Type 0 where
    pub none : fs ≡ []
    pub begun : HasBegun c (NextOf (ahead q.fragments)) q.next_part
    pub at_unit : c.at_unit q.next_part
    pub going : (more : List ℕ) → Going c L T (all ++ more) (ahead q.fragments) (map seen q.elements.items) ((c.to_units q.next_part ++ units) ++ more)
    pub light : Light (map seen q.elements.items) (length (c.to_units q.next_part ++ units)) (length all)

  pub length_ahead : (q : Elements F V) (fs : List (Frame F)) (all units : List ℕ) → q.left ≡ 0 → R q fs all units → LengthAhead q fs all units
  length_ahead q fs all units e h =
      let i : (fs ≡ []) × Waits c (NextOf (ahead q.fragments)) q.next_part h.come = rw e at h.inner in
      record {
        none = i.0;
        begun = i.1.begins;
        at_unit = i.1.at_unit;
        going = λ more.
            (let g : Going c L T (all ++ more) (ahead q.fragments) (map seen q.elements.items) ((h.come ++ units) ++ more) = rw e at h.stands more in
            subst (λ (xs : List ℕ). Going c L T (all ++ more) (ahead q.fragments) (map seen q.elements.items) ((xs ++ units) ++ more)) (sym i.1.come) g);
        light = subst (λ (xs : List ℕ). Light (map seen q.elements.items) (length (xs ++ units)) (length all)) (sym i.1.come) h.light;
      }

  -- with nothing after it
  here : (q : Elements F V) (fs : List (Frame F)) (all units : List ℕ) → LengthAhead q fs all units → Going c L T all (ahead q.fragments) (map seen q.elements.items) (c.to_units q.next_part ++ units)
  here q fs all units h =
      let us = c.to_units q.next_part ++ units in
      let a = ahead q.fragments in
      let es = map seen q.elements.items in
      let one : Going c L T all a es (us ++ []) = subst (λ (xs : List ℕ). Going c L T xs a es (us ++ [])) (append-nil all) (h.going []) in
      subst (λ (xs : List ℕ). Going c L T all a es xs) (append-nil us) one

  pub length_stops : (q : Elements F V) (fs : List (Frame F)) (all units : List ℕ) (why : Stop) → q.left ≡ 0 → R q fs all units
      → Stops c.ruling.fielding (NextOf (ahead q.fragments)) (c.to_units q.next_part ++ units) why → Stops c.ruling.fielding T all why
  length_stops q fs all units why e h k =
      let a = length_ahead q fs all units e h in
      list_next_stops (ahead q.fragments) all (c.to_units q.next_part ++ units) (map seen q.elements.items) why some k (here q fs all units a)

  pub length_ends : (q : Elements F V) (fs : List (Frame F)) (all units r : List ℕ) (new : Ahead) → q.left ≡ 0 → R q fs all units
      → Spells c.ruling.fielding (NextOf (ahead q.fragments)) (None, new) (c.to_units q.next_part ++ units) r → Spells c.ruling.fielding T (map seen q.elements.items) all r
  length_ends q fs all units r new e h k =
      going_ends (next_is (ahead q.fragments) (None, new) (c.to_units q.next_part ++ units) r k) (here q fs all units (length_ahead q fs all units e h))

  -- where more is wanted
  pub length_kept : (q p : Elements F V) (fs : List (Frame F)) (all units units' : List ℕ) → q.left ≡ 0 → R q fs all units
      → p.left ≡ q.left → p.fragments ≡ q.fragments → p.elements ≡ q.elements → c.at_unit p.next_part
      → c.to_units p.next_part ≡ c.to_units q.next_part ++ units → units' ≡ []
      → Stops c.ruling.fielding (NextOf (ahead q.fragments)) (c.to_units q.next_part ++ units) stop.Short → R p fs all units'
  length_kept q p fs all units units' e h el ef ee at eh eu k =
      let a = length_ahead q fs all units e h in
      let z : p.left ≡ 0 = el ∙ e in
      let short : Short c.ruling.fielding (NextOf (ahead q.fragments)) (c.to_units p.next_part) = rw eh k.told in
      let come : List ℕ = c.to_units p.next_part in
      let stands : (more : List ℕ) → Going c L T (all ++ more) (ahead q.fragments) (map seen q.elements.items) ((come ++ units') ++ more) = λ more. rw (eu, append-nil come, eh) (a.going more) in
      let light : Light (map seen q.elements.items) (length (come ++ units')) (length all) = rw (eu, append-nil come, eh) a.light in
      record {
        come = come;
        between_is = subst between (sym ef) h.between_is;
        some = subst (λ (f : F). SomeAhead (ahead f)) (sym ef) h.some;
        stands = λ more. rw (z, ef, ee) (stands more);
        light = rw ee light;
        inner = rw (z, ef) (a.none, record { come = refl; at_unit = at; begins = inr short });
      }

  -- nothing has come of what stands next
  part_begins : (k : ℕ) (b : List ℕ) (a : Ahead) → b ≡ [] → NextPart {F = F} k [] (λ come. Waits c (NextOf a) b come) (λ come. Element b [] come) []
  part_begins zero b a e = (refl, record { come = ap c.to_units e ∙ feeds.none; at_unit = rw e feeds.begin; begins = inl e })
  part_begins (suc n) b a e = fresh b e

  -- where a fragment follows
  pub length_more : (q p : Elements F V) (fs : List (Frame F)) (all units r : List ℕ) (k : ℕ) → q.left ≡ 0 → R q fs all units
      → p.left ≡ k → p.elements ≡ q.elements → p.next_part ≡ [] → between p.fragments
      → Spells c.ruling.fielding (NextOf (ahead q.fragments)) (Some k, ahead p.fragments) (c.to_units q.next_part ++ units) r → R p fs all r
  length_more q p fs all units r k e h el ee eh b sp =
      let a = length_ahead q fs all units e h in
      let vs = map seen q.elements.items in
      let stands : (more : List ℕ) → Stands c L T k (ahead p.fragments) vs (all ++ more) (([] ++ r) ++ more) =
      λ more. fragment_begins c laws L some law k (ahead q.fragments) (ahead p.fragments) vs (all ++ more) ((c.to_units q.next_part ++ units) ++ more) (r ++ more) (a.going more)
      (next_is (ahead q.fragments) (Some k, ahead p.fragments) ((c.to_units q.next_part ++ units) ++ more) (r ++ more) (done_stays more sp)) in
      record {
        come = [];
        between_is = b;
        some = next_some c (ahead q.fragments) k (ahead p.fragments) (c.to_units q.next_part ++ units) r (next_is (ahead q.fragments) (Some k, ahead p.fragments) (c.to_units q.next_part ++ units) r sp);
        stands = λ more. rw (el, ee) (stands more);
        light = rw ee (light_later vs (length (c.to_units q.next_part ++ units)) (length r) (length all) (spells_fewer sp) a.light);
        inner = rw (el, a.none) (part_begins k p.next_part (ahead p.fragments) eh);
      }

  -- ---- the next element

  -- it weighs what its units allow
  light_more : (vs : List A) (x : A) (us r all : List ℕ) → Spells c.ruling.fielding L x us r → Light vs (length us) (length all) → Light (vs ++ x ∷ []) (length r) (length all)
  light_more vs x us r all sp h w k f g =
      let sum = total-last w vs x in
      let one = spells_weigh c.ruling.fielding L w k g x us r sp in
      let before = h w k f g in
      omega (arith, sum, one, before)

  pub record ElementAhead (q : Elements F V) (fs : List (Frame F)) (all units : List ℕ) : Type 0 where
    pub come : List ℕ
    pub took : Element q.next_part fs come
    pub stops : (why : Stop) → Stops c.ruling.fielding L (come ++ units) why → Stops c.ruling.fielding T all why
    pub kept : (p : Elements F V) (gs : List (Frame F)) (units' : List ℕ) → p.left ≡ q.left → p.fragments ≡ q.fragments → p.elements ≡ q.elements → units' ≡ []
        → Element p.next_part gs (come ++ units) → R p gs all units'
    pub more : (p : Elements F V) (gs : List (Frame F)) (v : V) (r : List ℕ) → p.left + 1 ≡ q.left → p.fragments ≡ q.fragments → p.next_part ≡ []
        → p.elements.items ≡ q.elements.items ++ v ∷ [] → gs ≡ [] → Spells c.ruling.fielding L (seen v) (come ++ units) r → R p gs all r

  pub element_ahead : (q : Elements F V) (fs : List (Frame F)) (all units : List ℕ) → 0 < q.left → R q fs all units → ElementAhead q fs all units
  element_ahead q fs all units l h = go q.left refl l
    where
      go : (n : ℕ) → q.left ≡ n → 0 < n → ElementAhead q fs all units
      go zero e l = absurd (omega (arith, l))
      go (suc n) e l =
          let vs = map seen q.elements.items in
          let i : Element q.next_part fs h.come = rw e at h.inner in
          let st : (more : List ℕ) → Stands c L T (suc n) (ahead q.fragments) vs (all ++ more) ((h.come ++ units) ++ more) = λ more. rw e at h.stands more in
          let us = h.come ++ units in
          let st1 : InFragment c L T (suc n) (ahead q.fragments) vs all (us ++ []) = subst (λ (xs : List ℕ). InFragment c L T (suc n) (ahead q.fragments) vs xs (us ++ [])) (append-nil all) (st []) in
          let st0 : InFragment c L T (suc n) (ahead q.fragments) vs all us = subst (λ (xs : List ℕ). InFragment c L T (suc n) (ahead q.fragments) vs all xs) (append-nil us) st1 in
          record {
            come = h.come;
            took = i;
            stops = λ why k. element_stops c laws L some law n (ahead q.fragments) vs all (h.come ++ units) why st0 k;
            kept = λ p gs units' el ef ee z k.
                (let pl : p.left ≡ suc n = el ∙ e in
                record {
                  come = h.come ++ units;
                  between_is = subst between (sym ef) h.between_is;
                  some = subst (λ (f : F). SomeAhead (ahead f)) (sym ef) h.some;
                  stands = λ more. rw (pl, ef, ee, z, append-nil (h.come ++ units)) (st more);
                  light = rw (ee, z, append-nil (h.come ++ units)) h.light;
                  inner = rw pl k;
                });
            more = λ p gs v r el ef eh ei eg k.
                (let pl : p.left ≡ n = omega (arith, el, e) in
                let next : (more : List ℕ) → Stands c L T n (ahead q.fragments) (vs ++ seen v ∷ []) (all ++ more) (([] ++ r) ++ more) =
                λ more. element_done c laws L some law n (ahead q.fragments) vs (seen v) (all ++ more) ((h.come ++ units) ++ more) (r ++ more) (st more) (done_stays more k) in
                record {
                  come = [];
                  between_is = subst between (sym ef) h.between_is;
                  some = subst (λ (f : F). SomeAhead (ahead f)) (sym ef) h.some;
                  stands = λ more. rw (pl, ef, ei, map_push seen q.elements.items v) (next more);
                  light = rw (ei, map_push seen q.elements.items v) (light_more vs (seen v) us r all k h.light);
                  inner = rw (pl, ef, eg) (part_begins n p.next_part (ahead q.fragments) eh);
                });
          }

  -- ---- elements in a row

  -- they weigh what their units allow
  light_row : (vs row : List A) (n : ℕ) (us r all : List ℕ) → Spells c.ruling.fielding (Row L n) row us r → Light vs (length us) (length all) → Light (vs ++ row) (length r) (length all)
  light_row vs row n us r all sp h w k f g =
      let sum = total-append w vs row in
      let more = spells_weigh c.ruling.fielding (Row L n) (total w) k (row_weighs c.ruling.fielding L w k g n) row us r sp in
      let before = h w k f g in
      omega (arith, sum, more, before)

  -- where nothing has come of the next element, k elements are read at once
  pub elements_row : (q p : Elements F V) (fs : List (Frame F)) (all units r : List ℕ) (k : ℕ) (row : List A) → 0 < q.left → R q fs all units
      → ((come : List ℕ) → Element q.next_part fs come → come ≡ [])
      → p.left + k ≡ q.left → p.fragments ≡ q.fragments → p.next_part ≡ [] → map seen p.elements.items ≡ map seen q.elements.items ++ row
      → Spells c.ruling.fielding (Row L k) row units r → R p [] all r
  elements_row q p fs all units r k row l h none el ef eh ei sp = go q.left refl l
    where
      go : (n : ℕ) → q.left ≡ n → 0 < n → R p [] all r
      go zero e l = absurd (omega (arith, l))
      go (suc n) e l =
          let vs = map seen q.elements.items in
          let a = ahead q.fragments in
          let i : Element q.next_part fs h.come = rw e at h.inner in
          let z : h.come ≡ [] = none h.come i in
          let sum : suc n ≡ p.left + k = sym (el ∙ e) in
          let st : (more : List ℕ) → Stands c L T (suc n) a vs (all ++ more) ((h.come ++ units) ++ more) = λ more. rw e at h.stands more in
          let at : (more : List ℕ) → InFragment c L T (suc n) a vs (all ++ more) (units ++ more) = λ more. subst (λ (xs : List ℕ). InFragment c L T (suc n) a vs (all ++ more) ((xs ++ units) ++ more)) z (st more) in
          let next : (more : List ℕ) → Stands c L T p.left a (vs ++ row) (all ++ more) (([] ++ r) ++ more) =
          λ more. row_done c laws L some law p.left k a vs row (all ++ more) (units ++ more) (r ++ more) (subst (λ (m : ℕ). InFragment c L T m a vs (all ++ more) (units ++ more)) sum (at more)) (done_stays more sp) in
          let light : Light vs (length units) (length all) = subst (λ (xs : List ℕ). Light vs (length (xs ++ units)) (length all)) z h.light in
          record {
            come = [];
            between_is = subst between (sym ef) h.between_is;
            some = subst (λ (f : F). SomeAhead (ahead f)) (sym ef) h.some;
            stands = λ more. rw (ef, ei) (next more);
            light = rw ei (light_row vs row k units r all sp light);
            inner = rw ef (part_begins p.left p.next_part (ahead q.fragments) eh);
          }

  -- ---- lengths come nearer to the end

  pub length_nearer : (q : Elements F V) (fs : List (Frame F)) (all units r : List ℕ) (k : ℕ) (new : Ahead) → q.left ≡ 0 → R q fs all units
      → Spells c.ruling.fielding (NextOf (ahead q.fragments)) (Some k, new) (c.to_units q.next_part ++ units) r
      → steps_left new + length r < steps_left (ahead q.fragments) + length units
  length_nearer q fs all units r k new e h sp = next_nearer c feeds (ahead q.fragments) new k q.next_part units r (length_ahead q fs all units e h).begun sp

  -- ---- with the next piece

  longer : (k m : ℕ) (come us units : List ℕ) → m + k * length come ≤ k * length us → m + k * length (come ++ units) ≤ k * length (us ++ units)
  longer k m come us units h =
      let one : k * length (come ++ units) ≡ k * (length come + length units) = ap (λ (i : ℕ). k * i) (length-append come units) in
      let two : k * length (us ++ units) ≡ k * (length us + length units) = ap (λ (i : ℕ). k * i) (length-append us units) in
      let first = mul-add k (length come) (length units) in
      let second = mul-add k (length us) (length units) in
      omega (arith, h, one, two, first, second)

  pub items_go_on : (q : Elements F V) (fs : List (Frame F)) (us units : List ℕ) → R q fs us [] → R q fs (us ++ units) units
  items_go_on q fs us units h = record {
    come = h.come;
    between_is = h.between_is;
    some = h.some;
    stands = λ more.
        (let a = ahead q.fragments in
        let es = map seen q.elements.items in
        let one : Stands c L T q.left a es (us ++ (units ++ more)) (h.come ++ (units ++ more)) = subst (λ (xs : List ℕ). Stands c L T q.left a es (us ++ (units ++ more)) (xs ++ (units ++ more))) (append-nil h.come) (h.stands (units ++ more)) in
        let two : Stands c L T q.left a es ((us ++ units) ++ more) (h.come ++ (units ++ more)) = subst (λ (xs : List ℕ). Stands c L T q.left a es xs (h.come ++ (units ++ more))) (sym (append_assoc us units more)) one in
        subst (λ (xs : List ℕ). Stands c L T q.left a es ((us ++ units) ++ more) xs) (sym (append_assoc h.come units more)) two);
    light = λ w k f g.
        (let before : total w (map seen q.elements.items) + k * length h.come ≤ k * length us = subst (λ (xs : List ℕ). total w (map seen q.elements.items) + k * length xs ≤ k * length us) (append-nil h.come) (h.light w k f g) in
        longer k (total w (map seen q.elements.items)) h.come us units before);
    inner = h.inner;
  }

  -- ---- what stands before them has been read

  pub items_start : (q : Elements F V) (fs : List (Frame F)) (vs : List A) (us r : List ℕ) → SomeAhead (ahead q.fragments) → ((more : List ℕ) → Going c L T (us ++ more) (ahead q.fragments) vs (r ++ more))
      → Spells c.ruling.fielding S vs us r → q.left ≡ 0 → map seen q.elements.items ≡ vs → q.next_part ≡ [] → between q.fragments → fs ≡ [] → R q fs us r
  items_start q fs vs us r some_ahead stands sp el ei eh b ef = record {
    come = [];
    between_is = b;
    some = some_ahead;
    stands = λ more. rw (el, ei) (stands more);
    light = λ w k f g. rw ei (spells_weigh c.ruling.fielding S (total w) k f vs us r sp);
    inner = rw (el, ef) (part_begins 0 q.next_part (ahead q.fragments) eh);
  }
