-- What breaks somewhere does not meet, and what meets in few contents meets in more.
use Rattle.std.proofs.Common.{◌≡◌, ◌<◌, ◌+◌, ℕ, zero, suc, List, [], ◌∷◌, length, Option, Some, None, subst, refl, arith}
use Rattle.std.specs.List.{AllByRecursion, Contains, slice_index_or}
use Rattle.asn_values.specs.Datum.{Datum}
use Rattle.asn_rules.specs.Answer.{Ruling}
use Rattle.asn_contents.specs.Contents.{Contents, Content, places_in}
use Rattle.asn_containing.specs.declared.broken.ContentsReason.{ContentsReason}
use Rattle.asn_containing.specs.declared.broken.ContentsReason.TheVariants as reason
use Rattle.asn_containing.specs.Containing.{TableType, type_in, IsContent, AllMeet, HoldsValue, Within, MeetWithin}
use Rattle.asn_containing.specs.View.{Place}
use Rattle.asn_containing.specs.Judged.{NotContent, BreaksAt, itself, inside, Breaks}

-- what all elements meet each meets
element_meets : {X : Type 0} (P : X → Type 0) (xs : List X) (k : ℕ) (x : X) → k < length xs → slice_index_or xs k x ≡ x → AllByRecursion P xs → P x
element_meets P [] k x h e all = absurd (omega arith)
element_meets P (y ∷ xs) zero x h e all = subst P e all.0
element_meets P (y ∷ xs) (suc k) x h e all = element_meets P xs k x (omega arith) e all.1

contained_meets : {X : Type 0} (P : X → Type 0) (xs : List X) (x : X) → Contains xs x → AllByRecursion P xs → P x
contained_meets P xs x c all = element_meets P xs c.0 x c.1 c.2 all

weaker : {X : Type 0} (P Q : X → Type 0) → ((x : X) → P x → Q x) → (xs : List X) → AllByRecursion P xs → AllByRecursion Q xs
weaker P Q f [] all = tt
weaker P Q f (x ∷ xs) all = (f x all.0, weaker P Q f xs all.1)

module _ (r : Ruling) (T : List TableType) where
  none_within : (k : Option ℕ) (os : List ℕ) → Within r T zero k os → ⊥
  unfolding Within
  none_within k os h = h

  within_holds : (n : ℕ) (k : Option ℕ) (os : List ℕ) → Within r T (suc n) k os → HoldsValue r (Within r T n) (type_in T k) os
  unfolding Within
  within_holds n k os h = h

  pub holds_within : (n : ℕ) (k : Option ℕ) (os : List ℕ) → HoldsValue r (Within r T n) (type_in T k) os → Within r T (suc n) k os
  unfolding Within
  holds_within n k os h = h

  -- ---- more levels

  holds_more : (P Q : Option ℕ → List ℕ → Type 0) → ((k : Option ℕ) (os : List ℕ) → P k os → Q k os) → (e : Option TableType) (os : List ℕ) → HoldsValue r P e os → HoldsValue r Q e os
  holds_more P Q f None os v = v
  holds_more P Q f (Some e) os v = (v.0, v.1, weaker (λ x. P x.type x.octets) (λ x. Q x.type x.octets) (λ x. f x.type x.octets) (places_in e.contents [] v.0) v.2)

  pub more_levels : (n more : ℕ) (k : Option ℕ) (os : List ℕ) → Within r T n k os → Within r T (n + more) k os
  more_levels zero more k os h = absurd (none_within k os h)
  more_levels (suc n) more k os h =
      let e : suc n + more ≡ suc (n + more) = omega arith in
      rw e (holds_within (n + more) k os (holds_more (Within r T n) (Within r T (n + more)) (more_levels n more) (type_in T k) os (within_holds n k os h)))

  pub more_levels_meet : (c : Contents) (d : Datum) (n more : ℕ) → MeetWithin r T n c d → MeetWithin r T (n + more) c d
  more_levels_meet c d n more all =
      weaker (λ x. Within r T n x.type x.octets) (λ x. Within r T (n + more) x.type x.octets) (λ x. more_levels n more x.type x.octets) (places_in c [] d) all

  -- ---- what breaks

  no_type : (n : ℕ) (k : Option ℕ) (os : List ℕ) → type_in T k ≡ None → Within r T n k os → ⊥
  no_type zero k os e h = none_within k os h
  no_type (suc n) k os e h = subst (λ t. HoldsValue r (Within r T n) t os) e (within_holds n k os h)

  no_value : (n : ℕ) (k : Option ℕ) (os : List ℕ) (e : TableType) → type_in T k ≡ Some e → ((d : Datum) → IsContent r e d os → ⊥) → Within r T n k os → ⊥
  no_value zero k os e is none h = none_within k os h
  no_value (suc n) k os e is none h =
      let held : HoldsValue r (Within r T n) (Some e) os = subst (λ t. HoldsValue r (Within r T n) t os) is (within_holds n k os h) in
      none held.0 held.1

  -- octets that are no content, in however many contents unless they lie too deep
  not_content : (n m : ℕ) (x : Content) (why : ContentsReason) → NotContent r T n x why → (why ≡ reason.TooDeep → m ≡ n) → Within r T m x.type x.octets → ⊥
  not_content n m x reason.TooDeep h same w = let z : m ≡ zero = omega (arith, same refl, h) in none_within x.type x.octets (subst (λ l. Within r T l x.type x.octets) z w)
  not_content n m x reason.NoType h same w = no_type m x.type x.octets h w
  not_content n m x (reason.Octets fault) h same w = no_value m x.type x.octets h.0 h.1 h.2.1 w

  -- so of octets in the value of octets
  pub broken_not_within : (n m : ℕ) (x : Content) (ps : List Place) (why : ContentsReason) → BreaksAt r T n x ps why → (why ≡ reason.TooDeep → m ≡ n) → Within r T m x.type x.octets → ⊥
  broken_not_within _ m _ _ _ (itself n x why h) same w = not_content n m x why h same w
  broken_not_within _ zero _ _ _ (inside n x y e v ps why is only there h) same w = none_within x.type x.octets w
  broken_not_within _ (suc m) _ _ _ (inside n x y e v ps why is only there h) same w =
      let held : HoldsValue r (Within r T m) (Some e) x.octets = subst (λ t. HoldsValue r (Within r T m) t x.octets) is (within_holds m x.type x.octets w) in
      let here : AllMeet (Within r T m) (places_in e.contents [] v) = subst (λ d. AllMeet (Within r T m) (places_in e.contents [] d)) (only.1 held.0 held.1) held.2 in
      let deeper : why ≡ reason.TooDeep → m ≡ n = λ e. omega (arith, same e) in
      broken_not_within n m y ps why h deeper (contained_meets (λ z. Within r T m z.type z.octets) (places_in e.contents [] v) y there here)

  pub broken_not_met : (n m : ℕ) (c : Contents) (d : Datum) (ps : List Place) (why : ContentsReason) → Breaks r T n c d ps why → (why ≡ reason.TooDeep → m ≡ n) → MeetWithin r T m c d → ⊥
  broken_not_met n m c d ps why b same all =
      broken_not_within n m b.0 ps why b.2 same (contained_meets (λ z. Within r T m z.type z.octets) (places_in c [] d) b.0 b.1 all)
