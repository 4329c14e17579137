-- The spellings of a CHOICE in PER face each other, where those of its alternatives do.
use Rattle.std.proofs.Common.{◌≡◌, ◌≤◌, ◌<◌, ◌-◌, ℕ, Bool, true, false, List, [], ◌∷◌, ◌++◌, refl, sym, ◌∙◌, ap, subst, arith, append_assoc, nat_lt, MatchBool}
use Rattle.std.proofs.lemmas.Bool.{ltb-true, ltb-false}
use Rattle.std.proofs.lemmas.List.{append_cancel_left}
use Rattle.asn_values.specs.Datum.{Datum}
use Rattle.asn_values.specs.Shape.{Alternatives, MoreAlternatives, closed_choice, marked_choice, is_marked_choice, count}
use Rattle.asn_values.specs.Fits.{FitsAlternative, FitsMoreAlternatives}
use Rattle.asn_bits.specs.Numbers.{width}
use Rattle.asn_bits.proofs.Digits.{digits_code}
use Rattle.asn_bits.proofs.Widths.{width_fits}
use Rattle.asn_rules.specs.Chunks.{Chunk, ones}
use Rattle.asn_rules.specs.Components.{extension_bit}
use Rattle.asn_rules.proofs.Law.Facing.{Facing, facing_parts, plain_facing}
use Rattle.asn_per.specs.Per.{spelled, constrained, small, per_alternative, per_more}
use Rattle.asn_per.proofs.Law.Numbers.{small_code}

-- only a CHOICE with a mark has additions
marked_only : (more : MoreAlternatives) (t : ℕ) (d : Datum) → FitsMoreAlternatives more t d → is_marked_choice more ≡ true
marked_only closed_choice t d h = absurd h
marked_only (marked_choice alts) t d h = refl

-- 0 is not 1
zero_one : ◌≡◌ {A = ℕ} 0 1 → ⊥
zero_one h = omega arith

-- the bits of an alternative of the root and of an addition differ in the first
apart : (more : MoreAlternatives) (us ws r s : List ℕ) → is_marked_choice more ≡ true → (extension_bit (is_marked_choice more) false ++ us) ++ r ≡ (1 ∷ ws) ++ s → ⊥
apart more us ws r s m e = let f : 0 ∷ (us ++ r) ≡ 1 ∷ (ws ++ s) = ap (λ b. (extension_bit b false ++ us) ++ r) (sym m) ∙ e in zero_one (cc)

-- the spellings of the values of each number of alternative face each other
abbrev pub AreFacing : (ℕ → Datum → Type 0) → (ℕ → Datum → List Chunk) → Type 1
AreFacing P code = (E : Type 0) (t : ℕ) (x y : Datum) (r s : List Chunk) → P t x → P t y → (x ≡ y → Facing spelled E r s) → Facing spelled E (code t x ++ r) (code t y ++ s)

-- the spelling of a CHOICE, where i says that the alternative is one of the root
abbrev pub choice_chunks : Alternatives → MoreAlternatives → Bool → ℕ → Datum → List Chunk
choice_chunks root more i t v =
    elim i [
      | true ↦ ones (extension_bit (is_marked_choice more) false ++ constrained (count root) t) ++ per_alternative root t v
      | false ↦ ones (1 ∷ small (t - count root)) ++ per_more more (t - count root) v
    ]

module _ (E : Type 0) where
  -- two alternatives of the root
  root_facing : (root : Alternatives) (more : MoreAlternatives) → AreFacing (FitsAlternative root) (per_alternative root) → (t u : ℕ) (x y : Datum) (r s : List Chunk) → t < count root → u < count root
      → FitsAlternative root t x → FitsAlternative root u y → (t ≡ u → x ≡ y → Facing spelled E r s) → Facing spelled E (choice_chunks root more true t x ++ r) (choice_chunks root more true u y ++ s)
  root_facing root more hr t u x y r s ht hu p q next =
      let mark = extension_bit (is_marked_choice more) false in
      let n = count root in
      facing_parts spelled E (ones (mark ++ constrained n t)) (per_alternative root t x) r (ones (mark ++ constrained n u)) (per_alternative root u y) s
      (plain_facing spelled E (t ≡ u) (mark ++ constrained n t) (mark ++ constrained n u) _ _
      (λ a b e. (let w = digits_code 2 (omega arith) (width n) t u a b (width_fits n t ht) (width_fits n u hu) (append_cancel_left mark _ _ (sym (append_assoc mark (constrained n t) a) ∙ e ∙ append_assoc mark (constrained n u) b)) in
      (w.0, ap (λ k. mark ++ constrained n k) w.0)))
      (λ same. subst (λ k. Facing spelled E (per_alternative root t x ++ r) (per_alternative root k y ++ s)) same (hr E t x y r s p (subst (λ k. FitsAlternative root k y) (sym same) q) (next same))))

  -- two additions
  addition_facing : (root : Alternatives) (more : MoreAlternatives) → AreFacing (FitsMoreAlternatives more) (per_more more) → (t u : ℕ) (x y : Datum) (r s : List Chunk) → count root ≤ t → count root ≤ u
      → FitsMoreAlternatives more (t - count root) x → FitsMoreAlternatives more (u - count root) y → (t ≡ u → x ≡ y → Facing spelled E r s) → Facing spelled E (choice_chunks root more false t x ++ r) (choice_chunks root more false u y ++ s)
  addition_facing root more hm t u x y r s ht hu p q next =
      let j = t - count root in
      let k = u - count root in
      facing_parts spelled E (ones (1 ∷ small j)) (per_more more j x) r (ones (1 ∷ small k)) (per_more more k y) s
      (plain_facing spelled E (j ≡ k) (1 ∷ small j) (1 ∷ small k) _ _ (λ a b e. (let w = small_code j k a b (append_cancel_left (1 ∷ []) _ _ e) in (w.0, ap (λ i. 1 ∷ small i) w.0)))
      (λ same. (let e : t ≡ u = omega arith in
      subst (λ i. Facing spelled E (per_more more j x ++ r) (per_more more i y ++ s)) same (hm E j x y r s p (subst (λ i. FitsMoreAlternatives more i y) (sym same) q) (next e)))))

  -- an alternative of the root and an addition
  root_addition_facing : (root : Alternatives) (more : MoreAlternatives) (t u : ℕ) (x y : Datum) (r s : List Chunk) → FitsMoreAlternatives more (u - count root) y → Facing spelled E (choice_chunks root more true t x ++ r) (choice_chunks root more false u y ++ s)
  root_addition_facing root more t u x y r s q =
      let us = extension_bit (is_marked_choice more) false ++ constrained (count root) t in
      let ws = 1 ∷ small (u - count root) in
      facing_parts spelled E (ones us) (per_alternative root t x) r (ones ws) (per_more more (u - count root) y) s
      (plain_facing spelled E ⊥ us ws _ _ (λ a b e. absurd (apart more (constrained (count root) t) (small (u - count root)) a b (marked_only more (u - count root) y q) e)) (λ z. absurd z))

  -- an addition and an alternative of the root
  addition_root_facing : (root : Alternatives) (more : MoreAlternatives) (t u : ℕ) (x y : Datum) (r s : List Chunk) → FitsMoreAlternatives more (t - count root) x → Facing spelled E (choice_chunks root more false t x ++ r) (choice_chunks root more true u y ++ s)
  addition_root_facing root more t u x y r s q =
      let us = extension_bit (is_marked_choice more) false ++ constrained (count root) u in
      let ws = 1 ∷ small (t - count root) in
      facing_parts spelled E (ones ws) (per_more more (t - count root) x) r (ones us) (per_alternative root u y) s
      (plain_facing spelled E ⊥ ws us _ _ (λ a b e. absurd (apart more (constrained (count root) u) (small (t - count root)) b a (marked_only more (t - count root) x q) (sym e))) (λ z. absurd z))

  -- any two
  pub choice_facing : (root : Alternatives) (more : MoreAlternatives) → AreFacing (FitsAlternative root) (per_alternative root) → AreFacing (FitsMoreAlternatives more) (per_more more)
      → (t u : ℕ) (x y : Datum) (r s : List Chunk)
      → MatchBool (nat_lt t (count root)) (FitsAlternative root t x) (FitsMoreAlternatives more (t - count root) x)
      → MatchBool (nat_lt u (count root)) (FitsAlternative root u y) (FitsMoreAlternatives more (u - count root) y)
      → (t ≡ u → x ≡ y → Facing spelled E r s)
      → Facing spelled E (choice_chunks root more (nat_lt t (count root)) t x ++ r) (choice_chunks root more (nat_lt u (count root)) u y ++ s)
  choice_facing root more hr hm t u x y r s p q next = go (nat_lt t (count root)) (nat_lt u (count root)) refl refl p q
    where
      go : (i j : Bool) → nat_lt t (count root) ≡ i → nat_lt u (count root) ≡ j
          → MatchBool i (FitsAlternative root t x) (FitsMoreAlternatives more (t - count root) x)
          → MatchBool j (FitsAlternative root u y) (FitsMoreAlternatives more (u - count root) y)
          → Facing spelled E (choice_chunks root more i t x ++ r) (choice_chunks root more j u y ++ s)
      go true true ei ej p q = root_facing root more hr t u x y r s (ltb-true t (count root) ei) (ltb-true u (count root) ej) p q next
      go false false ei ej p q = addition_facing root more hm t u x y r s (ltb-false t (count root) ei) (ltb-false u (count root) ej) p q next
      go true false ei ej p q = root_addition_facing root more t u x y r s q
      go false true ei ej p q = addition_root_facing root more t u x y r s p
