-- The machine value of a `Handle`, and what it owns. Assumes `Logic`.
use Rattle.std.proofs.Common.{◌≡◌, ℕ, List, [], ◌∷◌, ◌++◌, refl, subst}
use lib.Dec.{T}
use seplogic.Ra.Ura.{Ura}
use mir.Syntax.{impl, tnil, dnil}
use mir.Raw.{raw as bare}
use mir.Val.{Val, vstruct, of_list, has_ty, WT}
use base.Fraction.{full_share}
use base.Fml.{Fml}
use base.Logic.{ent, guard, via, snd∗, fst∗, never, guard_i}
use types.Logic.{Logic, sem}
use types.Kit.{Item, Goal, Seq, Step, step, ‵, given, ◌$◌, move, drop, fsplit, fjoin, fpick, fpack, feq_i, feq_l, use1, learn}
use contract.Monad.{fact_use}
use denote.RattleType.{RattleType, Valss}
use denote.Builtin.{RawPtr}
use denote.Memory.{lone}
use denote.RawPtr.{Ptr, block_ptr, null_ptr, ptr_val, in_a_block, lies_at, Testable}
use denote.Steps.{nothing}
use denote.Param.{layout}
use denote.Struct.Struct.{within}
use denote.Struct.Owning.{shape}
use Rattle.core.proofs.alloc.Calls.{Al, handle_tells}
use Rattle.core.proofs.atomic.Steps.{Ptr-Good}
use Rattle.core.proofs.cell.Inside.{Good}
use Rattle.std.specs.declared.alloc.Global.{Global}
use Rattle.std.specs.contracts.alloc.Global as heap
use Rattle.std.proofs.alloc.Global.TheLaws as heap_laws
use Rattle.std.specs.contracts.impls.GlobalAllocator.TheImpl.{ghosts}
use Rattle.std.proofs.GlobalToken.{dealloc_token-Testable}
use Rattle.std_alloc.specs.Box.Ownership.{box_owns}
use Rattle.std_alloc.proofs.ResultValues.{and_tt}
use Rattle.std.specs.declared.option.Option.{Option}
use Rattle.std.specs.declared.option.Option.TheVariants.{None, Some}
use Rattle.tulvorn_c.specs.contracts.object.Object as object
use Rattle.tulvorn_c.proofs.LooseValues.{both}
use Rattle.tulvorn_c.specs.Kept.{keeps}
use Rattle.tulvorn_c.specs.contracts.handle.Handle as handle

-- the value's type, the allocator's and the handle's
abbrev pub R : RattleType
R = object.the_row

abbrev pub Z : RattleType
Z = heap.the_row

abbrev pub Held : RattleType
Held = handle.the_row

abbrev pub al : Al
al = record { row = Z; laws = heap_laws.the_row_laws; g = ghosts; d = impl [] tnil dnil; drops = impl [] tnil dnil }

pub good : (p : Ptr) (h : Val) → Good (layout Z) h → T (has_ty (layout Held) (both (ptr_val p) h)) × WT (both (ptr_val p) h)
good (block_ptr b o) h fits = (and_tt (has_ty (layout Z) h) fits.0, (tt, (fits.1, tt)))
good null_ptr h fits = (and_tt (has_ty (layout Z) h) fits.0, ((Ptr-Good null_ptr).1, (fits.1, tt)))

abbrev pub boxed : Global → Ptr → R.Denot → Fml
boxed a p x = box_owns (ghosts.dealloc_token a) R p x

module _ {M : Type 1} {𝓤 : Ura M} (𝓛 : Logic 𝓤) where
  -- a pointer that may be freed is the start of its block
  tested : (a : Global) (p : Ptr) (x : R.Denot) → ent 𝓤 (sem 𝓛 (boxed a p x)) (guard 𝓤 (Testable p) (sem 𝓛 (boxed a p x)))
  tested a p x =
      let B = sem 𝓛 (boxed a p x) in
      fact_use 𝓤 (Testable p) (via 𝓤 _ (snd∗ 𝓤 (sem 𝓛 (lies_at R full_share p x)) (sem 𝓛 (ghosts.dealloc_token a (bare (lone R.mir)) p))) (dealloc_token-Testable 𝓛 a (bare (lone R.mir)) p)) (guard_i 𝓤 (Testable p) B)

module _ {M : Type 1} {𝓤 : Ura M} {𝓛 : Logic 𝓤} {K : Type 0} {Γ : List (Item 𝓤)} {G : Goal 𝓤 𝓛.H} where
  either : K → (a : Global) (p : Ptr) (o : Option R.Denot) → (p ≡ null_ptr → o ≡ None → Seq K 𝓛 Γ G)
      → ((b o' : ℕ) (x : R.Denot) → p ≡ block_ptr b o' → o ≡ Some x → Testable (block_ptr b o') → Seq K 𝓛 (‵ (boxed a (block_ptr b o') x) ∷ Γ) G) → Seq K 𝓛 (‵ (keeps R a p o) ∷ Γ) G
  either t a p None none one = feq_l t (λ e. none e refl)
  either t a p (Some x) none one =
      in_a_block t p (λ q.
      boxed a q x) (fst∗ 𝓤 (never 𝓤) (sem 𝓛 (ghosts.dealloc_token a (bare (lone R.mir)) null_ptr))) (λ b o' e.
      use1 𝓛 (given (Testable (block_ptr b o')) (‵ (boxed a (block_ptr b o') x))) (tested 𝓛 a (block_ptr b o') x) $ learn t (λ s. one b o' x e refl s))

module _ {M : Type 1} {𝓤 : Ura M} {𝓛 : Logic 𝓤} {K : Type 0} {Γ : List (Item 𝓤)} {G : Goal 𝓤 𝓛.H} where
  -- a handle is nothing at null, or a box's value
  pub held_out : K → (d : Held.Denot) (vs : List Val)
      → ((h : Val) → d.kept ≡ None → vs ≡ both (ptr_val null_ptr) h ∷ [] → Good (layout Z) h → Seq K 𝓛 (‵ (Z.own_val d.alloc (h ∷ [])) ∷ Γ) G)
      → ((b o : ℕ) (h : Val) (x : R.Denot) → d.kept ≡ Some x → Testable (block_ptr b o) → vs ≡ both (ptr_val (block_ptr b o)) h ∷ [] → Good (layout Z) h
      → Seq K 𝓛 (‵ (boxed d.alloc (block_ptr b o) x) ∷ ‵ (Z.own_val d.alloc (h ∷ [])) ∷ Γ) G)
      → Seq K 𝓛 (‵ (Held.own_val d vs) ∷ Γ) G
  held_out t d vs none one =
      fsplit t $ fpick t (λ vss. fsplit t $ feq_l t (λ ev. fsplit t $ feq_l t (λ ep. fsplit t $
      handle_tells al t d.alloc vss.1.0 (λ h ea fits. move t (1 ∷ []) $ drop t $ move t (1 ∷ []) $
      let words : (p : Ptr) → d.at ≡ p → vs ≡ both (ptr_val p) h ∷ [] = λ p e. subst (λ (q : Ptr).
      vs ≡ vstruct (of_list (ptr_val q ∷ h ∷ [])) ∷ []) e
      (subst (λ (ws : List Val).
      vs ≡ vstruct (of_list (ptr_val d.at ∷ (ws ++ []))) ∷ []) ea (subst (λ (ps : List Val).
      vs ≡ vstruct (of_list (ps ++ (vss.1.0 ++ []))) ∷ []) ep ev)) in
      either t d.alloc d.at d.kept (λ e k. none h k (words null_ptr e) fits) (λ b o x e k s.
      one b o h x k s (words (block_ptr b o) e) fits)))))

  pub held_in : K → (p : Ptr) (h : Val) (a : Global) (o : Option R.Denot)
      → Step K 𝓛 (‵ (Held.own_val (record { at = p; alloc = a; kept = o }) (both (ptr_val p) h ∷ [])) ∷ Γ) G (‵ (keeps R a p o) ∷ ‵ (Z.own_val a (h ∷ [])) ∷ Γ) G
  held_in t p h a o = step (λ s. let v : Val = both (ptr_val p) h in
      nothing t $ move t (2 ∷ 0 ∷ []) $ fjoin t $ feq_i t (List Val) (ptr_val p ∷ []) (ptr_val p ∷ []) refl $
      fjoin t $ feq_i t (List Val) (v ∷ []) (v ∷ []) refl $ fjoin t $
      fpack t (Valss (RawPtr ∷ Z ∷ [])) (within (shape handle.the_type) (p, (heap.the_field.into a, tt)) (v ∷ [])) (ptr_val p ∷ [], (h ∷ [], tt)) $ fjoin t $ s)
