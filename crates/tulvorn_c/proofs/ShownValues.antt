-- The machine value of a `Shown`, what it owns, which can be had twice, and so how a `&` to one is read. Assumes `Logic`.
use Rattle.std.proofs.Common.{◌≡◌, ℕ, List, [], ◌∷◌, refl}
use lib.Dec.{T}
use seplogic.Ra.Ura.{Ura}
use mir.Val.{Val, vstruct, vcons, vnil, has_ty, WT}
use base.Fml.{Fml, feq}
use base.Logic.{ent, sep, via, fst∗, never}
use types.Logic.{Logic, sem}
use types.Kit.{Item, Goal, Seq, ‵, ◌⊛◌, ◌$◌, !, qed, move, drop, use1, split, fsplit, fjoin, fpick, feq_l, done}
use denote.RattleType.{RattleType}
use denote.Laws.{Copy}
use denote.Copied.{whole-copied}
use denote.Opens.{Opens}
use denote.Param.{layout}
use denote.Memory.{shared_of}
use denote.RawPtr.{Ptr, block_ptr, null_ptr, ptr_val, in_a_block, Testable, rawptr_copy}
use denote.Sharing.{ShrLaws, said, held}
use denote.SharingLaws.{contraction, said_shr_laws, beside_shr_laws, held_shr_laws}
use denote.Struct.Lending.{lent_at, lent_at_shr_laws}
use denote.Struct.Owning.{shape, to}
use denote.Struct.Struct.{Struct, struct_copy}
use Rattle.core.proofs.atomic.Steps.{Ptr-Good}
use Rattle.std_alloc.proofs.ResultValues.{and_tt}
use Rattle.std.specs.declared.option.Option.{Option}
use Rattle.std.specs.declared.option.Option.TheVariants.{None, Some}
use Rattle.tulvorn_c.specs.contracts.object.Object as object
use Rattle.tulvorn_c.proofs.object.Object.TheLaws.{the_row_laws}
use Rattle.tulvorn_c.specs.contracts.shown.Shown as shown
use Rattle.tulvorn_c.proofs.shown.Shown.TheLaws.{lowered, lowers}
use Rattle.tulvorn_c.specs.Kept.{shows, testable}

abbrev pub R : RattleType
R = object.the_row

abbrev pub Lent : RattleType
Lent = shown.the_row

abbrev pub word : Ptr → Val
word p = vstruct (vcons (ptr_val p) vnil)

pub good : (p : Ptr) → T (has_ty (layout Lent) (word p)) × WT (word p)
good p = (and_tt _ (Ptr-Good p).0, ((Ptr-Good p).1, tt))

pub shows_laws : (p : Ptr) (o : Option R.Denot) → ShrLaws (λ κ. shows R p o)
shows_laws p None = said_shr_laws (feq Ptr p null_ptr) tt
shows_laws p (Some x) =
    beside_shr_laws (held [] (lent_at R p x)) (said (testable p)) (held_shr_laws [] (lent_at R p x) (lent_at_shr_laws R the_row_laws.shr_laws p x)) (said_shr_laws (testable p) (λ t. tt))

module _ {M : Type 1} {𝓤 : Ura M} (𝓛 : Logic 𝓤) where
  shows_twice : (p : Ptr) (o : Option R.Denot) → ent 𝓤 (sem 𝓛 (shows R p o)) (sep 𝓤 (sem 𝓛 (shows R p o)) (sem 𝓛 (shows R p o)))
  shows_twice p o = contraction 𝓛 (λ κ. shows R p o) (shows_laws p o) []

  pub lent_twice : Copy 𝓛 Lent
  lent_twice = record {
    twice = λ d vs. let S : Fml = (Struct (shape shown.the_type)).own_val (to shown.the_type d) vs in let H : Fml = shows R d.at d.kept in
        qed 𝓛 (‵ (Lent.own_val d vs) ∷ []) {P = sep 𝓤 (sem 𝓛 (Lent.own_val d vs)) (sem 𝓛 (Lent.own_val d vs))} (
        fsplit ! $ use1 𝓛 (‵ S ⊛ ‵ S) ((struct_copy 𝓛 (shape shown.the_type) (rawptr_copy 𝓛, tt)).twice (to shown.the_type d) vs) $ split ! $ move ! (2 ∷ []) $
        use1 𝓛 (‵ H ⊛ ‵ H) (shows_twice d.at d.kept) $ split ! $ move ! (2 ∷ 0 ∷ []) $ fjoin ! $ move ! (2 ∷ 1 ∷ []) $ fjoin ! $ done !);
  }

  pub lent_opens : Opens 𝓛 Lent
  lent_opens = (whole-copied 𝓛 Lent (λ h b o. refl) lowered lowers.val_is lent_twice).opens

module _ {M : Type 1} {𝓤 : Ura M} {𝓛 : Logic 𝓤} {K : Type 0} {Γ : List (Item 𝓤)} {G : Goal 𝓤 𝓛.H} where
  -- at null there is nothing, and else the value that is lent
  pub lent_out : K → (p : Ptr) (o : Option R.Denot) → (p ≡ null_ptr → o ≡ None → Seq K 𝓛 Γ G)
      → ((b c : ℕ) (x : R.Denot) → p ≡ block_ptr b c → o ≡ Some x → Testable (block_ptr b c) → Seq K 𝓛 (‵ (shared_of R x b c []) ∷ Γ) G) → Seq K 𝓛 (‵ (shows R p o) ∷ Γ) G
  lent_out t p None none one = feq_l t (λ e. none e refl)
  lent_out t p (Some x) none one =
      in_a_block t p (λ q. shows R q (Some x)) (via 𝓤 (sem 𝓛 (lent_at R null_ptr x [])) (fst∗ 𝓤 (sem 𝓛 (lent_at R null_ptr x [])) (sem 𝓛 (testable null_ptr))) (fst∗ 𝓤 (never 𝓤) (sem 𝓛 (shared_of R x 0 0 [])))) (λ b c e.
      fsplit t $ move t (1 ∷ []) $ fpick t (λ s. drop t $ fsplit t $ drop t $ one b c x e refl s))
