-- `copy` reads the pointer through a `&`: what a handle owns that is only read can be had twice.
use Rattle.std.proofs.Common.{List, [], ◌∷◌, refl}
use mir.Syntax.{named}
use mir.Val.{Val}
use base.Fml.{ftrue, flft}
use types.Kit.{‵, ◌⊛◌, ◌$◌, ◌∵◌, !, qed, move, keep, drop, use1, split, join, fsplit, fjoin, feq_i, rewrite, suffices, frame, done}
use types.Run.{stop, fld, load, of_opd, no_more, and_then, returns, enter}
use types.ByLocal.{alloc_all, pass_all, free_all, look_at, get, through, sets}
use types.Part.{agg, look_in, sub, whole}
use denote.Exit.{yes}
use denote.Laws.{Is, shows}
use denote.Memory.{cell_at}
use denote.Ref.{ShrRef, shr_vals, shr_Tells}
use denote.Signature.{plain}
use denote.Steps.{looks, shuts, peeks, nothing}
use denote.Triple.Walked.{Stays, walk_of, says, stay_none_ref, Goes-none_ref, ends_at}
use Rattle.core.proofs.atomic.Steps.{Ptr-Good}
use Rattle.std.proofs.raw_atomic.Walks.{proved}
use Rattle.tulvorn_c.proofs.ShownValues.{Lent, word, good, lent_twice, lent_opens}
use Rattle.tulvorn_c.proofs.shown.Shown.TheLaws.{lowers}
use Rattle.tulvorn_c.specs.contracts.shown.Shown.copy as f
use Rattle.tulvorn_c.proofs.shown.Shown.copy.Statement.{statement}
use Rattle.tulvorn_c.proofs.shown.Shown.copy.Code as code

abbrev stayed : Stays f.ended.signature.params f.ended.kept
stayed = (stay_none_ref (0 ∷ []) tt (plain (λ _. Lent)) yes, tt)

pub copy_spec : {M : Type 1} → statement M
copy_spec 𝓤 𝓛 𝓜 𝓡 wired =
    let c = f.clauses 𝓛 𝓜.mem 𝓡.returns in let W = walk_of 𝓛 f.ended stayed c in
    proved 𝓛 f.ended stayed c 𝓜 𝓡 (Goes-none_ref 𝓛 1 (0 ∷ []) tt (plain (λ _. Lent)) yes, tt)
    f.Key.name code.function (code.unfolded 𝓤 𝓛.H 𝓜 𝓡 wired)
    (λ κs. (shr_vals, tt)) (λ κs. (shr_Tells (named 0) κs.0 Lent, tt)) (λ κs qs bounds a _ are.
    let κ = κs.0 in let q = qs.0 in let r = a.0 in let b = r.ref_ptr.0 in let o = r.ref_ptr.1 in let d = r.now in
    let y : W.Ghost = ((κs, qs, bounds, a, (shr_vals r, tt)), tt) in let v : Val = word d.at in
    qed 𝓛 (((‵ (flft κ q) ⊛ ‵ ftrue) ⊛ ‵ ((ShrRef (named 0) κ Lent).own_val r (shr_vals r)) ⊛ ‵ ftrue) ∷ ‵ ftrue ∷ []) ∵
    split ! $ split ! $ move ! (2 ∷ []) $ split ! $ keep ! (0 ∷ 2 ∷ []) $ fsplit ! $ drop ! $
    enter ! _ _ _ _ _ $ alloc_all ! (λ l. pass_all ! refl ((tt, tt), tt) $
    -- [what the `&` shows; its token]
    looks ! tt Lent (lent_opens 𝓛) d b o (λ q' vs. move ! (1 ∷ []) $ peeks ! Lent (Is Lent) (shows 𝓛 Lent) d vs (λ is.
    rewrite ! 0 (λ (ws : List Val). ‵ (Lent.own_val d ws)) (lowers.val_is d vs is) refl $
    rewrite ! 1 (λ (ws : List Val). ‵ (cell_at q' Lent.mir ws b o)) (lowers.val_is d vs is) refl $
    use1 𝓛 (‵ (Lent.own_val d (v ∷ [])) ⊛ ‵ (Lent.own_val d (v ∷ []))) ((lent_twice 𝓛).twice d (v ∷ [])) $ split ! $
    -- [what it owns, twice; its cell; the way back; what the `&` shows]
    sets ! (of_opd ! (load ! (through ! refl (fld ! refl (stop !))) (look_in ! 2 (sub ! 0 refl (whole !))))) refl (Ptr-Good d.at) $
    sets ! (agg ! (and_then ! (get ! refl) (no_more !))) refl (good d.at) $
    move ! (2 ∷ 0 ∷ 3 ∷ []) $ shuts ! tt Lent q' d (v ∷ []) b o $
    returns ! (look_at ! 0 refl) $ free_all ! refl $ keep ! (0 ∷ 2 ∷ 1 ∷ []) $
    suffices ! _ (ends_at 𝓛 f.ended stayed c y v d (tt, tt) (tt, tt)) $ says ! refl $
    nothing ! $ move ! (1 ∷ 0 ∷ []) $ join ! $ frame ! $
    feq_i ! (List Val) (shr_vals r) (shr_vals r) refl $ fjoin ! $ nothing ! $ move ! (1 ∷ 0 ∷ []) $ fjoin ! $ frame ! $ done !))))
