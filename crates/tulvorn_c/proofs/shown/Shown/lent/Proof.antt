-- `lent` follows the pointer: at null there is nothing, and else the object that is lent.
use Rattle.std.proofs.Common.{List, [], ◌∷◌, refl, lit<}
use mir.Syntax.{named}
use mir.Val.{Val, vptr, vcons, vnil}
use base.Fml.{ftrue, flft}
use prog.Wp.{WpFn}
use contract.BorrowLft.{⊑_static}
use contract.Running.{tables}
use types.Kit.{‵, ◌⊛◌, prop, at_ret, ◌$◌, ◌∵◌, !, qed, move, keep, drop, use0, use1, split, join, fsplit, fjoin, feq_i, regoal, suffices, frame, done}
use types.Match.{live}
use types.Run.{stop, fld, lit, of_opd, bin, addr, no_more, and_then, first, blocks, branches, skips, exec, returns, returns_within, enter}
use types.ByLocal.{alloc_all, pass_all, free_all, look_at, get, get_in, through, sets, sets_last, env}
use types.Part.{agg, sub, whole}
use denote.Exit.{yes}
use denote.Memory.{shared_of}
use denote.Opens.{hide}
use denote.RattleType.{RattleType}
use denote.RawPtr.{Ptr, block_ptr, null_ptr, tests_null}
use denote.Ref.{Bor, ShrRef}
use denote.SharingLaws.{shortens}
use denote.Signature.{plain, type_at}
use denote.Steps.{nothing}
use denote.Triple.Walked.{Stays, walk_of, says, stay_dropped, ends_at}
use Rattle.core.proofs.alloc.Calls.{Goes-blank}
use Rattle.core.proofs.alloc.Shapes.{after}
use Rattle.core.proofs.atomic.Steps.{Ptr-Good}
use Rattle.core.proofs.option.Made.{Some-of, none_of}
use Rattle.std.proofs.raw_atomic.Walks.{proved}
use Rattle.std.specs.declared.option.Option.TheVariants.{None, Some}
use Rattle.tulvorn_c.proofs.ShownValues.{R, Lent, word, good, lent_out}
use Rattle.tulvorn_c.proofs.object.Object.TheLaws.{the_row_laws}
use Rattle.tulvorn_c.proofs.shown.Shown.TheLaws.{lowers}
use Rattle.tulvorn_c.specs.contracts.shown.Shown.lent as f
use Rattle.tulvorn_c.proofs.shown.Shown.lent.Statement.{statement}
use Rattle.tulvorn_c.proofs.shown.Shown.lent.Code as code

abbrev stayed : Stays f.ended.signature.params f.ended.kept
stayed = (stay_dropped (plain (λ _. Lent)) yes, tt)

pub lent_spec : {M : Type 1} → statement M
lent_spec 𝓤 𝓛 𝓜 𝓡 wired =
    let H = 𝓛.H in let 𝓣 = tables 𝓤 H 𝓜 𝓡 𝓡.env in let c = f.clauses 𝓛 𝓜.mem 𝓡.returns in let W = walk_of 𝓛 f.ended stayed c in
    proved 𝓛 f.ended stayed c 𝓜 𝓡 (Goes-blank 𝓛 1 (plain (λ _. Lent)) yes (λ κs x w. tt), tt)
    f.Key.name code.function (code.unfolded 𝓤 H 𝓜 𝓡 wired)
    (λ κs. ((λ d. word d.at ∷ []), tt)) (λ κs. (lowers.val_is, tt)) (λ κs qs bounds a _ are.
    let κ = κs.0 in let q = qs.0 in let d = a.0 in let Ref : RattleType = ShrRef (named 0) κ R in
    let Out : RattleType = type_at f.signature.result κs in
    let y : Ptr → W.Ghost = λ p. ((κs, qs, bounds, a, (word p ∷ [], tt)), tt) in
    qed 𝓛 (((‵ (flft κ q) ⊛ ‵ ftrue) ⊛ ‵ (Lent.own_val d (word d.at ∷ [])) ⊛ ‵ ftrue) ∷ ‵ ftrue ∷ []) ∵
    split ! $ split ! $ move ! (2 ∷ []) $ split ! $ keep ! (0 ∷ 2 ∷ []) $ fsplit ! $ drop ! $
    lent_out ! d.at d.kept
    (λ e k. regoal ! (λ (p : Ptr). prop (WpFn 𝓤 H 𝓣.C 𝓣.Λ code.function (word p ∷ []) (W.post (y p)))) e refl $
    enter ! _ _ _ _ _ $ alloc_all ! (λ l. pass_all ! refl (good null_ptr, tt) $
    sets ! (of_opd ! (get_in ! (fld ! refl (stop !)) (sub ! 0 refl (whole !)))) refl (Ptr-Good null_ptr) $
    sets ! (bin ! (get ! refl) (lit ! tt) tt) refl (tt, tt) $ first ! $ branches ! (get ! refl)
    (λ _. sets ! (agg ! (and_then ! (lit ! tt) (no_more !))) refl (tt, (record { fits = lit< tt }, tt)) $
    returns_within ! (W.post (y null_ptr)) refl (look_at ! 0 refl) $ free_all ! refl $
    use0 𝓛 (‵ (Out.own_val None (live 0 vnil ∷ []))) (none_of 𝓛 Ref) $
    suffices ! _ (ends_at 𝓛 f.ended stayed c (y null_ptr) (live 0 vnil) None (tt, tt) (tt, tt)) $ says ! k $
    nothing ! $ move ! (2 ∷ 0 ∷ []) $ join ! $ frame ! $ nothing ! $ nothing ! $ fjoin ! $ done !)
    (λ wrong. absurd wrong)))
    (λ b o x e k s. let v : Val = vptr b o in let w₁ : Val = live 1 (vcons v vnil) in let r : Bor R.Denot = record { ref_ptr = (b, o); now = x } in
    regoal ! (λ (p : Ptr). prop (WpFn 𝓤 H 𝓣.C 𝓣.Λ code.function (word p ∷ []) (W.post (y p)))) e refl $
    enter ! _ _ _ _ _ $ alloc_all ! (λ l. pass_all ! refl (good (block_ptr b o), tt) $
    use1 𝓛 (‵ (shared_of R x b o κ)) (shortens 𝓛 (shared_of R x b o) (the_row_laws.shr_laws x b o) [] κ (⊑_static κ)) $ hide ! $
    feq_i ! (List Val) (v ∷ []) (v ∷ []) refl $ fjoin ! $
    use1 𝓛 (‵ (Out.own_val (Some r) (w₁ ∷ []))) (Some-of 𝓛 Ref r v) $
    sets ! (of_opd ! (get_in ! (fld ! refl (stop !)) (sub ! 0 refl (whole !)))) refl (tt, tt) $
    sets ! (bin ! (get ! refl) (lit ! tt) (tests_null (block_ptr b o) s)) refl (tt, tt) $ first ! $ branches ! (get ! refl)
    (λ wrong. absurd wrong)
    (λ _. skips ! $ exec ! 𝓣.C 𝓣.Λ (env code.function.locals l) (after 3 code.function.body) (at_ret (env code.function.locals l) (W.post (y (block_ptr b o)))) $
    first ! $ blocks ! $
    sets ! (of_opd ! (get ! refl)) refl (tt, tt) $
    sets ! (addr ! (through ! refl (stop !))) refl (tt, tt) $
    sets_last ! (agg ! (and_then ! (lit ! tt) (and_then ! (get ! refl) (no_more !)))) refl (tt, (record { fits = lit< tt }, (tt, tt))) $
    exec ! 𝓣.C 𝓣.Λ (env code.function.locals l) (after 4 code.function.body) (at_ret (env code.function.locals l) (W.post (y (block_ptr b o)))) $
    sets ! (of_opd ! (get ! refl)) refl (tt, (record { fits = lit< tt }, (tt, tt))) $
    returns ! (look_at ! 0 refl) $ free_all ! refl $
    suffices ! _ (ends_at 𝓛 f.ended stayed c (y (block_ptr b o)) w₁ (Some r) (tt, tt) (tt, tt)) $ says ! k $
    nothing ! $ move ! (2 ∷ 0 ∷ []) $ join ! $ frame ! $ nothing ! $ nothing ! $ fjoin ! $ done !))))
