-- `into_detached` tests the pointer, and hands the engine out where one is there.
use Rattle.std.proofs.Common.{◌≡◌, List, [], ◌∷◌, ◌++◌, refl, sym, subst, lit<}
use mir.Val.{Val, vptr, vcons, vnil}
use base.Logic.{SProp, ent, emp, id⊢}
use prog.Wp.{WpFn}
use types.Kit.{at_ret, ‵, raw, ◌⊛◌, ◌$◌, ◌∵◌, !, qed, by, move, keep, drop, split, fsplit, fjoin, rewrite, suffices, use0, use1}
use types.Run.{stop, fld, lit, of_opd, bin, no_more, and_then, first, branches, exec, returns, enter}
use types.ByLocal.{alloc_all, pass_all, free_all, look_at, get, get_in, sets, sets_last, env}
use types.Match.{live}
use types.Part.{agg, sub, whole}
use contract.Monad.{fact, fact_i}
use contract.Running.{tables}
use denote.RattleType.{RattleType, owns}
use denote.RawPtr.{Ptr, block_ptr, null_ptr, tests_null}
use denote.Signature.{types_at, type_at, plain}
use denote.Param.{layout}
use denote.Steps.{nothing}
use denote.Exit.{yes}
use denote.Triple.Entry.{alive}
use denote.Triple.Walked.{Stays, stay_dropped, walk_of}
use Rattle.core.proofs.alloc.Calls.{Goes-blank}
use Rattle.core.proofs.alloc.Shapes.{after}
use Rattle.core.proofs.cell.Inside.{Good, one}
use Rattle.core.proofs.option.Made.{Some-of, none_of}
use Rattle.std_alloc.proofs.ResultValues.{and_tt}
use Rattle.std.specs.Option.{option_map}
use Rattle.std.specs.declared.option.Option.{Option}
use Rattle.std.specs.declared.option.Option.TheVariants.{None, Some}
use Rattle.std.specs.contracts.alloc.Global as global
use Rattle.std.proofs.alloc.Global.TheLaws as global_laws
use Rattle.std.specs.contracts.impls.GlobalAllocator.TheImpl.{ghosts}
use Rattle.std.proofs.raw_atomic.Walks.{proved_at, leaves}
use Rattle.lp_c.specs.contracts.session.Session.{the_row as R}
use Rattle.lp_c.proofs.Parts.{two, D, two_good, together}
use Rattle.lp_c.proofs.SlotSteps.{S, word, slot_out, slot_cases}
use Rattle.lp_c.specs.contracts.slot.Slot.into_detached.{ended, clauses}
use Rattle.lp_c.specs.contracts.slot.Slot.into_detached.Key.{name as #self}
use Rattle.lp_c.proofs.slot.Slot.into_detached.Statement.{statement}
use Rattle.lp_c.proofs.slot.Slot.into_detached.Code as code

pub into_detached_spec : {M : Type 1} → statement M
into_detached_spec 𝓤 𝓛 𝓜 𝓡 wired =
    let H = 𝓛.H in let 𝓣 = tables 𝓤 H 𝓜 𝓡 𝓡.env in let c = clauses 𝓛 𝓜.mem 𝓡.returns in let fn = code.function in
    let Z : RattleType = global.the_row in let LZ = global_laws.the_row_laws in let L : RattleType = D R Z LZ ghosts in
    let hs : Stays ended.signature.params ended.kept = (stay_dropped (plain (λ _. S)) yes, (stay_dropped (plain (λ _. Z)) yes, tt)) in
    proved_at 𝓛 ended hs c 𝓜 𝓡 (Goes-blank 𝓛 0 (plain (λ _. S)) yes (λ κs x f. tt), (Goes-blank 𝓛 0 (plain (λ _. Z)) yes (λ κs x f. tt), tt)) #self fn (code.unfolded 𝓤 H 𝓜 𝓡 wired) (λ z are.
    let Post : Val → SProp 𝓤 = (walk_of 𝓛 ended hs c).post z in let Run : List Val → SProp 𝓤 = λ ws. WpFn 𝓤 H 𝓣.C 𝓣.Λ fn ws Post in
    let Out : RattleType = type_at ended.signature.result z.0.0 in let s = z.0.3.0 in let a = z.0.3.1.0 in
    let h = one (layout Z) z.0.4.1.0 ((LZ.lawful 𝓛).typed a z.0.4.1.0 are.1.0) in
    let Told : Option L.Denot → Type 0 = λ r. option_map (λ (l : L.Denot). l.value) r ≡ s.held in
    qed 𝓛 ((raw (alive 𝓛 ended.signature z.0.0 z.0.1) ⊛ ‵ (owns (types_at ended.signature.params z.0.0) z.0.3 z.0.4)) ∷ raw ((c z.0.0 z.0.3).requires z.1) ∷ []) ∵
    move ! (1 ∷ []) $ drop ! $ split ! $ move ! (1 ∷ []) $ fsplit ! $ move ! (1 ∷ []) $ fsplit ! $
    rewrite ! 0 (λ (us : List Val). ‵ (Z.own_val a us)) h.1 refl $ move ! (2 ∷ 0 ∷ []) $
    -- [the slot; the handle; nothing; the tokens]
    slot_out ! s z.0.4.0 (λ ws.
    suffices ! (Run (word s.at ∷ h.0 ∷ [])) (subst (λ (us : List Val). ent 𝓤 (Run (word s.at ∷ h.0 ∷ [])) (Run us)) (sym (λ i. ws i ++ (h.1 i ++ []))) (id⊢ 𝓤 (Run (word s.at ∷ h.0 ∷ [])))) $
    slot_cases ! s.at s.held
    (λ is none.
    suffices ! (Run (word null_ptr ∷ h.0 ∷ [])) (subst (λ (p : Ptr). ent 𝓤 (Run (word null_ptr ∷ h.0 ∷ [])) (Run (word p ∷ h.0 ∷ []))) (sym is) (id⊢ 𝓤 (Run (word null_ptr ∷ h.0 ∷ [])))) $
    enter ! 𝓣.C 𝓣.Λ fn (word null_ptr ∷ h.0 ∷ []) Post $ alloc_all ! (λ l. pass_all ! refl ((tt, (record { fits = lit< tt }, tt)), (h.2, tt)) $ let Ev = env fn.locals l in
    sets ! (of_opd ! (get_in ! (fld ! refl (stop !)) (sub ! 0 refl (whole !)))) refl (tt, record { fits = lit< tt }) $
    sets ! (bin ! (get ! refl) (lit ! tt) tt) refl (tt, tt) $ first ! $ branches ! (get ! refl)
    (λ _. sets_last ! (agg ! (and_then ! (lit ! tt) (no_more !))) refl (tt, (record { fits = lit< tt }, tt)) $
    exec ! 𝓣.C 𝓣.Λ Ev (after 3 fn.body) (at_ret Ev Post) $ sets ! (of_opd ! (get ! refl)) refl (tt, (record { fits = lit< tt }, tt)) $
    use0 𝓛 (‵ (Out.own_val None (live 0 vnil ∷ []))) (none_of 𝓛 L) $ use0 𝓛 (raw (fact 𝓤 (Told None))) (fact_i 𝓤 (Told None) (emp 𝓤) (sym none)) $ nothing ! $ nothing ! $ fjoin ! $ nothing ! $ fjoin ! $
    returns ! (look_at ! 0 refl) $ free_all ! refl $ keep ! (5 ∷ 0 ∷ 2 ∷ 1 ∷ []) $ by ! (leaves 𝓛 ended hs c z (live 0 vnil) None (tt, (tt, tt)) (tt, (tt, tt))))
    (λ wrong. absurd wrong)))
    (λ b o x is some' t.
    let p : Ptr = block_ptr b o in let made : Val = two (vptr b o) h.0 in let typed = two_good R Z LZ ghosts b o h.0 h.2 in let v₁ : Val = live 1 (vcons made vnil) in
    let d : L.Denot = record { at = p; alloc = a; value = x } in let good : Good (layout Out) v₁ = (and_tt _ typed.0, (record { fits = lit< tt }, (typed.1, tt))) in
    suffices ! (Run (word p ∷ h.0 ∷ [])) (subst (λ (q : Ptr). ent 𝓤 (Run (word p ∷ h.0 ∷ [])) (Run (word q ∷ h.0 ∷ []))) (sym is) (id⊢ 𝓤 (Run (word p ∷ h.0 ∷ [])))) $
    enter ! 𝓣.C 𝓣.Λ fn (word p ∷ h.0 ∷ []) Post $ alloc_all ! (λ l. pass_all ! refl ((tt, (tt, tt)), (h.2, tt)) $ let Ev = env fn.locals l in
    sets ! (of_opd ! (get_in ! (fld ! refl (stop !)) (sub ! 0 refl (whole !)))) refl (tt, tt) $
    sets ! (bin ! (get ! refl) (lit ! tt) (tests_null p t)) refl (tt, tt) $ first ! $ branches ! (get ! refl) (λ wrong. absurd wrong)
    (λ _. sets ! (agg ! (and_then ! (get ! refl) (and_then ! (get ! refl) (no_more !)))) refl typed $ sets_last ! (agg ! (and_then ! (lit ! tt) (and_then ! (get ! refl) (no_more !)))) refl good $
    exec ! 𝓣.C 𝓣.Λ Ev (after 3 fn.body) (at_ret Ev Post) $ sets ! (of_opd ! (get ! refl)) refl good $ together R Z LZ ghosts ! b o h.0 a x $
    use1 𝓛 (‵ (Out.own_val (Some d) (v₁ ∷ []))) (Some-of 𝓛 L d made) $ use0 𝓛 (raw (fact 𝓤 (Told (Some d)))) (fact_i 𝓤 (Told (Some d)) (emp 𝓤) (sym some')) $ nothing ! $ nothing ! $ fjoin ! $ nothing ! $ fjoin ! $
    returns ! (look_at ! 0 refl) $ free_all ! refl $ keep ! (4 ∷ 0 ∷ 2 ∷ 1 ∷ []) $ by ! (leaves 𝓛 ended hs c z v₁ (Some d) (tt, (tt, tt)) (tt, (tt, tt))))))))
