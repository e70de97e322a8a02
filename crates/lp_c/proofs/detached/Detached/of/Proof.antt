-- `of` calls `into_raw_with_allocator`, and keeps the two parts that it gives.
use Rattle.std.proofs.Common.{◌≡◌, List, [], ◌∷◌, ◌++◌, refl, sym, ap, ◌∙◌, subst}
use mir.Syntax.{a_type, dcons, dnil}
use mir.Raw.{raw as bare}
use mir.Val.{Val, vptr, vstruct, of_list}
use mir.MapTy.{inst_fn}
use base.Logic.{SProp, ent, emp, never, id⊢, fst∗}
use base.Fml.{ftrue, fsep, flft}
use prog.Wp.{WpFn}
use types.Logic.{sem}
use types.Kit.{‵, raw, ◌⊛◌, some, later, ◌$◌, ◌∵◌, !, qed, by, move, keep, drop, split, split3, join, fsplit, fjoin, fpick, pick, suffices, use0, use1, await, rewrite, feq_l}
use types.Run.{stop, fld, of_opd, no_more, and_then, returns, enter}
use types.ByLocal.{alloc_all, pass_all, free_all, look_at, get, get_in, sets, lands_as}
use types.Part.{agg, sub, whole}
use contract.Monad.{fact, fact_i}
use contract.Running.{tables}
use denote.Exit.{no}
use denote.RattleType.{RattleType, owns}
use denote.Signature.{types_at, plain}
use denote.Builtin.{RawPtr}
use denote.RawPtr.{Ptr, block_ptr, null_ptr, ptr_val, in_a_block}
use denote.Steps.{nothing, only, heard}
use denote.Param.{param, layout, bounded}
use denote.Param.Laws.{param_laws}
use denote.Struct.Tuple.{Tuple}
use denote.Triple.Spec.{triple_of}
use denote.Triple.Call.{calls_at}
use denote.Triple.Walked.{Stays, stay_dropped, walk_of}
use Rattle.core.proofs.alloc.Calls.{Goes-blank, handle_tells}
use Rattle.core.proofs.atomic.Steps.{fm}
use Rattle.std_alloc.proofs.BoxSteps.Form as box
use Rattle.std_alloc.proofs.BoxSteps.Steps.{box_out, box_in}
use Rattle.std.proofs.raw_atomic.Walks.{proved_at, leaves}
use Rattle.std_alloc.specs.contracts.boxed.Box.into_raw_with_allocator as parting
use Rattle.std_alloc.proofs.boxed.Box.into_raw_with_allocator.Met.{met}
use Rattle.lp_c.proofs.Parts.{two, two_good, together, block}
use Rattle.lp_c.specs.contracts.detached.Detached.of.{ended, clauses}
use Rattle.lp_c.specs.contracts.detached.Detached.of.Key.{name as #self}
use Rattle.lp_c.proofs.detached.Detached.of.Statement.{statement}
use Rattle.lp_c.proofs.detached.Detached.of.Code as code

pub of_spec : {M : Type 1} → statement M
of_spec 𝓤 𝓛 𝓜 𝓡 wired T A laws handle_laws g d dx dd allocator glue glued =
    let H = 𝓛.H in
    let 𝓣 = tables 𝓤 H 𝓜 𝓡 𝓡.env in
    let R : RattleType = param 0 T in
    let Z : RattleType = param 1 A in
    let LZ = param_laws 1 A handle_laws in
    let dicts = dcons d (dcons dx (dcons dd dnil)) in
    let types = bounded (a_type ∷ a_type ∷ []) (T, (A, tt)) dicts in
    let contract = ended T A g d dx dd in
    let c = clauses T A g d dx dd 𝓛 𝓜.mem 𝓡.returns in
    let B : box.Bx = record { row = T; laws = laws; al = record { row = A; laws = handle_laws; g = g; d = d; drops = dd } } in
    let fn = inst_fn types code.function in
    let stays : Stays contract.signature.params contract.kept = (stay_dropped (plain (λ _. box.B B)) no, tt) in
    proved_at 𝓛 contract stays c 𝓜 𝓡 (Goes-blank 𝓛 2 (plain (λ _. box.B B)) no (λ κs x f. tt), tt) (#self types) fn (code.unfolded 𝓤 H 𝓜 𝓡 wired (T, (A, tt)) d dx dd) (λ z are.
    let κs = z.0.0 in
    let whole_box = z.0.3.0 in
    let a = whole_box.alloc in
    let x = whole_box.value in
    let Post : Val → SProp 𝓤 = (walk_of 𝓛 contract stays c).post z in
    let Run : List Val → SProp 𝓤 = λ ws. WpFn 𝓤 H 𝓣.C 𝓣.Λ fn ws Post in
    let tokens = ‵ (flft κs.0 z.0.1.0) ⊛ ‵ (flft κs.1.0 z.0.1.1.0) ⊛ ‵ ftrue in
    qed 𝓛 ((tokens ⊛ ‵ (owns (types_at contract.signature.params κs) z.0.3 z.0.4)) ∷ raw ((c κs z.0.3).requires z.1) ∷ []) ∵
    split ! $ move ! (1 ∷ []) $ fsplit ! $ box_out B ! whole_box z.0.4.0 (λ b o handle there ws good. box_in B ! whole_box b o x there refl $
    let word : Val = box.word B handle b o in
    let typed = two_good R Z LZ g b o handle good in
    let call = triple_of 𝓛 (parting.signature T A g d dd dx) (parting.spec T A g d dd dx 𝓛 𝓜.mem 𝓡.returns) in
    let ghost : call.Ghost = ((κs, z.0.1, tt, (whole_box, tt), (word ∷ [], tt)), tt) in
    let Pair = Tuple (RawPtr ∷ Z ∷ []) in
    fjoin ! $ move ! (1 ∷ 0 ∷ []) $ join ! $ join ! $ use1 𝓛 (raw (call.pre ghost)) (id⊢ 𝓤 _) $
    suffices ! (Run (word ∷ [])) (subst (λ (us : List Val). ent 𝓤 (Run (word ∷ [])) (Run us)) (sym (λ i. ws i ++ [])) (id⊢ 𝓤 (Run (word ∷ [])))) $
    enter ! 𝓣.C 𝓣.Λ fn (word ∷ []) Post $ alloc_all ! (λ l. pass_all ! refl (typed, tt) $
    sets ! (of_opd ! (get ! refl)) refl typed $
    calls_at ! (fm 𝓛 𝓜 𝓡) call (met 𝓤 𝓛 𝓜 𝓡 (code.calls-std_alloc::boxed::Box::into_raw_with_allocator 𝓡.env wired) T A laws handle_laws g d dd dx allocator glued glue) ghost (and_then ! (get ! refl) (no_more !)) (λ u.
    use1 𝓛 (later (some (λ (r : Ptr × A.Denot). (tokens ⊛ ‵ (Pair.own_val r (u ∷ []))) ⊛ some (λ (_ : (Unit {0} × (Unit {0} × Unit {0})) × Unit {0}). ‵ (fsep (fsep ftrue (fsep ftrue ftrue)) ftrue) ⊛ (raw (fact 𝓤 (r.1 ≡ a)) ⊛ ‵ (block R Z LZ g a x r.0)))))) (id⊢ 𝓤 _) $
    await ! tt $ pick ! (λ r. split ! $ move ! (1 ∷ []) $ pick ! (λ _. split3 ! $ drop ! $ heard ! (r.1 ≡ a) (λ same.
    in_a_block ! r.0 (block R Z LZ g a x) (fst∗ 𝓤 (never 𝓤) (sem 𝓛 (g.dealloc_token a (bare (layout T)) null_ptr))) (λ b' o' there'.
    move ! (1 ∷ []) $ split ! $ move ! (1 ∷ []) $ fpick ! (λ vss. fsplit ! $ feq_l ! (λ parts. fsplit ! $ feq_l ! (λ pointer. fsplit ! $
    rewrite ! 0 (λ (s : A.Denot). ‵ (A.own_val s vss.1.0)) same refl $ handle_tells B.al ! a vss.1.0 (λ handle' told good'.
    let made = two_good R Z LZ g b' o' handle' good' in
    lands_as ! (ap only (parts ∙ (λ j. vstruct (of_list ((pointer ∙ ap (λ (p : Ptr). ptr_val p ∷ []) there') j ++ (told j ++ []))) ∷ []))) refl made $
    sets ! (of_opd ! (get_in ! (fld ! refl (stop !)) (sub ! 0 refl (whole !)))) refl (tt, tt) $
    sets ! (of_opd ! (get_in ! (fld ! refl (stop !)) (sub ! 1 refl (whole !)))) refl good' $
    sets ! (of_opd ! (get ! refl)) refl good' $
    sets ! (agg ! (and_then ! (get ! refl) (and_then ! (get ! refl) (no_more !)))) refl made $
    move ! (3 ∷ 0 ∷ []) $ together R Z LZ g ! b' o' handle' a x $
    use0 𝓛 (raw (fact 𝓤 (x ≡ x))) (fact_i 𝓤 (x ≡ x) (emp 𝓤) refl) $ nothing ! $ nothing ! $ fjoin ! $
    returns ! (look_at ! 0 refl) $ free_all ! refl $ keep ! (4 ∷ 0 ∷ 2 ∷ 1 ∷ []) $
    by ! (leaves 𝓛 contract stays c z (two (vptr b' o') handle') (record { at = block_ptr b' o'; alloc = a; value = x }) ((tt, (tt, tt)), tt) (tt, tt))))))))))))))
