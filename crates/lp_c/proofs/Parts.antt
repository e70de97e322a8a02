-- A detached box as the machine has it: a struct of a pointer and a handle. Assumes `Logic`.
--     two             the struct
--     two_good        it has its type
--     apart           what a detached box by value owns: the block with the value, and the handle
--     together        and back
use Rattle.std.proofs.Common.{◌≡◌, ℕ, List, [], ◌∷◌, ◌++◌, refl, subst}
use mathlib.Core.Bool.{true, ◌&&◌}
use lib.Dec.{T}
use seplogic.Ra.Ura.{Ura}
use mir.Syntax.{impl, tnil, dnil}
use mir.Raw.{raw as bare}
use mir.Val.{Val, vptr, vstruct, vcons, vnil, of_list, has_ty, WT}
use base.Logic.{never, fst∗}
use base.Fml.{Fml}
use types.Logic.{Logic, sem}
use types.Kit.{Item, Goal, Seq, Step, step, ‵, ◌$◌, move, drop, fsplit, fjoin, fpick, fpack, feq_i, feq_l}
use denote.RattleType.{RattleType, Valss}
use denote.Builtin.{RawPtr}
use denote.Memory.{lone}
use denote.RawPtr.{Ptr, block_ptr, null_ptr, ptr_val, in_a_block}
use denote.Steps.{nothing}
use denote.Param.{layout}
use denote.Param.Laws.{Laws}
use denote.Struct.Struct.{within}
use denote.Struct.Owning.{shape}
use Rattle.core.specs.declared.alloc.Allocator.{Ghosts}
use Rattle.core.proofs.alloc.Calls.{Al, handle_tells}
use Rattle.core.proofs.cell.Inside.{Good}
use Rattle.std.specs.Box.Ownership.{box_owns}
use Rattle.std_alloc.proofs.ResultValues.{and_tt}
use Rattle.lp_c.specs.contracts.detached.Detached as detached

abbrev pub two : Val → Val → Val
two at handle = vstruct (vcons at (vcons handle vnil))

module _ (R Z : RattleType) (laws : Laws Z) (g : Ghosts Z.Denot) where
  abbrev pub D : RattleType
  D = detached.the_row R Z g

  abbrev handles : Al
  handles = record { row = Z; laws = laws; g = g; d = impl [] tnil dnil; drops = impl [] tnil dnil }

  -- what the block of a pointer owns
  abbrev pub block : Z.Denot → R.Denot → Ptr → Fml
  block a x p = box_owns (g.dealloc_token a) R p x

  pub two_good : (b o : ℕ) (handle : Val) → Good (layout Z) handle → T (has_ty (layout Z) handle && true) × WT (two (vptr b o) handle)
  two_good b o handle good = (and_tt (has_ty (layout Z) handle) good.0, (tt, (good.1, tt)))

  module _ {M : Type 1} {𝓤 : Ura M} {𝓛 : Logic 𝓤} {K : Type 0} {Γ : List (Item 𝓤)} {G : Goal 𝓤 𝓛.H} where
    pub together : K → (b o : ℕ) (handle : Val) (a : Z.Denot) (x : R.Denot)
        → Step K 𝓛 (‵ (D.own_val (record { at = block_ptr b o; alloc = a; value = x }) (two (vptr b o) handle ∷ [])) ∷ Γ) G (‵ (block a x (block_ptr b o)) ∷ ‵ (Z.own_val a (handle ∷ [])) ∷ Γ) G
    together t b o handle a x = step (λ rest.
        let p : Ptr = block_ptr b o in let v : Val = two (vptr b o) handle in
        nothing t $ move t (2 ∷ 0 ∷ []) $ fjoin t $
        feq_i t (List Val) (vptr b o ∷ []) (vptr b o ∷ []) refl $ fjoin t $
        feq_i t (List Val) (v ∷ []) (v ∷ []) refl $ fjoin t $
        fpack t (Valss (RawPtr ∷ Z ∷ [])) (within (shape (detached.the_type R Z g)) (p, (a, tt)) (v ∷ [])) (vptr b o ∷ [], (handle ∷ [], tt)) $
        fjoin t $ rest)

    pub apart : K → (d : D.Denot) (vs : List Val)
        → ((b o : ℕ) (handle : Val) → d.at ≡ block_ptr b o → vs ≡ two (vptr b o) handle ∷ [] → Good (layout Z) handle → Seq K 𝓛 (‵ (block d.alloc d.value (block_ptr b o)) ∷ ‵ (Z.own_val d.alloc (handle ∷ [])) ∷ Γ) G)
        → Seq K 𝓛 (‵ (D.own_val d vs) ∷ Γ) G
    apart t d vs rest =
        fsplit t $ fpick t (λ vss. fsplit t $ feq_l t (λ whole. fsplit t $ feq_l t (λ pointer. fsplit t $
        handle_tells handles t d.alloc vss.1.0 (λ handle told good. move t (1 ∷ []) $ drop t $ move t (1 ∷ []) $
        in_a_block t d.at (block d.alloc d.value) (fst∗ 𝓤 (never 𝓤) (sem 𝓛 (g.dealloc_token d.alloc (bare (lone R.mir)) null_ptr))) (λ b o there.
        let by_pointer : vs ≡ vstruct (of_list (ptr_val d.at ∷ (vss.1.0 ++ []))) ∷ [] = subst (λ (ps : List Val). vs ≡ vstruct (of_list (ps ++ (vss.1.0 ++ []))) ∷ []) pointer whole in
        let by_handle : vs ≡ vstruct (of_list (ptr_val d.at ∷ handle ∷ [])) ∷ [] = subst (λ (ws : List Val). vs ≡ vstruct (of_list (ptr_val d.at ∷ (ws ++ []))) ∷ []) told by_pointer in
        rest b o handle there (subst (λ (p : Ptr). vs ≡ vstruct (of_list (ptr_val p ∷ handle ∷ [])) ∷ []) there by_handle) good)))))
