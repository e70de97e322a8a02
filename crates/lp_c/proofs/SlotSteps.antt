-- The machine value of a `Slot`, and its two cases. Assumes `Logic`.
--     slot_in, slot_out     a slot by value is what it owns besides its field
--     slot_cases            the pointer is null, or the engine lies at it and it may be compared with null
use Rattle.std.proofs.Common.{◌≡◌, ℕ, List, [], ◌∷◌, ◌++◌, refl, subst}
use seplogic.Ra.Ura.{Ura}
use mir.Raw.{raw as bare}
use mir.Val.{Val, vstruct, vcons, vnil, of_list}
use base.Logic.{never, fst∗, guard_i}
use base.Fml.{Fml}
use types.Logic.{Logic, sem}
use types.Kit.{Item, Goal, Seq, Step, step, given, ‵, ◌$◌, move, drop, learn, fsplit, fjoin, fpick, fpack, feq_i, feq_l, use1}
use contract.Monad.{fact_use}
use denote.RattleType.{RattleType, Valss}
use denote.Builtin.{RawPtr}
use denote.Memory.{lone}
use denote.RawPtr.{Ptr, block_ptr, null_ptr, ptr_val, in_a_block, Testable}
use denote.Steps.{nothing}
use denote.Struct.Struct.{within}
use denote.Struct.Owning.{shape}
use Rattle.std.specs.Box.Ownership.{box_owns}
use Rattle.std.specs.declared.option.Option.{Option}
use Rattle.std.specs.declared.option.Option.TheVariants.{None, Some}
use Rattle.std.specs.contracts.impls.GlobalAllocator.TheImpl.{ghosts}
use Rattle.std.proofs.GlobalToken.{dealloc_token-Testable}
use Rattle.lp_c.specs.Held.{Held}
use Rattle.lp_c.specs.contracts.session.Session.{the_row as R}
use Rattle.lp_c.specs.Slot.{slot_owns, heap}
use Rattle.lp_c.specs.contracts.slot.Slot as slot

abbrev pub S : RattleType
S = slot.the_row

abbrev pub boxed : Ptr → Held → Fml
boxed p x = box_owns (ghosts.dealloc_token heap) R p x

abbrev pub word : Ptr → Val
word p = vstruct (vcons (ptr_val p) vnil)

module _ {M : Type 1} {𝓤 : Ura M} {𝓛 : Logic 𝓤} {K : Type 0} {Γ : List (Item 𝓤)} {G : Goal 𝓤 𝓛.H} where
  pub slot_in : K → (p : Ptr) (e : Option Held) → Step K 𝓛 (‵ (S.own_val (record { at = p; held = e }) (word p ∷ [])) ∷ Γ) G (‵ (slot_owns p e) ∷ Γ) G
  slot_in t p e = step (λ s.
      nothing t $ feq_i t (List Val) (ptr_val p ∷ []) (ptr_val p ∷ []) refl $ fjoin t $ feq_i t (List Val) (word p ∷ []) (word p ∷ []) refl $ fjoin t $
      fpack t (Valss (RawPtr ∷ [])) (within (shape slot.the_type) (p, tt) (word p ∷ [])) (ptr_val p ∷ [], tt) $ fjoin t $ s)

  pub slot_out : K → (d : S.Denot) (vs : List Val) → (vs ≡ word d.at ∷ [] → Seq K 𝓛 (‵ (slot_owns d.at d.held) ∷ Γ) G) → Seq K 𝓛 (‵ (S.own_val d vs) ∷ Γ) G
  slot_out t d vs k =
      fsplit t $ fpick t (λ vss. fsplit t $ feq_l t (λ ev. fsplit t $ feq_l t (λ ep. drop t $
      k (subst (λ (ps : List Val). vs ≡ vstruct (of_list (ps ++ [])) ∷ []) ep ev))))

  pub slot_cases : K → (p : Ptr) (e : Option Held) → (p ≡ null_ptr → e ≡ None → Seq K 𝓛 Γ G)
      → ((b o : ℕ) (x : Held) → p ≡ block_ptr b o → e ≡ Some x → Testable (block_ptr b o) → Seq K 𝓛 (‵ (boxed (block_ptr b o) x) ∷ Γ) G) → Seq K 𝓛 (‵ (slot_owns p e) ∷ Γ) G
  slot_cases t p None none one = feq_l t (λ is. none is refl)
  slot_cases t p (Some x) none one =
      in_a_block t p (λ q. boxed q x) (fst∗ 𝓤 (never 𝓤) (sem 𝓛 (ghosts.dealloc_token heap (bare (lone R.mir)) null_ptr))) (λ b o is.
      let q : Ptr = block_ptr b o in let T : Fml = ghosts.dealloc_token heap (bare (lone R.mir)) q in
      fsplit t $ move t (1 ∷ []) $ use1 𝓛 (given (Testable q) (‵ T)) (fact_use 𝓤 (Testable q) (dealloc_token-Testable 𝓛 heap (bare (lone R.mir)) q) (λ ok. guard_i 𝓤 (Testable q) (sem 𝓛 T) ok)) $
      learn t (λ ok. move t (1 ∷ 0 ∷ []) $ fjoin t $ one b o x is refl ok))
