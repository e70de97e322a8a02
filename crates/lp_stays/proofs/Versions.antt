-- Which patches have a function, as the versions tell.
use Rattle.std.proofs.Common.{◌≡◌, ℕ, zero, suc, ◌≤◌, true, false, nat_eq, ◌∙◌, sym, ⊎_elim, arith}
use Rattle.std.proofs.lemmas.Bool.{cases_Bool, cond-true, cond-false, cond_both, eq-eqb, ne_eqb}
use Rattle.lp_patch.specs.Patches.{Patches, patch_has, version}

version_within : (patches : Patches) (func l : ℕ) → version patches func l ≤ l
unfolding version
version_within patches func zero = omega arith
version_within patches func (suc l) =
    cond_both (patch_has patches (suc l) func) (suc l) (version patches func l) (λ v. v ≤ suc l) (λ e. omega arith) (λ e. let h = version_within patches func l in omega arith)

-- a function's version at a patch's own level is the patch, exactly where the patch has the function
pub version_own : (patches : Patches) (func below : ℕ) → nat_eq (version patches func (suc below)) (suc below) ≡ patch_has patches (suc below) func
unfolding version
version_own patches func below =
    ⊎_elim
    (λ (yes : patch_has patches (suc below) func ≡ true). eq-eqb _ _ (cond-true _ _ _ yes) ∙ sym yes)
    (λ (no : patch_has patches (suc below) func ≡ false).
    let is : version patches func (suc below) ≡ version patches func below = cond-false _ _ _ no in
    ne_eqb _ _ (λ e. let h = version_within patches func below in omega (arith, is, e)) ∙ sym no)
    (cases_Bool (patch_has patches (suc below) func))
