use Rattle.std.proofs.Common.{sym, ◌∙◌}
use Rattle.std.proofs.lemmas.Slice.Eq.{slice_eq-Decides}
use Rattle.std.specs.Cmp.{booleans_Decides}
use Rattle.lp_patch.proofs.set.PatchSet.same.Goals as goal

pub returns : goal.returns
returns c =
    let own = c.as_slice.ensures.value ∙ c.self.view_is in
    let others = c.as_slice-2.ensures.value ∙ c.other.view_is in
    let same = slice_eq-Decides booleans_Decides c.as_slice.result.now c.as_slice-2.result.now c.eq.result c.eq.ensures in
    (λ yes. sym own ∙ same.0 yes ∙ others, λ equal. same.1 (own ∙ equal ∙ sym others))
