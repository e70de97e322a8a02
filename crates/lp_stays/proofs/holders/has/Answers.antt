use Rattle.std.proofs.Common.{◌≡◌, suc, ◌+◌, ap, ◌∙◌, nat_eq, arith, subst}
use Rattle.lp_patch.specs.Patches.{version, patch_has}
use Rattle.lp_stays.proofs.Versions.{version_own}
use Rattle.lp_stays.proofs.holders.has.Goals as goal

pub returns : goal.returns
returns c =
    let next : suc c.args.below ≡ c.args.below + 1 = omega arith in
    let own = subst (λ patch. nat_eq (version c.args.patches.now c.args.func.0 patch) patch ≡ patch_has c.args.patches.now patch c.args.func.0) next (version_own c.args.patches.now c.args.func.0 c.args.below) in
    c.eq.ensures ∙ ap (λ v. nat_eq v (c.args.below + 1)) c.version.ensures ∙ own
