use Rattle.std.proofs.Common.{◌≡◌, List, length, subst, sym, ap, ◌∙◌, None}
use Rattle.lp_symbols.specs.declared.sym_id.SymId.{SymId}
use Rattle.lp_patch.specs.Patches.{patch_refusal}
use Rattle.lp_text.proofs.Writing.{writes_err, left_prefix, left_next, left_none, patches_borrowed, patches_end, good_at}
use Rattle.lp_text.specs.inside.Writing.{seen_of}
use Rattle.lp_text.proofs.write.put_patches.Goals as goal

pub put_patch-requires : goal.put_patch-requires
put_patch-requires g c =
    let P : List SymId → Type 0 = λ patch. patch_refusal (length c.args.symbols.now) patch ≡ None in
    subst P (sym (c.as_slice.ensures.value ∙ ap (λ v. v.items) c.index-patches-i.is)) (good_at P c.args.patches.now c.loop-i.i c.index-patches-i.result c.requires.good c.loop-i-test.true)

pub returns-in_err-put_patch : goal.returns-in_err-put_patch
returns-in_err-put_patch g c =
    writes_err _ _ _ c.from_residual.result c.from_residual.ensures.0 (left_prefix _ (seen_of g.W.Write.contents c.loop-i.writer) _ _ _ _ _ (patches_borrowed c.args.form c.args.symbols.now c.args.patches.now c.loop-i.i c.index-patches-i.result c.as_slice.result.now c.as_slice.ensures.value c.index-patches-i.is c.loop-i-test.true) c.loop-i.invariant c.in_err-put_patch.ensures)

pub loop-i-preserved : goal.loop-i-preserved
loop-i-preserved g c =
    left_next _ (seen_of g.W.Write.contents c.loop-i.writer) _ _ _ _ _ (patches_borrowed c.args.form c.args.symbols.now c.args.patches.now c.loop-i.i c.index-patches-i.result c.as_slice.result.now c.as_slice.ensures.value c.index-patches-i.is c.loop-i-test.true) c.loop-i.invariant c.in_ok-put_patch.ensures

pub returns : goal.returns
returns g c = left_none _ _ _ _ (patches_end c.args.form c.args.symbols.now c.args.patches.now c.loop-i.i _ c.loop-i-test.false) c.loop-i.invariant
