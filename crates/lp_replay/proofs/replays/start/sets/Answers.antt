use Rattle.std.proofs.Common.{◌≡◌, ◌∙◌, List, None, ap, arith, length, map, subst, sym}
use Rattle.std.proofs.lemmas.List.{take_all}
use Rattle.lp_symbols.specs.declared.sym_id.SymId.{SymId}
use Rattle.lp_patch.specs.Patches.{patch_refusal}
use Rattle.lp_text.specs.Traces.{functions}
use Rattle.lp_replay.specs.Outcome.{patch_of}
use Rattle.lp_replay.proofs.Starting.{sets_more}
use Rattle.lp_text.proofs.Writing.{good_at}
use Rattle.lp_replay.proofs.replays.start.sets.Goals as goal

pub set-requires : goal.set-requires
set-requires c =
    let P : List SymId → Type 0 = λ patch. patch_refusal (length c.args.symbols.now) patch ≡ None in
    subst P (sym (c.as_slice.ensures.value ∙ ap (λ v. v.items) c.functions-item.is)) (good_at P c.args.patches.now c.loop-functions.functions-index c.functions-item.result c.requires (omega arith))

pub loop-functions-preserved : goal.loop-functions-preserved
loop-functions-preserved c =
    let symbols = length c.args.symbols.now in
    let items = c.as_slice.ensures.value ∙ ap (λ v. v.items) c.functions-item.is in
    let more = sets_more symbols c.args.patches.now c.loop-functions.functions-index c.functions-item.result (omega arith) in
    rw (c.in_ok-push.ensures.items, c.loop-functions.invariant, c.in_ok-set.ensures, items) (sym more)

pub returns : goal.returns
returns c =
    c.loop-functions.invariant ∙ ap (λ ps. map (patch_of (length c.args.symbols.now)) (functions ps)) (take_all c.loop-functions.functions-index c.args.patches.now (omega arith))
