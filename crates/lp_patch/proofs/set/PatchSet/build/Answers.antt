use Rattle.std.proofs.Common.{◌≡◌, ◌<◌, [], length, get_or, None, arith}
use Rattle.std.proofs.lemmas.Grind.{common_steps}
use Rattle.lp_symbols.specs.declared.sym_id.SymId.{SymId}
use Rattle.lp_patch.specs.Patches.{first_fault}
use Rattle.lp_patch.proofs.SetLemmas.{known_without_fault, has-more}
use Rattle.lp_patch.proofs.set.PatchSet.build.Goals as goal

pub index_mut-requires : goal.index_mut-requires
index_mut-requires g c =
    let d : SymId = record { 0 = 0 } in
    let free : first_fault (g.S.Numbering.count c.args.symbols.now) [] c.args.ids.now ≡ None = cc c.count-count.ensures.value in
    let known = known_without_fault (g.S.Numbering.count c.args.symbols.now) [] c.args.ids.now c.loop-id.id-index d free (omega arith) in
    omega (arith, known, c.index.ensures.value, c.loop-id.invariant.count)

pub loop-id-preserved : goal.loop-id-preserved
loop-id-preserved g c =
    let d : SymId = record { 0 = 0 } in
    let free : first_fault (g.S.Numbering.count c.args.symbols.now) [] c.args.ids.now ≡ None = cc c.count-count.ensures.value in
    let known = known_without_fault (g.S.Numbering.count c.args.symbols.now) [] c.args.ids.now c.loop-id.id-index d free (omega arith) in
    let within : (get_or c.args.ids.now c.loop-id.id-index d).0 < length c.loop-id.members.items = omega (arith, known, c.loop-id.invariant.count) in
    record {
      count = grind (arith, common_steps, c.loop-id.invariant.count);
      members = λ q. rw c.index.ensures.value (has-more c.loop-id.members.items c.args.ids.now c.loop-id.id-index d q (omega arith) within (c.loop-id.invariant.members q));
    }

pub loop-id-init : goal.loop-id-init
loop-id-init g c = grind (arith, common_steps)

pub returns-clause-members : goal.returns-clause-members
returns-clause-members g c = grind (arith, common_steps)

pub returns-clause-refused : goal.returns-clause-refused
returns-clause-refused g c = grind (arith, common_steps)
