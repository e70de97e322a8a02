use Rattle.std.proofs.Common.{[], ◌≡◌, ◌≤◌, ◌<◌, length, get_or, min, sym, ap, ◌∙◌, arith}
use Rattle.lp_patch.specs.Patches.{version, symbols_of}
use Rattle.lp_patch.proofs.StackLemmas.{version-min, version-unknown}
use Rattle.lp_patch.proofs.stack.PatchStack.version.Goals as goal

pub returns-in-Some : goal.returns-in-Some
returns-in-Some c =
    let found = c.in-Some.ensures.lookup in
    let rows = c.self.inside.versions.items in
    let patches = c.self.inside.sets.items in
    let row : c.in-Some.versions.now ≡ get_or rows c.args.func.0 [] = rw (← c.index.ensures.value, ← c.deref.ensures.value) (found.3.1 []) in
    let within : c.args.func.0 < length rows = omega (arith, found.3.0, c.index.ensures.value, c.deref.ensures.value) in
    let here = c.self.invariant.rows_right.right c.args.func.0 within c.from.result (omega arith) in
    let level : c.from.result ≡ min c.args.level.0 16 = c.from.ensures ∙ c.min.ensures in
    rw (← c.self.view_is) (ap (λ row. get_or row c.from.result 0) row ∙ here ∙ ap (version patches c.args.func.0) level ∙ version-min patches c.args.func.0 c.args.level.0 c.self.invariant.few)

pub returns-in-None : goal.returns-in-None
returns-in-None c =
    let missed = c.in-None.ensures.lookup in
    let patches = c.self.inside.sets.items in
    let far : symbols_of patches ≤ c.args.func.0 = omega (arith, missed.3, c.index.ensures.value, c.self.invariant.rows_right.count) in
    rw (← c.self.view_is) (sym (version-unknown patches (symbols_of patches) c.args.func.0 c.args.level.0 far c.self.invariant.same))
