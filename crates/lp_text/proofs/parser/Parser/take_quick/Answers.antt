use Rattle.std.proofs.Common.{◌≡◌, ◌<◌, false, length, vec_len, sym, ◌∙◌, refl, arith}
use Rattle.std.proofs.lemmas.Grind.{common_steps}
use Rattle.std.specs.Prelude.{◌==◌}
use Rattle.std.proofs.lemmas.List.{length-map}
use Rattle.lp_text.specs.Traces.{functions}
use Rattle.lp_text.proofs.Pushes.{differ}
use Rattle.lp_text.proofs.QuickLines.{taken}
use Rattle.lp_text.proofs.parser.Parser.take_quick.Goals as goal

pub returns-clause-taken : goal.returns-clause-taken
returns-clause-taken c =
    let long = length-map c.self.inside.patches.items (λ patch. patch.items) in
    let some : (vec_len c.self.inside.patches == 0) ≡ false = sym c.is_empty.ensures ∙ c.if-is_empty.false in
    let apart : ¬ (vec_len c.self.inside.patches ≡ 0) = differ (vec_len c.self.inside.patches) 0 some in
    let patches : vec_len c.self.inside.patches ≡ length c.self.inside.patches.items = c.self.inside.patches.ok.0 in
    let events : vec_len c.self.inside.events ≡ length c.self.inside.events.items = c.self.inside.events.ok.0 in
    let patched : 0 < length (functions c.self.inside.patches.items) = omega (arith, long, patches) in
    let room : length c.self.inside.events.items < 1000000 = omega (arith, events, c.len-count.ensures, c.if-count.false) in
    rw (← c.self.view_is, c.push_reserved.ensures.items) (taken _ _ c.in_ok-event.event c.args.text.now c.in_ok-event.rest.now c.self.invariant.0 c.self.invariant.2 patched room c.in_ok-event.ensures refl)

pub returns-in_err-event-clause-taken : goal.returns-in_err-event-clause-taken
returns-in_err-event-clause-taken c = grind (arith, common_steps)

pub returns-in_err-event-clause-none : goal.returns-in_err-event-clause-none
returns-in_err-event-clause-none c = grind (arith, common_steps)
