use Rattle.std.proofs.Common.{◌≡◌, ◌<◌, ◌∙◌, Err, ◌∷◌, ◌++◌, [], List, true, ap, arith, refl, subst, sym}
use Rattle.std.proofs.lemmas.Grind.{common_steps}
use Rattle.lp_log.specs.Entries.{Entry}
use Rattle.lp_log.specs.Journals.{Written, next_entry, reply_to, run_of}
use Rattle.lp_log.specs.Logs.{IsLogged, Logged}
use Rattle.lp_transition.specs.declared.engine.step.Halt.{Halt}
use Rattle.lp_machine.specs.Machine.{answer}
use Rattle.lp_machine.specs.Table.{state_in}
use Rattle.lp_log.specs.inside.Quiet.{is_quiet_now}
use Rattle.lp_log.proofs.Longer.{number_of, logged_longer}
use Rattle.lp_log.proofs.Quiet.{quiet_allocates, quiet_reply, quiet_taken}
use Rattle.lp_log.proofs.log.Log.step_reserved.Goals as goal

pub overflow_cast-number : goal.overflow_cast-number
overflow_cast-number g c =
    let journal : Written = record { patches = c.self.inside.patches; boots = c.self.inside.boots.items; entries = c.self.inside.entries.items } in
    let n = number_of g.M.Consistency.rules c.self.inside.core journal c.self.invariant in
    let core : c.self.inside.core.number ≡ c.args.self.now.core.number = ap (λ (l : Logged). l.core.number) c.self.view_is in
    omega (arith, n, core, c.requires.left, c.len.ensures)

pub overflow_add-number : goal.overflow_add-number
overflow_add-number g c =
    let journal : Written = record { patches = c.self.inside.patches; boots = c.self.inside.boots.items; entries = c.self.inside.entries.items } in
    let n = number_of g.M.Consistency.rules c.self.inside.core journal c.self.invariant in
    let core : c.self.inside.core.number ≡ c.args.self.now.core.number = ap (λ (l : Logged). l.core.number) c.self.view_is in
    omega (arith, n, core, c.requires.left, c.len.ensures)

pub copy_of-requires : goal.copy_of-requires
copy_of-requires g c =
    let journal : Written = record { patches = c.self.inside.patches; boots = c.self.inside.boots.items; entries = c.self.inside.entries.items } in
    let quiet : is_quiet_now (state_in c.self.inside.core) c.args.event ≡ true = subst (λ (l : Logged). is_quiet_now (state_in l.core) c.args.event ≡ true) (sym c.self.view_is) c.requires.quiet in
    quiet_reply g.M.Consistency.rules _ (run_of journal) c.args.event c.in-Ok.reply _ c.the_machine_steps_as_defined.ensures c.self.invariant.stands c.in-Ok.ensures.step quiet

pub invariant_of-self : goal.invariant_of-self
invariant_of-self g c =
    let model = g.M.Consistency.rules in
    let before : List Entry = c.self.inside.entries.items in
    let journal : Written = record { patches = c.self.inside.patches; boots = c.self.inside.boots.items; entries = before } in
    let same : c.new.result ≡ next_entry before c.args.event c.in-Ok.reply = rw (c.new.ensures, c.copy_of.ensures, c.len.ensures, c.self.inside.entries.ok.0) refl in
    let items : c.push_reserved.new.self.items ≡ before ++ next_entry before c.args.event c.in-Ok.reply ∷ [] = c.push_reserved.ensures.items ∙ ap (λ (e : Entry). before ++ e ∷ []) same in
    subst (λ (es : List Entry). IsLogged model c.step.new.self (record journal { entries = es })) (sym items)
    (logged_longer model c.self.inside.core c.step.new.self journal c.args.event c.in-Ok.reply c.self.invariant c.in-Ok.ensures.step)

pub returns-clause-reply : goal.returns-clause-reply
returns-clause-reply g c =
    let model = g.M.Consistency.rules in
    let journal : Written = record { patches = c.self.inside.patches; boots = c.self.inside.boots.items; entries = c.self.inside.entries.items } in
    let there : journal ≡ c.args.self.now.journal = ap (λ (l : Logged). l.journal) c.self.view_is in
    c.in-Ok.ensures.step.replies (run_of journal) c.self.invariant.stands ∙ ap (λ (j : Written). reply_to model j c.args.event) there

pub returns-clause-quiet : goal.returns-clause-quiet
returns-clause-quiet g c =
    let journal : Written = record { patches = c.self.inside.patches; boots = c.self.inside.boots.items; entries = c.self.inside.entries.items } in
    let quiet : is_quiet_now (state_in c.self.inside.core) c.args.event ≡ true = subst (λ (l : Logged). is_quiet_now (state_in l.core) c.args.event ≡ true) (sym c.self.view_is) c.requires.quiet in
    quiet_reply g.M.Consistency.rules _ (run_of journal) c.args.event c.in-Ok.reply _ c.the_machine_steps_as_defined.ensures c.self.invariant.stands c.in-Ok.ensures.step quiet

pub unreachable-requires : goal.unreachable-requires
unreachable-requires g c =
    let model = g.M.Consistency.rules in
    let quiet : is_quiet_now (state_in c.self.inside.core) c.args.event ≡ true = subst (λ (l : Logged). is_quiet_now (state_in l.core) c.args.event ≡ true) (sym c.self.view_is) c.requires.quiet in
    let left : c.self.inside.core.number < 1000000 = subst (λ (l : Logged). l.core.number < 1000000) (sym c.self.view_is) c.requires.left in
    quiet_taken c.args.event (answer model (state_in c.self.inside.core) c.args.event).what c.self.inside.core.number c.in_default.field-0 left
    (quiet_allocates model (state_in c.self.inside.core) c.args.event quiet)
    (λ same. c.step.ensures.full.0 (c.in_default.is ∙ ap (λ (h : Halt). Err h) same))
    (λ same. c.step.ensures.memory (c.in_default.is ∙ ap (λ (h : Halt). Err h) same))

pub push_reserved-requires : goal.push_reserved-requires
push_reserved-requires g c = grind (arith, common_steps)
