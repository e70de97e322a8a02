use Rattle.std.proofs.Common.{◌≡◌, None, ap, length, rules, subst, sym, ◌∙◌}
use Rattle.lp_log.specs.Journals.{Written}
use Rattle.lp_parts.specs.Parts.{part_for}
use Rattle.lp_owned.specs.Owned.{IsKept, key_of}
use Rattle.lp_owned.proofs.Whole.{all_counted, are_closed, are_parts}
use Rattle.lp_owned.proofs.book.OwnedBook.close.Goals as goal

pub returns-then-have-want-clause-closed : goal.returns-then-have-want-clause-closed
returns-then-have-want-clause-closed g c =
    let desk = g.N.DeskName.desk in
    let journal : Written = c.shut-journal.result.journal in
    let kept : IsKept desk journal c.self.inside.keeper = subst (λ (j : Written). IsKept desk j c.self.inside.keeper) (sym c.shut-journal.ensures.value) c.self.invariant in
    let rest : c.args.control ≡ part_for key_of None c.self.inside.keeper.all = c.control_back.ensures ∙ ap (part_for key_of None) c.take_all_back.ensures.all in
    let len : c.len-have.result ≡ length c.args.seats.items = search rules in
    are_closed desk g.M.Consistency.rules journal c.shut-journal.ensures.named c.self.inside.keeper kept c.args.seats.items c.args.control c.take_all_back.ensures.parts c.take_all_back.ensures.few c.take_all_back.ensures.among rest
    (sym len ∙ c.if-have-want.true ∙ c.given_out-want.ensures)

pub returns-clause-parts : goal.returns-clause-parts
returns-clause-parts g c =
    let desk = g.N.DeskName.desk in
    let journal : Written = c.shut-journal.result.journal in
    let kept : IsKept desk journal c.self.inside.keeper = subst (λ (j : Written). IsKept desk j c.self.inside.keeper) (sym c.shut-journal.ensures.value) c.self.invariant in
    let rest : c.args.control ≡ part_for key_of None c.self.inside.keeper.all = c.control_back.ensures ∙ ap (part_for key_of None) c.take_all_back.ensures.all in
    are_parts desk g.M.Consistency.rules journal c.shut-journal.ensures.named c.self.inside.keeper kept c.args.seats.items c.args.control c.take_all_back.ensures.parts c.take_all_back.ensures.few c.take_all_back.ensures.among rest

pub returns-clause-all_in : goal.returns-clause-all_in
returns-clause-all_in g c =
    let desk = g.N.DeskName.desk in
    let journal : Written = c.shut-journal.result.journal in
    let kept : IsKept desk journal c.self.inside.keeper = subst (λ (j : Written). IsKept desk j c.self.inside.keeper) (sym c.shut-journal.ensures.value) c.self.invariant in
    let rest : c.args.control ≡ part_for key_of None c.self.inside.keeper.all = c.control_back.ensures ∙ ap (part_for key_of None) c.take_all_back.ensures.all in
    let len : c.len-have.result ≡ length c.args.seats.items = search rules in
    λ all. c.if-have-want.false
    (len ∙ all_counted desk g.M.Consistency.rules journal c.shut-journal.ensures.named c.self.inside.keeper kept c.args.seats.items c.args.control c.take_all_back.ensures.parts c.take_all_back.ensures.few c.take_all_back.ensures.among rest all ∙ sym c.given_out-want.ensures)
