use Rattle.std.proofs.Common.{◌≡◌, ℕ, suc, ◌+◌, ◌-◌, ◌∷◌, ◌++◌, [], drop, length, refl, sym, ap, ◌∙◌, subst, arith}
use Rattle.std.proofs.lemmas.Grind.{common_steps}
use Rattle.std.proofs.lemmas.List.{drop_all}
use Rattle.std.proofs.Math.Seq.{drop-cons}
use Rattle.lp_definitions.specs.declared.line.Line.{Line}
use Rattle.lp_definitions.specs.declared.line.Line.TheVariants.{Born}
use Rattle.lp_checker.specs.declared.sections.Section.{Section as Part}
use Rattle.lp_checker.specs.inside.Cursors.{leg_in}
use Rattle.lp_checker.proofs.SectionLines.{Made, passes_other, begins, all_made, all_follow}
use Rattle.lp_checker.proofs.sections.sections.Goals as goal
use Rattle.lp_checker.proofs.sections.sections.Goals.{in-Born+in_ok-push, in_default}

pub loop-i-preserved : goal.loop-i-preserved
loop-i-preserved g c =
    let leg = leg_in c.args.cursor.now.range in
    let lines = c.args.lines.now in
    let i = c.loop-i.i in
    let part = c.loop-i.part in
    let next : suc i ≡ i + 1 = omega arith in
    elim c.match-line.branch [
      | in-Born+in_ok-push w ↦
          let here : drop i lines ≡ Born w.in-Born.group w.in-Born.parent w.in-Born.at ∷ drop (suc i) lines = drop-cons lines i _ c.loop-i-test.true ∙ ap (λ (l : Line). l ∷ drop (suc i) lines) w.in-Born.is in
          let moment : ℕ = w.in-Born.at - leg.number in
          let ended : Part = record part { until = moment; end = i } in
          let made = begins leg lines c.args.cursor.now.range.end c.args.first.0 i c.loop-i.parts.items part.group.0 part.begin part.start w.in-Born.group w.in-Born.parent w.in-Born.at ended here c.loop-i-test.true refl refl refl refl refl c.loop-i.invariant.made in
          record {
            made = rw (w.parts-is, w.part-is, w.in_ok-push.ensures.items, w.moment_of-moment.ensures.value) (subst (λ n. Made leg lines c.args.cursor.now.range.end c.args.first.0 n (c.loop-i.parts.items ++ ended ∷ []) w.in-Born.group.0 (w.in-Born.at - leg.number) n) next made);
            until = rw w.part-is c.loop-i.invariant.until;
            end = rw w.part-is c.loop-i.invariant.end;
          }
      | in_default w ↦
          let made = passes_other leg lines c.args.cursor.now.range.end c.args.first.0 i c.loop-i.parts.items part.group.0 part.begin part.start _ (drop-cons lines i _ c.loop-i-test.true) w.in_default.not-Born c.loop-i.invariant.made in
          record {
            made = rw (w.parts-is, w.part-is) (subst (λ n. Made leg lines c.args.cursor.now.range.end c.args.first.0 n c.loop-i.parts.items part.group.0 part.begin part.start) next made);
            until = rw w.part-is c.loop-i.invariant.until;
            end = rw w.part-is c.loop-i.invariant.end;
          }
    ]

pub returns-clause-sections : goal.returns-clause-sections
returns-clause-sections g c =
    let leg = leg_in c.args.cursor.now.range in
    let lines = c.args.lines.now in
    let all : c.loop-i.i ≡ length lines = omega (arith, c.loop-i-test.false, c.loop-i.auto.i-end) in
    rw c.in_ok-push-2.ensures.items (all_made leg lines c.args.cursor.now.range.end c.args.first.0 c.loop-i.i c.loop-i.parts.items c.loop-i.part.group.0 c.loop-i.part.begin c.loop-i.part.start c.loop-i.part (drop_all c.loop-i.i lines (omega (arith, all))) all c.loop-i.invariant.made refl refl c.loop-i.invariant.until refl (c.loop-i.invariant.end ∙ sym all) g.M.Consistency.rules)

pub returns-clause-times : goal.returns-clause-times
returns-clause-times g c =
    let leg = leg_in c.args.cursor.now.range in
    let lines = c.args.lines.now in
    let all : c.loop-i.i ≡ length lines = omega (arith, c.loop-i-test.false, c.loop-i.auto.i-end) in
    rw c.in_ok-push-2.ensures.items (all_follow leg lines c.args.cursor.now.range.end c.args.first.0 c.loop-i.i c.loop-i.parts.items c.loop-i.part.group.0 c.loop-i.part.begin c.loop-i.part.start c.loop-i.part (drop_all c.loop-i.i lines (omega (arith, all))) all c.loop-i.invariant.made refl refl c.loop-i.invariant.until refl (c.loop-i.invariant.end ∙ sym all))

pub loop-i-init : goal.loop-i-init
loop-i-init g c = grind (arith, common_steps)
