use Rattle.std.proofs.Common.{ℕ, List, [], ◌∷◌, ◌++◌, refl, sym, ap, ◌∙◌, arith}
use Rattle.std.proofs.lemmas.Grind.{common_steps}
use Rattle.lp_definitions.specs.declared.reply.What.{What}
use Rattle.lp_definitions.specs.declared.reply.Reply.{Reply}
use Rattle.lp_replay.specs.declared.replies.ShortReply.{ShortReply}
use Rattle.lp_replay.specs.declared.replies.ShortWhat.TheVariants.{Ran, Done, Refused}
use Rattle.lp_definitions.specs.declared.reply.What.TheVariants as what
use Rattle.lp_replay.proofs.ReplyLists.{pushed-plain, pushed-over}
use Rattle.lp_replay.proofs.replies.ReplyList.push.Goals as goal
use Rattle.lp_replay.proofs.replies.ReplyList.push.Goals.{in-Ran, in-Done, in-Refused, in-Switched+in_ok-push-in-Switched}

pub invariant_of-self-2 : goal.invariant_of-self-2
invariant_of-self-2 c =
    let i = c.self.inside in
    let one : List ShortReply → List ShortReply = λ l. l ++ record { what = c.match-what-2.what; completed = c.args.reply.completed } ∷ [] in
    let added = c.push_reserved.ensures.items ∙ ap {A = ShortReply} {B = List ShortReply} (λ r. c.match-what-2.self-inside.short.items ++ r ∷ []) c.of.ensures in
    elim c.match-what-2.branch [
      | in-Ran w ↦ (pushed-plain i.short.items c.push_reserved.new.self.items i.groups c.match-what-2.self-inside.groups c.match-what-2.what (Ran w.in-Ran.level) (what.Ran w.in-Ran.level) c.args.reply.completed c.self.invariant (added ∙ ap (λ s. one s.short.items) w.self-inside-is ∙ ap one c.reserve.ensures.items) (ap (λ s. s.groups) w.self-inside-is) w.what-is refl (λ some. refl)).0
      | in-Done w ↦ (pushed-plain i.short.items c.push_reserved.new.self.items i.groups c.match-what-2.self-inside.groups c.match-what-2.what Done what.Done c.args.reply.completed c.self.invariant (added ∙ ap (λ s. one s.short.items) w.self-inside-is ∙ ap one c.reserve.ensures.items) (ap (λ s. s.groups) w.self-inside-is) w.what-is refl (λ some. refl)).0
      | in-Refused w ↦ (pushed-plain i.short.items c.push_reserved.new.self.items i.groups c.match-what-2.self-inside.groups c.match-what-2.what (Refused w.in-Refused.why) (what.Refused w.in-Refused.why) c.args.reply.completed c.self.invariant (added ∙ ap (λ s. one s.short.items) w.self-inside-is ∙ ap one c.reserve.ensures.items) (ap (λ s. s.groups) w.self-inside-is) w.what-is refl (λ some. refl)).0
      | in-Switched+in_ok-push-in-Switched w ↦ (pushed-over i.short.items c.push_reserved.new.self.items i.groups c.match-what-2.self-inside.groups c.match-what-2.what w.in-Switched.groups c.args.reply.completed c.self.invariant (added ∙ ap (λ s. one s.short.items) w.self-inside-is ∙ ap one c.reserve.ensures.items) (ap (λ s. s.groups) w.self-inside-is ∙ w.in_ok-push-in-Switched.ensures.ok ∙ ap (λ (gs : List ℕ). i.groups ++ gs ∷ []) w.as_slice.ensures) w.what-is).0
    ]

pub returns-clause-ok : goal.returns-clause-ok
returns-clause-ok c =
    let i = c.self.inside in
    let one : List ShortReply → List ShortReply = λ l. l ++ record { what = c.match-what-2.what; completed = c.args.reply.completed } ∷ [] in
    let added = c.push_reserved.ensures.items ∙ ap {A = ShortReply} {B = List ShortReply} (λ r. c.match-what-2.self-inside.short.items ++ r ∷ []) c.of.ensures in
    let whole : What → List Reply = λ said. c.args.self.now ++ record { what = said; completed = c.args.reply.completed } ∷ [] in
    elim c.match-what-2.branch [
      | in-Ran w ↦ (pushed-plain i.short.items c.push_reserved.new.self.items i.groups c.match-what-2.self-inside.groups c.match-what-2.what (Ran w.in-Ran.level) (what.Ran w.in-Ran.level) c.args.reply.completed c.self.invariant (added ∙ ap (λ s. one s.short.items) w.self-inside-is ∙ ap one c.reserve.ensures.items) (ap (λ s. s.groups) w.self-inside-is) w.what-is refl (λ some. refl)).1
          ∙ ap (λ l. l ++ record { what = what.Ran w.in-Ran.level; completed = c.args.reply.completed } ∷ []) c.self.view_is ∙ ap whole (sym w.in-Ran.is)
      | in-Done w ↦ (pushed-plain i.short.items c.push_reserved.new.self.items i.groups c.match-what-2.self-inside.groups c.match-what-2.what Done what.Done c.args.reply.completed c.self.invariant (added ∙ ap (λ s. one s.short.items) w.self-inside-is ∙ ap one c.reserve.ensures.items) (ap (λ s. s.groups) w.self-inside-is) w.what-is refl (λ some. refl)).1
          ∙ ap (λ l. l ++ record { what = what.Done; completed = c.args.reply.completed } ∷ []) c.self.view_is ∙ ap whole (sym w.in-Done.is)
      | in-Refused w ↦ (pushed-plain i.short.items c.push_reserved.new.self.items i.groups c.match-what-2.self-inside.groups c.match-what-2.what (Refused w.in-Refused.why) (what.Refused w.in-Refused.why) c.args.reply.completed c.self.invariant (added ∙ ap (λ s. one s.short.items) w.self-inside-is ∙ ap one c.reserve.ensures.items) (ap (λ s. s.groups) w.self-inside-is) w.what-is refl (λ some. refl)).1
          ∙ ap (λ l. l ++ record { what = what.Refused w.in-Refused.why; completed = c.args.reply.completed } ∷ []) c.self.view_is ∙ ap whole (sym w.in-Refused.is)
      | in-Switched+in_ok-push-in-Switched w ↦ (pushed-over i.short.items c.push_reserved.new.self.items i.groups c.match-what-2.self-inside.groups c.match-what-2.what w.in-Switched.groups c.args.reply.completed c.self.invariant (added ∙ ap (λ s. one s.short.items) w.self-inside-is ∙ ap one c.reserve.ensures.items) (ap (λ s. s.groups) w.self-inside-is ∙ w.in_ok-push-in-Switched.ensures.ok ∙ ap (λ (gs : List ℕ). i.groups ++ gs ∷ []) w.as_slice.ensures) w.what-is).1
          ∙ ap (λ l. l ++ record { what = what.Switched w.in-Switched.groups; completed = c.args.reply.completed } ∷ []) c.self.view_is ∙ ap whole (sym w.in-Switched.is)
    ]

pub invariant_of-self-in_err-push-in-Switched : goal.invariant_of-self-in_err-push-in-Switched
invariant_of-self-in_err-push-in-Switched c = grind (arith, common_steps)

pub push_reserved-requires : goal.push_reserved-requires
push_reserved-requires c = grind (arith, common_steps)
