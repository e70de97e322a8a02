use Rattle.std.proofs.Common.{◌≡◌, ◌++◌, refl, rules, ◌∙◌, option_to_list}
use Rattle.lp_threads.proofs.Players.{sent_by}
use Rattle.lp_threads.proofs.play.send.Goals.{in-Some+in_ok-push_back-in-Ok, in_default}
use Rattle.lp_threads.proofs.play.send.Goals as goal

pub returns-in-Ok : goal.returns-in-Ok
returns-in-Ok g c =
    let more : c.match-child.waiting.items ≡ c.args.waiting.now.items ++ option_to_list c.in-Ok.child = elim c.match-child.branch [
      | in-Some+in_ok-push_back-in-Ok w ↦ search rules
      | in_default w ↦ search rules
    ] in
    let same : c.in-Ok.child ≡ c.in-Ok.field-0.child = search rules in
    record {
      sent = sent_by c.args.event c.args.seat c.in-Ok.field-0.seat c.args.waiting.now.items c.match-child.waiting.items _ c.in-Ok.child
          refl c.in-Ok.ensures.sent.1.one_more (same ∙ c.in-Ok.ensures.child) more;
    }
