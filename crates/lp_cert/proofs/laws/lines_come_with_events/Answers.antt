use Rattle.std.proofs.Common.{refl, sym, ◌∙◌}
use Rattle.lp_definitions.specs.declared.event.Event.TheVariants.{Resched, Fork}
use Rattle.lp_laws.proofs.OneMore.{plain_refusal}
use Rattle.lp_laws.proofs.Past.{lines_past}
use Rattle.lp_cert.proofs.NextLines.{lines_at_scan, lines_at_unused_scan, lines_at_own_check, lines_at_fork}
use Rattle.lp_cert.proofs.VerdictLines.{verdicts_tell}
use Rattle.lp_cert.proofs.OtherEvents.{lines_at_others, lines_at_refused}
use Rattle.lp_cert.proofs.laws.lines_come_with_events.Goals as goal

pub returns : goal.returns
returns g c =
    let model = g.M.Consistency.rules in
    record {
      past = λ leg event k group le. lines_past model leg event k group le;
      scan = λ leg on group scan used it_waits. lines_at_scan model leg on group scan used it_waits;
      verdicts = λ s sound on group it_waits. verdicts_tell model s sound on group it_waits;
      unused_scan = λ leg on group scan unused. lines_at_unused_scan model leg on group scan unused;
      fork = λ leg p child how group ok. lines_at_fork model leg p child how group ok;
      refused_fork = λ leg sound p child how why group e. lines_at_refused model g.met.M.Consistency.lawful leg sound (Fork p child how) group why (sym (plain_refusal model leg (Fork p child how) refl) ∙ e);
      own_check = λ leg t group ok. lines_at_own_check model leg t group ok;
      refused_own_check = λ leg sound t why group e. lines_at_refused model g.met.M.Consistency.lawful leg sound (Resched t) group why (sym (plain_refusal model leg (Resched t) refl) ∙ e);
      others = λ leg sound event group scan fork own. lines_at_others model g.met.M.Consistency.lawful leg sound event group scan fork own;
    }
