use Rattle.std.proofs.Common.{◌++◌, length, sym, ap, ◌∙◌, arith}
use Rattle.std.proofs.lemmas.List.{append-nil}
use Rattle.lp_cert.proofs.LineLemmas.{first_left, none_are_left, line_taken}
use Rattle.lp_cert.proofs.cert_lines.CertLines.collect.Goals as goal

pub loop-line-init : goal.loop-line-init
loop-line-init c = ap (λ ls. ls ++ c.args.self) c.new-lines.ensures.items

pub loop-line-smaller : goal.loop-line-smaller
loop-line-smaller c =
    let one = ap length (first_left c.loop-line.self c.next.new.self c.in-Some.line (sym c.next.ensures.line ∙ c.in-Some.is) c.next.ensures.left) in
    omega (arith, one)

pub loop-line-preserved : goal.loop-line-preserved
loop-line-preserved c =
    line_taken c.args.self c.loop-line.lines.items c.push.new.self.items c.loop-line.self c.next.new.self c.in-Some.line c.loop-line.invariant c.in_ok-push.ensures.items
    (first_left c.loop-line.self c.next.new.self c.in-Some.line (sym c.next.ensures.line ∙ c.in-Some.is) c.next.ensures.left)

pub returns : goal.returns
returns c =
    c.from_vec.ensures ∙ (sym (append-nil c.loop-line.lines.items)
    ∙ (ap (λ ls. c.loop-line.lines.items ++ ls) (sym (none_are_left c.loop-line.self (sym c.next.ensures.line ∙ c.in_default.is))) ∙ c.loop-line.invariant))
