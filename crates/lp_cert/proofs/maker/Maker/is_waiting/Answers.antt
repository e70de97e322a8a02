use Rattle.std.proofs.Common.{◌≡◌, ◌<◌, Bool, true, false, Some, None, is_some, if◌then◌else◌, refl, sym, ap, ◌∙◌, arith}
use Rattle.std.specs.Option.{option_map}
use Rattle.lp_cert.specs.Ends.{waiting_in}
use Rattle.lp_cert.specs.Invariant.{open_end}
use Rattle.lp_cert.proofs.Asked.{waiting_asked, not_some}
use Rattle.lp_cert.proofs.maker.Maker.is_waiting.Goals as goal

some_if : {A B : Type 0} (f : A → B) (b : Bool) (x : A) → is_some (option_map f (if b then Some x else None)) ≡ b
some_if f true x = refl
some_if f false x = refl

pub returns : goal.returns
returns c =
    let i = c.self.inside in
    let few : c.args.group.0 < 65536 = omega arith in
    let unended = not_some c.in-Some.leg.completed (sym c.is_some.ensures ∙ c.if-is_some.false) in
    let asked = waiting_asked i.noted i.waiters c.in-Some.leg c.args.group unended few ∙ ap (λ o. waiting_in (option_map (open_end i.noted i.waiters) o) c.args.group.0) (sym c.in-Some.is) in
    rw (← c.self.view_is) (c.waits.ensures ∙ (sym (some_if _ _ _) ∙ ap is_some asked))
