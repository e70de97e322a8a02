use Rattle.std.proofs.Common.{refl, sym, ◌∙◌}
use Rattle.std.specs.Prelude.{slice_get}
use Rattle.lp_cert.specs.Ends.{end_in, ends_left}
use Rattle.lp_definitions.specs.Run.{first_leg}
use Rattle.lp_definitions.specs.Outcome.{leg_ends}
use Rattle.lp_replay.specs.Outcome.{run_of}
use Rattle.lp_compare.proofs.FirstLegs.{few_in_first, only_one}
use Rattle.lp_compare.proofs.first_end.first_end.Goals as goal

pub kept_end-requires : goal.kept_end-requires
kept_end-requires g c =
    let model = g.M.Consistency.rules in
    let trace = c.args.trace.now in
    let ends = leg_ends model (first_leg model (run_of trace)) trace.events in
    let end = end_in c.in-Some.end in
    let first = only_one (slice_get ends 0) end (ends_left c.next.new.self) (sym c.in-Ok.ensures ∙ (sym c.iter.ensures ∙ c.in-Some.ensures.steps)) in
    few_in_first model g.met.M.Consistency.lawful trace c.requires ends end refl first
