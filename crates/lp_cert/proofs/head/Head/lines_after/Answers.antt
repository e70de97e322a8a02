use Rattle.std.proofs.Common.{[], ◌++◌, ◌∙◌, ap, get_or, length, reverse, subst, sym}
use Rattle.std.specs.List.{AllByRecursion}
use Rattle.lp_cert.specs.Heads.{lines_of}
use Rattle.lp_cert.specs.inside.Heads.{FitsIn}
use Rattle.lp_cert.proofs.HeadLemmas.{ongoing_fits}
use Rattle.lp_cert.proofs.LineLemmas.{lines_after}
use Rattle.lp_cert.proofs.PartLemmas.{all_prefix}
use Rattle.lp_cert.proofs.head.Head.lines_after.Goals as goal

pub new-requires : goal.new-requires
new-requires c =
    let lists = c.args.chains.now.lists in
    let n = length c.args.scans.now in
    let older = get_or lists c.args.self.older.0 [] in
    let fits = ongoing_fits c.args.scans.now c.args.group c.args.self.ongoing older c.requires.head.continues c.requires.head.fits in
    all_prefix (FitsIn n) c.after-reasons.result (get_or lists c.args.shared.0 [])
    (subst (AllByRecursion (FitsIn n)) (sym (c.after-reasons.ensures ∙ ap (λ rs. rs ++ older) c.ongoing_reason-ongoing.ensures)) fits)

pub returns : goal.returns
returns c =
    let lists = c.args.chains.now.lists in
    let older = get_or lists c.args.self.older.0 [] in
    let shared = get_or lists c.args.shared.0 [] in
    lines_after c.args.scans.now c.after-reasons.result shared _ (c.after-reasons.ensures ∙ ap (λ rs. rs ++ older) c.ongoing_reason-ongoing.ensures)
    ∙ ap (λ ls. reverse (lines_of c.args.scans.now shared) ++ ls) (sym c.new.ensures)
