-- Certificates of one leg whose reasons end with the same ones.
use Rattle.std.proofs.Common.{◌≡◌, ℕ, ◌-◌, ◌<◌, ◌≤◌, List, [], ◌++◌, length, get_or, reverse, take, refl, sym, subst, arith}
use Rattle.std.specs.List.{AllByRecursion}
use Rattle.lp_stack.specs.declared.number.GroupId.{GroupId}
use Rattle.lp_definitions.specs.declared.line.Line.{Line}
use Rattle.lp_cert.specs.declared.head.Head.{Head}
use Rattle.lp_cert.specs.declared.reason.Reason.{Reason}
use Rattle.lp_cert.specs.Beside.{BeginWith}
use Rattle.lp_cert.specs.Heads.{head_lines, lines_of, ongoing_reasons}
use Rattle.lp_cert.specs.inside.Chains.{IsLineCount, IsTail, line_count}
use Rattle.lp_cert.specs.inside.Heads.{FitsIn, IsHead}
use Rattle.lp_cert.proofs.LineLemmas.{begin_with, no_fewer}
use Rattle.lp_cert.proofs.PartLemmas.{all_dropped, before_tail}

module _ (lists : List (List Reason)) (scans : List ℕ) (group : GroupId) (head : Head) (is_head : IsHead lists (length scans) head) where
  -- all lines of the older reasons are lines of the group
  pub no_more : (lines : ℕ) → lines ≤ line_count (get_or lists head.older.0 []) → lines ≤ length (reverse (head_lines lists scans group head))
  no_more lines counted =
      let all = no_fewer scans (ongoing_reasons scans group head.ongoing) (get_or lists head.older.0 []) _ refl is_head.fits in
      omega (arith, all, counted)

  -- the lines of a group whose older reasons end with some of these begin with the lines of those
  pub beside : (shared : List Reason) (lines after : List Line) (count : ℕ) → IsTail shared (get_or lists head.older.0 []) → line_count shared < 4294967295
      → IsLineCount shared count → lines ≡ reverse (lines_of scans shared) ++ after → BeginWith lines (reverse (head_lines lists scans group head)) count after
  beside shared lines after count tail told counted so =
      let this = get_or lists head.older.0 [] in
      let ongoing = ongoing_reasons scans group head.ongoing in
      let fits = subst (AllByRecursion (FitsIn (length scans))) (sym tail.rest) (all_dropped (FitsIn (length scans)) (length this - length shared) this is_head.fits) in
      begin_with scans (ongoing ++ take (length this - length shared) this) shared (ongoing ++ this) (before_tail ongoing this shared (length this - length shared) tail refl) fits lines after count so (counted.all (omega (arith, counted.no_more)))
