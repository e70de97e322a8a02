-- Lines of a group without any reason.
use Rattle.std.proofs.Common.{◌≡◌, ℕ, List, [], ◌∷◌, ◌++◌, length, get_or, refl, ap₂, arith}
use Rattle.lp_cert.specs.declared.head.Head.{Head}
use Rattle.lp_cert.specs.declared.ongoing.Ongoing.{Ongoing}
use Rattle.lp_cert.specs.declared.ongoing.Ongoing.TheVariants.{Nothing}
use Rattle.lp_cert.specs.Heads.{lines_of, head_lines, ongoing_reasons}
use Rattle.lp_stack.specs.declared.number.GroupId.{GroupId}
use Rattle.lp_cert.specs.declared.reason.Reason.{Reason}

-- a group of which nothing continues and nothing is older
pub bare_lines : (lists : List (List Reason)) (head : Head) → head.ongoing ≡ Nothing → length (get_or lists head.older.0 []) ≡ 0 → (scans : List ℕ) (group : GroupId) → head_lines lists scans group head ≡ []
unfolding lines_of
bare_lines lists head nothing none scans group =
    ap₂ (λ (o : Ongoing) rs. lines_of scans (ongoing_reasons scans group o ++ rs)) nothing (no_length (get_or lists head.older.0 []) none)
  where
    no_length : (rs : List Reason) → length rs ≡ 0 → rs ≡ []
    no_length [] e = refl
    no_length (r ∷ rs) e = absurd (omega (arith, e))
