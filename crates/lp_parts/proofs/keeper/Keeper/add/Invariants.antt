use Rattle.std.proofs.Common.{Some}
use Rattle.lp_parts.proofs.keeper.Keeper.add.Given as goal

-- the step is about the entry that is given
abbrev pub ghosts-add_entry : goal.ghosts-add_entry
ghosts-add_entry g a = record { entry = Some a.entry.now }
