use Rattle.lp_parts.proofs.keeper.Keeper.give.Given as goal

-- the step is about the key that is given
abbrev pub ghosts-take_up : goal.ghosts-take_up
ghosts-take_up g a = record { of = a.key }
