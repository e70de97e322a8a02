-- What holds of every copy of an engine.
use Rattle.std.specs.Prelude.{◌≤◌, length}
use Rattle.lp_definitions.specs.Sound.{IsSound}
use Rattle.lp_machine.specs.Table.{Engine, IsWide, state_in}

-- a sound state over all task numbers, on levels that there are
pub record IsOpening (engine : Engine) : Type 0 where
  pub sound : IsSound (state_in engine)
  pub wide : IsWide engine.table
  pub from_fits : engine.from ≤ length engine.patches
  pub target_fits : engine.target ≤ length engine.patches
  pub number_fits : engine.number ≤ 1000000
