use Rattle.lp_patch.specs.declared.aim.Aim.{Aim as Borrowed}
use Rattle.lp_patch.specs.Patches.{Aim}

-- a borrowed aim
abbrev pub aimed : Borrowed → Aim
aimed a = record { patches = a.patches.now; target = a.target.0 }
