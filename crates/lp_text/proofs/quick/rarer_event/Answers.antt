use Rattle.std.proofs.Common.{rules}
use Rattle.lp_text.proofs.quick.rarer_event.Goals as goal

pub returns-in-1886352499 : goal.returns-in-1886352499
returns-in-1886352499 c symbols = let told = c.stop_rest.ensures symbols in search rules

pub returns-in-1650552421 : goal.returns-in-1650552421
returns-in-1650552421 c symbols = let told = c.enable_rest.ensures symbols in search rules

pub returns-in-1634953572 : goal.returns-in-1634953572
returns-in-1634953572 c symbols = let told = c.disable_rest.ensures symbols in search rules

pub returns-in-1702258034 : goal.returns-in-1702258034
returns-in-1702258034 c symbols = let told = c.reverse_rest.ensures symbols in search rules

pub returns-in-543517028 : goal.returns-in-543517028
returns-in-543517028 c symbols = let told = c.die_rest.ensures symbols in search rules

pub returns-in-1701602409 : goal.returns-in-1701602409
returns-in-1701602409 c symbols = let told = c.idle_rest.ensures symbols in search rules

pub returns-in-1802661734 : goal.returns-in-1802661734
returns-in-1802661734 c symbols = let told = c.fork_rest.ensures symbols in search rules
