use Rattle.std.proofs.Common.{rules}
use Rattle.lp_text.proofs.quick.quick_event.Goals as goal

pub returns-in-544499058 : goal.returns-in-544499058
returns-in-544499058 c = let told = c.ret_rest.ensures c.args.symbols.now in search rules

pub returns-in-1702129253 : goal.returns-in-1702129253
returns-in-1702129253 c = let told = c.enter_rest.ensures c.args.symbols.now in search rules

pub returns-in-1953069157 : goal.returns-in-1953069157
returns-in-1953069157 c = let told = c.exit_rest.ensures c.args.symbols.now in search rules

pub returns-in-1701145715 : goal.returns-in-1701145715
returns-in-1701145715 c = let told = c.sleep_rest.ensures c.args.symbols.now in search rules

pub returns-in-1701536119 : goal.returns-in-1701536119
returns-in-1701536119 c = let told = c.wake_rest.ensures c.args.symbols.now in search rules

pub returns-in-1802264951 : goal.returns-in-1802264951
returns-in-1802264951 c = let told = c.walk_rest.ensures c.args.symbols.now in search rules

pub returns-in_default : goal.returns-in_default
returns-in_default c = let told = c.rarer_event.ensures c.args.symbols.now in rw c.in_ok-word.ensures told
