use Rattle.std.proofs.Common.{◌≡◌, List, map, ◌++◌}
use Rattle.lp_stack.specs.declared.number.GroupId.{GroupId}
use Rattle.lp_numbers.specs.Numbers.{has}
use Rattle.lp_tasks.specs.Passing.{passing}
use Rattle.lp_definitions.specs.Certificates.{group_id}
use Rattle.lp_cert.proofs.waiters.append.Given as goal

-- the members so far, and those still to come
abbrev pub invariant-loop-number : goal.invariant-loop-number
invariant-loop-number l = record {
  more : List GroupId;
  longer : l.list.items ≡ l.fn.list.items ++ more;
  all : more ++ map group_id l.number-iterator ≡ map group_id (passing 0 65536 (has l.groups));
}
