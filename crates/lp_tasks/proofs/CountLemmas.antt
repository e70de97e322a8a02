-- How many live members a group has, after a change of the table of tasks.
use Rattle.std.proofs.Common.{◌≡◌, ℕ, ◌+◌, ◌<◌, count_by, set, Option, Some, None, if◌then◌else◌, nat_eq, refl, ap, arith}
use Rattle.std.proofs.lemmas.List.Sums.{sum_by-set}
use Rattle.std.specs.Option.{option_map}
use Rattle.lp_definitions.specs.Leg.{LegTask}
use Rattle.lp_machine.specs.Table.{Table, slot, IsWide}
use Rattle.lp_tasks.specs.inside.Table.{changed, with_task, without_task, is_in}

-- ---- After a change

-- a change that keeps groups keeps members
is_in-map : (group : ℕ) (f : LegTask → LegTask) → ((x : LegTask) → (f x).group ≡ x.group) → (o : Option LegTask) → is_in group (option_map f o) ≡ is_in group o
is_in-map group f same None = refl
is_in-map group f same (Some x) = ap (λ g. nat_eq g group) (same x)

-- another task, or none, stands in a slot
count-set : (table : Table) (t : ℕ) (o : Option LegTask) (group : ℕ) → IsWide table → t < 65536
    → count_by (is_in group) (set table.slots t o) + (if is_in group (slot table t) then 1 else 0) ≡ count_by (is_in group) table.slots + (if is_in group o then 1 else 0)
count-set table t o group wide h = sum_by-set (λ p. if is_in group p then 1 else 0) table.slots t o None (omega (arith, wide.slots))

-- a change that keeps groups keeps the count of each
pub count-changed : (table : Table) (t : ℕ) (f : LegTask → LegTask) (group : ℕ) → IsWide table → t < 65536 → ((x : LegTask) → (f x).group ≡ x.group) → count_by (is_in group) (changed t f table).slots ≡ count_by (is_in group) table.slots
count-changed table t f group wide h same =
    let put = count-set table t (option_map f (slot table t)) group wide h in
    omega (arith, rw (is_in-map group f same (slot table t)) at put)

-- a new task counts in its group
pub count-with_task : (table : Table) (t : ℕ) (x : LegTask) (group : ℕ) → IsWide table → t < 65536 → slot table t ≡ None
    → count_by (is_in group) (with_task t x table).slots ≡ count_by (is_in group) table.slots + (if nat_eq x.group group then 1 else 0)
count-with_task table t x group wide h none =
    let put = count-set table t (Some x) group wide h in
    omega (arith, rw none at put)

-- a death takes one from the group's count
pub count-without_task : (table : Table) (t : ℕ) (x : LegTask) (group : ℕ) → IsWide table → t < 65536 → slot table t ≡ Some x
    → count_by (is_in group) table.slots ≡ count_by (is_in group) (without_task t table).slots + (if nat_eq x.group group then 1 else 0)
count-without_task table t x group wide h some =
    let put = count-set table t None group wide h in
    omega (arith, rw some at put)
