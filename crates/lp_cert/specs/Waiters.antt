-- The groups that wait in a leg as they are kept, each with its reasons.
use Rattle.std.specs.Prelude.{ℕ, List, map, reverse, slice_index_or}
use Rattle.lp_numbers.specs.Numbers.{Numbers, has}
use Rattle.lp_tasks.specs.Passing.{passing}
use Rattle.lp_definitions.specs.declared.cert.Claim.{Claim}
use Rattle.lp_definitions.specs.declared.cert.Cert.{Cert}
use Rattle.lp_cert.specs.declared.reason.Reason.{Reason}
use Rattle.lp_cert.specs.declared.head.Head.{Head}
use Rattle.lp_cert.specs.declared.head.Waiter.{Waiter}
use Rattle.lp_cert.specs.declared.ongoing.Ongoing.TheVariants.{Nothing}
use Rattle.lp_definitions.specs.Certificates.{group_id}
use Rattle.lp_cert.specs.Heads.{head_lines}

-- ---- Each group's reasons

-- no reason yet
abbrev pub no_head : Head
no_head = record { ongoing = Nothing; older = record { 0 = 0 } }

-- how each group stands by its number, over lists of older reasons and the scans that refused a group, and how many
-- more reasons and scans there is room for
pub record LegReasons : Type 0 where
  pub heads : List Head
  pub lists : List (List Reason)
  pub scans : List ℕ
  pub room : ℕ
  pub scan_room : ℕ

abbrev pub head_of : LegReasons → ℕ → Head
head_of reasons group = slice_index_or reasons.heads group no_head

-- ---- The groups that wait

-- the groups that wait, over the reasons of all
pub record WaitingGroups : Type 0 where
  pub groups : Numbers
  pub reasons : LegReasons

-- a group that waits, as it stands
abbrev pub waiter_in : LegReasons → ℕ → Waiter
waiter_in reasons group = record { group = group_id group; head = head_of reasons group }

-- the groups that wait, in increasing order
abbrev pub waiters_of : WaitingGroups → List Waiter
waiters_of waiters = map (waiter_in waiters.reasons) (passing 0 65536 (has waiters.groups))

-- ---- Certificates

-- the certificate of a group as it is kept
abbrev pub kept_cert : Claim → (leg upto : ℕ) → List (List Reason) → List ℕ → Waiter → Cert
kept_cert claim leg upto lists scans waiter =
    record {
      claim = claim;
      leg = leg;
      group = waiter.group;
      upto = upto;
      lines = reverse (head_lines lists scans waiter.group waiter.head);
    }
