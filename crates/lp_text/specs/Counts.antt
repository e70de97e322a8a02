-- How often a reader or a writer was called, and with what end.
use Rattle.std.specs.Prelude.{◌≡◌, ℕ, zero, suc, ◌==◌, ◌≤◌, if◌then◌else◌}

-- a reader or a writer; how often it was called; how often that failed, which a write that takes no byte does too; and
-- how often a read gave no byte
pub record Counts (S : Type 0) : Type 0 where
  pub stream : S
  pub calls : ℕ
  pub failures : ℕ
  pub ends : ℕ

-- a count with one more, in 64 bits: after the largest number comes 0
abbrev pub next : ℕ → ℕ
next count = if count == 18446744073709551615 then 0 else suc count

-- a count with so many more
unfoldable pub after : ℕ → ℕ → ℕ
after zero count = count
after (suc more) count = next (after more count)

-- no more were counted than these
pub record AtMost (most old new : ℕ) : Type 0 where
  pub more : ℕ
  pub few : more ≤ most
  pub counted : new ≡ after more old

-- one read failed, and none found the end
abbrev pub FailsOnce : {S : Type 0} → Counts S → Counts S → Type 0
FailsOnce old new = (new.failures ≡ next old.failures) × (new.ends ≡ old.ends)
