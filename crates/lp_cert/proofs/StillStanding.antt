-- Heads that stand, and stand still where the room alone has changed.
use Rattle.std.proofs.Common.{◌≡◌, ℕ, zero, suc, ◌<◌, List, [], ◌∷◌, length, get_or, sym, ap, subst, ◌∙◌, arith}
use Rattle.lp_numbers.specs.Numbers.{has}
use Rattle.lp_cert.specs.declared.head.Waiter.{Waiter}
use Rattle.lp_cert.specs.declared.reason.Reason.{Reason}
use Rattle.lp_cert.specs.inside.Heads.{IsHead}
use Rattle.lp_cert.specs.Waiters.{WaitingGroups, head_of}
use Rattle.lp_cert.specs.inside.Waiters.{AreHeads, AreStanding}

pub head_at : (lists : List (List Reason)) (scans : ℕ) (waiters : List Waiter) (k : ℕ) (waiter : Waiter) → AreHeads lists scans waiters → k < length waiters → waiter ≡ get_or waiters k waiter → IsHead lists scans waiter.head
head_at lists scans [] k waiter all within is = absurd (omega arith)
head_at lists scans (w ∷ ws) zero waiter all within is = subst (λ (x : Waiter). IsHead lists scans x.head) (sym is) all.0
head_at lists scans (w ∷ ws) (suc k) waiter all within is = head_at lists scans ws k waiter all.1 (omega arith) is

pub still_standing : (old new : WaitingGroups) → AreStanding old → new.groups ≡ old.groups
    → ((group : ℕ) → head_of new.reasons group ≡ head_of old.reasons group) → new.reasons.lists ≡ old.reasons.lists → new.reasons.scans ≡ old.reasons.scans → AreStanding new
still_standing old new stands groups heads lists scans group waits =
    subst (IsHead new.reasons.lists (length new.reasons.scans)) (sym (heads group))
    (subst (λ ls. IsHead ls (length new.reasons.scans) (head_of old.reasons group)) (sym lists)
    (subst (λ xs. IsHead old.reasons.lists (length xs) (head_of old.reasons group)) (sym scans)
    (stands group (sym (ap (λ gs. has gs group) groups) ∙ waits))))
