-- What a call and a return do to what a count keeps. The code is proved against these definitions, and they against
-- the stays of runs; no public contract names them.
use Rattle.std.specs.Prelude.{ℕ, zero, suc, ◌+◌, ◌-◌, min, Bool, not, ◌&&◌, ◌||◌, if◌then◌else◌, nat_eq, nat_le, slice_set}
use Rattle.lp_patch.specs.Patches.{patch_has}
use Rattle.lp_stays.specs.Invariant.{Ongoing, Tally, outside, place, kept}

-- ---- The stay that one task is in, for one patch

abbrev pub is_outside : Ongoing → Bool
is_outside x = nat_eq x.frames 0

-- both sides ran
abbrev pub is_both : Ongoing → Bool
is_both x = x.new && x.old

-- after a call of the patch's functions, which ran the new side or the old
abbrev pub called : Bool → Ongoing → Ongoing
called side x = record { frames = min (x.frames + 1) 255; old = x.old || not side; new = x.new || side }

-- after a return from one
abbrev pub returned : Ongoing → Ongoing
returned x = if nat_le x.frames 1 then outside else record x { frames = x.frames - 1 }

-- ---- All of them, and the counts

abbrev pub one_if : Bool → ℕ
one_if b = if b then 1 else 0

abbrev pub begins : Ongoing → ℕ
begins x = one_if (is_outside x)

-- the call makes the stay a mixed one
abbrev pub mixes : Bool → Ongoing → ℕ
mixes side x = one_if (is_both (called side x) && not (is_both x))

-- a call of a patch's function, on its new side or its old
abbrev pub after_call : ℕ → ℕ → Bool → Tally → Tally
after_call below t side count =
    let x = kept count below t in
    record count {
      stays = count.stays + begins x;
      mixed = count.mixed + mixes side x;
      present = slice_set count.present (place below t) (called side x);
    }

-- a return from one
abbrev pub after_return : ℕ → ℕ → Tally → Tally
after_return below t count =
    record count { present = slice_set count.present (place below t) (returned (kept count below t)) }

-- a call of any function at a level, in as many of the patches, from the lowest
unfoldable pub calls : ℕ → ℕ → ℕ → ℕ → Tally → Tally
calls zero t func level count = count
calls (suc below) t func level count =
    let before = calls below t func level count in
    if patch_has count.patches (suc below) func then after_call below t (nat_le (suc below) level) before else before

-- a return from any function
unfoldable pub returns : ℕ → ℕ → ℕ → Tally → Tally
returns zero t func count = count
returns (suc below) t func count =
    let before = returns below t func count in
    if patch_has count.patches (suc below) func then after_return below t before else before

-- one more call is counted
abbrev pub one_more : Tally → Tally
one_more count = record count { calls = count.calls + 1 }
