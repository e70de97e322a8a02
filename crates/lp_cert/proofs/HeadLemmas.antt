-- The lines of a group's reasons, and what a refusal at a further scan makes of them.
use Rattle.std.proofs.Common.{◌≡◌, ℕ, ◌+◌, ◌-◌, ◌<◌, ◌≤◌, inl, inr, ⊎_elim, Bool, true, false, ◌&&◌, List, [], ◌∷◌, ◌++◌, length, map, reverse, take, drop, nat_eq, nat_lt, get_or, if◌then◌else◌, refl, sym, ap, ap₂, subst, ◌∙◌, arith}
use Rattle.std.proofs.Math.ListN.{get_or-append}
use Rattle.std.proofs.Math.Seq.{get_or-append_seam, drop-append_seam}
use Rattle.std.proofs.lemmas.Bool.{eq-eqb, eqb-true, ltb-true, ltb-false, lt-ltb, le-ltb, cond-true, cond-false}
use Rattle.std.proofs.lemmas.List.{length-append, length-drop, drop_all, take_all, take-append-le, drop-append-le, reverse-append, length-reverse}
use Rattle.std.specs.List.{AllByRecursion}
use Rattle.lp_stack.specs.declared.number.GroupId.{GroupId}
use Rattle.lp_stack.specs.declared.number.TaskId.{TaskId}
use Rattle.lp_model.specs.declared.check.Blame.{Blame}
use Rattle.lp_model.specs.declared.check.Blame.TheVariants as blame
use Rattle.lp_definitions.specs.declared.line.Line.{Line}
use Rattle.lp_definitions.specs.declared.line.Line.TheVariants as line
use Rattle.lp_cert.specs.declared.reason.Reason.{Reason}
use Rattle.lp_cert.specs.declared.reason.Reason.TheVariants as reason
use Rattle.lp_cert.specs.declared.ongoing.Checked.{Checked}
use Rattle.lp_cert.specs.declared.ongoing.Ongoing.{Ongoing}
use Rattle.lp_cert.specs.declared.ongoing.Ongoing.TheVariants.{Nothing, Hold, Busy}
use Rattle.lp_cert.specs.declared.head.Head.{Head}
use Rattle.lp_cert.specs.declared.head.Refused.{Refused}
use Rattle.lp_cert.specs.declared.head.OwnFork.{OwnFork}
use Rattle.lp_definitions.specs.Certificates.{refusal_line, after_refusal}
use Rattle.lp_cert.specs.Heads.{busy_lines, reason_lines, lines_of, ongoing_reasons, hold_end}
use Rattle.lp_cert.specs.Waiters.{no_head}
use Rattle.lp_cert.specs.inside.Heads.{is_held, FitsIn, ContinuesIn, IsUnchecked, IsBusyInFront, FitsOlder, IsHead, Keeps, IsUsed, HasFrameAs, is_busy, continues_after, reason_begun_by, busy_reasons, IsRefusedBy, IsRefusedAlone, IsBornBy}

-- ---- A further scan

-- the scans with one more
abbrev more : List ℕ → ℕ → List ℕ
more scans at = scans ++ at ∷ []

length-more : (scans : List ℕ) (at : ℕ) → length (more scans at) ≡ length scans + 1
length-more scans at = length-append scans (at ∷ [])

reason_more : (scans : List ℕ) (at : ℕ) (r : Reason) → FitsIn (length scans) r → reason_lines (more scans at) r ≡ reason_lines scans r
reason_more scans at (reason.One l) h = refl
reason_more scans at (reason.Busy g t first end) h = ap (λ xs. busy_lines g t (drop first xs)) (take-append-le end scans (at ∷ []) h.1)

-- reasons that fit the scans say the same with one more
pub lines_more : (scans : List ℕ) (at : ℕ) (rs : List Reason) → AllByRecursion (FitsIn (length scans)) rs → lines_of (more scans at) rs ≡ lines_of scans rs
unfolding lines_of
lines_more scans at [] fits = refl
lines_more scans at (r ∷ rs) fits = ap₂ (λ xs ys. xs ++ ys) (reason_more scans at r fits.0) (lines_more scans at rs fits.1)

fit_further : (n : ℕ) (r : Reason) → FitsIn n r → FitsIn (n + 1) r
fit_further n (reason.One l) h = tt
fit_further n (reason.Busy g t first end) h = (h.0, omega (arith, h.1))

pub all_fit_further : (n : ℕ) (rs : List Reason) → AllByRecursion (FitsIn n) rs → AllByRecursion (FitsIn (n + 1)) rs
all_fit_further n [] fits = tt
all_fit_further n (r ∷ rs) fits = (fit_further n r fits.0, all_fit_further n rs fits.1)

continues_further : (n : ℕ) (o : Ongoing) → ContinuesIn n o → ContinuesIn (n + 1) o
continues_further n Nothing h = tt
continues_further n (Hold t serial from last) h = omega (arith, h)
continues_further n (Busy t first) h = omega (arith, h)

older_further : (n : ℕ) (o : Ongoing) (rs : List Reason) → ContinuesIn n o → FitsOlder n o rs → FitsOlder (n + 1) o rs
older_further n Nothing rs goes h = h
older_further n (Hold t serial from last) rs goes h = tt
older_further n (Busy t first) rs goes h = inl (omega (arith, goes))

last-more : (scans : List ℕ) (at : ℕ) → get_or (more scans at) (length (more scans at) - 1) 0 ≡ at
last-more scans at =
    let e : length (more scans at) - 1 ≡ length scans = omega (arith, length-more scans at) in
    ap (λ i. get_or (more scans at) i 0) e ∙ get_or-append_seam scans at [] 0

-- a hold goes up to a further scan
end-more : (scans : List ℕ) (at : ℕ) (last : Checked) → last.scans ≤ length scans → hold_end (more scans at) last ≡ at
end-more scans at last few =
    let later : last.scans < length (more scans at) = omega (arith, few, length-more scans at) in
    cond-true (nat_lt last.scans (length (more scans at))) _ last.at (lt-ltb last.scans (length (more scans at)) later) ∙ last-more scans at

all_scans : (scans : List ℕ) → take (length scans) scans ≡ scans
all_scans scans = take_all (length scans) scans (omega arith)

-- ---- A new line

-- no hold stands in front
abbrev NoHold : List Line → Type 0
NoHold (line.Hold g t serial from to ∷ older) = ⊥
NoHold _ = Unit {0}

new_line : (has_frame : (task serial : ℕ) → Bool) (g at : ℕ) (blamed : ℕ × Blame) (lines : List Line) → NoHold lines → after_refusal has_frame g at blamed lines ≡ refusal_line g at blamed ++ lines
new_line has_frame g at blamed [] h = refl
new_line has_frame g at blamed (line.Hold h t serial from to ∷ older) quiet = absurd quiet
new_line has_frame g at blamed (line.Busy h t on ∷ older) quiet = refl
new_line has_frame g at blamed (line.Born h p on ∷ older) quiet = refl

mapped_busy : (g : GroupId) (t : TaskId) (ys : List ℕ) (rest : List Line) → 0 < length ys → NoHold (map (λ on. line.Busy g t on) ys ++ rest)
mapped_busy g t [] rest h = absurd (omega arith)
mapped_busy g t (y ∷ ys) rest h = tt

no_hold_unchecked : (scans : List ℕ) (rs : List Reason) → IsUnchecked rs → NoHold (lines_of scans rs)
unfolding lines_of
no_hold_unchecked scans [] h = tt
no_hold_unchecked scans (reason.One (line.Born g p on) ∷ rs) h = tt
no_hold_unchecked scans (reason.One (line.Hold g t serial from to) ∷ rs) h = absurd h
no_hold_unchecked scans (reason.One (line.Busy g t on) ∷ rs) h = absurd h
no_hold_unchecked scans (reason.Busy g t first end ∷ rs) h = absurd h

no_hold_busy : (scans : List ℕ) (t : TaskId) (rs : List Reason) → IsBusyInFront t rs → NoHold (lines_of scans rs)
unfolding lines_of
no_hold_busy scans t [] h = absurd h
no_hold_busy scans t (reason.One (line.Born g p on) ∷ rs) h = absurd h
no_hold_busy scans t (reason.One (line.Hold g u serial from to) ∷ rs) h = absurd h
no_hold_busy scans t (reason.One (line.Busy g u on) ∷ rs) h = tt
no_hold_busy scans t (reason.Busy g u first end ∷ rs) h = absurd h

-- ---- A run of scans at which a member is busy

pub busy_run : (scans : List ℕ) (g : GroupId) (t : TaskId) (first : ℕ) → first < length scans → ongoing_reasons scans g (Busy t first) ≡ reason.Busy g t first (length scans) ∷ []
busy_run scans g t first h = cond-true (nat_lt first (length scans)) _ [] (lt-ltb first (length scans) h)

pub no_run : (scans : List ℕ) (g : GroupId) (t : TaskId) (first : ℕ) → nat_lt first (length scans) ≡ false → ongoing_reasons scans g (Busy t first) ≡ []
no_run scans g t first h = cond-false (nat_lt first (length scans)) (reason.Busy g t first (length scans) ∷ []) [] h

-- ---- What begins with a refusal

begun_lines : (scans : List ℕ) (g : GroupId) (t : TaskId) (at : ℕ) (b : Blame) (rs : List Reason) → IsUsed b
    → lines_of (more scans at) (ongoing_reasons (more scans at) g (reason_begun_by (length scans) t at b) ++ rs) ≡ refusal_line g.0 at (t.0, b) ++ lines_of (more scans at) rs
unfolding lines_of
begun_lines scans g t at (blame.Frame serial) rs used = ap (λ to. line.Hold g t serial at to ∷ lines_of (more scans at) rs) (end-more scans at (record { at = at; scans = length scans }) (omega arith))
begun_lines scans g t at blame.Busy rs used =
    ap (λ os. lines_of (more scans at) (os ++ rs)) (busy_run (more scans at) g t (length scans) (omega (arith, length-more scans at)))
    ∙ ap (λ xs. busy_lines g t xs ++ lines_of (more scans at) rs) (ap (drop (length scans)) (all_scans (more scans at)) ∙ drop-append_seam scans (at ∷ []))
begun_lines scans g t at blame.Unused rs used = absurd used

begun_continues : (n : ℕ) (t : TaskId) (at : ℕ) (b : Blame) → IsUsed b → ContinuesIn (n + 1) (reason_begun_by n t at b)
begun_continues n t at (blame.Frame serial) used = omega arith
begun_continues n t at blame.Busy used = omega arith
begun_continues n t at blame.Unused used = absurd used

-- with one scan more it fits whatever is older
begun_fits : (n : ℕ) (t : TaskId) (at : ℕ) (b : Blame) (rs : List Reason) → IsUsed b → FitsOlder (n + 1) (reason_begun_by n t at b) rs
begun_fits n t at (blame.Frame serial) rs used = tt
begun_fits n t at blame.Busy rs used = inl (omega arith)
begun_fits n t at blame.Unused rs used = absurd used

-- ---- A refusal

pub ongoing_fits : (scans : List ℕ) (g : GroupId) (o : Ongoing) (rs : List Reason) → ContinuesIn (length scans) o → AllByRecursion (FitsIn (length scans)) rs → AllByRecursion (FitsIn (length scans)) (ongoing_reasons scans g o ++ rs)
ongoing_fits scans g Nothing rs goes fits = fits
ongoing_fits scans g (Hold t serial from last) rs goes fits = (tt, fits)
ongoing_fits scans g (Busy t first) rs goes fits = by (nat_lt first (length scans)) refl
  where
    by : (b : Bool) → nat_lt first (length scans) ≡ b → AllByRecursion (FitsIn (length scans)) (ongoing_reasons scans g (Busy t first) ++ rs)
    by true h = let low = ltb-true first (length scans) h in subst (λ os. AllByRecursion (FitsIn (length scans)) (os ++ rs)) (sym (busy_run scans g t first low)) ((low, omega arith), fits)
    by false h = subst (λ os. AllByRecursion (FitsIn (length scans)) (os ++ rs)) (sym (no_run scans g t first h)) fits

pub busy_some : (scans : List ℕ) (first : ℕ) → first < length scans → 0 < length (reverse (drop first (take (length scans) scans)))
busy_some scans first h =
    let e = length-reverse (drop first (take (length scans) scans)) in
    let d = length-drop first (take (length scans) scans) in
    let t = ap length (all_scans scans) in
    omega arith

-- no hold stands in front of who was busy
no_hold_ongoing : (scans : List ℕ) (g : GroupId) (t : TaskId) (first : ℕ) (rs : List Reason) → FitsOlder (length scans) (Busy t first) rs → NoHold (lines_of scans (ongoing_reasons scans g (Busy t first) ++ rs))
unfolding lines_of
no_hold_ongoing scans g t first rs older = by (nat_lt first (length scans)) refl
  where
    ran : first < length scans → NoHold (lines_of scans (ongoing_reasons scans g (Busy t first) ++ rs))
    ran low = subst (λ os. NoHold (lines_of scans (os ++ rs))) (sym (busy_run scans g t first low)) (mapped_busy g t (reverse (drop first (take (length scans) scans))) (lines_of scans rs) (busy_some scans first low))

    by : (b : Bool) → nat_lt first (length scans) ≡ b → NoHold (lines_of scans (ongoing_reasons scans g (Busy t first) ++ rs))
    by true h = ran (ltb-true first (length scans) h)
    by false h = ⊎_elim ran (λ front. subst (λ os. NoHold (lines_of scans (os ++ rs))) (sym (no_run scans g t first h)) (no_hold_busy scans t rs front)) older

-- a refusal that nothing continues with brings a new line
new_in_front : (has_frame : (task serial : ℕ) → Bool) (scans : List ℕ) (g : GroupId) (o : Ongoing) (rs : List Reason) (refused : Refused)
    → FitsOlder (length scans) o rs → HasFrameAs has_frame o refused.frame_stands → continues_after o refused ≡ false
    → after_refusal has_frame g.0 refused.at (refused.task.0, refused.blame) (lines_of scans (ongoing_reasons scans g o ++ rs))
    ≡ refusal_line g.0 refused.at (refused.task.0, refused.blame) ++ lines_of scans (ongoing_reasons scans g o ++ rs)
unfolding lines_of
new_in_front has_frame scans g Nothing rs refused older frame_stands not_on =
    new_line has_frame g.0 refused.at (refused.task.0, refused.blame) (lines_of scans rs) (no_hold_unchecked scans rs older)
new_in_front has_frame scans g (Hold t serial from last) rs refused older frame_stands not_on =
    cond-false (has_frame t.0 serial) _ _ (frame_stands ∙ not_on)
new_in_front has_frame scans g (Busy t first) rs refused older frame_stands not_on =
    new_line has_frame g.0 refused.at (refused.task.0, refused.blame) _ (no_hold_ongoing scans g t first rs older)

pub busy_blame : (b : Blame) → is_busy b ≡ true → b ≡ blame.Busy
busy_blame (blame.Frame serial) e = absurd (cc)
busy_blame blame.Busy e = refl
busy_blame blame.Unused e = absurd (cc)

both_true : (a b : Bool) → (a && b) ≡ true → (a ≡ true) × (b ≡ true)
both_true true true e = (refl, refl)
both_true true false e = absurd (cc)
both_true false b e = absurd (cc)

-- a busy member's lines with one scan more
busy_more : (g : GroupId) (t : TaskId) (scans : List ℕ) (first at : ℕ) → first ≤ length scans
    → busy_lines g t (drop first (take (length (more scans at)) (more scans at))) ≡ line.Busy g t at ∷ busy_lines g t (drop first (take (length scans) scans))
busy_more g t scans first at h =
    let further : drop first (take (length (more scans at)) (more scans at)) ≡ drop first scans ++ at ∷ [] =
    ap (drop first) (all_scans (more scans at)) ∙ drop-append-le first scans (at ∷ []) (omega arith) in
    ap (map (λ on. line.Busy g t on)) (ap reverse further ∙ reverse-append (drop first scans) (at ∷ []))
    ∙ ap (λ xs. line.Busy g t at ∷ busy_lines g t (drop first xs)) (sym (all_scans scans))

-- so are those of who was busy, in front of older ones
busy_longer : (scans : List ℕ) (g : GroupId) (t : TaskId) (first at : ℕ) (rs : List Reason) → first ≤ length scans → AllByRecursion (FitsIn (length scans)) rs
    → lines_of (more scans at) (ongoing_reasons (more scans at) g (Busy t first) ++ rs) ≡ (line.Busy g t at ∷ []) ++ lines_of scans (ongoing_reasons scans g (Busy t first) ++ rs)
unfolding lines_of
busy_longer scans g t first at rs goes fits =
    ap (λ os. lines_of (more scans at) (os ++ rs)) (busy_run (more scans at) g t first (omega (arith, goes, length-more scans at)))
    ∙ (ap₂ (λ xs ys. xs ++ ys) (busy_more g t scans first at goes) (lines_more scans at rs fits)
    ∙ by (nat_lt first (length scans)) refl)
  where
    by : (b : Bool) → nat_lt first (length scans) ≡ b
        → line.Busy g t at ∷ (busy_lines g t (drop first (take (length scans) scans)) ++ lines_of scans rs) ≡ line.Busy g t at ∷ lines_of scans (ongoing_reasons scans g (Busy t first) ++ rs)
    by true h = ap (λ os. line.Busy g t at ∷ lines_of scans (os ++ rs)) (sym (busy_run scans g t first (ltb-true first (length scans) h)))
    by false h =
        let all : length scans ≤ first = ltb-false first (length scans) h in
        ap (λ xs. line.Busy g t at ∷ (busy_lines g t xs ++ lines_of scans rs)) (ap (drop first) (all_scans scans) ∙ drop_all first scans all)
        ∙ ap (λ os. line.Busy g t at ∷ lines_of scans (os ++ rs)) (sym (no_run scans g t first h))

-- a refusal that the newest reason continues with makes it longer
longer_in_front : (has_frame : (task serial : ℕ) → Bool) (scans : List ℕ) (g : GroupId) (o : Ongoing) (rs : List Reason) (refused : Refused)
    → ContinuesIn (length scans) o → FitsOlder (length scans) o rs → AllByRecursion (FitsIn (length scans)) rs → HasFrameAs has_frame o refused.frame_stands → continues_after o refused ≡ true
    → lines_of (more scans refused.at) (ongoing_reasons (more scans refused.at) g o ++ rs)
    ≡ after_refusal has_frame g.0 refused.at (refused.task.0, refused.blame) (lines_of scans (ongoing_reasons scans g o ++ rs))
unfolding lines_of
longer_in_front has_frame scans g Nothing rs refused goes older fits frame_stands on = absurd (cc)
longer_in_front has_frame scans g (Hold t serial from last) rs refused goes older fits frame_stands on =
    ap₂ (λ to older. line.Hold g t serial from to ∷ older) (end-more scans refused.at last goes) (lines_more scans refused.at rs fits)
    ∙ sym (cond-true (has_frame t.0 serial) _ _ (frame_stands ∙ on))
longer_in_front has_frame scans g (Busy t first) rs refused goes older fits frame_stands on =
    let parts = both_true (is_busy refused.blame) (nat_eq refused.task.0 t.0) on in
    let same : refused.task.0 ≡ t.0 = eqb-true refused.task.0 t.0 parts.1 in
    let blamed : List Line = refusal_line g.0 refused.at (refused.task.0, refused.blame) in
    let is_line : line.Busy g t refused.at ∷ [] ≡ blamed =
    ap (λ b. refusal_line g.0 refused.at (t.0, b)) (sym (busy_blame refused.blame parts.0)) ∙ ap (λ n. refusal_line g.0 refused.at (n, refused.blame)) (sym same) in
    busy_longer scans g t first refused.at rs goes fits
    ∙ (ap (λ ls. ls ++ lines_of scans (ongoing_reasons scans g (Busy t first) ++ rs)) is_line
    ∙ sym (new_line has_frame g.0 refused.at (refused.task.0, refused.blame) _ (no_hold_ongoing scans g t first rs older)))

module _ (scans : List ℕ) (group : GroupId) (refused : Refused) (head : Head) (old : List (List Reason)) (is_head : IsHead old (length scans) head) where
  -- the newest reason continues
  pub refused_on : continues_after head.ongoing refused ≡ true → IsRefusedBy refused group scans head head old old
  refused_on on = record {
    lines = λ has_frame frame_stands. longer_in_front has_frame scans group head.ongoing (get_or old head.older.0 []) refused is_head.continues is_head.fits_older is_head.fits frame_stands on;
    stands = record {
      known = is_head.known;
      fits = all_fit_further (length scans) (get_or old head.older.0 []) is_head.fits;
      continues = continues_further (length scans) head.ongoing is_head.continues;
      fits_older = older_further (length scans) head.ongoing (get_or old head.older.0 []) is_head.continues is_head.fits_older;
    };
    kept = record { no_less = omega arith; same = λ i h. refl };
  }

  -- it is closed, and another begins
  pub refused_new : (next : Head) (new : List (List Reason)) → IsUsed refused.blame → continues_after head.ongoing refused ≡ false
      → next.ongoing ≡ reason_begun_by (length scans) refused.task refused.at refused.blame
      → get_or new next.older.0 [] ≡ ongoing_reasons scans group head.ongoing ++ get_or old head.older.0 []
      → next.older.0 < length new → Keeps old new
      → IsRefusedBy refused group scans head next old new
  refused_new next new used not_on begins list known kept =
      let closed : List Reason = ongoing_reasons scans group head.ongoing ++ get_or old head.older.0 [] in
      let fits : AllByRecursion (FitsIn (length scans)) closed = ongoing_fits scans group head.ongoing (get_or old head.older.0 []) is_head.continues is_head.fits in
      record {
        lines = λ has_frame frame_stands.
            ap₂ (λ o rs. lines_of (more scans refused.at) (ongoing_reasons (more scans refused.at) group o ++ rs)) begins list
            ∙ (begun_lines scans group refused.task refused.at refused.blame closed used
            ∙ (ap (λ ls. refusal_line group.0 refused.at (refused.task.0, refused.blame) ++ ls) (lines_more scans refused.at closed fits)
            ∙ sym (new_in_front has_frame scans group head.ongoing (get_or old head.older.0 []) refused is_head.fits_older frame_stands not_on)));
        stands = record {
          known = known;
          fits = subst (AllByRecursion (FitsIn (length scans + 1))) (sym list) (all_fit_further (length scans) closed fits);
          continues = subst (ContinuesIn (length scans + 1)) (sym begins) (begun_continues (length scans) refused.task refused.at refused.blame used);
          fits_older = subst (λ o. FitsOlder (length scans + 1) o (get_or new next.older.0 [])) (sym begins) (begun_fits (length scans) refused.task refused.at refused.blame (get_or new next.older.0 []) used);
        };
        kept = kept;
      }

-- ---- A refusal by the own check of a group's only member

begun_alone : (scans : List ℕ) (g : GroupId) (refused : Refused) (rs : List Reason) → IsUsed refused.blame
    → lines_of scans (ongoing_reasons scans g (reason_begun_by (length scans) refused.task refused.at refused.blame) ++ (busy_reasons g refused ++ rs)) ≡ refusal_line g.0 refused.at (refused.task.0, refused.blame) ++ lines_of scans rs
unfolding lines_of
begun_alone scans g refused rs used = by refused.blame refl
  where
    by : (b : Blame) → refused.blame ≡ b
        → lines_of scans (ongoing_reasons scans g (reason_begun_by (length scans) refused.task refused.at refused.blame) ++ (busy_reasons g refused ++ rs)) ≡ refusal_line g.0 refused.at (refused.task.0, refused.blame) ++ lines_of scans rs
    by (blame.Frame serial) is =
        rw is (ap (λ to. line.Hold g refused.task serial refused.at to ∷ lines_of scans rs) (cond-false (nat_lt (length scans) (length scans)) _ refused.at (le-ltb (length scans) (length scans) (omega arith))))
    by blame.Busy is = rw is (ap (λ os. lines_of scans (os ++ (reason.One (line.Busy g refused.task refused.at) ∷ rs))) (no_run scans g refused.task (length scans) (le-ltb (length scans) (length scans) (omega arith))))
    by blame.Unused is = absurd (subst IsUsed is used)

begun_continues_alone : (n : ℕ) (t : TaskId) (at : ℕ) (b : Blame) → IsUsed b → ContinuesIn n (reason_begun_by n t at b)
begun_continues_alone n t at (blame.Frame serial) used = omega arith
begun_continues_alone n t at blame.Busy used = omega arith
begun_continues_alone n t at blame.Unused used = absurd used

busy_fits_in : (n : ℕ) (g : GroupId) (refused : Refused) (rs : List Reason) → AllByRecursion (FitsIn n) rs → AllByRecursion (FitsIn n) (busy_reasons g refused ++ rs)
busy_fits_in n g refused rs fits = by (is_busy refused.blame) refl
  where
    by : (b : Bool) → is_busy refused.blame ≡ b → AllByRecursion (FitsIn n) (busy_reasons g refused ++ rs)
    by true is = rw is (tt, fits)
    by false is = rw is fits

alone_fits : (n : ℕ) (g : GroupId) (refused : Refused) (rs : List Reason) → IsUsed refused.blame → FitsOlder n (reason_begun_by n refused.task refused.at refused.blame) (busy_reasons g refused ++ rs)
alone_fits n g refused rs used = by refused.blame refl
  where
    by : (b : Blame) → refused.blame ≡ b → FitsOlder n (reason_begun_by n refused.task refused.at refused.blame) (busy_reasons g refused ++ rs)
    by (blame.Frame serial) is = rw is tt
    by blame.Busy is = rw is (inr refl)
    by blame.Unused is = absurd (subst IsUsed is used)

-- where no hold stands it brings a new line
alone_in_front : (has_frame : (task serial : ℕ) → Bool) (scans : List ℕ) (g : GroupId) (o : Ongoing) (rs : List Reason) (refused : Refused)
    → FitsOlder (length scans) o rs → HasFrameAs has_frame o refused.frame_stands → ((task : TaskId) (serial from : ℕ) (last : Checked) → o ≡ Hold task serial from last → refused.frame_stands ≡ false)
    → after_refusal has_frame g.0 refused.at (refused.task.0, refused.blame) (lines_of scans (ongoing_reasons scans g o ++ rs))
    ≡ refusal_line g.0 refused.at (refused.task.0, refused.blame) ++ lines_of scans (ongoing_reasons scans g o ++ rs)
unfolding lines_of
alone_in_front has_frame scans g Nothing rs refused older frame_stands not_on =
    new_line has_frame g.0 refused.at (refused.task.0, refused.blame) (lines_of scans rs) (no_hold_unchecked scans rs older)
alone_in_front has_frame scans g (Hold t serial from last) rs refused older frame_stands not_on =
    cond-false (has_frame t.0 serial) _ _ (frame_stands ∙ not_on t serial from last refl)
alone_in_front has_frame scans g (Busy t first) rs refused older frame_stands not_on =
    new_line has_frame g.0 refused.at (refused.task.0, refused.blame) _ (no_hold_ongoing scans g t first rs older)

module _ (scans : List ℕ) (group : GroupId) (refused : Refused) (head : Head) (old : List (List Reason)) (is_head : IsHead old (length scans) head) where
  -- a hold goes up to it
  pub alone_on : (next : Head) (task : TaskId) (serial from : ℕ) (last : Checked) → head.ongoing ≡ Hold task serial from last → refused.frame_stands ≡ true
      → next ≡ record { ongoing = Hold task serial from (record { at = refused.at; scans = length scans }); older = head.older }
      → IsRefusedAlone refused group scans head next old old
  unfolding lines_of
  alone_on next task serial from last held stands is =
      let rs : List Reason = get_or old head.older.0 [] in
      let on : Checked = record { at = refused.at; scans = length scans } in
      let end : hold_end scans on ≡ refused.at = cond-false (nat_lt (length scans) (length scans)) _ refused.at (le-ltb (length scans) (length scans) (omega arith)) in
      subst (λ h. IsRefusedAlone refused group scans head h old old) (sym is) (record {
        lines = λ has_frame frame_stands.
            ap (λ to. line.Hold group task serial from to ∷ lines_of scans rs) end
            ∙ (sym (cond-true (has_frame task.0 serial) _ _ (subst (λ o. HasFrameAs has_frame o refused.frame_stands) held frame_stands ∙ stands))
            ∙ ap (λ o. after_refusal has_frame group.0 refused.at (refused.task.0, refused.blame) (lines_of scans (ongoing_reasons scans group o ++ rs))) (sym held));
        stands = record {
          known = is_head.known;
          fits = is_head.fits;
          continues = omega arith;
          fits_older = tt;
        };
        kept = record { no_less = omega arith; same = λ i h. refl };
      })

  -- any other reason is closed, and another begins
  pub alone_new : (next : Head) (new : List (List Reason)) → IsUsed refused.blame → ((task : TaskId) (serial from : ℕ) (last : Checked) → head.ongoing ≡ Hold task serial from last → refused.frame_stands ≡ false)
      → next.ongoing ≡ reason_begun_by (length scans) refused.task refused.at refused.blame
      → get_or new next.older.0 [] ≡ busy_reasons group refused ++ (ongoing_reasons scans group head.ongoing ++ get_or old head.older.0 [])
      → next.older.0 < length new → Keeps old new
      → IsRefusedAlone refused group scans head next old new
  alone_new next new used not_on begins list known kept =
      let closed : List Reason = ongoing_reasons scans group head.ongoing ++ get_or old head.older.0 [] in
      let fits : AllByRecursion (FitsIn (length scans)) closed = ongoing_fits scans group head.ongoing (get_or old head.older.0 []) is_head.continues is_head.fits in
      record {
        lines = λ has_frame frame_stands.
            ap₂ (λ o rs. lines_of scans (ongoing_reasons scans group o ++ rs)) begins list
            ∙ (begun_alone scans group refused closed used
            ∙ sym (alone_in_front has_frame scans group head.ongoing (get_or old head.older.0 []) refused is_head.fits_older frame_stands not_on));
        stands = record {
          known = known;
          fits = subst (AllByRecursion (FitsIn (length scans))) (sym list) (busy_fits_in (length scans) group refused closed fits);
          continues = subst (ContinuesIn (length scans)) (sym begins) (begun_continues_alone (length scans) refused.task refused.at refused.blame used);
          fits_older =
              subst (λ o. FitsOlder (length scans) o (get_or new next.older.0 [])) (sym begins)
              (subst (FitsOlder (length scans) (reason_begun_by (length scans) refused.task refused.at refused.blame)) (sym list) (alone_fits (length scans) group refused closed used));
        };
        kept = kept;
      }

-- a head stands with one scan more
pub head_further : (lists : List (List Reason)) (n : ℕ) (head : Head) → IsHead lists n head → IsHead lists (n + 1) head
head_further lists n head is = record {
  known = is.known;
  fits = all_fit_further n (get_or lists head.older.0 []) is.fits;
  continues = continues_further n head.ongoing is.continues;
  fits_older = older_further n head.ongoing (get_or lists head.older.0 []) is.continues is.fits_older;
}

-- ---- A birth

-- a list more leaves those that are there
keeps_push : (old mid : List (List Reason)) (list : List Reason) → Keeps old mid → Keeps old (mid ++ list ∷ [])
keeps_push old mid list kept = record {
  no_less = omega (arith, kept.no_less, length-append mid (list ∷ []));
  same = λ i h. get_or-append mid (list ∷ []) [] i (omega (arith, kept.no_less)) ∙ kept.same i h;
}

module _ (scans : List ℕ) (group : GroupId) (birth : OwnFork) (head : Head) (old : List (List Reason)) (is_head : IsHead old (length scans) head) where
  pub born_by : (next : Head) (mid new : List (List Reason)) (before : ℕ) → next.ongoing ≡ Nothing
      → get_or mid before [] ≡ ongoing_reasons scans group head.ongoing ++ get_or old head.older.0 []
      → Keeps old mid
      → new ≡ mid ++ (reason.One (line.Born birth.child birth.parent birth.at) ∷ get_or mid before []) ∷ []
      → next.older.0 ≡ length mid
      → IsBornBy birth group scans head next old new
  unfolding lines_of
  born_by next mid new before quiet closed kept is at =
      let parents : List Reason = ongoing_reasons scans group head.ongoing ++ get_or old head.older.0 [] in
      let own : List Reason = reason.One (line.Born birth.child birth.parent birth.at) ∷ parents in
      let list : get_or new next.older.0 [] ≡ own =
      ap₂ (λ lists i. get_or lists i []) is at
      ∙ (get_or-append_seam mid (reason.One (line.Born birth.child birth.parent birth.at) ∷ get_or mid before []) [] []
      ∙ ap (λ rs. reason.One (line.Born birth.child birth.parent birth.at) ∷ rs) closed) in
      let longer : length new ≡ length mid + 1 = ap length is ∙ length-append mid _ in
      record {
        lines = ap₂ (λ o rs. lines_of scans (ongoing_reasons scans birth.child o ++ rs)) quiet list;
        stands = record {
          known = omega (arith, at, longer);
          fits = subst (AllByRecursion (FitsIn (length scans))) (sym list) (tt, ongoing_fits scans group head.ongoing (get_or old head.older.0 []) is_head.continues is_head.fits);
          continues = subst (ContinuesIn (length scans)) (sym quiet) tt;
          fits_older = subst (λ o. FitsOlder (length scans) o (get_or new next.older.0 [])) (sym quiet) (subst IsUnchecked (sym list) tt);
        };
        kept = subst (Keeps old) (sym is) (keeps_push old mid (reason.One (line.Born birth.child birth.parent birth.at) ∷ get_or mid before []) kept);
      }

-- whether a reason is held says of a hold whether its frame stands
pub frame_as : (has_frame : (task serial : ℕ) → Bool) (o : Ongoing) (held : Bool) → held ≡ is_held has_frame o → HasFrameAs has_frame o held
frame_as has_frame Nothing held is = tt
frame_as has_frame (Hold task serial from last) held is = sym is
frame_as has_frame (Busy task first) held is = tt

-- ---- Where a group is put

-- what is said of how a group stood over the scans, and of the reasons with which another was put there
pub put_there : (P : List ℕ → Head → Head → Type 0) (scans same : List ℕ) (head next : Head) (old new : List Head) (from number : ℕ) → scans ≡ same → head ≡ get_or old from no_head
    → ((n : ℕ) → get_or new n no_head ≡ (if nat_eq n number then next else get_or old n no_head)) → P scans head next → P same (get_or old from no_head) (get_or new number no_head)
put_there P scans same head next old new from number scans_are stood values holds =
    let there = values number ∙ cond-true (nat_eq number number) next (get_or old number no_head) (eq-eqb number number refl) in
    subst (λ h. P same (get_or old from no_head) h) (sym there) (subst (λ h. P same h next) stood (subst (λ xs. P xs head next) scans_are holds))
