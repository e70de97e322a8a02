use Rattle.std.proofs.Common.{◌≡◌, ℕ, nat_eq, ◌&&◌}
use Rattle.std.specs.Bool.{Decides}
use Rattle.std.proofs.lemmas.Bool.Decides.{Decides-eqb, Decides-and, Decides-like}
use Rattle.std.proofs.lemmas.Slice.Eq.{slice_eq-Decides}
use Rattle.lp_stack.specs.declared.frame.Frame.{Frame}
use Rattle.lp_stack.proofs.view_copy.same_frames.Goals as goal

abbrev frame_of : ℕ → ℕ → ℕ → Frame
frame_of func level serial = record { func = record { 0 = func }; level = record { 0 = level }; serial = serial }

frame_of-same : (f g l m s t : ℕ) → f ≡ g → l ≡ m → s ≡ t → frame_of f l s ≡ frame_of g m t
frame_of-same f g l m s t p q r = rw (p, q, r)

-- two frames are the same where their functions, levels and serials are
frame-Decides : (a b : Frame) → Decides (nat_eq a.func.0 b.func.0 && (nat_eq a.level.0 b.level.0 && nat_eq a.serial b.serial)) (a ≡ b)
frame-Decides a b =
    let parts = Decides-and _ _ (Decides-eqb a.level.0 b.level.0) (Decides-eqb a.serial b.serial) in
    Decides-like _ (λ p. frame_of-same _ _ _ _ _ _ p.0 p.1.0 p.1.1) (λ e. (cc, (cc, cc))) (Decides-and _ _ (Decides-eqb a.func.0 b.func.0) parts)

pub returns : goal.returns
returns c = slice_eq-Decides frame-Decides c.args.left.now c.args.right.now c.eq.result c.eq.ensures
