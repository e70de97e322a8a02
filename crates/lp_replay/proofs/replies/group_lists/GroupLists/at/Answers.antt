use Rattle.std.proofs.Common.{◌<◌, ◌≤◌, List, ℕ, length, slice_index, sym, ap, ◌∙◌, arith, rules}
use Rattle.lp_replay.specs.Replies.{first_groups}
use Rattle.lp_replay.specs.inside.GroupLists.{start_of}
use Rattle.lp_replay.proofs.ListsOfGroups.{list_at, none_at, place_fits}
use Rattle.lp_replay.proofs.replies.group_lists.GroupLists.at.Goals as goal

pub returns-then-place-ends : goal.returns-then-place-ends
returns-then-place-ends c =
    let i = c.self.inside in
    let past : length i.ends.items ≤ c.args.place = omega (arith, c.as_slice-ends.ensures.value, ap length c.as_slice-ends.ensures.value, c.if-place-ends.true) in
    rw (← c.self.view_is) (sym (ap first_groups (none_at 0 i.ends.items i.groups.items c.args.place past)))

pub offset_bounds-deref-start_of : goal.offset_bounds-deref-start_of
offset_bounds-deref-start_of c =
    let i = c.self.inside in
    let below : c.args.place < length i.ends.items = omega (arith, ap length c.as_slice-ends.ensures.value, c.if-place-ends.false) in
    let fits = place_fits 0 i.ends.items (length i.groups.items) c.args.place below c.self.invariant in
    let start = c.start_of.ensures ∙ ap (λ (l : List ℕ). start_of 0 l c.args.place) c.as_slice-ends.ensures.value in
    let count = ap length c.deref.ensures.value in
    search rules

pub slice_bounds-result-count : goal.slice_bounds-result-count
slice_bounds-result-count c =
    let i = c.self.inside in
    let below : c.args.place < length i.ends.items = omega (arith, ap length c.as_slice-ends.ensures.value, c.if-place-ends.false) in
    let fits = place_fits 0 i.ends.items (length i.groups.items) c.args.place below c.self.invariant in
    let start = c.start_of.ensures ∙ ap (λ (l : List ℕ). start_of 0 l c.args.place) c.as_slice-ends.ensures.value in
    let end = ap (λ (l : List ℕ). slice_index l c.args.place) c.as_slice-ends.ensures.value in
    omega (arith, fits.0, start, end)

pub slice_bounds-result-start : goal.slice_bounds-result-start
slice_bounds-result-start c =
    let i = c.self.inside in
    let below : c.args.place < length i.ends.items = omega (arith, ap length c.as_slice-ends.ensures.value, c.if-place-ends.false) in
    let fits = place_fits 0 i.ends.items (length i.groups.items) c.args.place below c.self.invariant in
    let start = c.start_of.ensures ∙ ap (λ (l : List ℕ). start_of 0 l c.args.place) c.as_slice-ends.ensures.value in
    let count = ap length c.deref.ensures.value in
    let end = ap (λ (l : List ℕ). slice_index l c.args.place) c.as_slice-ends.ensures.value in
    search rules

pub slice_bounds-result-end-2 : goal.slice_bounds-result-end-2
slice_bounds-result-end-2 c =
    let i = c.self.inside in
    let below : c.args.place < length i.ends.items = omega (arith, ap length c.as_slice-ends.ensures.value, c.if-place-ends.false) in
    let fits = place_fits 0 i.ends.items (length i.groups.items) c.args.place below c.self.invariant in
    let end = ap (λ (l : List ℕ). slice_index l c.args.place) c.as_slice-ends.ensures.value in
    let count = ap length c.deref.ensures.value in
    omega (arith, fits.1, end, count)

pub returns : goal.returns
returns c =
    let i = c.self.inside in
    let below : c.args.place < length i.ends.items = omega (arith, ap length c.as_slice-ends.ensures.value, c.if-place-ends.false) in
    let start = c.start_of.ensures ∙ ap (λ (l : List ℕ). start_of 0 l c.args.place) c.as_slice-ends.ensures.value in
    let end = ap (λ (l : List ℕ). slice_index l c.args.place) c.as_slice-ends.ensures.value in
    rw (start, end, c.deref.ensures.value, ← c.self.view_is) (list_at 0 i.ends.items i.groups.items c.args.place below)
