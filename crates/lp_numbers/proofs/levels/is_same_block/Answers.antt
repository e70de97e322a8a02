use Rattle.std.proofs.Common.{◌≡◌, ℕ, ◌+◌, ◌-◌, ◌*◌, ◌/◌, ◌<◌, List, length, take, drop, slice_index, sym, ap, ◌∙◌, arith}
use Rattle.std.specs.Bool.{Decides}
use Rattle.std.proofs.lemmas.Bool.Decides.{Decides-eqb}
use Rattle.std.proofs.lemmas.Grind.{common_steps}
use Rattle.std.proofs.lemmas.List.{ext_get_or, get_or-take, get_or-drop}
use Rattle.std.proofs.lemmas.Slice.Eq.{slice_eq-Decides}
use Rattle.lp_numbers.proofs.levels.is_same_block.Goals as goal

-- the words that word `place` of the summary is over
abbrev block : ℕ → List ℕ → List ℕ
block place row = take (place * 64 + 64 - place * 64) (drop (place * 64) row)

block-at : (place k : ℕ) (row : List ℕ) → k < 64 → slice_index (block place row) k ≡ slice_index row (place * 64 + k)
block-at place k row h =
    get_or-take (place * 64 + 64 - place * 64) (drop (place * 64) row) k 0 (omega arith) ∙ get_or-drop (place * 64) row k 0

block-count : (place : ℕ) (row : List ℕ) → length row ≡ 1024 → place < 16 → length (block place row) ≡ 64
block-count place row count within = grind (arith, common_steps)

pub returns : goal.returns
returns c = (λ same i here. agree (decides.0 same) i here, λ all. decides.1 (alike all))
  where
    decides : Decides c.eq.result (block c.args.place c.args.words.now ≡ block c.args.place c.args.others.now)
    decides = slice_eq-Decides Decides-eqb (block c.args.place c.args.words.now) (block c.args.place c.args.others.now) c.eq.result c.eq.ensures

    agree : block c.args.place c.args.words.now ≡ block c.args.place c.args.others.now → (i : ℕ) → i / 64 ≡ c.args.place → slice_index c.args.words.now i ≡ slice_index c.args.others.now i
    agree e i here =
        let k = i - c.args.place * 64 in
        let within : k < 64 = omega arith in
        let at : c.args.place * 64 + k ≡ i = omega arith in
        rw (← at) (sym (block-at c.args.place k c.args.words.now within) ∙ ap (λ (row : List ℕ). slice_index row k) e ∙ block-at c.args.place k c.args.others.now within)

    alike : ((i : ℕ) → i / 64 ≡ c.args.place → slice_index c.args.words.now i ≡ slice_index c.args.others.now i) → block c.args.place c.args.words.now ≡ block c.args.place c.args.others.now
    alike all =
        let count = block-count c.args.place c.args.words.now c.requires.count c.requires.within in
        let others = block-count c.args.place c.args.others.now c.requires.others c.requires.within in
        ext_get_or 0 (block c.args.place c.args.words.now) (block c.args.place c.args.others.now) (count ∙ sym others)
        (λ k h. let within : k < 64 = omega arith in
        block-at c.args.place k c.args.words.now within ∙ all (c.args.place * 64 + k) (omega arith) ∙ sym (block-at c.args.place k c.args.others.now within))
