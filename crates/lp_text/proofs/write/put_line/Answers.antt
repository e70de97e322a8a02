use Rattle.std.proofs.Common.{◌∷◌, [], map, List, ℕ, Bor, refl}
use Rattle.lp_text.specs.inside.Writing.{line_rest, seen_of}
use Rattle.lp_text.proofs.Writing.{prefix_more, writes_err, line_split, rest_at, rest_end, left_prefix, left_next, left_last, wrote}
use Rattle.lp_text.proofs.write.put_line.Goals as goal

pub returns-in_err-put : goal.returns-in_err-put
returns-in_err-put g c =
    let words : List (List ℕ) = map (λ (word : Bor (List ℕ)). word.now) c.args.words.now in
    writes_err _ _ _ c.from_residual.result c.from_residual.ensures.0 (prefix_more _ _ c.args.first.now (line_rest words) _ (line_split c.args.first.now words) (c.in_err-put.ensures.written, c.in_err-put.ensures.writes.write_failed refl))

pub loop-word-init : goal.loop-word-init
loop-word-init g c = (c.args.first.now, line_split c.args.first.now (map (λ word. word.now) c.args.words.now), (c.in_ok-put.ensures.written, c.in_ok-put.ensures.writes.written refl))

pub returns-in_err-put_both : goal.returns-in_err-put_both
returns-in_err-put_both g c =
    writes_err _ _ _ c.from_residual-in_err-put_both.result c.from_residual-in_err-put_both.ensures.0 (left_prefix _ (seen_of g.W.Write.contents c.loop-word.writer) _ _ _ _ _ (rest_at c.args.words.now c.loop-word.word-index _ c.loop-word-test.true) c.loop-word.invariant c.in_err-put_both.ensures)

pub loop-word-preserved : goal.loop-word-preserved
loop-word-preserved g c =
    left_next _ (seen_of g.W.Write.contents c.loop-word.writer) _ _ _ _ _ (rest_at c.args.words.now c.loop-word.word-index _ c.loop-word-test.true) c.loop-word.invariant c.in_ok-put_both.ensures

pub returns : goal.returns
returns g c =
    left_last _ (seen_of g.W.Write.contents c.loop-word.writer) _ _ _ (10 ∷ []) c.put-2.result (rest_end c.args.words.now c.loop-word.word-index c.loop-word-test.false) c.loop-word.invariant (wrote g.W.Write.contents c.loop-word.writer c.put-2.new.writer _ c.put-2.result c.put-2.ensures.written c.put-2.ensures.writes)
