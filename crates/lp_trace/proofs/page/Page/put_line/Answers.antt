use Rattle.std.proofs.Common.{◌∷◌, [], map, List, ℕ, Bor}
use Rattle.lp_text.specs.Words.{line_of}
use Rattle.lp_text.specs.inside.Writing.{line_rest, seen_of}
use Rattle.lp_text.proofs.Writing.{line_split, rest_end}
use Rattle.lp_trace.proofs.Pages.{puts_err, held_prefix, held_start, held_err, held_next, held_last, words_at}
use Rattle.lp_trace.proofs.page.Page.put_line.Goals as goal

pub returns-in_err-put : goal.returns-in_err-put
returns-in_err-put g c =
    let words : List (List ℕ) = map (λ (word : Bor (List ℕ)). word.now) c.args.words.now in
    puts_err _ _ c.args.self.now.held.items _ _ c.from_residual.result c.from_residual.ensures.0 (held_prefix _ _ c.args.self.now.held.items c.args.first.now (line_rest words) _ (line_split c.args.first.now words) c.in_err-put.ensures)

pub loop-word-init : goal.loop-word-init
loop-word-init g c =
    let words : List (List ℕ) = map (λ (word : Bor (List ℕ)). word.now) c.args.words.now in
    held_next _ (seen_of g.W.Write.contents c.args.writer.now) _ _ c.args.self.now.held.items c.args.first.now (line_of (c.args.first.now ∷ words)) (line_rest words) c.put.new.self.held.items (line_split c.args.first.now words) (held_start _ _) c.in_ok-put.ensures

pub returns-in_err-put_all : goal.returns-in_err-put_all
returns-in_err-put_all g c =
    puts_err _ _ c.args.self.now.held.items _ _ c.from_residual-in_err-put_all.result c.from_residual-in_err-put_all.ensures.0 (held_err _ (seen_of g.W.Write.contents c.loop-word.writer) _ _ c.loop-word.self.held.items _ _ _ (words_at c.args.words.now c.loop-word.word-index _ c.loop-word-test.true) c.loop-word.invariant c.in_err-put_all.ensures)

pub loop-word-preserved : goal.loop-word-preserved
loop-word-preserved g c =
    held_next _ (seen_of g.W.Write.contents c.loop-word.writer) _ _ c.loop-word.self.held.items _ _ _ c.put_all.new.self.held.items (words_at c.args.words.now c.loop-word.word-index _ c.loop-word-test.true) c.loop-word.invariant c.in_ok-put_all.ensures

pub returns : goal.returns
returns g c =
    held_last _ (seen_of g.W.Write.contents c.loop-word.writer) _ _ c.args.self.now.held.items c.loop-word.self.held.items _ (10 ∷ []) c.put-2.result (rest_end c.args.words.now c.loop-word.word-index c.loop-word-test.false) c.loop-word.invariant _ c.put-2.ensures
