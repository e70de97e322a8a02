use Rattle.std.proofs.Common.{◌≡◌, ◌-◌, ◌∙◌, drop, length, sym, ap, arith}
use Rattle.lp_text.proofs.Ends.{same_by_ends}
use Rattle.lp_text.proofs.symbol_cache.have_same_ends.Goals as goal

pub returns-then-is_same_word : goal.returns-then-is_same_word
returns-then-is_same_word c = λ same.
    let a = c.args.first.now in
    let b = c.args.second.now in
    let fronts : c.in-Some-Some.front.now ≡ c.in-Some-Some.same_front.now = c.is_same_word.ensures c.if-is_same_word.true in
    let backs : c.in-Some-Some-2.back.now ≡ c.in-Some-Some-2.same_back.now = c.is_same_word-then-is_same_word.ensures same in
    let back : drop (length a - 8) a ≡ drop (length a - 8) b = sym c.in-Some-Some-2.ensures.cases.1.same ∙ (backs ∙ (c.in-Some-Some-2.ensures'.cases.1.same ∙ ap (λ l. drop (l - 8) b) (sym c.requires.same))) in
    same_by_ends 8 (length a - 8) a b (omega (arith, c.requires.short)) (sym c.in-Some-Some.ensures.cases.same ∙ (fronts ∙ c.in-Some-Some.ensures'.cases.same)) back
