use Rattle.std.proofs.Common.{◌≡◌, ◌+◌, ◌≤◌, ◌∙◌, length, ℕ, arith, sym, ap}
use Rattle.history_model.specs.Positions.{Position}
use Rattle.undo.specs.Targets.{words_at}
use Rattle.tests_texts.proofs.OfUndos.WordLaws.{now_small, next_last, last_small, next_words, one_more, one_longer}
use Rattle.tests_texts.proofs.undos.logs.words_of.Goals as goal

pub words_at-requires-clause-now : goal.words_at-requires-clause-now
words_at-requires-clause-now c =
    now_small c.args.records.now (c.loop-k.k + 1) _
    (let lt = c.loop-k-test.true in omega (arith, lt)) c.requires
    (c.here.view_is ∙ c.in_ok-here.ensures)

pub words_at-requires-clause-last : goal.words_at-requires-clause-last
words_at-requires-clause-last c =
    last_small c.args.records.now (c.loop-k.k + 1) _
    (let lt = c.loop-k-test.true in omega (arith, lt)) c.requires
    (next_last c.args.records.now _ c.loop-k.k c.loop-k.last _ c.loop-k-test.true c.loop-k.invariant.last c.edit_by-last.ensures)

pub loop-k-preserved : goal.loop-k-preserved
loop-k-preserved c =
    let rs = c.args.records.now in
    let now = ap (λ (p : Position). p.now) (c.here.view_is ∙ c.in_ok-here.ensures) in
    let last =
    next_last rs _ c.loop-k.k c.loop-k.last _ c.loop-k-test.true c.loop-k.invariant.last c.edit_by-last.ensures in
    let here =
    c.words_at.ensures ∙ next_words rs _ c.loop-k.k _ _ c.loop-k-test.true now last
    ∙ ap (λ (n : ℕ). words_at rs (n + 1)) (sym c.loop-k.invariant.number) in
    record {
      first = rw c.in_ok-push.ensures.items
          (one_more rs c.loop-k.words.items _ c.loop-k.invariant.first here);
      number = ap length c.in_ok-push.ensures.items ∙ one_longer _ _ _ c.loop-k.invariant.number;
      last = last;
    }
