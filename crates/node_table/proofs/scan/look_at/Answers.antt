use Rattle.std.proofs.Common.{◌∙◌, sym, arith}
use Rattle.node_table.proofs.BookLaws.{booked, other_tag, some_live}
use Rattle.node_table.proofs.Learned.{learns_on}
use Rattle.node_table.proofs.scan.look_at.Goals as goal

pub returns-then-book-sought-clause-shows : goal.returns-then-book-sought-clause-shows
returns-then-book-sought-clause-shows c =
    let k = c.look_book-book.ensures.book in
    let live = some_live _ c.args.name c.look_book-book.result
    (λ e. (let n = c.if-book-eq0.false in omega (arith, e))) k.shows in (
      other_tag _ c.args.name c.args.key.now _ live.1
          (λ e. c.if-book-sought.true (e ∙ sym c.requires.sought.tag)),
      booked _ c.args.name c.look_book-book.result live.0 k,
    )

pub returns-then-has_words-clause-learns : goal.returns-then-has_words-clause-learns
returns-then-has_words-clause-learns c =
    learns_on _ _ _ c.look_book-book.ensures.learns c.has_words.ensures.learns

pub returns-else-has_words-clause-learns : goal.returns-else-has_words-clause-learns
returns-else-has_words-clause-learns c =
    learns_on _ _ _ c.look_book-book.ensures.learns c.has_words.ensures.learns
