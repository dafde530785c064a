use Rattle.std.proofs.Common.{arith}
use Rattle.one_store.proofs.CountLaws.{live_one, live_none}
use Rattle.one_store.proofs.store.one_where_live.Goals as goal

pub returns-then-book-gt0-clause-value : goal.returns-then-book-gt0-clause-value
returns-then-book-gt0-clause-value c = live_one c.args.book c.if-book-gt0.true

pub returns-else-book-gt0-clause-value : goal.returns-else-book-gt0-clause-value
returns-else-book-gt0-clause-value c = live_none c.args.book (omega arith)
