use Rattle.table_rule.proofs.Readings.{raises_book, adds_book, lowers_book, frees_book, readies_key, appends_root, forgets_root}
use Rattle.table_rule.proofs.words.words_step.Goals as goal

pub returns : goal.returns
returns c = record {
  raise = raises_book;
  add = adds_book;
  lower = lowers_book;
  free = frees_book;
  key = readies_key;
  append = appends_root;
  forget = forgets_root;
}
