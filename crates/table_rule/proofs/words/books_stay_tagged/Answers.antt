use Rattle.table_rule.proofs.Tags.{tags_outside, tags_key, tags_book}
use Rattle.table_rule.proofs.words.books_stay_tagged.Goals as goal

pub returns : goal.returns
returns c = record { others = tags_outside; key = tags_key; book = tags_book }
