use Rattle.core_laws.proofs.Bounds.{missing_in_bucket, book_small}
use Rattle.core_laws.proofs.entries.keys_are_sought_in_one_bucket.Goals as goal

pub returns : goal.returns
returns c = record {
  missing = λ p state level key s missing. missing_in_bucket p state level key s missing.each;
  small = book_small;
}
