use Rattle.table_rule.proofs.AnyTree.{meets_any}
use Rattle.table_rule.proofs.Loads.{looks}
use Rattle.table_rule.proofs.Tags.{looks_book}
use Rattle.table_rule.proofs.UsedSlots.{counts_used}
use Rattle.table_rule.proofs.turns.words_are_loaded.Goals as goal

pub returns : goal.returns
returns c = record { word = looks; book = looks_book; used = counts_used; full = meets_any }
