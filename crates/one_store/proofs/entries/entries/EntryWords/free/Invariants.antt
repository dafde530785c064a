use Rattle.std.proofs.Common.{◌*◌}
use Rattle.one_store.proofs.OfEntries.FindLaws.{AreLiveTo}
use Rattle.one_store.proofs.entries.entries.EntryWords.free.Given as goal

abbrev pub invariant-loop-block : goal.invariant-loop-block
invariant-loop-block l = AreLiveTo l.self l.level l.bucket (l.block * 16)
