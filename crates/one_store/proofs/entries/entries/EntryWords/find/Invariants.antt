use Rattle.std.proofs.Common.{◌*◌}
use Rattle.one_store.specs.entries.Coding.{key_of}
use Rattle.one_store.specs.entries.Words.{LacksKeyIn}
use Rattle.one_store.proofs.entries.entries.EntryWords.find.Given as goal

abbrev pub invariant-loop-block : goal.invariant-loop-block
invariant-loop-block l =
    LacksKeyIn l.self l.level l.bucket 0 (l.block * 16) (key_of l.level l.words)
