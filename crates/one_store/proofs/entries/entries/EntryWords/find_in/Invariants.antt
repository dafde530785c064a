use Rattle.std.proofs.Common.{◌+◌, ◌-◌, ◌*◌, ◌≤◌}
use Rattle.one_store.specs.entries.Coding.{key_of}
use Rattle.one_store.specs.entries.Words.{LacksKeyIn}
use Rattle.one_store.proofs.entries.entries.EntryWords.find_in.Given as goal

abbrev pub invariant-loop-k : goal.invariant-loop-k
invariant-loop-k l = record {
  high : l.from ≤ 16;
  lacks : LacksKeyIn l.self l.level l.bucket (l.block * 16) (l.block * 16 + l.from)
      (key_of l.level l.words);
}

abbrev pub decreases-loop-k : goal.decreases-loop-k
decreases-loop-k l = 16 - l.from
