use Rattle.std.specs.Prelude.{◌≡◌, length, take}
use Rattle.history_model.specs.Packing.{last_edit}
use Rattle.tests_texts.specs.undos.Kept.{AreFirstWords}
use Rattle.tests_texts.proofs.undos.logs.words_of.Given as goal

abbrev pub invariant-loop-k : goal.invariant-loop-k
invariant-loop-k l =
    record {
      first : AreFirstWords l.fn.records l.words.items;
      number : length l.words.items ≡ l.k;
      last : l.last ≡ last_edit (take l.k l.fn.records);
    }
