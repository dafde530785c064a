-- What is remembered of walks stays so while more is held.
use Rattle.std.specs.Prelude.{List}
use Rattle.node_words.specs.shapes.Tree.{Tree}
use Rattle.node_words.proofs.HeldLaws.{Keeps, keeps_on, reached_more}
use Rattle.edit_walk.specs.cells.Tasks.{Making}
use Rattle.edit_walk.specs.Memos.{MemoSet, RecallsHeld}

pub recalls_more : {T : Type 0} (makes : T → Making) (held more : List Tree) (memo : MemoSet T)
    → Keeps held more → RecallsHeld makes held memo → RecallsHeld makes more memo
recalls_more makes held more memo k r = record {
  base = r.base;
  keeps = keeps_on r.base held more r.keeps k;
  recalls = record {
    each = λ level e h. let m = r.recalls.each level e h in record {
      tree = m.tree;
      of = record {
        root = m.of.root;
        reached = λ n is. reached_more held more m.tree k (m.of.reached n is);
        levels = m.of.levels;
      };
      cells = m.cells;
      made = m.made;
      shape = m.shape;
    };
  };
}
