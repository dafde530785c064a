use Rattle.core_laws.proofs.Lives.{child_lives, child_level, root_lives, held_lives, under_lives}
use Rattle.core_laws.proofs.entries.named_entries_live.Goals as goal

pub returns : goal.returns
returns c = record {
  child = child_lives;
  level = λ p state m n k s live lt child. child_level m.level (state.key m) n k
      (s.fits m live) lt child;
  root = root_lives;
  held = held_lives;
  under = under_lives;
}
