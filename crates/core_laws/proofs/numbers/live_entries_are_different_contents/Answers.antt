use Rattle.core_laws.proofs.ContentLaws.{content_shown, live_contents}
use Rattle.core_laws.proofs.numbers.live_entries_are_different_contents.Goals as goal

pub returns : goal.returns
returns c = record { shown = content_shown; number = live_contents }
