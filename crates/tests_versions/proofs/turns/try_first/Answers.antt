use Rattle.std.proofs.Common.{rules, refl, ap, ◌∙◌, arith}
use Rattle.tests_versions.specs.Uniform.{first_act}
use Rattle.tests_versions.proofs.HoldingLaws.{back_few, fallen_none, fell_few, fell_named, fell_nothing, gone_whole, made_first}
use Rattle.tests_versions.proofs.turns.try_first.Goals as goal

pub try_commit-requires-clause-may : goal.try_commit-requires-clause-may
try_commit-requires-clause-may g c =
    record {
      pinned = search rules;
      head = search rules;
      edit = search rules;
      fits = search rules;
      made = made_first _ _ _ c.requires.holds _ c.requires.base _
          (c.act_first-act.ensures ∙ ap first_act c.name_of.ensures);
    }

pub try_commit-requires-clause-room : goal.try_commit-requires-clause-room
try_commit-requires-clause-room g c = let few = back_few _ _ _ c.requires.holds in omega arith

pub fallen_back-kept-requires-clause-held : goal.fallen_back-kept-requires-clause-held
fallen_back-kept-requires-clause-held g c =
    let made = c.in-Ok.ensures.came.commits in
    fell_named _ _ _ _ _ _ _ made
    (gone_whole _ _ _ c.requires.holds _ _ _ _ _ refl made.appends)

pub fallen_back-kept-requires-clause-room : goal.fallen_back-kept-requires-clause-room
fallen_back-kept-requires-clause-room g c =
    let made = c.in-Ok.ensures.came.commits in
    fell_few _ _ _ _ _ _ _ made
    (gone_whole _ _ _ c.requires.holds _ _ _ _ _ refl made.appends)

pub returns-in-Ok-clause-holds : goal.returns-in-Ok-clause-holds
returns-in-Ok-clause-holds g c =
    let made = c.in-Ok.ensures.came.commits in
    fallen_none _ _ _ c.requires.holds _ c.fallen_back-kept.ensures.of
    c.fallen_back-kept.ensures.idle
    (fell_nothing _ _ _ _ _ _ _ made
    (gone_whole _ _ _ c.requires.holds _ _ _ _ _ refl made.appends) _
    c.fallen_back-kept.ensures.gone)
