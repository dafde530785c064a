use Rattle.std.proofs.Common.{rules, ◌∙◌, arith}
use Rattle.version_log.specs.declared.answers.CommitRefused.TheVariants.{LogFull, Stale}
use Rattle.session.proofs.AttemptLaws.{done_comes, done_room, full_comes, late_comes, late_room, made_room, refused_as, stale_comes}
use Rattle.session.proofs.CommitLaws.{head_root}
use Rattle.session.proofs.KeepLaws.{commits_as, fallen_back}
use Rattle.session.proofs.world.World.attempt.Goals as goal

pub returns-in-Err-clause-comes : goal.returns-in-Err-clause-comes
returns-in-Err-clause-comes g c =
    full_comes c.args.self.now c.args.line _ _ c.args.base.now c.args.s.now c.make_next.new.s
    c.requires.maker.maker c.requires.base c.make_next.ensures.stays c.in-Err.full c.in-Err.ensures.made

-- the share of the version that fell out goes back
pub give_root-requires-clause-held : goal.give_root-requires-clause-held
give_root-requires-clause-held g c =
    fallen_back _ c.args.line _ _ c.in-Ok-commit_root.field-0 c.make_next.new.s.view
    c.commit_root.new.s.view c.in-Ok-commit_root.ensures.came.commits

pub returns-in-Ok-commit_root-clause-comes : goal.returns-in-Ok-commit_root-clause-comes
returns-in-Ok-commit_root-clause-comes g c =
    done_comes c.args.self.now c.args.line _ _ c.args.base.now c.args.s.now c.make_next.new.s
    c.requires.maker.maker c.requires.base c.make_next.ensures.stays _
    c.in-Ok.ensures.made c.commit_root.new.s.view c.give_root.new.s.view
    c.in-Ok-commit_root.field-0
    (commits_as _ _ _ _ c.act.result (g.M.ActMaker.act c.args.maker.now) _ _
    (c.act.ensures.value ∙ c.make_next.ensures.edit.act_is) c.in-Ok-commit_root.ensures.came.commits)
    c.give_root.ensures.seen c.give_root.ensures.gone

pub returns-in-Err-LogFull-clause-comes : goal.returns-in-Err-LogFull-clause-comes
returns-in-Err-LogFull-clause-comes g c =
    late_comes c.args.self.now c.args.line _ _ c.args.base.now c.args.s.now c.make_next.new.s
    c.requires.maker.maker c.requires.base c.make_next.ensures.stays _
    c.in-Ok.ensures.made c.commit_root.new.s.view c.give_root-in-Err-LogFull.new.s.view c.in-Err-LogFull.root
    c.in-Err-LogFull.ensures.came.looks c.in-Err-LogFull.ensures.came.kept
    (refused_as c.args.base.now c.in-Ok.root c.in-Err-LogFull.field-0
    (LogFull c.in-Err-LogFull.root) c.commit_root.new.s.view (search rules)
    c.in-Err-LogFull.ensures.came.refused) c.give_root-in-Err-LogFull.ensures.seen c.give_root-in-Err-LogFull.ensures.gone

pub returns-in-Err-Stale-clause-comes : goal.returns-in-Err-Stale-clause-comes
returns-in-Err-Stale-clause-comes g c =
    stale_comes c.args.self.now c.args.line _ _ c.args.base.now c.args.s.now c.make_next.new.s
    c.requires.maker.maker c.requires.base c.make_next.ensures.stays _
    c.in-Ok.ensures.made c.commit_root.new.s.view c.in-Err-Stale.now c.in-Err-Stale.root
    c.in-Err-Stale.ensures.came.looks c.in-Err-Stale.ensures.came.kept
    (refused_as c.args.base.now c.in-Ok.root c.in-Err-Stale.field-0
    (Stale c.in-Err-Stale.now c.in-Err-Stale.root) c.commit_root.new.s.view (search rules)
    c.in-Err-Stale.ensures.came.refused)

pub make_next-requires-clause-head : goal.make_next-requires-clause-head
make_next-requires-clause-head g c =
    record {
      root_is = head_root c.args.s.now.view c.args.base.now _ (search rules) c.requires.base;
      room = (let few = c.requires.ready.room in omega arith);
    }

pub commit_root-requires-clause-ready : goal.commit_root-requires-clause-ready
commit_root-requires-clause-ready g c =
    record {
      rest = search rules;
      room = made_room c.args.self.now c.args.line _ _ c.args.base.now c.args.s.now c.make_next.new.s
          c.requires.maker.maker c.requires.base c.make_next.ensures.stays _ c.in-Ok.ensures.made
          c.requires.ready.room;
    }

pub give_root-requires-clause-ready : goal.give_root-requires-clause-ready
give_root-requires-clause-ready g c =
    record {
      rest = c.commit_root.ensures.back.rest;
      room = done_room c.args.self.now c.args.line _ _ c.args.base.now c.args.s.now c.make_next.new.s
          c.requires.maker.maker c.requires.base c.make_next.ensures.stays _ c.in-Ok.ensures.made
          c.commit_root.new.s.view
          c.in-Ok-commit_root.field-0
          (commits_as _ _ _ _ c.act.result (g.M.ActMaker.act c.args.maker.now) _ _
          (c.act.ensures.value
          ∙ c.make_next.ensures.edit.act_is) c.in-Ok-commit_root.ensures.came.commits) c.requires.ready.room;
    }

pub give_root-requires-in-Err-LogFull-clause-ready : goal.give_root-requires-in-Err-LogFull-clause-ready
give_root-requires-in-Err-LogFull-clause-ready g c =
    record {
      rest = c.commit_root.ensures.back.rest;
      room = late_room c.args.self.now c.args.line _ _ c.args.base.now c.args.s.now c.make_next.new.s
          c.requires.maker.maker c.requires.base c.make_next.ensures.stays _
          c.in-Ok.ensures.made c.commit_root.new.s.view c.in-Err-LogFull.ensures.came.kept c.requires.ready.room;
    }
