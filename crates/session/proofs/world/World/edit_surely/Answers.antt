use Rattle.std.proofs.Common.{rules}
use Rattle.version_log.proofs.LookLaws.{looks_on}
use Rattle.session.proofs.CommitLaws.{may_back, root_as}
use Rattle.session.proofs.EditLaws.{base_gone, pinned_answers}
use Rattle.session.proofs.SurelyLaws.{few_from, gets_from, gets_keeps, more_from, room_behind}
use Rattle.session.proofs.world.World.edit_surely.Goals as goal

pub keep_head-head-requires-clause-room : goal.keep_head-head-requires-clause-room
keep_head-head-requires-clause-room g c =
    few_from c.args.s.now.view.held c.take.new.s.view.held c.take.ensures.held c.requires.ready.room

pub give_root-requires-clause-held : goal.give_root-requires-clause-held
give_root-requires-clause-held g c =
    may_back c.take.new.s.view.held c.keep_head-head.new.s.view.held
    c.make_surely-answer.new.s.view.held _ c.keep_head-head.ensures.gains
    c.make_surely-answer.ensures.calls.held

pub returns-clause-told : goal.returns-clause-told
returns-clause-told g c =
    pinned_answers c.args.self.now c.args.line _ _ c.args.s.now.view
    c.keep_head-head.new.s.view c.make_surely-answer.new.s.view c.give_root.new.s.view
    (looks_on _ _ _ c.take.ensures.looks.looks c.keep_head-head.ensures.looks.looks)
    c.make_surely-answer.ensures.told c.give_root.ensures.seen

pub make_surely-answer-requires-clause-head : goal.make_surely-answer-requires-clause-head
make_surely-answer-requires-clause-head g c =
    record {
      root_is = root_as c.keep_head-head.new.s.view c.keep_head-head.result _ (search rules)
          c.keep_head-head.ensures.root;
      room = more_from c.args.s.now.view.held c.take.new.s.view.held c.keep_head-head.new.s.view.held _
          c.take.ensures.held c.keep_head-head.ensures.gains c.requires.ready.room;
    }

pub make_surely-answer-requires-clause-maker : goal.make_surely-answer-requires-clause-maker
make_surely-answer-requires-clause-maker g c =
    record {
      maker = c.requires.maker.maker;
      recalled = g.M.ActMaker.recalls_more c.args.maker.now c.args.s.now.view.held
          c.keep_head-head.new.s.view.held
          (gets_keeps _ _ _ (gets_from c.args.s.now.view.held c.take.new.s.view.held
          c.keep_head-head.new.s.view.held _ c.take.ensures.held c.keep_head-head.ensures.gains))
          c.requires.maker.recalled;
    }

pub give_root-requires-clause-ready : goal.give_root-requires-clause-ready
give_root-requires-clause-ready g c =
    record {
      rest = c.make_surely-answer.ensures.calls.rest;
      room = room_behind c.args.s.now.view.held c.take.new.s.view.held
          c.keep_head-head.new.s.view.held _ c.take.ensures.held c.keep_head-head.ensures.gains
          c.make_surely-answer.new.s.view.held c.make_surely-answer.ensures.calls.held c.requires.ready.room;
    }

pub returns-clause-calls : goal.returns-clause-calls
returns-clause-calls g c =
    record {
      rest = c.give_root.ensures.back.rest;
      same = search rules;
      held = base_gone c.args.s.now.view c.keep_head-head.new.s.view c.keep_head-head.result
          (gets_from c.args.s.now.view.held c.take.new.s.view.held
          c.keep_head-head.new.s.view.held _ c.take.ensures.held c.keep_head-head.ensures.gains)
          c.make_surely-answer.new.s.view c.give_root.new.s.view _ (search rules)
          c.make_surely-answer.ensures.calls.held c.give_root.ensures.gone;
    }
