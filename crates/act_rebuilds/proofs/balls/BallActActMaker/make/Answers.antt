use Rattle.std.proofs.Common.{◌^◌}
use Rattle.std.specs.Prelude.{option_copied}
use Rattle.edit_ops.specs.Balls.{ball_act}
use Rattle.act_rebuilds.proofs.Rooms.{most_room}
use Rattle.act_rebuilds.proofs.MakerLaws.{ball_inside, ball_plain, ball_same, made_plainly}
use Rattle.act_rebuilds.proofs.balls.BallActActMaker.make.Goals as goal

pub rebuild_ball_with-requires-clause-may : goal.rebuild_ball_with-requires-clause-may
rebuild_ball_with-requires-clause-may g c = record {
  side_is = c.requires.may.side_is;
  root_is = c.requires.may.root_is;
  room = most_room (ball_act c.args.self.now.set c.args.self.now.ball.now) _ c.requires.may.room;
}

pub rebuild_ball_with-requires-clause-memo : goal.rebuild_ball_with-requires-clause-memo
rebuild_ball_with-requires-clause-memo g c = c.requires.recalls

pub rebuild_ball_with-requires-clause-inside : goal.rebuild_ball_with-requires-clause-inside
rebuild_ball_with-requires-clause-inside g c =
    ball_inside (2 ^ c.args.side) c.args.self.now.models.now.models c.args.self.now.set
    c.args.self.now.ball.now c.requires.may.fits

pub returns-clause-made : goal.returns-clause-made
returns-clause-made g c =
    made_plainly (g.N.Blocks.seen c.args.store.now) (g.N.Blocks.seen c.rebuild_ball_with.new.store)
    c.args.side (option_copied c.args.old) c.args.self.now.models.now.models
    (ball_act c.args.self.now.set c.args.self.now.ball.now)
    (ball_plain c.args.self.now.set c.args.self.now.ball.now)
    (ball_same c.args.self.now.models.now.models c.args.self.now.set c.args.self.now.ball.now)
    c.rebuild_ball_with.result c.rebuild_ball_with.ensures.made
