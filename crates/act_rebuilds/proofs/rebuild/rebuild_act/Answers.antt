use Rattle.std.proofs.Common.{◌^◌, refl}
use Rattle.std.specs.Prelude.{option_copied}
use Rattle.history_model.specs.declared.acts.Act.TheVariants.{Fill, Erase, Ball, Carve, Copy, Tint}
use Rattle.act_rebuilds.proofs.PlainActs.{edit_makes, one_makes}
use Rattle.act_rebuilds.proofs.StampActs.{stamp_there, stamp_inside, stamp_makes}
use Rattle.act_rebuilds.proofs.TintedActs.{one_large, one_room, one_fits, one_ink_fits, tints_make}
use Rattle.act_rebuilds.proofs.rebuild.rebuild_act.Goals as goal

pub returns-in-Fill-clause-made : goal.returns-in-Fill-clause-made
returns-in-Fill-clause-made g c =
    edit_makes (g.N.Blocks.seen c.args.store.now) (g.N.Blocks.seen c.rebuild_box.new.store) c.args.side
    (option_copied c.args.old) c.args.models.now.models c.args.act (Fill c.in-Fill.b)
    c.rebuild_box.result c.in-Fill.is refl c.rebuild_box.ensures.made

pub returns-in-Erase-clause-made : goal.returns-in-Erase-clause-made
returns-in-Erase-clause-made g c =
    edit_makes (g.N.Blocks.seen c.args.store.now) (g.N.Blocks.seen c.rebuild_box-in-Erase.new.store) c.args.side
    (option_copied c.args.old) c.args.models.now.models c.args.act (Erase c.in-Erase.b)
    c.rebuild_box-in-Erase.result c.in-Erase.is refl c.rebuild_box-in-Erase.ensures.made

pub returns-in-Ball-clause-made : goal.returns-in-Ball-clause-made
returns-in-Ball-clause-made g c =
    edit_makes (g.N.Blocks.seen c.args.store.now) (g.N.Blocks.seen c.rebuild_ball.new.store) c.args.side
    (option_copied c.args.old) c.args.models.now.models c.args.act (Ball c.in-Ball.ball)
    c.rebuild_ball.result c.in-Ball.is refl c.rebuild_ball.ensures.made

pub returns-in-Carve-clause-made : goal.returns-in-Carve-clause-made
returns-in-Carve-clause-made g c =
    edit_makes (g.N.Blocks.seen c.args.store.now) (g.N.Blocks.seen c.rebuild_ball-in-Carve.new.store) c.args.side
    (option_copied c.args.old) c.args.models.now.models c.args.act (Carve c.in-Carve.ball)
    c.rebuild_ball-in-Carve.result c.in-Carve.is refl c.rebuild_ball-in-Carve.ensures.made

pub returns-in-Copy-clause-made : goal.returns-in-Copy-clause-made
returns-in-Copy-clause-made g c =
    edit_makes (g.N.Blocks.seen c.args.store.now) (g.N.Blocks.seen c.rebuild_copy.new.store) c.args.side
    (option_copied c.args.old) c.args.models.now.models c.args.act (Copy c.in-Copy.from c.in-Copy.to)
    c.rebuild_copy.result c.in-Copy.is refl c.rebuild_copy.ensures.made

pub stencil-stencil-requires-clause-there : goal.stencil-stencil-requires-clause-there
stencil-stencil-requires-clause-there g c =
    stamp_there (2 ^ c.args.side) c.args.models.now.models c.args.act c.in-Stamp.m c.in-Stamp.at
    c.in-Stamp.is c.requires.may.fits

pub rebuild_stamp-requires-clause-inside : goal.rebuild_stamp-requires-clause-inside
rebuild_stamp-requires-clause-inside g c =
    stamp_inside (2 ^ c.args.side) c.args.models.now.models c.args.act c.in-Stamp.m c.in-Stamp.at
    c.stencil-stencil.result.now c.in-Stamp.is c.stencil-stencil.ensures c.requires.may.fits

pub returns-in-Stamp-clause-made : goal.returns-in-Stamp-clause-made
returns-in-Stamp-clause-made g c =
    stamp_makes (g.N.Blocks.seen c.args.store.now) (g.N.Blocks.seen c.rebuild_stamp.new.store)
    c.args.side (option_copied c.args.old) c.args.models.now.models c.args.act c.in-Stamp.m
    c.in-Stamp.at c.stencil-stencil.result.now c.rebuild_stamp.result c.in-Stamp.is
    c.stencil-stencil.ensures c.rebuild_stamp.ensures.made

pub ink-ink-requires-clause-fits : goal.ink-ink-requires-clause-fits
ink-ink-requires-clause-fits g c = (
  _,
  one_fits c.args.side c.args.models.now.models c.args.act c.in-Tint.t c.in-Tint.is
      c.requires.may.fits,
)

pub rebuild_tint-requires-clause-large : goal.rebuild_tint-requires-clause-large
rebuild_tint-requires-clause-large g c =
    one_large c.args.side c.args.models.now.models c.args.act c.in-Tint.t c.in-Tint.is
    c.requires.may.large

pub rebuild_tint-requires-clause-fits : goal.rebuild_tint-requires-clause-fits
rebuild_tint-requires-clause-fits g c =
    one_ink_fits c.args.side c.args.models.now.models c.args.act c.in-Tint.t c.in-Tint.is _
    c.requires.may.large c.ink-ink.ensures c.requires.may.fits

pub rebuild_tint-requires-clause-may : goal.rebuild_tint-requires-clause-may
rebuild_tint-requires-clause-may g c = record {
  side_is = c.requires.may.side_is;
  root_is = c.requires.may.root_is;
  room = one_room c.args.side c.args.models.now.models c.args.act c.in-Tint.t c.in-Tint.is _
      c.requires.may.room;
}

pub returns-in-Tint-clause-made : goal.returns-in-Tint-clause-made
returns-in-Tint-clause-made g c =
    let large = one_large c.args.side c.args.models.now.models c.args.act c.in-Tint.t c.in-Tint.is
    c.requires.may.large in
    one_makes (g.N.Blocks.seen c.args.store.now) (g.N.Blocks.seen c.rebuild_tint.new.store)
    c.args.side (option_copied c.args.old) c.args.models.now.models c.args.act (Tint c.in-Tint.t)
    c.rebuild_tint.result c.in-Tint.is
    (tints_make (g.N.Blocks.seen c.args.store.now) (g.N.Blocks.seen c.rebuild_tint.new.store)
    c.args.side (option_copied c.args.old) c.args.models.now.models c.in-Tint.t
    (option_copied c.ink-ink.result) large c.ink-ink.ensures c.rebuild_tint.result
    c.rebuild_tint.ensures.made)
