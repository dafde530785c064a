use Rattle.std.proofs.Common.{◌-◌, refl, sym, ap, subst, arith}
use Rattle.node_words.specs.shapes.Weights.{number_of_trees}
use Rattle.node_words.specs.Plans.{Layout}
use Rattle.node_words.specs.Held.{StoreState, OnlyHeldChanges}
use Rattle.node_words.specs.Gathering.{Grows}
use Rattle.node_words.proofs.GatherLaws.{grows_none}
use Rattle.edit_walk.specs.blocks.Blocks.{Aside}
use Rattle.edit_walk.specs.Outcomes.{Fills, ForFound, HasFound}
use Rattle.edit_walk.proofs.OfBlocks.JoinLaws.{only_grows, only_refuses}
use Rattle.edit_walk.proofs.OutcomeLaws.{stays_aside, stays_reaches, stays_shape}
use Rattle.edit_walk.proofs.outcomes.node_or_old.Goals as goal

pub end_all-requires : goal.end_all-requires
end_all-requires g c = c.if-stays.ensures.none refl

pub returns-then-stays-clause-found : goal.returns-then-stays-clause-found
returns-then-stays-clause-found g c rest full target d a =
    let none = c.if-stays.ensures.none refl in
    let seen = c.if-stays.ensures.seen in
    record {
      is = refl;
      shape = λ t b e. stays_shape rest _ full c.args.level target _ _ c.args.old t (omega arith)
          c.held-held.ensures.trees.named d a none (c.if-stays.ensures.names refl) b e;
      aside = subst (λ (v : StoreState). Aside v.held full rest) (sym seen)
          (stays_aside rest _ full _ target _ _ a none);
      reaches = stays_reaches rest _ full _ target _ _ a none;
      grows = subst (λ (v : StoreState). Grows target (g.N.Blocks.seen c.args.store.now) v) (sym seen)
          (grows_none _ _);
    }

pub filled-all-requires-clause-octants : goal.filled-all-requires-clause-octants
filled-all-requires-clause-octants g c =
    subst (λ (v : StoreState). HasFound c.args.level c.args.children c.args.standing.now v)
    (sym c.if-stays.ensures.seen) c.requires.octants

pub filled-all-requires-clause-room : goal.filled-all-requires-clause-room
filled-all-requires-clause-room g c =
    omega (
      arith,
      ap (λ (v : StoreState). number_of_trees v.held) c.if-stays.ensures.seen,
      c.requires.room,
    )

pub join-requires-clause-level : goal.join-requires-clause-level
join-requires-clause-level g c =
    let x = ap (λ (p : Layout). p.side) c.filled-all.ensures.only.plan in
    let y = ap (λ (v : StoreState). v.plan.side) c.if-stays.ensures.seen in
    (c.requires.level.0, omega (arith, x, y, c.requires.level.1))

pub join-requires-clause-octants : goal.join-requires-clause-octants
join-requires-clause-octants g c =
    let (rest, full, target, d, a) =
    subst (λ (v : StoreState). HasFound c.args.level c.args.children c.args.standing.now v)
    (sym c.if-stays.ensures.seen) c.requires.octants in
    (rest, full, target, d, (c.filled-all.ensures.filled rest full target d a).gathers)

pub join-requires-clause-room : goal.join-requires-clause-room
join-requires-clause-room g c =
    omega (
      arith,
      c.filled-all.ensures.number,
      ap (λ (v : StoreState). number_of_trees v.held) c.if-stays.ensures.seen,
      c.requires.room,
    )

pub returns-in-Ok-clause-found : goal.returns-in-Ok-clause-found
returns-in-Ok-clause-found g c rest full target d a =
    let seen = c.if-stays.ensures.seen in
    let f =
    subst (λ (v : StoreState). ForFound c.args.level c.args.children c.args.standing.now v
    (λ rest full target was. Fills rest was (c.args.level - 1) target c.filled-all.result
    (g.N.Blocks.seen c.filled-all.new.store).held full)) seen c.filled-all.ensures.filled rest full
    target d a in
    let only =
    subst (λ (v : StoreState). OnlyHeldChanges v (g.N.Blocks.seen c.filled-all.new.store)) seen
    c.filled-all.ensures.only in
    let j = c.in-Ok.ensures.joined rest full target d f.gathers in
    record {
      joined = record {
        came = j.joined.came;
        reaches = record { each = λ t r. j.joined.reaches.each t (f.reaches.each t r) };
      };
      grows = only_grows target _ _ _ only j.grows;
    }

pub returns-in-Err-clause-found : goal.returns-in-Err-clause-found
returns-in-Err-clause-found g c rest full target d a =
    let seen = c.if-stays.ensures.seen in
    let f =
    subst (λ (v : StoreState). ForFound c.args.level c.args.children c.args.standing.now v
    (λ rest full target was. Fills rest was (c.args.level - 1) target c.filled-all.result
    (g.N.Blocks.seen c.filled-all.new.store).held full)) seen c.filled-all.ensures.filled rest full
    target d a in
    let only =
    subst (λ (v : StoreState). OnlyHeldChanges v (g.N.Blocks.seen c.filled-all.new.store)) seen
    c.filled-all.ensures.only in
    let j = c.in-Err.ensures.joined rest full target d f.gathers in
    record { refuses = only_refuses target _ _ _ _ _ only j.refuses; aside = j.aside }
