use Rattle.std.proofs.Common.{List, Option, None, [], ◌∷◌, length, add-one, refl, sym, ◌∙◌, ap, subst, arith, ℕ, ◌≡◌, ◌≤◌, ◌<◌, ◌+◌, ◌-◌, ◌^◌}
use Rattle.vw_cell.specs.Sums.{sum_below, sum_below-suc, sum_below-zero}
use Rattle.node_words.specs.declared.shapes.names.Name.{Name}
use Rattle.node_words.specs.Plans.{Layout}
use Rattle.node_words.specs.Held.{StoreState}
use Rattle.node_words.specs.Gathering.{Grows}
use Rattle.node_words.specs.descent.Roots.{HasBlock}
use Rattle.node_words.proofs.HeldLaws.{keeps_itself}
use Rattle.node_words.proofs.GatherLaws.{grows_none}
use Rattle.node_words.specs.contents.CellShapes.{Cells, octant_cells, shape_with}
use Rattle.node_words.proofs.OfContents.CellShapeLaws.{shape_with-canonical}
use Rattle.edit_walk.specs.cells.Paints.{IsOld}
use Rattle.node_words.specs.shapes.Shape.{Shape, octant_shape}
use Rattle.node_words.specs.shapes.Tree.{Tree}
use Rattle.node_words.proofs.OfContents.FullShapes.{shape_with-full}
use Rattle.edit_walk.specs.blocks.Blocks.{StopsAside}
use Rattle.edit_walk.specs.declared.outcomes.Told.{Told}
use Rattle.edit_walk.specs.declared.outcomes.WalkedBlock.TheVariants.{Made}
use Rattle.edit_walk.specs.Outcomes.{FoundBeside}
use Rattle.edit_walk.specs.Walks.{walk_at, Begins, FoundTo, IsTold, Partway, TookTurns}
use Rattle.edit_walk.proofs.OfBlocks.AsideLaws.{aside_numbers}
use Rattle.edit_walk.proofs.OfBlocks.JoinLaws.{grows_on, grows_in, refuses_after, refuses_held, refuses_octant}
use Rattle.edit_walk.proofs.OfCells.PaintLaws.{old_has}
use Rattle.edit_walk.proofs.OutcomeLaws.{finds_back, finds_empty, finds_held, finds_number, found_share, laid_long, met_finds}
use Rattle.edit_walk.proofs.OctantLaws.{octant_begins, octant_found, octant_mixed, octant_stops}
use Rattle.edit_walk.proofs.WalkLaws.{starts_held, leaf_target}
use Rattle.edit_walk.proofs.MemoLaws.{found_kept, found_recalls, found_turns, told_found, leaf_walked, node_turns, node_walked, part_keeps, partway_none, partway_one}
use Rattle.edit_walk.proofs.walks.+walk.Goals.{gather-in-Standing, gather-in_default+in-Ok}
use Rattle.edit_walk.proofs.walks.+walk.Goals as goal

pub build-returns-in-Standing-clause-walked : goal.build-returns-in-Standing-clause-walked
build-returns-in-Standing-clause-walked g t c base rest cells b =
    told_found _ base rest _ _ cells _ _ b
    (subst (λ (d : Told). IsTold rest c.args.level cells d) c.in-Standing.is
    (c.requires.told base rest cells b.starts.keeps b.made b.recalls))

pub build-returns-in-Ok-clause-walked : goal.build-returns-in-Ok-clause-walked
build-returns-in-Ok-clause-walked g t c base rest cells b =
    let all = subst (λ (d : Told). IsTold rest c.args.level cells d) c.in-Filled.is
    (c.requires.told base rest cells b.starts.keeps b.made b.recalls) in
    let e = sym (shape_with-full c.args.level cells all) in
    record {
      found = found_recalls _ base rest _ _ _ _ b.recalls
          (subst (λ (s : Shape). FoundBeside rest c.args.level s (Made c.in-Ok.share)
          (g.N.Blocks.seen c.full_block.new.store).held c.full_block.new.full) e
          (found_share rest _ _ _ _ _ (c.in-Ok.ensures.ok rest b.starts.aside)));
      grows = subst (λ (s : Shape). Grows s (g.N.Blocks.seen c.args.store.now)
          (g.N.Blocks.seen c.full_block.new.store)) e c.in-Ok.ensures.grows;
    }

pub build-returns-in-Err-clause-walked : goal.build-returns-in-Err-clause-walked
build-returns-in-Err-clause-walked g t c base rest cells b =
    let all = subst (λ (d : Told). IsTold rest c.args.level cells d) c.in-Filled.is
    (c.requires.told base rest cells b.starts.keeps b.made b.recalls) in
    subst (λ (s : Shape). StopsAside rest s c.in-Err.e (g.N.Blocks.seen c.args.store.now)
    (g.N.Blocks.seen c.full_block.new.store) c.full_block.new.full)
    (sym (shape_with-full c.args.level cells all))
    (record { refuses = c.in-Err.ensures.full; aside = c.in-Err.ensures.rest rest b.starts.aside })

pub gather-told_of-told-requires : goal.gather-told_of-told-requires
gather-told_of-told-requires g t c =
    let (base, rest, cells, b) = c.requires.task in
    let p = c.loop-k.invariant.partway base rest cells b in
    let begins = octant_begins g.T.Task.makes base rest _ c.args.level _ _ c.of-octants.result cells
    _ _ c.loop-k.k _ c.of-octants.ensures.tasks c.at-part.ensures
    (starts_held base rest _ _ b.starts) (omega arith) p in
    record { task = (base, _, begins.made) }

pub fresh-returns-in-Ok-clause-walked : goal.fresh-returns-in-Ok-clause-walked
fresh-returns-in-Ok-clause-walked g t c base rest cells b =
    let walked = c.in-Ok.ensures.walked base rest cells b in
    record {
      found = found_kept _ _ base rest c.args.level c.args.task.now cells c.name-name.result
          c.in-Ok.block _ _ _ _ c.keep.ensures c.name-name.ensures b.made walked.found;
      grows = walked.grows;
    }

pub made-leaf_or_old-requires-clause-old : goal.made-leaf_or_old-requires-clause-old
made-leaf_or_old-requires-clause-old g t c =
    let (base, rest, cells, b) = c.requires.task in
    let (u, o) = c.old-old.ensures.block base c.args.level cells b.made in
    let e = c.if-level-eq0.true in
    let z = subst (λ (l : ℕ). IsOld base l u c.old-old.result) e o in
    subst (λ (v : StoreState). HasBlock v.held 0 c.old-old.result) (sym c.bits-bits.ensures.seen)
    (old_has base _ 0 u _ (starts_held base rest _ _ b.starts) z)

pub made-returns-then-level-eq0-clause-walked : goal.made-returns-then-level-eq0-clause-walked
made-returns-then-level-eq0-clause-walked g t c base rest cells b =
    let e = c.if-level-eq0.true in
    let z = subst (λ (l : ℕ). g.T.Task.makes c.args.task.now base l cells) e b.made in
    let small : c.bits-bits.result < 2 ^ 64 = omega arith in
    let same = c.bits-bits.ensures.bits base cells (starts_held base rest _ _ b.starts) z in
    let target = leaf_target c.args.level c.bits-bits.result cells e small same in
    let (u, o) = c.old-old.ensures.block base c.args.level cells b.made in
    leaf_walked _ base rest c.args.level c.bits-bits.result c.old-old.result u cells c.leaf_or_old.result
    _ _ _ c.args.full.now _ e target c.bits-bits.ensures.seen b.starts b.recalls o
    c.leaf_or_old.ensures.found

pub made-node_or_old-requires-clause-level : goal.made-node_or_old-requires-clause-level
made-node_or_old-requires-clause-level g t c =
    let (base, rest, cells, b) = c.requires.task in
    let x = ap (λ (p : Layout). p.side) (c.in-Ok.ensures.walked base rest cells b).grows.plan in
    (omega arith, omega (arith, x, c.requires.level.1))

pub made-node_or_old-requires-clause-old : goal.made-node_or_old-requires-clause-old
made-node_or_old-requires-clause-old g t c =
    let (base, rest, cells, b) = c.requires.task in
    let (u, o) = c.old-old.ensures.block base c.args.level cells b.made in
    let all = c.in-Ok.ensures.walked base rest cells b in
    old_has base _ c.args.level u _ (part_keeps _ base rest _ _ _ _ _ _ _ all.partway) o

pub made-node_or_old-requires-clause-octants : goal.made-node_or_old-requires-clause-octants
made-node_or_old-requires-clause-octants g t c =
    let (base, rest, cells, b) = c.requires.task in
    (rest, c.gather.new.full, shape_with c.args.level cells, shape_with-canonical c.args.level cells, (c.in-Ok.ensures.walked base rest cells b).partway.finds)

pub made-node_or_old-requires-clause-room : goal.made-node_or_old-requires-clause-room
made-node_or_old-requires-clause-room g t c =
    let (base, rest, cells, b) = c.requires.task in
    let one : 1 ≤ c.args.level = omega arith in
    omega (
      arith,
      finds_number rest _ _ _ _ _ _ 0 8
          (c.in-Ok.ensures.walked base rest cells b).partway.finds,
      (aside_numbers _ rest _ b.starts.aside).least,
      c.requires.room,
    )

pub made-returns-in-Ok-clause-walked : goal.made-returns-in-Ok-clause-walked
made-returns-in-Ok-clause-walked g t c base rest cells b =
    let (u, o) = c.old-old.ensures.block base c.args.level cells b.made in
    let all = c.in-Ok.ensures.walked base rest cells b in
    node_walked _ base rest all.partway.finds.now c.args.level c.old-old.result u
    (shape_with c.args.level cells) c.node_or_old.result _ _ _ _ _ _ _ b.starts.keeps
    (part_keeps _ base rest _ _ _ _ _ _ _ all.partway) o all.grows all.partway.recalls
    (c.node_or_old.ensures.found rest _ _ (shape_with-canonical c.args.level cells)
    all.partway.finds)

pub made-returns-in-Ok-clause-took : goal.made-returns-in-Ok-clause-took
made-returns-in-Ok-clause-took g t c =
    let one : 1 ≤ c.args.level = omega arith in
    node_turns c.args.level (g.T.Task.mixed c.args.level c.args.task.now)
    (sum_below 8 (g.T.Task.mixed_in c.args.level c.args.task.now)) c.node_or_old.result _ _ _ _ _
    (c.requires.mixed one) c.in-Ok.ensures.took c.node_or_old.ensures.turns

pub gather-of-octants-requires-clause-task : goal.gather-of-octants-requires-clause-task
gather-of-octants-requires-clause-task g t c =
    let (base, rest, cells, b) = c.requires.task in
    (base, cells, starts_held base rest _ _ b.starts, b.made)

pub gather-loop-k-init : goal.gather-loop-k-init
gather-loop-k-init g t c =
    let seen = sym c.of-octants.ensures.seen in record {
      turns = omega (arith, sum_below-zero (g.T.Task.mixed_in c.args.level c.args.task.now));
      height_is = omega arith;
      partway = λ base rest cells b.
          subst (λ (v : StoreState). Partway g.T.Task.makes base rest c.args.level c.args.task.now cells
          c.args.children.now c.args.standing.now 0
          (walk_at v c.args.full.now (g.M.Memo.has c.args.memo.now))) seen
          (subst (λ (row : List
          (Option Name)). Partway g.T.Task.makes base rest c.args.level c.args.task.now cells row
          c.args.standing.now 0
          (walk_at (g.N.Blocks.seen c.args.store.now) c.args.full.now
          (g.M.Memo.has c.args.memo.now))) (sym c.requires.empty)
          (subst (λ (row : List
          (Option Name)). Partway g.T.Task.makes base rest c.args.level c.args.task.now cells
          (None ∷ None ∷ None ∷ None ∷ None ∷ None ∷ None ∷ None ∷ []) row 0
          (walk_at (g.N.Blocks.seen c.args.store.now) c.args.full.now
          (g.M.Memo.has c.args.memo.now))) (sym c.requires.unnamed)
          (partway_none _ base rest _ _ cells _ b)));
      grows = λ base rest cells b.
          subst (λ (v : StoreState). Grows (shape_with c.args.level cells)
          (g.N.Blocks.seen c.args.store.now) v) seen (grows_none _ _);
      long = ap length c.requires.empty;
      wide = ap length c.requires.unnamed;
      rests = c.of-octants.ensures.rests;
    }

pub gather-build-requires : goal.gather-build-requires
gather-build-requires g t c κs within =
    let (base, rest, cells, b) = c.requires.task in
    let p = c.loop-k.invariant.partway base rest cells b in
    let x = ap (λ (p : Layout). p.side) (c.loop-k.invariant.grows base rest cells b).plan in
    let one : 1 ≤ c.args.level = omega arith in
    let lt : c.loop-k.k < 8 = omega arith in
    let begins = octant_begins g.T.Task.makes base rest _ c.args.level _ _ c.of-octants.result cells
    _ _ c.loop-k.k _ c.of-octants.ensures.tasks c.at-part.ensures
    (starts_held base rest _ _ b.starts) lt p in
    let low : c.args.level - 1 ≤ 10 = omega (arith, c.requires.level.0) in (
      omega (arith, c.decreases),
      (
        within.0,
        (
          within.1.0,
          (
            within.1.1.0,
            (
              within.1.1.1,
              (
                (low, omega (arith, x, c.requires.level.1, one)),
                (
                  (base, p.finds.now, _, begins),
                  (
                    c.told_of-told.ensures.told,
                    (
                      omega (
                        arith,
                        finds_number rest _ _ _ _ _ _ 0 _ p.finds,
                        (aside_numbers _ rest _ b.starts.aside).least,
                        c.requires.room,
                        one,
                      ),
                      c.told_of-told.ensures.mixed,
                    ),
                  ),
                ),
              ),
            ),
          ),
        ),
      ),
    )

pub gather-lay-requires-clause-empty : goal.gather-lay-requires-clause-empty
gather-lay-requires-clause-empty g t c =
    let (base, rest, cells, b) = c.requires.task in
    finds_empty rest _ _ _ _ _ _ 0 _ c.loop-k.k (omega arith)
    (c.loop-k.invariant.partway base rest cells b).finds

pub gather-back_all-requires-clause-held : goal.gather-back_all-requires-clause-held
gather-back_all-requires-clause-held g t c =
    let (base, rest, cells, b) = c.requires.task in
    let p = c.loop-k.invariant.partway base rest cells b in
    let lt : c.loop-k.k < 8 = omega arith in
    let begins = octant_begins g.T.Task.makes base rest _ c.args.level _ _ c.of-octants.result cells
    _ _ c.loop-k.k _ c.of-octants.ensures.tasks c.at-part.ensures
    (starts_held base rest _ _ b.starts) lt p in
    let a = met_finds rest _ _ _ _ _ _ _ _ 0 _ p.finds
    (c.in-Err.ensures.walked base p.finds.now _ begins).aside in
    record {
      row = a.row;
      are_held = rw c.taken.ensures.row
          (finds_held rest _ _ _ _ _ _ _ 0 _ a (keeps_itself _));
    }

pub gather-back_all-requires-clause-room : goal.gather-back_all-requires-clause-room
gather-back_all-requires-clause-room g t c =
    let (base, rest, cells, b) = c.requires.task in
    let p = c.loop-k.invariant.partway base rest cells b in
    let lt : c.loop-k.k < 8 = omega arith in
    let begins = octant_begins g.T.Task.makes base rest _ c.args.level _ _ c.of-octants.result cells
    _ _ c.loop-k.k _ c.of-octants.ensures.tasks c.at-part.ensures
    (starts_held base rest _ _ b.starts) lt p in
    let a = met_finds rest _ _ _ _ _ _ _ _ 0 _ p.finds
    (c.in-Err.ensures.walked base p.finds.now _ begins).aside in
    omega (
      arith,
      finds_number rest _ _ _ _ _ _ 0 _ a,
      (aside_numbers _ rest _ b.starts.aside).least,
      c.requires.room,
      c.requires.level.0,
    )

pub gather-returns-in-Err-clause-walked : goal.gather-returns-in-Err-clause-walked
gather-returns-in-Err-clause-walked g t c base rest cells b =
    let p = c.loop-k.invariant.partway base rest cells b in
    let one : 1 ≤ c.args.level = omega arith in
    let lt : c.loop-k.k < 8 = omega arith in
    let begins = octant_begins g.T.Task.makes base rest _ c.args.level _ _ c.of-octants.result cells
    _ _ c.loop-k.k _ c.of-octants.ensures.tasks c.at-part.ensures
    (starts_held base rest _ _ b.starts) lt p in
    let stops = octant_stops p.finds.now c.args.level c.loop-k.k cells _ _ _ _ one lt
    (c.in-Err.ensures.walked base p.finds.now _ begins) in
    let a = met_finds rest _ _ _ _ _ _ _ _ 0 _ p.finds stops.aside in
    record {
      refuses = refuses_held _ _ _ _ _ _
          (refuses_after _ _ _ _ _ _ (c.loop-k.invariant.grows base rest cells b)
          (refuses_octant _ c.loop-k.k _ _ _ _ stops.refuses)) c.back_all.ensures.only;
      aside = finds_back rest _ _ _ _ _ _ _ _ 0 _ a (λ f. refl)
          (c.back_all.ensures.gone p.finds.row
          (rw c.taken.ensures.row (finds_held rest _ _ _ _ _ _ _ 0 _ a (keeps_itself _))));
    }

pub gather-loop-k-preserved : goal.gather-loop-k-preserved
gather-loop-k-preserved g t c =
    let one : 1 ≤ c.args.level = omega arith in
    let lt : c.loop-k.k < 8 = omega arith in
    let f : ℕ → ℕ = g.T.Task.mixed_in c.args.level c.args.task.now in
    let e : sum_below (c.loop-k.k + 1) f ≡ sum_below c.loop-k.k f + f c.loop-k.k =
    rw add-one (sum_below-suc c.loop-k.k f) in
    let low = octant_mixed g.T.Task.mixed (c.args.level - 1) (f c.loop-k.k) _ _ c.at-part.ensures
    (c.of-octants.ensures.mixed c.loop-k.k lt) in
    let took : TookTurns 1 (c.args.level - 1 + 1)
    (g.T.Task.mixed (c.args.level - 1) c.at-part.result.now) c.loop-k.full.share c.match-told.full.share
    c.loop-k.steps c.match-told.steps =
    elim c.match-told.branch [
      | gather-in-Standing w ↦ rw (w.full-is, w.steps-is)
          (record { turns = omega arith; height_is = omega arith })
      | gather-in_default+in-Ok w ↦ rw (w.full-is, w.steps-is)
          (found_turns _ _ w.in-Ok.block _ _ _ _ w.in-Ok.ensures.took)
    ] in
    let seen = g.N.Blocks.seen in
    let has = g.M.Memo.has in
    let rests : g.N.Blocks.rests c.loop-k.store c.match-told.store =
    elim c.match-told.branch [
      | gather-in-Standing w ↦ rw w.store-is (g.met.N.Blocks.rests_itself _)
      | gather-in_default+in-Ok w ↦ rw w.store-is w.build.ensures.rests
    ] in
    let found : (base rest : List Tree) (cells : Cells)
    → (b : Begins g.T.Task.makes base rest c.args.level c.args.task.now cells
    (walk_at (seen c.args.store.now) c.args.full.now (has c.args.memo.now)))
    → FoundTo g.T.Task.makes base
    (c.loop-k.invariant.partway base rest cells b).finds.now (c.args.level - 1)
    (octant_shape (shape_with c.args.level cells) c.loop-k.k) c.match-told.block
    (walk_at (seen c.loop-k.store) c.loop-k.full (has c.loop-k.memo))
    (walk_at (seen c.match-told.store) c.match-told.full (has c.match-told.memo)) =
    (λ base rest cells b.
    let p = c.loop-k.invariant.partway base rest cells b in
    let begins = octant_begins g.T.Task.makes base rest _ c.args.level _ _ c.of-octants.result cells
    _ _ c.loop-k.k _ c.of-octants.ensures.tasks c.at-part.ensures
    (starts_held base rest _ _ b.starts) lt p in
    octant_found _ base p.finds.now c.args.level c.loop-k.k cells c.match-told.block _ _ one lt
    (elim c.match-told.branch [
      | gather-in-Standing w ↦ rw (w.store-is, w.full-is, w.memo-is, w.block-is)
          (told_found _ base p.finds.now _ _ _ _ _ begins
          (subst (λ (d : Told). IsTold p.finds.now (c.args.level - 1)
          (octant_cells (c.args.level - 1) cells c.loop-k.k) d) w.in-Standing.is
          (c.told_of-told.ensures.told base p.finds.now _ begins.starts.keeps begins.made
          begins.recalls)))
      | gather-in_default+in-Ok w ↦ rw (w.store-is, w.full-is, w.memo-is, w.block-is)
          (w.in-Ok.ensures.walked base p.finds.now _ begins)
    ])) in
    record {
      turns = omega (arith, e, c.loop-k.invariant.turns, took.turns, low);
      height_is = omega (arith, c.loop-k.invariant.height_is, took.height_is, one);
      partway = λ base rest cells b.
          partway_one _ base rest _ _ cells _ _ _ _ c.loop-k.k c.match-told.block _ _
          lt c.loop-k.invariant.long c.loop-k.invariant.wide
          (c.loop-k.invariant.partway base rest cells b) (found base rest cells b).found
          c.lay.ensures;
      grows = λ base rest cells b.
          grows_on _ _ _ _ (c.loop-k.invariant.grows base rest cells b)
          (grows_in _ c.loop-k.k _ _ (found base rest cells b).grows);
      long = (laid_long c.match-told.block c.loop-k.k _ _ _ _ c.lay.ensures).children
          ∙ c.loop-k.invariant.long;
      wide = (laid_long c.match-told.block c.loop-k.k _ _ _ _ c.lay.ensures).standing
          ∙ c.loop-k.invariant.wide;
      rests = g.met.N.Blocks.rests_on _ _ _ c.loop-k.invariant.rests rests;
    }

pub gather-returns-clause-walked : goal.gather-returns-clause-walked
gather-returns-clause-walked g t c base rest cells b =
    let e : c.loop-k.k ≡ 8 = omega arith in
    record {
      partway = subst (λ (n : ℕ). Partway g.T.Task.makes base rest c.args.level c.args.task.now cells c.loop-k.children c.loop-k.standing n (walk_at (g.N.Blocks.seen c.loop-k.store) c.loop-k.full (g.M.Memo.has c.loop-k.memo))) e
          (c.loop-k.invariant.partway base rest cells b);
      grows = c.loop-k.invariant.grows base rest cells b;
    }
