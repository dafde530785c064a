use Rattle.std.proofs.Common.{rules, ◌≡◌, ◌+◌, ◌-◌, ◌<◌, ◌≤◌, false, true, length, None, slice_index_or, refl}
use Rattle.audit.specs.Marks.{MarkedBy}
use Rattle.audit.proofs.Keeping.{all_kept, one_lost}
use Rattle.audit.proofs.reruns.Rerun.keeps_last.Goals as goal

pub returns-then-not-is_marked_by : goal.returns-then-not-is_marked_by
returns-then-not-is_marked_by g c =
    let some : 1 ≤ c.args.keep = search rules in
    let lt : c.loop-version.version < length c.args.log.now.records + 1 - c.args.keep =
    search rules in
    let lost : MarkedBy (slice_index_or c.args.self.now.table.items c.loop-version.version None) (c.loop-version.version + c.args.keep) → ⊥ = search rules in (
      λ t. absurd (let bad : false ≡ true = t in cc),
      λ last. absurd
          (one_lost c.args.keep c.args.log.now c.args.self.now.table.items c.loop-version.version
          c.requires.tells some lt lost last),
    )

pub returns : goal.returns
returns g c =
    let all : length c.args.log.now.records + 1 - c.args.keep ≤ c.loop-version.version =
    search rules in (
      λ t. all_kept c.args.keep c.args.log.now c.args.self.now.table.items c.loop-version.version
          c.requires.tells all c.loop-version.invariant,
      λ last. refl,
    )
