use Rattle.std.proofs.Common.{rules, ℕ, ◌+◌, ◌<◌, sym, subst, arith}
use Rattle.node_table.specs.TableStates.{bucket_named}
use Rattle.node_table.proofs.Learned.{learns_on}
use Rattle.node_table.proofs.Scans.{HasSought, seeks_free, seeks_more}
use Rattle.node_table.proofs.scan.seek.Goals as goal

pub loop-slot-preserved : goal.loop-slot-preserved
loop-slot-preserved c =
    let b = bucket_named c.args.level c.args.bucket in let look = c.look_at-has in
    let slot = c.loop-slot.slot in let inv = c.loop-slot.invariant in (
      learns_on _ _ _ inv.0 look.ensures.learns,
      subst (λ (k : ℕ). HasSought look.new.seat.view.words c.args.key.now b c.args.used (slot + 1) k)
          (sym c.lowest-free.ensures)
          (seeks_more _ _ c.args.key.now b c.args.used slot c.loop-slot.free look.result
          look.ensures.learns.grows inv.1 c.loop-slot-test.true look.ensures.shows
          c.in_default.not-Sought),
    )

pub returns-then-free-from-clause-seeks : goal.returns-then-free-from-clause-seeks
returns-then-free-from-clause-seeks c =
    let p = c.args.table.now.plan in let inv = c.loop-slot.invariant in
    let lt : c.loop-slot.free < p.cap = search rules in
    let end = c.loop-slot-test.false in
    seeks_free p _ _ c.args.key.now (bucket_named c.args.level c.args.bucket) c.args.used
    c.loop-slot.slot c.loop-slot.free inv.0.grows inv.1 (omega arith) c.requires.low.0
    c.requires.free lt
