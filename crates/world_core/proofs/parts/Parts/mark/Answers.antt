use Rattle.std.proofs.Common.{ℕ, sym, subst, arith, None, set}
use Rattle.history_model.specs.Logs.{Log}
use Rattle.world_core.specs.Kept.{stored}
use Rattle.world_core.specs.Steps.{MarksRoot}
use Rattle.world_core.proofs.ShareLaws.{names_at}
use Rattle.world_core.proofs.VersionLaws.{with_mark, found_root, logged, marked}
use Rattle.world_core.proofs.parts.Parts.mark.Goals as goal

pub returns-clause-marks : goal.returns-clause-marks
returns-clause-marks c =
    let s = stored c.args.self.now in
    subst (λ (log : Log). MarksRoot s c.args.mark c.index-root.result.now
    (logged s (set s.roots c.args.mark.version None) log c.from-at.result c.in_ok-after.after))
    (sym c.in_ok-insert.ensures.inserted)
    (subst (λ (at : ℕ). MarksRoot s c.args.mark c.index-root.result.now
    (logged s (set s.roots c.args.mark.version None)
    (with_mark s.log c.place_for-place.result c.args.mark) at c.in_ok-after.after))
    (sym c.from-at.ensures)
    (marked s c.args.mark c.index-root.result.now c.index.result.now c.in_ok-after.after c.place_for-place.result c.requires.stored c.requires.earlier c.requires.now c.requires.unmarked c.requires.room
    (names_at s c.args.mark.session c.from-at.result 4095 c.index.result.now c.from-at.ensures c.requires.room c.index.ensures)
    (found_root s.roots c.args.mark.version c.index-root.result.now
    (let w = c.requires.stored.places in let few = c.requires.stored.sound.versions.legal.few in let e = c.requires.earlier in omega arith) c.index-root.ensures)
    c.in_ok-after.ensures c.place_for-place.ensures.within c.place_for-place.ensures.lower c.place_for-place.ensures.higher))
