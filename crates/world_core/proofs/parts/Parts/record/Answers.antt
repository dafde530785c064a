use Rattle.std.proofs.Common.{ℕ, sym, subst, ap, ◌+◌}
use Rattle.history_model.specs.Logs.{Log}
use Rattle.std.proofs.Common.{set}
use Rattle.world_core.specs.Kept.{stored}
use Rattle.world_core.specs.Steps.{AppendsRoot}
use Rattle.world_core.proofs.ShareLaws.{names_at}
use Rattle.world_core.proofs.VersionLaws.{longer, logged, recorded, all_room}
use Rattle.world_core.proofs.parts.Parts.record.Goals as goal

pub returns-clause-appends : goal.returns-clause-appends
returns-clause-appends c =
    let s = stored c.args.self.now in
    let room =
    all_room s c.args.next.session c.requires.held.names c.requires.stored c.requires.held.at in
    let version : ℕ = c.count-version.result + 1 in
    subst (λ (log : Log). AppendsRoot s c.args.next c.args.root
    (logged s (set s.roots version c.args.root) log c.from-at.result c.in_ok-after.after))
    (sym c.in_ok-append.ensures.appended)
    (subst (λ (at : ℕ). AppendsRoot s c.args.next c.args.root
    (logged s (set s.roots version c.args.root)
    (longer s.log c.args.next) at c.in_ok-after.after)) (sym c.from-at.ensures)
    (recorded s c.args.next c.args.root c.index.result.now c.in_ok-after.after version c.requires.stored c.requires.may c.requires.held
    (names_at s c.args.next.session c.from-at.result 4096 c.index.result.now c.from-at.ensures room c.index.ensures)
    c.in_ok-after.ensures (ap (λ (k : ℕ). k + 1) c.count-version.ensures)))
