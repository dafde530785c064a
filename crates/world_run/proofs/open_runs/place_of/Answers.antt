use Rattle.std.proofs.Common.{◌≡◌, List, [], ap, arith, length, refl, vec_len}
use Rattle.std.proofs.lemmas.List.{drop_all}
use Rattle.world_run.specs.declared.open_runs.SavedSession.{SavedSession}
use Rattle.world_run.specs.Open.{logged_in}
use Rattle.world_run.proofs.KeptLaws.{has_save, number_first, number_left}
use Rattle.world_run.proofs.open_runs.place_of.Goals as goal

pub loop-at-init : goal.loop-at-init
loop-at-init c = record { is = omega arith; inside = c.requires }

pub unreachable-requires : goal.unreachable-requires
unreachable-requires c =
    let none =
    ap (λ (zs : List SavedSession). length (logged_in zs))
    (drop_all c.loop-at.at c.args.sessions.now c.loop-at-test.false) in
    let nothing : length (logged_in []) ≡ 0 = refl in
    let inside = c.loop-at.invariant.inside in
    absurd (omega arith)

pub returns-then-left-number : goal.returns-then-left-number
returns-then-left-number c =
    has_save c.args.sessions.now c.args.k c.loop-at.at c.loop-at.left c.index-sessions-at.result c.loop-at-test.true c.index-sessions-at.is
    (let long = c.index-sessions-at.result.saves.ok.0 in let e = c.len-number.ensures in let same = ap (λ (z : SavedSession). vec_len z.saves) c.index-sessions-at.is in let less = c.if-left-number.true in omega arith) c.loop-at.invariant.is

pub loop-at-preserved : goal.loop-at-preserved
loop-at-preserved c =
    let first =
    number_first c.args.sessions.now c.loop-at.at c.index-sessions-at.result c.loop-at-test.true c.index-sessions-at.is in
    let left =
    number_left c.args.sessions.now c.loop-at.at c.index-sessions-at.result c.loop-at-test.true c.index-sessions-at.is in
    let long = c.index-sessions-at.result.saves.ok.0 in
    let e = c.len-number.ensures in
    let same = ap (λ (z : SavedSession). vec_len z.saves) c.index-sessions-at.is in
    let more = c.if-left-number.false in
    let is = c.loop-at.invariant.is in
    let inside = c.loop-at.invariant.inside in
    record { is = omega arith; inside = omega arith }
