use Rattle.std.proofs.Common.{rules, ℕ, subst}
use Rattle.core_laws.specs.places.Names.{named}
use Rattle.node_table.proofs.ActLaws.{reached_bucket}
use Rattle.node_table.specs.Acts.{RaisesUnderTurn}
use Rattle.node_table.specs.TableStates.{bucket_named}
use Rattle.release.proofs.KeepLaws.{raised_now}
use Rattle.release.proofs.keep_at.Goals as goal

pub turn-turn-requires-clause-there : goal.turn-turn-requires-clause-there
turn-turn-requires-clause-there g c =
    reached_bucket c.args.table.now c.args.pass.now c.args.n c.requires.of c.tell.ensures
    c.requires.reached

pub returns-clause-held : goal.returns-clause-held
returns-clause-held g c = λ t reached root.
    (let u = c.turn-turn.result.pass.now.view in let w = c.raise-share.new.self.1.0.view in
    let e = c.turn-turn.ensures in let n = c.args.n in
    let raised : RaisesUnderTurn u n w =
    subst (λ (x : ℕ × ℕ). RaisesUnderTurn u (named x.0 x.1 n.slot) w)
    (λ i. (e.bucket.0 i, e.bucket.1 i)) c.raise-share.ensures.raised in
    raised_now c.args.pass.now.view u w _ n (bucket_named n.level n.bucket) e.view raised
    (search rules) c.tell-2.ensures t reached root)
