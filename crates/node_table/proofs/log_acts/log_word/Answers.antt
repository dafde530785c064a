use Rattle.std.proofs.Common.{◌≡◌, ℕ, suc, ◌-◌, Some, subst, arith}
use Rattle.core_laws.specs.places.WordIds.{Version}
use Rattle.table_rule.specs.Views.{known_at}
use Rattle.node_table.specs.LogTurns.{IsWordOf}
use Rattle.node_table.specs.TableStates.{PassState}
use Rattle.node_table.proofs.LogReads.{one_word}
use Rattle.node_table.proofs.log_acts.log_word.Goals as goal

pub returns-clause-word : goal.returns-clause-word
returns-clause-word c =
    let k : ℕ = c.args.n - 1 in
    let n : c.args.n ≡ suc k = (let low = c.requires.there.0 in omega arith) in
    let w = c.look_word-word.new.seat.view in
    subst (λ (s : PassState). IsWordOf s.view k c.args.i c.look_word-word.result) c.pass.view_is
    (one_word c.pass.inside.seat.view w k c.args.i c.look_word-word.result c.tell.ensures.log
    c.look_word-word.ensures.turn.sees.turn c.look_word-word.ensures.learns c.requires.few
    (subst (λ (u : ℕ). known_at (Version u c.args.i) w.log.words ≡ Some c.look_word-word.result) n
    c.look_word-word.ensures.known))
