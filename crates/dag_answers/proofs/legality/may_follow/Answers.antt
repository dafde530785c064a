use Rattle.std.proofs.Common.{rules, ◌≡◌, ◌↔◌, ℕ, Option, IsTrue, sym, subst}
use Rattle.history_model.specs.declared.acts.Act.{Act}
use Rattle.history_model.specs.declared.acts.Act.TheVariants.{Undo, Redo}
use Rattle.history_model.specs.Logs.{MayFollow}
use Rattle.history_model.specs.Positions.{first_of}
use Rattle.undo.specs.Trails.{trail_position}
use Rattle.dag_answers.specs.Legality.{IsOpen}
use Rattle.dag_answers.proofs.EndLaws.{undo_follows, redo_follows}
use Rattle.dag_answers.proofs.legality.may_follow.Goals as goal

pub returns-in-Undo : goal.returns-in-Undo
returns-in-Undo c = λ marks tells.
    let at = trail_position c.args.trail.now in
    let of_open : IsTrue c.is_open.result ↔ IsOpen c.args.ends.now c.args.number (first_of at.past) =
    subst (λ (to : Option ℕ). IsTrue c.is_open.result ↔ IsOpen c.args.ends.now c.args.number to)
    c.undo_target.ensures c.is_open.ensures in
    let is : c.args.act ≡ Undo = search rules in
    subst (λ (a : Act). IsTrue c.is_open.result ↔ MayFollow marks c.args.number a at) (sym is)
    (undo_follows marks c.args.ends.now c.args.number at c.is_open.result tells c.requires.few
    c.requires.below of_open)

pub returns-in-Redo : goal.returns-in-Redo
returns-in-Redo c = λ marks tells.
    let at = trail_position c.args.trail.now in
    let result = c.is_open-in-Redo.result in
    let of_open : IsTrue result ↔ IsOpen c.args.ends.now c.args.number (first_of at.future) =
    subst (λ (to : Option ℕ). IsTrue result ↔ IsOpen c.args.ends.now c.args.number to)
    c.redo_target.ensures c.is_open-in-Redo.ensures in
    let is : c.args.act ≡ Redo = search rules in
    subst (λ (a : Act). IsTrue result ↔ MayFollow marks c.args.number a at) (sym is)
    (redo_follows marks c.args.ends.now c.args.number at result tells c.requires.few
    c.requires.below of_open)
