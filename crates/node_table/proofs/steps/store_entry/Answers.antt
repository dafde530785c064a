use Rattle.std.proofs.Common.{◌≡◌, ℕ, ◌<◌, sym, ap, ◌∙◌, subst}
use Rattle.node_words.specs.Plans.{Layout}
use Rattle.core_laws.proofs.OfPlaces.Apart.{place_low}
use Rattle.core_laws.specs.places.WordIds.{place}
use Rattle.table_rule.specs.Views.{SeatView}
use Rattle.table_rule.specs.Rules.{MayStepEntry}
use Rattle.table_rule.proofs.Lift.{allows}
use Rattle.node_table.proofs.Keeps.{kept, has_number}
use Rattle.node_table.specs.TableStates.{TableState, PassState}
use Rattle.node_table.proofs.steps.store_entry.Goals as goal

pub store-requires : goal.store-requires
store-requires g c =
    let inside = c.table.inside.words.shared in let me = c.seat.inside.seat.me in
    let plan : inside.key.plan ≡ c.args.table.now.plan =
    ap (λ (t : TableState). t.plan) c.table.view_is in
    let view : me.0 ≡ c.args.seat.now.view = ap (λ (t : PassState). t.view) c.seat.view_is in
    let may =
    subst (λ (z : Layout × SeatView). MayStepEntry z.0 c.args.place z.1 (λ (k : ℕ). c.args.new)
    (λ (k : ℕ). g.W.StepFacts.tells z.1 c.args.new))
    (λ i. (sym plan i, sym view i)) c.requires.may in
    let some = has_number me.0 c.seat.inside.number c.seat.invariant.0 in (
      ap (λ (t : PassState). t.table) c.seat.view_is ∙ c.requires.of.table
          ∙ sym (ap (λ (t : TableState). t.id) c.table.view_is),
      rw (c.table.invariant.2, may.there) (place_low inside.key.plan may.word_id may.is_word_id),
      rw may.there (kept inside.key _ _ me (place inside.key.plan may.word_id) (λ (k : ℕ). c.args.new)
          (let v = me.0 in λ (k : ℕ). g.W.StepFacts.tells v c.args.new) some
          (subst (λ (n : ℕ). 0 < n) may.there c.requires.behind)
          (allows inside.key.plan inside.key.models _ _ me may.word_id (λ (k : ℕ). c.args.new)
          (let v = me.0 in λ (k : ℕ). g.W.StepFacts.tells v c.args.new) may.is_word_id (may.may _))),
    )
