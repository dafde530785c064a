use Rattle.std.proofs.Common.{ℕ, subst, ◌-◌, ◌+◌, ◌*◌, ◌∙◌, sym, ap, arith, Err}
use Rattle.std.proofs.lemmas.Grind.{common_steps}
use Rattle.vox_scene.specs.Rotations.{posed}
use Rattle.vox_scene.specs.Walking.{visits, walked, AnswersWalk, rotation_or_identity}
use Rattle.vox_scene.proofs.Visiting.{no_node_there, node_too_deep, node_refused, mover_entered, group_entered, shape_entered, walks_along, enter_refused, child_walked, child_refused, children_done}
use Rattle.vox_scene.proofs.Within.{within_more}
use Rattle.vox_scene.proofs.walking.+walk.Goals as goal

pub visit-returns-in_default : goal.visit-returns-in_default
visit-returns-in_default t c = λ list finds.
    no_node_there list c.args.models c.args.room c.args.walk.now c.args.pose.now c.args.id
    (sym (finds.each c.args.id) ∙ sym c.in_default.ensures.value)

pub visit-returns-then-room-eq0 : goal.visit-returns-then-room-eq0
visit-returns-then-room-eq0 t c = λ list finds.
    node_too_deep list c.args.models c.args.room c.args.walk.now c.args.pose.now c.args.id
    c.in-Some.kind.now (omega arith) (sym (finds.each c.args.id) ∙ sym c.in-Some.ensures.value)

pub visit-returns-in-Err : goal.visit-returns-in-Err
visit-returns-in-Err t c = λ list finds.
    enter_refused _ _ c.in-Err.fault _ c.enter.new.walk c.in-Err.ensures
    (λ f is. node_refused list c.args.models c.args.room (c.args.room - 1) c.args.walk.now
    c.args.pose.now c.args.id c.in-Some.kind.now f (omega arith)
    (sym (finds.each c.args.id) ∙ sym c.in-Some.ensures.value) is)

pub visit-visit-requires : goal.visit-visit-requires
visit-visit-requires t c = (
  omega arith,
  (
    omega arith,
    within_more (1000000 * (64 - c.args.room + 1)) (1000000 * (64 - (c.args.room - 1)))
        c.of_child-inner.result.at (omega arith) c.of_child-inner.ensures.within,
  ),
)

pub visit-visit_all-requires : goal.visit-visit_all-requires
visit-visit_all-requires t c = (
  omega arith,
  (
    omega arith,
    within_more (1000000 * (64 - c.args.room)) (1000000 * (64 - (c.args.room - 1)))
        c.args.pose.now.at (omega arith) c.requires.within,
  ),
)

pub visit-returns-in-Moves : goal.visit-returns-in-Moves
visit-returns-in-Moves t c = λ list finds.
    walks_along _ _ c.visit.result c.visit.new.walk
    (mover_entered list c.args.models c.args.room (c.args.room - 1) c.args.walk.now c.enter.new.walk
    c.args.pose.now c.args.id c.in-Some.kind.now (omega arith)
    (sym (finds.each c.args.id) ∙ sym c.in-Some.ensures.value) c.in_default-enter.ensures
    c.in-Moves.child c.in-Moves.axis_map c.in-Moves.shift c.of_child-inner.result c.in-Moves.is
    (c.of_child-inner.ensures.value
    ∙ ap (λ r. posed c.args.pose.now r c.vector_or-vector.result) c.rotation_or_identity-axis_map.ensures
    ∙ ap
    (λ v. posed c.args.pose.now
    (rotation_or_identity c.in-Moves.axis_map) v) c.vector_or-vector.ensures.value))
    (c.visit.ensures list finds)

pub visit-returns-in-Groups : goal.visit-returns-in-Groups
visit-returns-in-Groups t c = λ list finds.
    walks_along _ _ c.visit_all.result c.visit_all.new.walk
    (group_entered list c.args.models c.args.room (c.args.room - 1) c.args.walk.now c.enter.new.walk
    c.args.pose.now c.args.id c.in-Some.kind.now (omega arith)
    (sym (finds.each c.args.id) ∙ sym c.in-Some.ensures.value) c.in_default-enter.ensures
    c.in-Groups.children c.children.inside.bytes.now c.in-Groups.is c.children.view_is)
    (c.visit_all.ensures list finds)

pub visit-returns-in-Shows : goal.visit-returns-in-Shows
visit-returns-in-Shows t c = λ list finds.
    shape_entered list c.args.models c.args.room (c.args.room - 1) c.args.walk.now c.enter.new.walk
    c.args.pose.now c.args.id c.in-Some.kind.now (omega arith)
    (sym (finds.each c.args.id) ∙ sym c.in-Some.ensures.value) c.in_default-enter.ensures
    c.in-Shows.field-0 c.in-Shows.is

pub visit_all-returns-in-Err : goal.visit_all-returns-in-Err
visit_all-returns-in-Err t c = λ list finds.
    walks_along _ _ (Err c.in-Err.fault) c.visit.new.walk (c.loop-rest.invariant list finds)
    (child_refused c.args.models c.loop-rest.walk c.visit.new.walk
    (visits list c.args.room c.args.pose.now) c.loop-rest.rest.now c.split_at.result.0.now
    c.split_at.result.1.now c.in-Err.fault
    (grind (arith, common_steps)) c.split_at.ensures.front_len
    (subst (λ (x : ℕ). AnswersWalk
    (walked c.args.models c.loop-rest.walk (visits list c.args.room c.args.pose.now x))
    (Err c.in-Err.fault) c.visit.new.walk) c.number.ensures (c.in-Err.ensures list finds)))

pub visit_all-loop-rest-preserved : goal.visit_all-loop-rest-preserved
visit_all-loop-rest-preserved t c = λ list finds.
    c.loop-rest.invariant list finds
    ∙ child_walked c.args.models c.loop-rest.walk c.visit.new.walk
    (visits list c.args.room c.args.pose.now) c.loop-rest.rest.now c.split_at.result.0.now
    c.split_at.result.1.now (grind (arith, common_steps)) c.split_at.ensures.front_len
    (rw c.number.ensures at (c.in_default.ensures list finds))

pub visit_all-returns : goal.visit_all-returns
visit_all-returns t c = λ list finds.
    c.loop-rest.invariant list finds
    ∙ children_done c.args.models c.loop-rest.walk (visits list c.args.room c.args.pose.now)
    c.loop-rest.rest.now (omega arith)
