use Rattle.std.proofs.Common.{◌≡◌, ◌^◌, subst, refl, arith, Bool, ℕ, Option, [], ◌∷◌, length}
use Rattle.std.specs.Prelude.{◌↔◌, IsTrue}
use Rattle.node_words.specs.declared.shapes.names.Name.{Name}
use Rattle.history_model.specs.Logs.{FitsWorld}
use Rattle.world_core.specs.Kept.{stored}
use Rattle.world_core.specs.Lawful.{HoldsShares, IsRootMade, MayAskAppend}
use Rattle.world_core.specs.Stored.{stored_state}
use Rattle.world_core.proofs.LowerLaws.{held_live}
use Rattle.world_core.proofs.MadeLaws.{ok_map}
use Rattle.world_core.proofs.parts.Parts.may_append.Goals as goal

pub is_made-requires-clause-live : goal.is_made-requires-clause-live
is_made-requires-clause-live c =
    let s = stored c.args.self.now in
    λ n some. (
      held_live s c.args.session n c.requires
          (subst (λ (o : Option Name). HoldsShares (stored_state s) c.args.session (o ∷ [])) some
          (c.in_ok-holds.ensures.0 c.if-not-branch.false)),
      c.if-not-is_top.ensures.0 refl n some,
    )

pub returns : goal.returns
returns c =
    let s = stored c.args.self.now in
    let newest : c.args.base ≡ length s.log.records =
    omega (arith, c.if-base-at.false, c.if-base-at-2.false, c.moment-at.ensures.number) in
    ok_map c.is_made.result
    (λ (b : Bool). IsTrue b
    ↔ IsRootMade s.plan s.models c.args.act.now c.args.root (stored_state s))
    (λ (b : Bool). IsTrue b
    ↔ MayAskAppend s.plan s.models
    (stored_state s) c.args.session c.args.act.now c.args.base c.args.root)
    (λ b is. (
      λ t. record {
        fits = subst (λ (k : ℕ). FitsWorld (2 ^ k) s.models c.args.act.now) c.side.ensures.value
            (c.if-not-fits.ensures.0 refl);
        base_in = omega (arith, newest);
        level = c.if-not-is_top.ensures.0 refl;
        held = c.in_ok-holds.ensures.0 c.if-not-branch.false;
        made = λ _. is.0 t;
      },
      λ may. is.1 (may.made newest),
    )) c.is_made.ensures
