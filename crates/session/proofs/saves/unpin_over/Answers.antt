use Rattle.std.proofs.Common.{◌∙◌, [], ◌∷◌, ap, arith, length, length-append, refl, rules, subst, sym}
use Rattle.conformance.specs.sessions.SessionViews.{SessionView}
use Rattle.session.specs.Saves.{HoldsSaves}
use Rattle.session.specs.SessionWorlds.{session_view}
use Rattle.session.proofs.SaveLaws.{all_back, few_held, last_gone, last_may_go, passes_on}
use Rattle.session.proofs.saves.unpin_over.Goals as goal

pub give_root-requires-clause-held : goal.give_root-requires-clause-held
give_root-requires-clause-held g c =
    last_may_go c.args.world.now.table (session_view c.loop-pin.s.view) c.loop-pin.s.view.held
    c.pop.new.self.items c.loop-pin.saves.items c.in-Some.pin c.loop-pin.invariant.holds
    c.in-Some.ensures.items c.in-Some.pin.root refl

pub loop-pin-preserved : goal.loop-pin-preserved
loop-pin-preserved g c =
    let last =
    last_gone c.args.world.now.table (session_view c.loop-pin.s.view) c.loop-pin.s.view.held
    c.pop.new.self.items c.loop-pin.saves.items c.in-Some.pin c.loop-pin.invariant.holds
    c.in-Some.ensures.items c.in-Some.pin.root c.give_root.new.s.view.held refl
    c.give_root.ensures.gone in
    record {
      rest = c.give_root.ensures.back.rest;
      same = passes_on c.args.s.now c.loop-pin.s c.give_root.new.s c.loop-pin.invariant.same
          c.give_root.ensures.back.same;
      seen = c.give_root.ensures.seen ∙ c.loop-pin.invariant.seen;
      holds = subst
          (λ (z : SessionView). HoldsSaves c.args.world.now.table z c.give_root.new.s.view.held
          c.pop.new.self.items) (sym c.give_root.ensures.seen) last;
      few = (let long = ap length c.in-Some.ensures.items in
          let both = length-append c.pop.new.self.items (c.in-Some.pin ∷ []) in
          let all = c.loop-pin.invariant.few in
          omega arith);
    }

pub returns-clause-none : goal.returns-clause-none
returns-clause-none g c =
    all_back c.args.world.now.table (session_view c.loop-pin.s.view) c.loop-pin.s.view.held
    c.loop-pin.saves.items c.loop-pin.invariant.holds (search rules)

pub give_root-requires-clause-ready : goal.give_root-requires-clause-ready
give_root-requires-clause-ready g c =
    record {
      rest = c.loop-pin.invariant.rest;
      room = (let few =
          few_held c.args.world.now.table (session_view c.loop-pin.s.view) c.loop-pin.s.view.held
          c.loop-pin.saves.items c.loop-pin.invariant.holds in
          let all = c.loop-pin.invariant.few in
          omega arith);
    }
