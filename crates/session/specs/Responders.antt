-- What the responder of a session is between the lines of its script, and what no line changes of
-- it.
use Rattle.std.specs.Borrow.{MutBor}
use Rattle.std.specs.Prelude.{◌≡◌, ℕ, ◌+◌, ◌≤◌, List, [], ◌∷◌, drop, length, take}
use Rattle.std.specs.declared.vec.Vec.{Vec}
use Rattle.std.proofs.Common.{refl, subst, ◌∙◌}
use Rattle.node_words.specs.Held.{most_before_call}
use Rattle.node_table.specs.TableStates.{TableState, PassState, SamePass}
use Rattle.version_log.specs.declared.answers.Pinned.{Pinned}
use Rattle.session.specs.Resting.{IsAtRest}
use Rattle.session.specs.Saves.{SeatHoldsPins}
use Rattle.session.specs.SessionWorlds.{SessionWorld}

-- the session of this number is at rest, and holds the roots of the pins behind the first ones of
-- the list, which are not its own, and nothing else; and there is room for as many pins as there
-- may be
pub record IsReadyResponder (w : TableState) (number first most : ℕ) (s : PassState)
    (pins : List Pinned)
    (capacity : ℕ) : Type 0 where
  pub rest : IsAtRest w s
  pub mine : s.view.numbers ≡ number ∷ []
  pub begun : first ≤ length pins
  pub holds : SeatHoldsPins w s.view (drop first pins)
  pub few : length pins ≤ most
  pub fewer : most ≤ first + most_before_call
  pub room : most ≤ capacity

-- it is one of the same world, over the same session, and what it has lent stands where the
-- lender's stands; the pins that stood first do so still
pub record KeepsResponder {Z : Type 0} (w x : SessionWorld) (s t : MutBor PassState) (m n : ℕ)
    (p q : MutBor (Vec Pinned Z)) : Type 0 where
  pub world : x ≡ w
  pub session : t.ghost_name ≡ s.ghost_name
  pub saves : q.ghost_name ≡ p.ghost_name
  pub same : SamePass s.now t.now
  pub first : n ≡ m
  pub kept : take m q.now.items ≡ take m p.now.items

pub desk_itself : {Z : Type 0} (w : SessionWorld) (s : MutBor PassState) (m : ℕ)
    (p : MutBor (Vec Pinned Z)) → KeepsResponder w w s s m m p p
desk_itself w s m p = record {
  world = refl;
  session = refl;
  saves = refl;
  same = record {
    table = refl;
    session = record { alive = refl; plan = refl; models = refl; numbers = refl };
  };
  first = refl;
  kept = refl;
}

pub responder_on : {Z : Type 0} (w x y : SessionWorld) (s t u : MutBor PassState) (m n k : ℕ)
    (p q r : MutBor (Vec Pinned Z)) → KeepsResponder w x s t m n p q
    → KeepsResponder x y t u n k q r
    → KeepsResponder w y s u m k p r
responder_on w x y s t u m n k p q r f g =
    let v = f.same.session in
    let z = g.same.session in
    record {
      world = g.world ∙ f.world;
      session = g.session ∙ f.session;
      saves = g.saves ∙ f.saves;
      same = record {
        table = g.same.table ∙ f.same.table;
        session = record {
          alive = z.alive ∙ v.alive;
          plan = z.plan ∙ v.plan;
          models = z.models ∙ v.models;
          numbers = z.numbers ∙ v.numbers;
        };
      };
      first = g.first ∙ f.first;
      kept = subst (λ (i : ℕ). take i r.now.items ≡ take i q.now.items) f.first g.kept ∙ f.kept;
    }
