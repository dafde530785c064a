-- A mark that comes to its place among others, and what stays legal then.
use Rattle.std.proofs.Common.{◌≡◌, ◌≢◌, ℕ, suc, ◌+◌, ◌<◌, ◌≤◌, sym, subst, arith, List, [], ◌∷◌, ◌++◌, length}
use Rattle.std.specs.Prelude.{All}
use Rattle.std.specs.List.{AllPairs}
use Rattle.std.proofs.lemmas.List.Elements.{All-cons, All-head, All-tail}
use Rattle.std.proofs.lemmas.List.Kept.{AllPairs-cons}
use Rattle.history_model.specs.declared.acts.Act.{Act}
use Rattle.history_model.specs.declared.acts.Act.TheVariants.{Fill, Erase, Ball, Carve, Copy, Stamp, Tint, Undo, Redo}
use Rattle.history_model.specs.declared.histories.Record.{Record}
use Rattle.history_model.specs.declared.histories.Mark.{Mark}
use Rattle.history_model.specs.Positions.{Position, next_position}
use Rattle.history_model.specs.Logs.{IsVersionHeld, HasTarget, MayFollow, MayFollowFrom}
use Rattle.core_laws.specs.contents.Versions.{InsertsMark, IsUnmarked}

-- what holds of each element holds of each with one more in the middle
All-put : {X : Type 0} (P : X → Type 0) (xs ys : List X) (x : X) → All P (xs ++ ys) → P x
    → All P (xs ++ x ∷ ys)
All-put P [] ys x all here = All-cons P x ys here all
All-put P (w ∷ xs) ys x all here =
    All-cons P w (xs ++ x ∷ ys) (All-head P w (xs ++ ys) all)
    (All-put P xs ys x (All-tail P w (xs ++ ys) all) here)

All-less : {X : Type 0} (P : X → Type 0) (xs ys : List X) (x : X) → All P (xs ++ x ∷ ys)
    → All P (xs ++ ys)
All-less P [] ys x all = All-tail P x ys all
All-less P (w ∷ xs) ys x all =
    All-cons P w (xs ++ ys) (All-head P w (xs ++ x ∷ ys) all)
    (All-less P xs ys x (All-tail P w (xs ++ x ∷ ys) all))

All-middle : {X : Type 0} (P : X → Type 0) (xs ys : List X) (x : X) → All P (xs ++ x ∷ ys) → P x
All-middle P [] ys x all = All-head P x ys all
All-middle P (w ∷ xs) ys x all = All-middle P xs ys x (All-tail P w (xs ++ x ∷ ys) all)

AllPairs-put : {X : Type 0} (R : X → X → Type 0) (xs ys : List X) (x : X) → AllPairs R (xs ++ ys)
    → All (λ w. R w x) xs → All (λ y. R x y) ys → AllPairs R (xs ++ x ∷ ys)
AllPairs-put R [] ys x pairs lower higher = AllPairs-cons R x ys higher pairs
AllPairs-put R (w ∷ xs) ys x pairs lower higher =
    AllPairs-cons R w (xs ++ x ∷ ys)
    (All-put (R w) xs ys x (λ k d lt. pairs 0 (suc k) d (omega arith) (omega arith))
    (All-head (λ v. R v x) w xs lower))
    (AllPairs-put R xs ys x (λ i j d low high. pairs (suc i) (suc j) d (omega arith) (omega arith))
    (All-tail (λ v. R v x) w xs lower) higher)

module _ (old new : List Mark) (mark : Mark) (comes : InsertsMark old mark new) where
  -- what holds of each old mark and of the new one holds of each
  pub each_mark : (P : Mark → Type 0) → All P old → P mark → All P new
  each_mark P all here =
      subst (λ (ms : List Mark). All P ms) (sym comes.is)
      (All-put P comes.before comes.after mark
      (subst (λ (ms : List Mark). All P ms) comes.was all) here)

  pub old_marks : (P : Mark → Type 0) → All P new → All P old
  old_marks P all =
      subst (λ (ms : List Mark). All P ms) (sym comes.was)
      (All-less P comes.before comes.after mark (subst (λ (ms : List Mark). All P ms) comes.is all))

  pub new_mark : (P : Mark → Type 0) → All P new → P mark
  new_mark P all =
      All-middle P comes.before comes.after mark (subst (λ (ms : List Mark). All P ms) comes.is all)

  pub marks_rise : AllPairs (λ a b. a.version < b.version) old
      → AllPairs (λ a b. a.version < b.version) new
  marks_rise rising =
      let Rising : List Mark → Type 0 = (λ ms. AllPairs (λ a b. a.version < b.version) ms) in
      subst Rising (sym comes.is)
      (AllPairs-put (λ a b. a.version < b.version) comes.before comes.after mark
      (subst Rising comes.was rising) comes.lower comes.higher)

  pub marks_add_one : (v : ℕ) → v ≢ mark.version
      → (IsUnmarked old v → IsUnmarked new v) × (IsUnmarked new v → IsUnmarked old v)
  marks_add_one v other = (
    λ all. each_mark (λ m. m.version ≢ v) all (λ same. other (sym same)),
    λ all. old_marks (λ m. m.version ≢ v) all,
  )

target_stays : (marks more : List Mark) (n : ℕ) (past : List ℕ)
    → ((to : ℕ) → IsVersionHeld marks n to → IsVersionHeld more n to)
    → HasTarget marks n past → HasTarget more n past
target_stays marks more n [] held has = has
target_stays marks more n (to ∷ past) held has = held to has

may_follow_stays : (marks more : List Mark) (n : ℕ) (act : Act) (at : Position)
    → ((to : ℕ) → IsVersionHeld marks n to → IsVersionHeld more n to) → MayFollow marks n act at
    → MayFollow more n act at
may_follow_stays marks more n (Fill b) at held may = may
may_follow_stays marks more n (Erase b) at held may = may
may_follow_stays marks more n (Ball b) at held may = may
may_follow_stays marks more n (Carve b) at held may = may
may_follow_stays marks more n (Copy b to) at held may = may
may_follow_stays marks more n (Stamp m to) at held may = may
may_follow_stays marks more n (Tint t) at held may = may
may_follow_stays marks more n Undo at held may = target_stays marks more n at.past held may
may_follow_stays marks more n Redo at held may = target_stays marks more n at.future held may

-- records stay legal where further marks forget no target of theirs
follow_stays : (marks more : List Mark) (n : ℕ) (at : Position) (records : List Record)
    → ((m to : ℕ) → m < n + length records → IsVersionHeld marks m to → IsVersionHeld more m to)
    → MayFollowFrom marks n at records → MayFollowFrom more n at records
follow_stays marks more n at [] held follow = follow
follow_stays marks more n at (r ∷ records) held follow = (
  may_follow_stays marks more n r.act at (λ to. held n to (omega arith)) follow.0,
  follow_stays marks more (n + 1)
      (next_position n r.act at) records (λ m to lt. held m to (omega arith)) follow.1,
)

-- a mark at the last record or later forgets no target of theirs
pub marks_follow : (old new : List Mark) (mark : Mark) (n : ℕ) (at : Position)
    (records : List Record)
    → InsertsMark old mark new → n + length records ≤ mark.at + 1 → MayFollowFrom old n at records
    → MayFollowFrom new n at records
marks_follow old new mark n at records comes late follow =
    follow_stays old new n at records
    (λ m to lt held. each_mark old new mark comes (λ k. k.version ≡ to → m ≤ k.at) held
    (λ _. omega arith))
    follow
