-- Changes of one region leave the cells of the others.
use Rattle.std.proofs.Common.{◌≡◌, ℕ, ◌+◌, ◌<◌, ◌≤◌, ◌==◌, Bool, true, false, List, [], ◌∷◌, ◌++◌, length, refl, sym, ap, subst, ◌∙◌, arith, inl, inr, ◌⊎◌, append_assoc, append-nil, leb-true}
use Rattle.std.specs.Prelude.{All, not, ◌&&◌, if◌then◌else◌, nat_le}
use Rattle.std.specs.List.{list_all, fold}
use Rattle.std.proofs.lemmas.Bool.{and_parts, cases_order}
use Rattle.std.proofs.lemmas.List.{length-append}
use Rattle.std.proofs.lemmas.List.Elements.{All-head, All-tail}
use Rattle.vw_cell.specs.declared.cells.Cell.{Cell}
use Rattle.vw_cell.specs.declared.balls.Ball as ball
use Rattle.vw_cell.specs.Places.{is_in_box, is_in_ball, IsInBall}
use Rattle.vw_cell.specs.Tests.{is_in_box_tells}
use Rattle.history_model.specs.Contents.{Content}
use Rattle.history_model.specs.declared.acts.Act.{Act}
use Rattle.history_model.specs.declared.acts.Act.TheVariants.{Fill, Erase, Ball, Carve, Copy, Stamp, Tint, Undo, Redo}
use Rattle.history_model.specs.declared.histories.Record.{Record}
use Rattle.history_model.specs.Worlds.{World, edited, is_edit, box_at}
use Rattle.history_model.specs.Moments.{world_has}
use Rattle.history_model.specs.Laws.{has_of_edit, has_stays}
use Rattle.conformance.specs.Shown.{Accepted, numbered}
use Rattle.conformance.specs.Passes.{own_of}
use Rattle.gen_load.specs.Regions.{IsInRegion, EditLiesIn, stamped_box}
use Rattle.text_laws.specs.regions.Runs.{set_behind, set_by, is_local, leaves}
use Rattle.text_laws.proofs.OfRegions.Rising.{IsRising, numbered_rises}
use Rattle.text_laws.proofs.OfRegions.Showing.{set_after}

-- ---- changes of regions

pub region_local : (x : ℕ) (act : Act) → EditLiesIn x act → is_local act ≡ true
region_local x (Fill b) lies = refl
region_local x (Erase b) lies = refl
region_local x (Ball b) lies = refl
region_local x (Carve b) lies = refl
region_local x (Stamp m at) lies = refl
region_local x (Copy b to) lies = absurd lies
region_local x (Tint t) lies = absurd lies
region_local x Undo lies = absurd lies
region_local x Redo lies = absurd lies

not_true : (b : Bool) → (b ≡ true → ⊥) → b ≡ false
not_true true no_way = absurd (no_way refl)
not_true false no_way = refl

ball_tells : (b : ball.Ball) (p : Cell) → is_in_ball b p ≡ true → IsInBall b p
ball_tells b p is = record { near = leb-true _ _ is }

pub region_left : (model : Content) (x : ℕ) (p : Cell) (act : Act)
    → model.size ≡ record { x = 32; y = 32; z = 32 } → EditLiesIn x act → (IsInRegion x p → ⊥)
    → leaves (model ∷ []) p act ≡ true
region_left model x p (Fill b) size lies apart =
    let out = not_true (is_in_box b p)
    (λ is. apart (lies.each p (is_in_box_tells b p is))) in rw out refl
region_left model x p (Erase b) size lies apart =
    let out = not_true (is_in_box b p)
    (λ is. apart (lies.each p (is_in_box_tells b p is))) in rw out refl
region_left model x p (Ball b) size lies apart =
    let out = not_true (is_in_ball b p)
    (λ is. apart (lies.each p (ball_tells b p is))) in rw out refl
region_left model x p (Stamp m at) size lies apart =
    let out : is_in_box (box_at at (record {
      x =
          32;
      y = 32;
      z = 32;
    })) p
    ≡ false = not_true (is_in_box (stamped_box at) p)
    (λ is. apart (lies.1.each p (is_in_box_tells (stamped_box at) p is))) in
    rw (lies.0, size, out) refl
region_left model x p (Carve b) size lies apart = absurd lies
region_left model x p (Copy b to) size lies apart = absurd lies
region_left model x p (Tint t) size lies apart = absurd lies
region_left model x p Undo size lies apart = absurd lies
region_left model x p Redo size lies apart = absurd lies

-- ---- a change that hangs on one cell alone

pub local_edit : (models : List Content) (act : Act) (w : World) (p : Cell) → is_local act ≡ true
    → edited models act w p ≡ set_behind models p (w p) act
local_edit models (Fill b) w p is = refl
local_edit models (Erase b) w p is = refl
local_edit models (Ball b) w p is = refl
local_edit models (Carve b) w p is = refl
local_edit models (Stamp m at) w p is = refl
local_edit models (Copy b to) w p is = absurd (let bad : false ≡ true = is in cc)
local_edit models (Tint t) w p is = absurd (let bad : false ≡ true = is in cc)
local_edit models Undo w p is = absurd (let bad : false ≡ true = is in cc)
local_edit models Redo w p is = absurd (let bad : false ≡ true = is in cc)

local_is_edit : (act : Act) → is_local act ≡ true → is_edit act ≡ true
local_is_edit (Fill b) is = refl
local_is_edit (Erase b) is = refl
local_is_edit (Ball b) is = refl
local_is_edit (Carve b) is = refl
local_is_edit (Stamp m at) is = refl
local_is_edit (Copy b to) is = refl
local_is_edit (Tint t) is = absurd (let bad : false ≡ true = is in cc)
local_is_edit Undo is = absurd (let bad : false ≡ true = is in cc)
local_is_edit Redo is = absurd (let bad : false ≡ true = is in cc)

left_both : (a b : Bool) → not a && b ≡ true → (a ≡ false) × (b ≡ true)
left_both true b is = absurd (let bad : false ≡ true = is in cc)
left_both false b is = (refl, is)

left_is : (models : List Content) (p : Cell) (act : Act) (before : Bool)
    → leaves models p act ≡ true → set_behind models p before act ≡ before
left_is models p act true left =
    (left_both (set_behind models p false act) (set_behind models p true act) left).1
left_is models p act false left =
    (left_both (set_behind models p false act) (set_behind models p true act) left).0

pub made_local : (models : List Content) (p : Cell) (acts : List Act) (w : World)
    → All (λ act. is_local act ≡ true) acts
    → fold (λ before act. edited models act before) w acts p ≡ set_after models p (w p) acts
made_local models p [] w local = refl
made_local models p (act ∷ more) w local =
    made_local models p more (edited models act w)
    (All-tail (λ (a : Act). is_local a ≡ true) act more local)
    ∙ ap (λ b. set_after models p b more)
    (local_edit models act w p (All-head (λ (a : Act). is_local a ≡ true) act more local))

-- ---- what all records of a history are to a cell of a session's region: of another session, and
-- they leave it; or of this one, and not after this moment

abbrev pub suits : List Content → Cell → ℕ → ℕ → Accepted → Bool
suits models p session most c =
    is_local c.entry.act
    && (if c.entry.session == session then nat_le c.at most else leaves models p c.entry.act)

abbrev own : ℕ → List Accepted → List Accepted
own session items = own_of (λ c. c.entry.session) session items

none_own : (models : List Content) (p : Cell) (session most : ℕ) (items : List Accepted)
    → list_all (suits models p session most) items ≡ true → IsRising (most + 1) items
    → own session items ≡ []
none_own models p session most [] all rising = refl
none_own models p session most (c ∷ more) all rising =
    go (c.entry.session == session) refl
    (none_own models p session most more (and_parts _ _ all).1 (rises more rising.1))
  where
    rises : (rest : List Accepted) → IsRising (c.at + 1) rest → IsRising (most + 1) rest
    rises [] r = tt
    rises (d ∷ rest) r = (let l = rising.0 in let m = r.0 in omega (arith, l, m), r.1)

    fits : is_local c.entry.act
        &&
        (if c.entry.session == session then nat_le c.at most else leaves models p c.entry.act)
        ≡ true
    fits = (and_parts (suits models p session most c)
        (list_all (suits models p session most) more) all).0

    go : (b : Bool) → (c.entry.session == session) ≡ b → own session more ≡ []
        → own session (c ∷ more) ≡ []
    go false is none = rw is none
    go true is none =
        let early : (if c.entry.session == session then nat_le c.at most else leaves models p c.entry.act) ≡ true = (and_parts (is_local c.entry.act) (if c.entry.session == session then nat_le c.at most else leaves models p c.entry.act) fits).1 in
        let soon : nat_le c.at most ≡ true =
        (let same : (if c.entry.session == session then nat_le c.at most
        else leaves models p c.entry.act) ≡ nat_le c.at most = rw is refl in sym same
        ∙ early) in
        let few = leb-true c.at most soon in
        absurd (let l = rising.0 in omega (arith, few, l))

-- the cells of version n, of which the records from one on are told
world_after : List Content → Cell → List Record → Bool
world_after models p before = world_has models before (length before) p

pub run_has : (models : List Content) (p : Cell) (session n : ℕ) (before more : List Record)
    → list_all (suits models p session n) (numbered (length before + 1) more) ≡ true
    → length before ≤ n → n ≤ length before + length more
    → world_has models (before ++ more) n p ≡ set_by models p
    (world_has models before (length before) p)
    (own session (numbered (length before + 1) more))
run_has models p session n before [] all low high =
    let is : n ≡ length before = omega (arith, low, high) in
    ap (λ records. world_has models records n p) (append-nil before)
    ∙ ap (λ v. world_has models before v p) is
run_has models p session n before (r ∷ more) all low high =
    pick (cases_order (length before) n) (run_has models p session n (before ++ r ∷ []) more)
  where
    count : length (before ++ r ∷ []) ≡ length before + 1
    count = length-append before (r ∷ [])

    Goal : Type 0
    Goal = world_has models (before ++ r ∷ more) n p
        ≡ set_by models p (world_has models before (length before) p)
        (own session (numbered (length before + 1) (r ∷ more)))

    here : Accepted
    here = record { at = length before + 1; entry = r }

    rest : List Accepted
    rest = numbered (length before + 1 + 1) more

    parts : (suits models p session n here ≡ true)
        × (list_all (suits models p session n) rest ≡ true)
    parts = and_parts (suits models p session n here) (list_all (suits models p session n) rest) all

    local : is_local r.act ≡ true
    local = (and_parts (is_local r.act)
        (if r.session == session then nat_le (length before + 1) n
        else leaves models p r.act) parts.0).0

    later : (if r.session == session then nat_le (length before + 1) n else leaves models p r.act)
        ≡ true
    later = (and_parts (is_local r.act)
        (if r.session == session then nat_le (length before + 1) n
        else leaves models p r.act) parts.0).1

    now : Bool
    now = world_has models before (length before) p

    stepped : world_has models (before ++ r ∷ [])
        (length before + 1) p ≡ set_behind models p now r.act
    stepped = has_of_edit models before r p (local_is_edit r.act local)
        ∙ local_edit models r.act (world_has models before (length before)) p local

    pick : (length before ≡ n) ⊎ ((length before < n) ⊎ (n < length before))
        → (list_all (suits models p session n) (numbered (length (before ++ r ∷ []) + 1) more)
        ≡ true → length (before ++ r ∷ []) ≤ n → n ≤ length (before ++ r ∷ []) + length more
        → world_has models ((before ++ r ∷ []) ++ more) n p ≡ set_by models p
        (world_has models (before ++ r ∷ []) (length (before ++ r ∷ [])) p)
        (own session (numbered (length (before ++ r ∷ []) + 1) more)))
        → Goal
    pick (inl same) next =
        let none : own session (numbered (length before + 1) (r ∷ more)) ≡ [] =
        none_own models p session n (numbered (length before + 1) (r ∷ more)) all
        (subst (λ k. IsRising (k + 1) (numbered (length before + 1) (r ∷ more))) same
        (numbered_rises (length before + 1) (r ∷ more))) in
        has_stays models before (r ∷ more) n p (omega (arith, same))
        ∙ ap (λ v. world_has models before v p) (sym same)
        ∙ ap (set_by models p now) (sym none)
    pick (inr (inr over)) next = absurd (omega (arith, over, low))
    pick (inr (inl less)) next =
        let moved : world_has models ((before ++ r ∷ []) ++ more) n p ≡ set_by models p (world_has models (before ++ r ∷ []) (length (before ++ r ∷ [])) p) (own session (numbered (length (before ++ r ∷ []) + 1) more)) =
        next (subst (λ k. list_all (suits models p session n) (numbered (k + 1) more) ≡ true)
        (sym count) parts.1) (omega (arith, count, less)) (omega (arith, count, high)) in
        ap (λ records. world_has models records n p) (sym (append_assoc before (r ∷ []) more))
        ∙ moved
        ∙ ap
        (λ k. set_by models p (world_has models (before ++ r ∷ []) k p)
        (own session (numbered (k + 1) more))) count
        ∙ ap (λ b. set_by models p b (own session rest)) stepped
        ∙ kept (r.session == session) refl later
      where
        kept : (b : Bool) → (r.session == session) ≡ b
            →
            (if r.session == session then nat_le (length before + 1) n
            else leaves models p r.act) ≡ true
            → set_by models p (set_behind models p now r.act)
            (own session rest) ≡ set_by models p now (own session (here ∷ rest))
        kept true is fits = rw is refl
        kept false is fits =
            let left : leaves models p r.act ≡ true =
            (let same : (if r.session == session then nat_le (length before + 1) n
            else leaves models p r.act) ≡ leaves models p r.act = rw is refl in sym same
            ∙ fits) in
            rw is (ap (λ v. set_by models p v (own session rest)) (left_is models p r.act now left))
