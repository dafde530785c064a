-- What the parts of an act make of the nine planes, one after another.
use Rattle.std.proofs.Common.{◌≡◌, ◌≢◌, ℕ, zero, suc, ◌*◌, ◌/◌, ◌%◌, ◌<◌, ◌≤◌, ◌==◌, Bool, true, false, Option, Some, None, List, refl, sym, ◌∙◌, ap, subst, arith, inl, inr}
use Rattle.std.specs.Prelude.{if◌then◌else◌, nat_lt, not, ◌&&◌, ◌||◌}
use Rattle.std.specs.List.{slice_get}
use Rattle.std.proofs.lemmas.Bool.{cases_eq}
use Rattle.std.proofs.lemmas.Bool.Decides.{nat_tests}
use Rattle.std.proofs.lemmas.Nat.Bits.{bit_at_above}
use Rattle.vw_cell.specs.declared.cells.Cell.{Cell}
use Rattle.vw_cell.specs.declared.boxes.Boxed.{Boxed}
use Rattle.vw_cell.specs.Places.{FitsAt, IsInWorld, is_in_box, is_in_ball}
use Rattle.vw_cell.specs.Tests.{is_in_box_tells}
use Rattle.vox_read.specs.Contents.{Content, colour_at}
use Rattle.history_model.specs.Worlds.{World, box_at, less, plus, is_in_stamp}
use Rattle.history_model.specs.declared.acts.TintAct.{TintAct}
use Rattle.history_model.specs.declared.acts.TintAct.TheVariants.{Fill, Erase, Ball, Carve, Copy, Stamp}
use Rattle.history_model.specs.Tints.{Tints, tinted, stamp_tint, ink_of, over}
use Rattle.history_model.specs.Logs.{TintFits}
use Rattle.history_model.specs.Planes.{tells, plane_at, plane_box, StoresTints}
use Rattle.history_model.specs.Parts.{in_cube, in_plane, without_ink, stamped_in, stamp_part, part, part_number, after_parts}
use Rattle.core_laws.proofs.OfTints.PlaneLaws.{made_in_own, planes_apart, left_outside}

-- ---- one plane

pub tells_none : (plane : ℕ) → tells plane 0 ≡ false
tells_none zero = refl
tells_none (suc b) = ap (λ (n : ℕ). n == 1) (bit_at_above 0 0 b (omega arith) (omega arith))

either : (b : Bool) (plane c d : ℕ) (u v : Bool) → (b ≡ true → u ≡ tells plane c)
    → v ≡ tells plane d
    → (if b then u else v) ≡ tells plane (if b then c else d)
either true plane c d u v p q = p refl
either false plane c d u v p q = q

-- where a model's cells are
some_tint : (b : Bool) (c : ℕ) → (b && not (c == 0)) ≡ not ((if b then c else 0) == 0)
some_tint true c = refl
some_tint false c = refl

pub in_stamp_tells : (model : Option Content) (at p : Cell)
    → is_in_stamp model at p ≡ tells 0 (stamp_tint model at p)
in_stamp_tells None at p = refl
in_stamp_tells (Some model) at p =
    some_tint (is_in_box (box_at at model.size) p) (colour_at model.voxels (less p at))

pub not_none : (s : ℕ) → not (suc s == 0) ≡ true
not_none s = ap not (let none : (suc s == 0) ≡ false = grind (arith, nat_tests) in none)

over_tells : (plane s d : ℕ) (v : Bool) → v ≡ tells plane d
    → (if not (s == 0) then tells plane s else v) ≡ tells plane (over s d)
over_tells plane zero d v e = e
over_tells plane (suc s) d v e =
    ap (λ (b : Bool). if b then tells plane (suc s) else v) (not_none s)

-- the source of a copied place
copied_from : (n : ℕ) (b : Boxed) (to p : Cell) → FitsAt b.at b.size n
    → is_in_box (box_at to b.size) p ≡ true → IsInWorld n (plus b.at (less p to))
copied_from n b to p f e =
    let i = is_in_box_tells (box_at to b.size) p e in
    record {
      x = omega (arith, i.x, f.x);
      y = omega (arith, i.y, f.y);
      z = omega (arith, i.z, f.z);
    }

-- what the act makes of a plane tells of the tints that it makes
pub plane_tells : (n : ℕ) (models : List Content) (act : TintAct) (tints : Tints) (plane : ℕ)
    (v : World) (p : Cell) → TintFits n models act → IsInWorld n p
    → ((r : Cell) → IsInWorld n r → v r ≡ tells plane (tints r))
    → in_plane (ink_of models act) act plane v p ≡ tells plane (tinted models act tints p)
plane_tells n models (Fill b c) tints plane v p f i same =
    either (is_in_box b p) plane c (tints p) (tells plane c) (v p) (λ e. refl) (same p i)
plane_tells n models (Erase b) tints plane v p f i same =
    either (is_in_box b p) plane 0 (tints p) false (v p) (λ e. sym (tells_none plane)) (same p i)
plane_tells n models (Ball ball c) tints plane v p f i same =
    either (is_in_ball ball p) plane c (tints p) (tells plane c) (v p) (λ e. refl) (same p i)
plane_tells n models (Carve ball) tints plane v p f i same =
    either (is_in_ball ball p) plane 0 (tints p) false (v p) (λ e. sym (tells_none plane))
    (same p i)
plane_tells n models (Copy b to) tints plane v p f i same =
    either (is_in_box (box_at to b.size) p) plane (tints (plus b.at (less p to))) (tints p)
    (v (plus b.at (less p to))) (v p)
    (λ e. same (plus b.at (less p to)) (copied_from n b to p f.0 e)) (same p i)
plane_tells n models (Stamp m at) tints plane v p f i same =
    over_tells plane (stamp_tint (slice_get models m) at p) (tints p) (v p) (same p i)

-- ---- all planes

-- each plane has just the cells of these values, and no other cell is set
record Planes (n : ℕ) (value : ℕ → Cell → Bool) (w : World) : Type 0 where
  each : (j : ℕ) (p : Cell) → j < 9 → IsInWorld n p → w (plus (plane_at n j) p) ≡ value j p
  rest : (q : Cell) → IsInWorld (4 * n) q
      → ((j : ℕ) → j < 9 → is_in_box (plane_box n j) q ≡ false) → w q ≡ false

-- an edit in one plane
plane_step : (n k : ℕ) (value next : ℕ → Cell → Bool) (edit : World → World) (w : World) → k < 9
    → Planes n value w
    → ((p : Cell) → IsInWorld n p → edit (λ r. w (plus (plane_at n k) r)) p ≡ next k p)
    → ((j : ℕ) (p : Cell) → j ≢ k → value j p ≡ next j p)
    → Planes n next (in_cube n (plane_at n k) edit w)
plane_step n k value next edit w lt planes made others =
    record {
      each = λ j p lj i. elim (cases_eq j k) [
        | inl e ↦ subst
            (λ (m : ℕ). in_cube n (plane_at n k) edit w (plus (plane_at n m) p) ≡ next m p)
            (sym e) (made_in_own n (plane_at n k) edit w p i ∙ made p i)
        | inr other ↦
            left_outside n (plane_at n k) edit w (plus (plane_at n j) p)
            (planes_apart n j k p lj lt other i)
            ∙ planes.each j p lj i ∙ others j p other
      ];
      rest = λ q i out.
          left_outside n (plane_at n k) edit w q (out k lt) ∙ planes.rest q i out;
    }

-- the tints after the act in the first k planes, and those before it in the others
mixed : List Content → TintAct → Tints → ℕ → ℕ → Cell → Bool
mixed models act tints k j p =
    tells j (if nat_lt j k then tinted models act tints p else tints p)

lt_next : (j k : ℕ) → j ≢ k → nat_lt j k ≡ nat_lt j (suc k)
lt_next j k other = grind (arith, nat_tests)

lt_itself : (k : ℕ) → nat_lt k (suc k) ≡ true
lt_itself k = grind (arith, nat_tests)

not_lt : (k : ℕ) → nat_lt k k ≡ false
not_lt k = grind (arith, nat_tests)

lt_all : (j : ℕ) → j < 9 → nat_lt j 9 ≡ true
lt_all j lt = grind (arith, nat_tests)

mixed_next : (models : List Content) (act : TintAct) (tints : Tints) (k j : ℕ) (p : Cell) → j ≢ k
    → mixed models act tints k j p ≡ mixed models act tints (suc k) j p
unfolding mixed
mixed_next models act tints k j p other =
    ap (λ (b : Bool). tells j (if b then tinted models act tints p else tints p))
    (lt_next j k other)

mixed_here : (models : List Content) (act : TintAct) (tints : Tints) (k : ℕ) (p : Cell)
    → tells k (tinted models act tints p) ≡ mixed models act tints (suc k) k p
unfolding mixed
mixed_here models act tints k p =
    ap (λ (b : Bool). tells k (if b then tinted models act tints p else tints p))
    (sym (lt_itself k))

mixed_left : (models : List Content) (act : TintAct) (tints : Tints) (k : ℕ) (p : Cell)
    → mixed models act tints k k p ≡ tells k (tints p)
unfolding mixed
mixed_left models act tints k p =
    ap (λ (b : Bool). tells k (if b then tinted models act tints p else tints p)) (not_lt k)

begins : (n : ℕ) (models : List Content) (act : TintAct) (tints : Tints) (w : World)
    → StoresTints n tints w → Planes n (mixed models act tints 0) w
unfolding mixed
begins n models act tints w s =
    record {
      each = λ j p lt i. s.each j p lt i ∙ ap
          (λ (b : Bool). tells j (if b then tinted models act tints p else tints p))
          (none_below j);
      rest = s.rest;
    }
  where
    none_below : (j : ℕ) → false ≡ nat_lt j 0
    none_below j = grind (arith, nat_tests)

ends : (n : ℕ) (models : List Content) (act : TintAct) (tints : Tints) (w : World)
    → Planes n (mixed models act tints 9) w → StoresTints n (tinted models act tints) w
unfolding mixed
ends n models act tints w planes =
    record {
      each = λ j p lt i. planes.each j p lt i ∙ ap
          (λ (b : Bool). tells j (if b then tinted models act tints p else tints p))
          (lt_all j lt);
      rest = planes.rest;
    }

-- ---- acts of one part for each plane

plain_parts : (n : ℕ) (models : List Content) (act : TintAct) (tints : Tints) (w : World) (k : ℕ)
    → k ≤ 9 → TintFits n models act → Planes n (mixed models act tints 0) w
    → Planes n (mixed models act tints k)
    (after_parts (λ i. in_cube n (plane_at n i) (in_plane (ink_of models act) act i)) k w)
plain_parts n models act tints w zero le f begun = begun
plain_parts n models act tints w (suc k) le f begun =
    let parts : ℕ → World → World =
    λ i. in_cube n (plane_at n i) (in_plane (ink_of models act) act i) in
    let so_far = plain_parts n models act tints w k (omega arith) f begun in
    plane_step n k (mixed models act tints k) (mixed models act tints (suc k))
    (in_plane (ink_of models act) act k) (after_parts parts k w) (omega arith) so_far
    (λ p i. plane_tells n models act tints k
    (λ r. after_parts parts k w (plus (plane_at n k) r)) p f i
    (λ r at. so_far.each k r (omega arith) at ∙ mixed_left models act tints k r)
    ∙ mixed_here models act tints k p)
    (λ j p other. mixed_next models act tints k j p other)

plain_law : (n : ℕ) (models : List Content) (act : TintAct) (tints : Tints) (w : World)
    → TintFits n models act → StoresTints n tints w
    → StoresTints n (tinted models act tints)
    (after_parts (λ i. in_cube n (plane_at n i) (in_plane (ink_of models act) act i)) 9 w)
plain_law n models act tints w f s =
    ends n models act tints _
    (plain_parts n models act tints w 9 (omega arith) f (begins n models act tints w s))

-- ---- stamps

-- between the two parts of a plane
halfway : List Content → ℕ → Cell → Tints → ℕ → ℕ → Cell → Bool
halfway models m at tints k j p =
    if j == k
    then tells k (tints p) && not (tells 0 (stamp_tint (slice_get models m) at p))
    else mixed models (Stamp m at) tints k j p

half_here : (models : List Content) (m : ℕ) (at : Cell) (tints : Tints) (k : ℕ) (p : Cell)
    → halfway models m at tints k k p
    ≡ (tells k (tints p) && not (tells 0 (stamp_tint (slice_get models m) at p)))
unfolding halfway
half_here models m at tints k p =
    ap (λ (b : Bool). if b
    then tells k (tints p) && not (tells 0 (stamp_tint (slice_get models m) at p))
    else mixed models (Stamp m at) tints k k p) (equal k)
  where
    equal : (k : ℕ) → (k == k) ≡ true
    equal k = grind (arith, nat_tests)

half_other : (models : List Content) (m : ℕ) (at : Cell) (tints : Tints) (k j : ℕ) (p : Cell)
    → j ≢ k → halfway models m at tints k j p ≡ mixed models (Stamp m at) tints k j p
unfolding halfway
half_other models m at tints k j p other =
    ap (λ (b : Bool). if b
    then tells k (tints p) && not (tells 0 (stamp_tint (slice_get models m) at p))
    else mixed models (Stamp m at) tints k j p) (differ j k other)
  where
    differ : (j k : ℕ) → j ≢ k → (j == k) ≡ false
    differ j k other = grind (arith, nat_tests)

-- what is left of a plane's cell, with that of the tint over it
both_halves : (plane s d : ℕ) (u v : Bool) → u ≡ tells 0 s → v ≡ tells plane d
    → (tells plane s || (v && not u)) ≡ tells plane (over s d)
both_halves plane zero d u v e q =
    rw (e, tells_none plane) (keeps v ∙ q)
  where
    keeps : (v : Bool) → (false || (v && not (not (0 == 0)))) ≡ v
    keeps true = refl
    keeps false = refl
both_halves plane (suc s) d u v e q =
    ap (λ (b : Bool). tells plane (suc s) || (v && not b)) (e ∙ not_none s)
    ∙ gone (tells plane (suc s)) v
  where
    gone : (t v : Bool) → (t || (v && not true)) ≡ t
    gone true v = refl
    gone false true = refl
    gone false false = refl

-- plane 0 in one part
first_of_stamp : (s d : ℕ) (v : Bool) → v ≡ tells 0 d → (tells 0 s || v) ≡ tells 0 (over s d)
first_of_stamp zero d v q = q
first_of_stamp (suc s) d v q =
    ap (λ (b : Bool). b || v) (not_none s) ∙ sym (not_none s)

stamp_first : (n : ℕ) (models : List Content) (m : ℕ) (at : Cell) (tints : Tints) (w : World)
    → Planes n (mixed models (Stamp m at) tints 0) w
    → Planes n (mixed models (Stamp m at) tints 1)
    (in_cube n (plane_at n 0) (stamped_in 0 (stamp_tint (slice_get models m) at)) w)
stamp_first n models m at tints w begun =
    let ink : Tints = stamp_tint (slice_get models m) at in
    plane_step n 0 (mixed models (Stamp m at) tints 0) (mixed models (Stamp m at) tints 1)
    (stamped_in 0 ink) w (omega arith) begun
    (λ p i. first_of_stamp (ink p) (tints p) (w (plus (plane_at n 0) p))
    (begun.each 0 p (omega arith) i ∙ mixed_left models (Stamp m at) tints 0 p)
    ∙ mixed_here models (Stamp m at) tints 0 p)
    (λ j p other. mixed_next models (Stamp m at) tints 0 j p other)

stamp_pair : (n : ℕ) (models : List Content) (m : ℕ) (at : Cell) (tints : Tints) (w : World) (k : ℕ)
    → k < 9 → Planes n (mixed models (Stamp m at) tints k) w
    → Planes n (mixed models (Stamp m at) tints (suc k))
    (in_cube n (plane_at n k) (stamped_in k (stamp_tint (slice_get models m) at))
    (in_cube n (plane_at n k) (without_ink (stamp_tint (slice_get models m) at)) w))
stamp_pair n models m at tints w k lt so_far =
    let ink : Tints = stamp_tint (slice_get models m) at in
    let half : World = in_cube n (plane_at n k) (without_ink ink) w in
    let first : Planes n (halfway models m at tints k) half =
    plane_step n k (mixed models (Stamp m at) tints k) (halfway models m at tints k)
    (without_ink ink) w lt so_far
    (λ p i. ap (λ (b : Bool). b && not (tells 0 (ink p)))
    (so_far.each k p lt i ∙ mixed_left models (Stamp m at) tints k p)
    ∙ sym (half_here models m at tints k p))
    (λ j p other. sym (half_other models m at tints k j p other)) in
    plane_step n k (halfway models m at tints k) (mixed models (Stamp m at) tints (suc k))
    (stamped_in k ink) half lt first
    (λ p i. ap (λ (b : Bool). tells k (ink p) || b)
    (first.each k p lt i ∙ half_here models m at tints k p)
    ∙ both_halves k (ink p) (tints p) (tells 0 (ink p)) (tells k (tints p)) refl refl
    ∙ mixed_here models (Stamp m at) tints k p)
    (λ j p other. half_other models m at tints k j p other
    ∙ mixed_next models (Stamp m at) tints k j p other)

-- the two parts of the plane of bit b are parts 1 + 2 b and 2 + 2 b
pair_is : (n : ℕ) (ink : Tints) (w : World) (b : ℕ)
    → stamp_part n ink (suc (suc (2 * b))) (stamp_part n ink (suc (2 * b)) w)
    ≡ in_cube n (plane_at n (suc b)) (stamped_in (suc b) ink)
    (in_cube n (plane_at n (suc b)) (without_ink ink) w)
pair_is n ink w b =
    let whole : 2 * b / 2 ≡ b = omega arith in
    let none : 2 * b % 2 ≡ 0 = omega arith in
    let next : suc (2 * b) / 2 ≡ b = omega arith in
    let one : suc (2 * b) % 2 ≡ 1 = omega arith in
    rw (whole, none, next, one) refl

stamp_parts : (n : ℕ) (models : List Content) (m : ℕ) (at : Cell) (tints : Tints) (w : World)
    (b : ℕ)
    → b ≤ 8 → Planes n (mixed models (Stamp m at) tints 0) w
    → Planes n (mixed models (Stamp m at) tints (suc b))
    (after_parts (stamp_part n (stamp_tint (slice_get models m) at)) (suc (2 * b)) w)
stamp_parts n models m at tints w zero le begun = stamp_first n models m at tints w begun
stamp_parts n models m at tints w (suc b) le begun =
    let ink : Tints = stamp_tint (slice_get models m) at in
    let parts : ℕ → World → World = stamp_part n ink in
    let so_far = stamp_parts n models m at tints w b (omega arith) begun in
    let number : suc (2 * suc b) ≡ suc (suc (suc (2 * b))) = omega arith in
    subst (λ (k : ℕ). Planes n (mixed models (Stamp m at) tints (suc (suc b)))
    (after_parts parts k w))
    (sym number)
    (subst (λ (v : World). Planes n (mixed models (Stamp m at) tints (suc (suc b))) v)
    (sym (pair_is n ink (after_parts parts (suc (2 * b)) w) b))
    (stamp_pair n models m at tints (after_parts parts (suc (2 * b)) w) (suc b)
    (omega arith) so_far))

-- ---- every act

pub parts_law : (n : ℕ) (models : List Content) (act : TintAct) (tints : Tints) (before : World)
    → TintFits n models act → StoresTints n tints before
    → StoresTints n (tinted models act tints)
    (after_parts (part n (ink_of models act) act) (part_number act) before)
parts_law n models (Fill b c) tints before f s = plain_law n models (Fill b c) tints before f s
parts_law n models (Erase b) tints before f s = plain_law n models (Erase b) tints before f s
parts_law n models (Ball ball c) tints before f s =
    plain_law n models (Ball ball c) tints before f s
parts_law n models (Carve ball) tints before f s = plain_law n models (Carve ball) tints before f s
parts_law n models (Copy b to) tints before f s = plain_law n models (Copy b to) tints before f s
parts_law n models (Stamp m at) tints before f s =
    ends n models (Stamp m at) tints _
    (stamp_parts n models m at tints before 8 (omega arith)
    (begins n models (Stamp m at) tints before s))
