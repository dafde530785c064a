-- A file has a scene, or one first fault.
use Rattle.std.proofs.Common.{◌≡◌, ℕ, zero, suc, ◌<◌, ◌≤◌, List, [], ◌∷◌, length, Option, Some, None, Result, Ok, Err, refl, sym, ap, subst, ◌∙◌, inl, inr, ◌⊎◌, arith, All, ℤ, pos, ◌+ℤ◌, ◌≤ℤ◌}
use Rattle.std.specs.List.{Contains}
use Rattle.std.proofs.lemmas.Bool.{cases_order, cases_lt}
use Rattle.std.specs.Int.Signed.{clash_ℤ, ≤ℤ_refl}
use Rattle.std.proofs.lemmas.Int.{ints, by_lt_z}
use Rattle.std.proofs.lemmas.List.Elements.{All-nil, All-cons, All-head, All-tail, All-contains}
use Rattle.vox_chunk.specs.Frames.{Bounds, header_of, place_of, FrameFits}
use Rattle.vox_chunk.specs.declared.faults.VoxFault.{VoxFault}
use Rattle.vox_read.specs.Contents.{Content}
use Rattle.vox_read.specs.Files.{HasModels}
use Rattle.vox_read.specs.Once.{one_reading}
use Rattle.vox_scene.specs.declared.faults.SceneFault.{SceneFault}
use Rattle.vox_scene.specs.declared.faults.SceneFault.TheVariants.{ShortNode, TwoNodes, BadRotation, BadTranslation, NoNode, TooDeep, NoModel, TooMany, TooLarge, Memory}
use Rattle.vox_scene.specs.declared.nodes.Node.{Node}
use Rattle.vox_scene.specs.declared.rotations.Vector.{Vector}
use Rattle.vox_scene.specs.Reading.{AreNodes, IsFirstNodeFault, NodesAreRead, nodes_before, scene_fault_at}
use Rattle.vox_scene.specs.Placing.{SceneInstance, IsLeast, IsLeastCorner, EndsWithin, AllEndWithin, IsTooLarge, file_length, rotated_size, instances_of}
use Rattle.vox_scene.specs.Scenes.{HasInstances, HasLarge, HasTooLarge, ReadsScene}
use Rattle.vox_scene.specs.Judged.{IsPlaceable, JudgesScene, ScenesAreJudged, ScenesAreJudgedOnce}
use Rattle.vox_scene.proofs.Leasts.{least_none}
use Rattle.vox_scene.proofs.Refusing.{no_first, no_stands}

-- ---- one list of nodes, or one first fault of a node

not_behind : (bytes : List ℕ) (main : Bounds) (i j : ℕ) → NodesAreRead bytes main j
    → main.end ≤ place_of bytes main.first i → i < j → ⊥
not_behind bytes main i j read ends lt =
    let head = (read.frames i lt).head in omega (arith, head, ends)

not_broken : (bytes : List ℕ) (main : Bounds) (i j : ℕ) (fault : SceneFault)
    → NodesAreRead bytes main j → scene_fault_at bytes main.first i ≡ Some fault → i < j → ⊥
not_broken bytes main i j fault read breaks lt = let none = read.fine i lt in cc

decide : (i j : ℕ) → (i < j → ⊥) → (j < i → ⊥) → (i ≡ j) ⊎ ((i < j) ⊎ (j < i)) → i ≡ j
decide i j no_less no_more (inl same) = same
decide i j no_less no_more (inr (inl less)) = absurd (no_less less)
decide i j no_less no_more (inr (inr more)) = absurd (no_more more)

neither : (i j : ℕ) → (i < j → ⊥) → (j < i → ⊥) → i ≡ j
neither i j no_less no_more = decide i j no_less no_more (cases_order i j)

one_main : (bytes : List ℕ) {a b : Bounds} → header_of bytes ≡ Ok a → header_of bytes ≡ Ok b → a ≡ b
one_main bytes of_a of_b = cc

one_nodes : (bytes : List ℕ) (a b : List Node) → AreNodes bytes a → AreNodes bytes b → a ≡ b
one_nodes bytes a b of_a of_b =
    let same : of_b.main ≡ of_a.main = one_main bytes of_b.header of_a.header in
    let read : NodesAreRead bytes of_a.main of_b.children =
    subst (λ (m : Bounds). NodesAreRead bytes m of_b.children) same of_b.read in
    let ends : of_a.main.end ≤ place_of bytes of_a.main.first of_b.children =
    subst (λ (m : Bounds). m.end ≤ place_of bytes m.first of_b.children) same of_b.ends in
    let number : of_a.children ≡ of_b.children =
    neither of_a.children of_b.children
    (not_behind bytes of_a.main of_a.children of_b.children read of_a.ends)
    (not_behind bytes of_a.main of_b.children of_a.children of_a.read ends) in
    of_a.are ∙ ap (λ (k : ℕ). nodes_before bytes of_a.main.first k) number
    ∙ sym (subst (λ (m : Bounds). b ≡ nodes_before bytes m.first of_b.children) same of_b.are)

nodes_or_fault : (bytes : List ℕ) (a : List Node) (fault : SceneFault) → AreNodes bytes a
    → IsFirstNodeFault bytes fault → ⊥
nodes_or_fault bytes a fault has first =
    let same : first.main ≡ has.main = one_main bytes first.header has.header in
    let before : NodesAreRead bytes has.main first.child =
    subst (λ (m : Bounds). NodesAreRead bytes m first.child) same first.before in
    let fits : FrameFits bytes has.main.end (place_of bytes has.main.first first.child) =
    subst (λ (m : Bounds). FrameFits bytes m.end (place_of bytes m.first first.child)) same
    first.fits in
    let breaks : scene_fault_at bytes has.main.first first.child ≡ Some fault =
    subst (λ (m : Bounds). scene_fault_at bytes m.first first.child ≡ Some fault) same
    first.breaks in
    let number : has.children ≡ first.child =
    neither has.children first.child
    (not_behind bytes has.main has.children first.child before has.ends)
    (not_broken bytes has.main first.child has.children fault has.read breaks) in
    let ends : has.main.end ≤ place_of bytes has.main.first first.child =
    subst (λ (n : ℕ). has.main.end ≤ place_of bytes has.main.first n) number has.ends in
    let head = fits.head in
    omega (arith, ends, head)

one_fault : (bytes : List ℕ) (a b : SceneFault) → IsFirstNodeFault bytes a
    → IsFirstNodeFault bytes b → a ≡ b
one_fault bytes a b of_a of_b =
    let same : of_b.main ≡ of_a.main = one_main bytes of_b.header of_a.header in
    let before : NodesAreRead bytes of_a.main of_b.child =
    subst (λ (m : Bounds). NodesAreRead bytes m of_b.child) same of_b.before in
    let breaks : scene_fault_at bytes of_a.main.first of_b.child ≡ Some b =
    subst (λ (m : Bounds). scene_fault_at bytes m.first of_b.child ≡ Some b) same of_b.breaks in
    let number : of_b.child ≡ of_a.child =
    neither of_b.child of_a.child
    (not_broken bytes of_a.main of_b.child of_a.child b of_a.before breaks)
    (not_broken bytes of_a.main of_a.child of_b.child a before of_a.breaks) in
    let there : scene_fault_at bytes of_a.main.first of_a.child ≡ Some b =
    subst (λ (n : ℕ). scene_fault_at bytes of_a.main.first n ≡ Some b) number breaks in
    let of_a_breaks = of_a.breaks in
    cc

abbrev read : List Content → Result (List Content) VoxFault
read models = Ok models

abbrev models_of : Result (List Content) VoxFault → List Content
models_of (Ok models) = models
models_of (Err fault) = []

one_stands : (bytes : List ℕ) (a b : Result (List SceneInstance) SceneFault) → HasInstances bytes a
    → HasInstances bytes b → a ≡ b
one_stands bytes a b of_a of_b =
    let models : of_a.models ≡ of_b.models =
    ap models_of (one_reading bytes (read of_a.models) (read of_b.models) of_a.has of_b.has) in
    let nodes : of_a.nodes ≡ of_b.nodes = one_nodes bytes of_a.nodes of_b.nodes of_a.are of_b.are in
    sym of_a.walked ∙ ap (λ (ms : List Content). instances_of ms of_a.nodes) models
    ∙ ap (λ (ns : List Node). instances_of of_b.models ns) nodes ∙ of_b.walked

-- ---- one least corner, where anything stands

no_one : (xs : List SceneInstance) (x : SceneInstance) → xs ≡ [] → Contains xs x → ⊥
no_one xs x none (k, lt, is) = let long = ap length none in omega (arith, lt, long)

one_least : (entry : SceneInstance → ℤ) (stands : List SceneInstance) (s : SceneInstance) (a b : ℤ) → Contains stands s
    → IsLeast entry stands a → IsLeast entry stands b → a ≡ b
one_least entry stands s a b some of_a of_b = meet of_a.met of_b.met where
  meet : (stands ≡ []) ⊎ ((t : SceneInstance) × Contains stands t × (entry t ≡ a))
      → (stands ≡ []) ⊎ ((t : SceneInstance) × Contains stands t × (entry t ≡ b)) → a ≡ b
  meet (inl none) met = absurd (no_one stands s none some)
  meet met (inl none) = absurd (no_one stands s none some)
  meet (inr (t, has_t, is_a)) (inr (u, has_u, is_b)) =
      let low : b ≤ℤ entry t = All-contains (λ x. b ≤ℤ entry x) stands t of_b.below has_t in
      let high : a ≤ℤ entry u = All-contains (λ x. a ≤ℤ entry x) stands u of_a.below has_u in
      omega (arith, ints, low, high, is_a, is_b)

one_corner : (stands : List SceneInstance) (s : SceneInstance) (a b : Vector) → Contains stands s
    → IsLeastCorner stands a → IsLeastCorner stands b → a ≡ b
one_corner stands s a b some of_a of_b =
    let x = one_least (λ t. t.corner.x) stands s a.x b.x some of_a.x of_b.x in
    let y = one_least (λ t. t.corner.y) stands s a.y b.y some of_a.y of_b.y in
    let z = one_least (λ t. t.corner.z) stands s a.z b.z some of_a.z of_b.z in
    λ i. record { x = x i; y = y i; z = z i }

not_both : (stands : List SceneInstance) (a b : Vector) → IsLeastCorner stands a → IsLeastCorner stands b
    → IsTooLarge a stands → (IsTooLarge b stands → ⊥) → ⊥
not_both [] a b of_a of_b (inl over) small = over (All-nil (EndsWithin a 4096))
not_both [] a b of_a of_b (inr long) small = small (inr long)
not_both (s ∷ more) a b of_a of_b large small =
    small (subst (λ (v : Vector). IsTooLarge v (s ∷ more))
    (one_corner (s ∷ more) s a b (0, omega arith, refl) of_a of_b) large)

-- ---- what a fault says, in one form

abbrev Faulty : List ℕ → SceneFault → Type 0
Faulty bytes fault = (IsFirstNodeFault bytes fault ⊎ HasInstances bytes (Err fault))
    ⊎ ((fault ≡ TooLarge) × HasTooLarge bytes)

faulty : (bytes : List ℕ) (fault : SceneFault) → ReadsScene bytes (Err fault) → Faulty bytes fault
faulty bytes (ShortNode at) says = inl says
faulty bytes (TwoNodes at) says = inl says
faulty bytes (BadRotation at) says = inl says
faulty bytes (BadTranslation at) says = inl says
faulty bytes (NoNode at) says = inl says
faulty bytes (TooDeep at) says = inl says
faulty bytes (NoModel at) says = inl says
faulty bytes (TooMany at) says = inl says
faulty bytes TooLarge says = inr (refl, says)
faulty bytes Memory says = inl says

abbrev stood : List SceneInstance → Result (List SceneInstance) SceneFault
stood stands = Ok stands

abbrev failed : SceneFault → Result (List SceneInstance) SceneFault
failed fault = Err fault

err_is : (a b : SceneFault) → failed a ≡ failed b → a ≡ b
err_is a b e = cc

ok_is : (a b : List SceneInstance) → stood a ≡ stood b → a ≡ b
ok_is a b e = cc

ok_or_err : (a : List SceneInstance) (fault : SceneFault) → stood a ≡ failed fault → ⊥
ok_or_err a fault e = (let wrong : ⊥ = cc in wrong)

stands_or_fault : (bytes : List ℕ) (says : Result (List SceneInstance) SceneFault) (fault : SceneFault)
    → HasInstances bytes says → IsFirstNodeFault bytes fault → ⊥
stands_or_fault bytes says fault has first = nodes_or_fault bytes has.nodes fault has.are first

one_faulty : (bytes : List ℕ) (a b : SceneFault) → Faulty bytes a → Faulty bytes b → a ≡ b
one_faulty bytes a b (inl (inl of_a)) (inl (inl of_b)) = one_fault bytes a b of_a of_b
one_faulty bytes a b (inl (inl of_a)) (inl (inr of_b)) =
    absurd (stands_or_fault bytes (Err b) a of_b of_a)
one_faulty bytes a b (inl (inr of_a)) (inl (inl of_b)) =
    absurd (stands_or_fault bytes (Err a) b of_a of_b)
one_faulty bytes a b (inl (inr of_a)) (inl (inr of_b)) =
    err_is a b (one_stands bytes (Err a) (Err b) of_a of_b)
one_faulty bytes a b (inl (inl of_a)) (inr (is, of_b)) =
    absurd (stands_or_fault bytes (Ok of_b.stands) a of_b.has of_a)
one_faulty bytes a b (inl (inr of_a)) (inr (is, of_b)) =
    absurd (ok_or_err of_b.stands a (one_stands bytes (Ok of_b.stands) (Err a) of_b.has of_a))
one_faulty bytes a b (inr (is, of_a)) (inl (inl of_b)) =
    absurd (stands_or_fault bytes (Ok of_a.stands) b of_a.has of_b)
one_faulty bytes a b (inr (is, of_a)) (inl (inr of_b)) =
    absurd (ok_or_err of_a.stands b (one_stands bytes (Ok of_a.stands) (Err b) of_a.has of_b))
one_faulty bytes a b (inr (is_a, of_a)) (inr (is_b, of_b)) = is_a ∙ sym is_b

placed_or_faulty : (bytes : List ℕ) (fault : SceneFault) → IsPlaceable bytes → Faulty bytes fault
    → ⊥
placed_or_faulty bytes fault placed (inl (inl first)) =
    stands_or_fault bytes (Ok placed.stands) fault placed.has first
placed_or_faulty bytes fault placed (inl (inr has)) =
    ok_or_err placed.stands fault (one_stands bytes (Ok placed.stands) (Err fault) placed.has has)
placed_or_faulty bytes fault placed (inr (is, large)) =
    let same : large.stands ≡ placed.stands =
    ok_is large.stands placed.stands
    (one_stands bytes (Ok large.stands) (Ok placed.stands) large.has placed.has) in
    let of_large : HasLarge placed.stands = subst (λ (s : List SceneInstance). HasLarge s) same large.is in
    not_both placed.stands of_large.least placed.least of_large.is_least placed.is_least
    of_large.large placed.small

pub judged_once : ScenesAreJudgedOnce
judged_once bytes None None a b = refl
judged_once bytes None (Some fault) placed says =
    absurd (placed_or_faulty bytes fault placed (faulty bytes fault says))
judged_once bytes (Some fault) None says placed =
    absurd (placed_or_faulty bytes fault placed (faulty bytes fault says))
judged_once bytes (Some f) (Some g) of_f of_g =
    ap Some (one_faulty bytes f g (faulty bytes f of_f) (faulty bytes g of_g))

-- ---- there is one

record FirstSome {A : Type 0} (f : ℕ → Option A) (n : ℕ) : Type 0 where
  at : ℕ
  below : at < n
  value : A
  is : f at ≡ Some value
  before : (k : ℕ) → k < at → f k ≡ None

cases_at : {A : Type 0} (o : Option A) → (o ≡ None) ⊎ ((a : A) × (o ≡ Some a))
cases_at None = inl refl
cases_at (Some a) = inr (a, refl)

grown : {A : Type 0} (f : ℕ → Option A) (n : ℕ) → FirstSome f n → FirstSome f (suc n)
grown f n s = record {
  at = s.at;
  below = (let b = s.below in omega (arith, b));
  value = s.value;
  is = s.is;
  before = s.before;
}

none_yet : {A : Type 0} (f : ℕ → Option A) (n k : ℕ) → ((j : ℕ) → j < n → f j ≡ None) → f n ≡ None
    → k < suc n → (k ≡ n) ⊎ ((k < n) ⊎ (n < k)) → f k ≡ None
none_yet f n k none last lt (inl is) = ap f is ∙ last
none_yet f n k none last lt (inr (inl less)) = none k less
none_yet f n k none last lt (inr (inr more)) = absurd (omega (arith, lt, more))

search_next : {A : Type 0} (f : ℕ → Option A) (n : ℕ) → ((j : ℕ) → j < n → f j ≡ None)
    → (f n ≡ None) ⊎ ((a : A) × (f n ≡ Some a))
    → ((k : ℕ) → k < suc n → f k ≡ None) ⊎ FirstSome f (suc n)
search_next f n none (inl last) =
    inl (λ k lt. none_yet f n k none last lt (cases_order k n))
search_next f n none (inr (a, is)) =
    inr (record { at = n; below = omega arith; value = a; is = is; before = none })

first_some : {A : Type 0} (f : ℕ → Option A) (n : ℕ)
    → ((k : ℕ) → k < n → f k ≡ None) ⊎ FirstSome f n
first_some f zero = inl (λ k lt. absurd (omega (arith, lt)))
first_some f (suc n) = next (first_some f n) where
  next : ((k : ℕ) → k < n → f k ≡ None) ⊎ FirstSome f n
      → ((k : ℕ) → k < suc n → f k ≡ None) ⊎ FirstSome f (suc n)
  next (inl none) = search_next f n none (cases_at (f n))
  next (inr s) = inr (grown f n s)

-- the order of whole numbers is decided
order : (a b : ℤ) → (a ≤ℤ b) ⊎ ((a ≤ℤ b) → ⊥)
order a b =
    by_lt_z {P = (a ≤ℤ b) ⊎ ((a ≤ℤ b) → ⊥)} b a (λ lt. inr (λ le. clash_ℤ lt le)) (λ le. inl le)

below_all : (entry : SceneInstance → ℤ) (least lower : ℤ) (stands : List SceneInstance) → lower ≤ℤ least
    → All (λ s. least ≤ℤ entry s) stands → All (λ s. lower ≤ℤ entry s) stands
below_all entry least lower stands le all =
    λ k d lt. (let of_s = all k d lt in omega (arith, ints, le, of_s))

later : (entry : SceneInstance → ℤ) (s t : SceneInstance) (more : List SceneInstance) (least : ℤ)
    → IsLeast entry (t ∷ more) least → least ≤ℤ entry s → IsLeast entry (s ∷ t ∷ more) least
later entry s t more least is le = record {
  below = All-cons (λ x. least ≤ℤ entry x) s (t ∷ more) le is.below;
  met = shifted is.met;
}
  where
    shifted : (t ∷ more ≡ []) ⊎ ((x : SceneInstance) × Contains (t ∷ more) x × (entry x ≡ least))
        → (s ∷ t ∷ more ≡ []) ⊎ ((x : SceneInstance) × Contains (s ∷ t ∷ more) x × (entry x ≡ least))
    shifted (inl none) = absurd (let long = ap length none in omega (arith, long))
    shifted (inr (x, (k, lt, is_x), same)) = inr (x, (suc k, omega (arith, lt), is_x), same)

sooner : (entry : SceneInstance → ℤ) (s t : SceneInstance) (more : List SceneInstance) (least : ℤ)
    → IsLeast entry (t ∷ more) least → entry s ≤ℤ least → IsLeast entry (s ∷ t ∷ more) (entry s)
sooner entry s t more least is le = record {
  below = All-cons (λ x. entry s ≤ℤ entry x) s (t ∷ more) (≤ℤ_refl (entry s))
      (below_all entry least (entry s) (t ∷ more) le is.below);
  met = inr (s, (0, omega arith, refl), refl);
}

least_of : (entry : SceneInstance → ℤ) (stands : List SceneInstance) → (least : ℤ) × IsLeast entry stands least
least_of entry [] = (pos 0, least_none entry (pos 0))
least_of entry (s ∷ []) = (
  entry s,
  record {
    below = All-cons (λ x. entry s ≤ℤ entry x) s [] (≤ℤ_refl (entry s))
        (All-nil (λ x. entry s ≤ℤ entry x));
    met = inr (s, (0, omega arith, refl), refl);
  },
)
least_of entry (s ∷ t ∷ more) = next (least_of entry (t ∷ more)) where
  next : (least : ℤ) × IsLeast entry (t ∷ more) least
      → (least : ℤ) × IsLeast entry (s ∷ t ∷ more) least
  next (least, is) =
      by_lt_z {P = (l : ℤ) × IsLeast entry (s ∷ t ∷ more) l} (entry s) least
      (λ lt. (entry s, sooner entry s t more least is (omega (arith, ints, lt))))
      (λ le. (least, later entry s t more least is le))

all_or_not : (P : SceneInstance → Type 0) → ((s : SceneInstance) → P s ⊎ (P s → ⊥)) → (stands : List SceneInstance)
    → All P stands ⊎ (All P stands → ⊥)
all_or_not P decides [] = inl (All-nil P)
all_or_not P decides (s ∷ more) = next (decides s) (all_or_not P decides more) where
  next : P s ⊎ (P s → ⊥) → All P more ⊎ (All P more → ⊥)
      → All P (s ∷ more) ⊎ (All P (s ∷ more) → ⊥)
  next (inl of_s) (inl of_more) = inl (All-cons P s more of_s of_more)
  next (inr never) rest = inr (λ all. never (All-head P s more all))
  next (inl of_s) (inr never) = inr (λ all. never (All-tail P s more all))

ends_or_not : (least : Vector) (side : ℕ) (s : SceneInstance)
    → EndsWithin least side s ⊎ (EndsWithin least side s → ⊥)
ends_or_not least side s = next
    (order (s.corner.x +ℤ pos (rotated_size s.axis_map s.model.size).x) (least.x +ℤ pos side))
    (order (s.corner.y +ℤ pos (rotated_size s.axis_map s.model.size).y) (least.y +ℤ pos side))
    (order (s.corner.z +ℤ pos (rotated_size s.axis_map s.model.size).z) (least.z +ℤ pos side)) where
      next : ((s.corner.x +ℤ pos (rotated_size s.axis_map s.model.size).x) ≤ℤ (least.x +ℤ pos side))
          ⊎ (((s.corner.x +ℤ pos (rotated_size s.axis_map s.model.size).x) ≤ℤ (least.x +ℤ pos side))
          → ⊥)
          → ((s.corner.y +ℤ pos (rotated_size s.axis_map s.model.size).y) ≤ℤ (least.y +ℤ pos side))
          ⊎ (((s.corner.y +ℤ pos (rotated_size s.axis_map s.model.size).y) ≤ℤ (least.y +ℤ pos side))
          → ⊥)
          → ((s.corner.z +ℤ pos (rotated_size s.axis_map s.model.size).z) ≤ℤ (least.z +ℤ pos side))
          ⊎ (((s.corner.z +ℤ pos (rotated_size s.axis_map s.model.size).z) ≤ℤ (least.z +ℤ pos side))
          → ⊥)
          → EndsWithin least side s ⊎ (EndsWithin least side s → ⊥)
      next (inr never) y z = inr (λ e. never e.x)
      next (inl x) (inr never) z = inr (λ e. never e.y)
      next (inl x) (inl y) (inr never) = inr (λ e. never e.z)
      next (inl x) (inl y) (inl z) = inl (record { x = x; y = y; z = z })

large_or_not : (least : Vector) (stands : List SceneInstance)
    → IsTooLarge least stands ⊎ (IsTooLarge least stands → ⊥)
large_or_not least stands =
    next (all_or_not (EndsWithin least 4096) (ends_or_not least 4096) stands)
    (cases_lt 268435456 (file_length stands)) where
      next : AllEndWithin least stands 4096 ⊎ (AllEndWithin least stands 4096 → ⊥)
          → (268435456 < file_length stands) ⊎ (file_length stands ≤ 268435456)
          → IsTooLarge least stands ⊎ (IsTooLarge least stands → ⊥)
      next (inr never) long = inl (inl never)
      next (inl all) (inl long) = inl (inr long)
      next (inl all) (inr short) = inr (λ large. neither_way large) where
        neither_way : IsTooLarge least stands → ⊥
        neither_way (inl never) = never all
        neither_way (inr long) = omega (arith, long, short)

corner_of_all : (stands : List SceneInstance) → (least : Vector) × IsLeastCorner stands least
corner_of_all stands =
    let x = least_of (λ s. s.corner.x) stands in
    let y = least_of (λ s. s.corner.y) stands in
    let z = least_of (λ s. s.corner.z) stands in
    (record { x = x.0; y = y.0; z = z.0 }, record { x = x.1; y = y.1; z = z.1 })

by_size : (bytes : List ℕ) (stands : List SceneInstance) → HasInstances bytes (Ok stands) → (least : Vector)
    → IsLeastCorner stands least → IsTooLarge least stands ⊎ (IsTooLarge least stands → ⊥)
    → (found : Option SceneFault) × JudgesScene bytes found
by_size bytes stands has least is_least (inl large) = (
  Some TooLarge,
  record {
    stands = stands;
    has = has;
    is = record { least = least; is_least = is_least; large = large };
  },
)
by_size bytes stands has least is_least (inr small) = (
  None,
  record {
    stands = stands;
    has = has;
    least = least;
    is_least = is_least;
    small = small;
  },
)

of_stands : (bytes : List ℕ) (fault : SceneFault) → HasInstances bytes (Err fault)
    → ReadsScene bytes (Err fault)
of_stands bytes (ShortNode at) has = inr has
of_stands bytes (TwoNodes at) has = inr has
of_stands bytes (BadRotation at) has = inr has
of_stands bytes (BadTranslation at) has = inr has
of_stands bytes (NoNode at) has = inr has
of_stands bytes (TooDeep at) has = inr has
of_stands bytes (NoModel at) has = inr has
of_stands bytes (TooMany at) has = inr has
of_stands bytes TooLarge has = absurd (no_stands has.models has.nodes has.walked)
of_stands bytes Memory has = inr has

of_first : (bytes : List ℕ) (fault : SceneFault) → IsFirstNodeFault bytes fault
    → ReadsScene bytes (Err fault)
of_first bytes (ShortNode at) first = inl first
of_first bytes (TwoNodes at) first = inl first
of_first bytes (BadRotation at) first = inl first
of_first bytes (BadTranslation at) first = inl first
of_first bytes (NoNode at) first = inl first
of_first bytes (TooDeep at) first = inl first
of_first bytes (NoModel at) first = inl first
of_first bytes (TooMany at) first = inl first
of_first bytes TooLarge first = absurd (no_first bytes first)
of_first bytes Memory first = inl first

by_walk : (bytes : List ℕ) (models : List Content) (nodes : List Node) → HasModels bytes models
    → AreNodes bytes nodes → (says : Result (List SceneInstance) SceneFault)
    → instances_of models nodes ≡ says → (found : Option SceneFault) × JudgesScene bytes found
by_walk bytes models nodes has are (Err fault) is = (
  Some fault,
  of_stands bytes fault (record {
    models = models;
    has = has;
    nodes = nodes;
    are = are;
    walked = is;
  }),
)
by_walk bytes models nodes has are (Ok stands) is =
    let corner = corner_of_all stands in
    by_size bytes stands (record {
      models = models;
      has = has;
      nodes = nodes;
      are = are;
      walked = is;
    }) corner.0 corner.1 (large_or_not corner.0 stands)

pub judged : ScenesAreJudged
judged bytes models has =
    by_nodes (first_some (λ k. scene_fault_at bytes has.main.first k) has.children) where
      by_nodes : ((k : ℕ) → k < has.children → scene_fault_at bytes has.main.first k ≡ None)
          ⊎ FirstSome (λ k. scene_fault_at bytes has.main.first k) has.children
          → (found : Option SceneFault) × JudgesScene bytes found
      by_nodes (inl fine) =
          by_walk bytes models (nodes_before bytes has.main.first has.children) has (record {
            main = has.main;
            header = has.header;
            children = has.children;
            read = record { frames = has.read.frames; fine = fine };
            ends = has.ends;
            are = refl;
          }) (instances_of models (nodes_before bytes has.main.first has.children)) refl
      by_nodes (inr s) = (
        Some s.value,
        of_first bytes s.value (record {
          main = has.main;
          header = has.header;
          child = s.at;
          before = record {
            frames = λ k lt. has.read.frames k (let b = s.below in omega (arith, b, lt));
            fine = s.before;
          };
          fits = has.read.frames s.at s.below;
          breaks = s.is;
        }),
      )
