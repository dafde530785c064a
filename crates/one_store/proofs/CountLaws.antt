-- Live nodes are counted slot by slot and bucket by bucket.
use Rattle.std.proofs.Common.{◌≡◌, ℕ, zero, suc, ◌+◌, ◌-◌, ◌<◌, ◌≤◌, List, [], ◌∷◌, refl, sym, ◌∙◌, ap, arith}
use Rattle.vw_cell.specs.Sums.{sum_below, sum_below-suc, sum_below-zero}
use Rattle.node_words.specs.shapes.Tree.{Tree}
use Rattle.node_words.specs.shapes.Weights.{weigh, number_of_trees}
use Rattle.node_words.proofs.OfShapes.WeightLaws.{weigh-nil, weigh-cons}
use Rattle.core_laws.specs.Worlds.{World}
use Rattle.core_laws.specs.places.WordIds.{levels}
use Rattle.core_laws.specs.Blocks.{RootsShow, HasBlocks, live_number}
use Rattle.core_laws.specs.Counting.{if_live}
use Rattle.core_laws.proofs.LiveNumbers.{live_numbers}
use Rattle.one_store.specs.Known.{Known, IsStore, core_of}
use Rattle.one_store.proofs.StateLaws.{root_weight, holdings-one}

pub live_one : (book : ℕ) → 0 < book → 1 ≡ if_live book 1
live_one zero some = absurd (omega arith)
live_one (suc book) some = refl

pub live_none : (book : ℕ) → book ≡ 0 → 0 ≡ if_live book 1
live_none book none = ap (λ (b : ℕ). if_live b 1) (sym none)

pub counted_none : (f : ℕ → ℕ) → 0 ≡ sum_below 0 f
counted_none f = sym (sum_below-zero f)

pub counted_next : (f : ℕ → ℕ) (n x y : ℕ) → x ≡ sum_below n f → y ≡ f n
    → x + y ≡ sum_below (n + 1) f
counted_next f n x y e g =
    let z : n + 1 ≡ suc n = omega arith in
    rw z (omega (arith, e, g, sum_below-suc n f))

-- what is 0 from n on adds nothing
counted_on : (f : ℕ → ℕ) (n d : ℕ) → ((k : ℕ) → k < n + d → n ≤ k → f k ≡ 0)
    → sum_below n f ≡ sum_below (n + d) f
counted_on f n zero none = let z : n + 0 ≡ n = omega arith in rw z refl
counted_on f n (suc d) none =
    let z : n + suc d ≡ suc (n + d) = omega arith in
    rw z (omega (
      arith,
      counted_on f n d (λ k lt le. none k (omega (arith, lt)) le),
      none (n + d)
          (omega arith) (omega arith),
      sum_below-suc (n + d) f,
    ))

pub counted_all : (f : ℕ → ℕ) (n m : ℕ) → n ≤ m → ((k : ℕ) → k < m → n ≤ k → f k ≡ 0)
    → sum_below n f ≡ sum_below m f
counted_all f n m le none =
    let all : n + (m - n) ≡ m = omega (arith, le) in
    counted_on f n (m - n) (λ k lt low. none k (omega (arith, lt, all)) low)
    ∙ ap (λ (k : ℕ). sum_below k f) all

nothing_held : (ts : List Tree) (f : Tree → ℕ) → number_of_trees ts ≡ 0 → weigh f ts ≡ 0
nothing_held [] f e = weigh-nil f
nothing_held (t ∷ ts) f e = absurd (omega (arith, e, weigh-cons (λ _. 1) t ts))

-- where no share is held, the live nodes of a level are as many as the different blocks of the
-- roots
pub live_blocks : (v : Known) (number level : ℕ) (cells : ℕ → World) → IsStore v number
    → level < levels v.words.plan → RootsShow v.words.plan cells (core_of v)
    → number_of_trees v.told.held ≡ 0
    → HasBlocks v.words.plan cells (core_of v) level (live_number v.words.plan (core_of v) level)
live_blocks v number level cells s lt roots none =
    live_numbers v.words.plan cells (core_of v) level s.sound roots
    (record {
      weighs = λ f. holdings-one f v.told.held
          ∙ nothing_held v.told.held (root_weight f) none;
    }) lt
