-- How often names are named. Each weight of names gives one number for each place where names
-- stand, and two places name the same names as often where their numbers agree for every weight.
use Rattle.std.specs.Prelude.{ℕ, zero, suc, ◌*◌, Option, Some, None, List, sum_by}
use Rattle.vw_cell.specs.Sums.{sum_below}
use Rattle.node_words.specs.declared.shapes.names.Name.{Name}
use Rattle.node_words.specs.declared.keys.Key.{Key}
use Rattle.node_words.specs.Plans.{Layout}
use Rattle.core_laws.specs.places.Names.{named, key_child}
use Rattle.core_laws.specs.places.WordIds.{levels, buckets_at, versions}
use Rattle.core_laws.specs.States.{State}

-- the sum over all names of a plan
unfoldable pub sum_names : Layout → (Name → ℕ) → ℕ
sum_names p f =
    sum_below (levels p) (λ level. sum_below (buckets_at p level) (λ bucket.
    sum_below p.cap (λ slot. f (named level bucket slot))))

-- how much a name weighs where there is one
abbrev pub weight : (Name → ℕ) → Option Name → ℕ
weight f None = 0
weight f (Some n) = f n

-- how much the children of a key weigh
unfoldable pub children_weight : (Name → ℕ) → Key → ℕ
children_weight f key = sum_below 8 (λ k. weight f (key_child key k))

-- a number that counts where the book isn't 0
abbrev pub if_live : ℕ → ℕ → ℕ
if_live zero n = 0
if_live (suc book) n = n

-- how much the children of one entry weigh, none where it isn't live
abbrev pub entry_weight : (Name → ℕ) → State → Name → ℕ
entry_weight f state n = if_live (state.book n) (children_weight f (state.key n))

-- each book with the weight of its name
unfoldable pub booked : Layout → (Name → ℕ) → State → ℕ
booked p f state = sum_names p (λ n. state.book n * f n)

-- each child place of the live entries
unfoldable pub parented : Layout → (Name → ℕ) → State → ℕ
parented p f state = sum_names p (entry_weight f state)

-- each root that is kept
unfoldable pub rooted : (Name → ℕ) → State → ℕ
rooted f state = sum_below versions (λ v. weight f (state.root v))

-- each share that somebody holds
unfoldable pub holdings : (Name → ℕ) → List (List Name) → ℕ
holdings f held = sum_by (λ names. sum_by f names) held
