-- What each call did, by what the call met.
use Rattle.std.proofs.Common.{◌≡◌, ℕ, zero, suc, ◌≤◌, Option, List, ◌∷◌, refl, sym, ◌∙◌, ap, subst, arith}
use Rattle.std.specs.Prelude.{Result, Ok, Err, IfOk, IfErr, MatchResult}
use Rattle.node_words.specs.declared.shapes.names.Name.{Name}
use Rattle.node_words.specs.shapes.Tree.{Tree}
use Rattle.node_words.specs.Plans.{Layout}
use Rattle.core_laws.specs.places.Names.{IsName}
use Rattle.node_words.specs.declared.keys.Key.{Key}
use Rattle.node_words.specs.declared.keys.Key.TheVariants.{Leaf, Node}
use Rattle.node_words.specs.Held.{AreBelow, HasChild, name_in}
use Rattle.node_words.specs.Keys.{bucket_of_key}
use Rattle.core_laws.specs.places.WordIds.{buckets_at}
use Rattle.core_laws.specs.States.{IsLive}
use Rattle.core_laws.specs.Events.{IsMissing}
use Rattle.core_laws.specs.Soundness.{FitsLevel, IsFull}
use Rattle.core_laws.proofs.Lives.{child_level}
use Rattle.one_store.specs.entries.Words.{Written, book_in, key_in, HasEntry, IsLowestFree}
use Rattle.one_store.specs.entries.Changes.{PutsEntry}
use Rattle.one_store.specs.declared.sought.SoughtKey.{SoughtKey}
use Rattle.one_store.specs.Known.{Known, IsStore, core_of}
use Rattle.one_store.specs.Steps.{Moves, RaisesShare, LowersShare, FreesNode, ReleasesRow, AddsNode, MeetsFull, IsSoughtKey, sought_key, shape_over}
use Rattle.one_store.specs.Calls.{SharesEntry, JoinsEntry, MakesEntry, FindsFull, GivesBack}
use Rattle.one_store.proofs.StoreLaws.{book_moves}
use Rattle.one_store.proofs.BackLaws.{moves_on}
use Rattle.one_store.proofs.TraitLaws.{IsFound, found_live}
use Rattle.one_store.proofs.NodeLaws.{some_name}

entry_live : (v : Known) (n : Name) (k : Key) → HasEntry v.words n k
    → IsLive v.words.plan (core_of v) n
entry_live v n k h = record { name = h.is_name; book = h.live }

-- the level of an entry, by its key
leaf_at_0 : (level bits : ℕ) → FitsLevel level (Leaf bits) → level ≡ 0
leaf_at_0 zero bits f = refl
leaf_at_0 (suc level) bits f = absurd f

pub leaf_level_of : (v : Known) (number bits : ℕ) (n : Name) → IsStore v number
    → HasEntry v.words n (Leaf bits) → n.level ≡ 0
leaf_level_of v number bits n s h =
    leaf_at_0 n.level bits
    (subst (λ (k : Key). FitsLevel n.level k) h.key_is
    (s.sound.fits n (entry_live v n (Leaf bits) h)))

pub node_level_of : (v : Known) (number level : ℕ) (names : List (Option Name)) (n : Name)
    → IsStore v number → AreBelow level names → HasChild names → HasEntry v.words n (Node names)
    → n.level ≡ level
node_level_of v number level names n s below some h =
    let fits =
    subst (λ (k : Key). FitsLevel n.level k) h.key_is
    (s.sound.fits n (entry_live v n (Node names) h)) in
    let child = some_name (name_in names some.octant) some.there in
    let low = child_level n.level (Node names) child.name some.octant fits some.below child.is in
    let high = below.each some.octant child.name some.below child.is in
    omega (arith, low, high)

-- an entry that has the key is the one that was found
pub same_entry : (v : Known) (s : SoughtKey) (n m : Name) (number level : ℕ) (k : Key)
    → IsStore v number → s.level ≡ level → sought_key s ≡ k → IsFound v s n → HasEntry v.words m k
    → m.level ≡ level → n ≡ m
same_entry v s n m number level k st e q f h l =
    st.sound.once n m (found_live v s n f) (entry_live v m k h) (f.1 ∙ e ∙ sym l)
    (f.0.key_is ∙ q ∙ sym h.key_is)

pub shares_found : (old new : Known) (s : SoughtKey) (n m r : Name) (number level : ℕ) (k : Key)
    → IsStore old number → s.level ≡ level → sought_key s ≡ k → IsFound old s n
    → RaisesShare old n new → r ≡ n → HasEntry old.words m k → m.level ≡ level
    → (r ≡ m) × SharesEntry old m new
shares_found old new s n m r number level k st e q f a same h l =
    let one = same_entry old s n m number level k st e q f h l in (
      same ∙ one,
      subst (λ (x : Name). SharesEntry old x new) one
          (record { words = a.words; roots = a.roots; only = a.told.only }),
    )

pub joins_found : (old mid new : Known) (s : SoughtKey) (n m r : Name) (number level steps now : ℕ)
    (k : Key) (row : ℕ → Tree) → IsStore old number → s.level ≡ level → sought_key s ≡ k
    → IsFound old s n → RaisesShare old n mid → ReleasesRow mid row 8 new steps now → r ≡ n
    → HasEntry old.words m k → m.level ≡ level → (r ≡ m) × JoinsEntry old new
joins_found old mid new s n m r number level steps now k row st e q f a b same h l = (
  same ∙ same_entry old s n m number level k st e q f h l,
  record {
    moves = moves_on old mid new (book_moves old mid n _ a.words a.roots) b.moves;
    only = record {
      made = b.only.made ∙ a.told.only.made;
      met = b.only.met ∙ a.told.only.met;
    };
  },
)

-- where a key was found, it isn't missing
pub found_not_missing : (v : Known) (s : SoughtKey) (n : Name) (level : ℕ) (k : Key)
    → s.level ≡ level → sought_key s ≡ k → IsFound v s n
    → IsMissing v.words.plan (core_of v) level k → ⊥
found_not_missing v s n level k e q f missing =
    missing n (found_live v s n f) (f.1 ∙ e) (f.0.key_is ∙ q)

-- where it is missing, no entry has it
pub missing_no_entry : (v : Known) (s : SoughtKey) (m : Name) (level : ℕ) (k : Key)
    → s.level ≡ level → sought_key s ≡ k → IsMissing v.words.plan (core_of v) s.level (sought_key s)
    → HasEntry v.words m k → m.level ≡ level → ⊥
missing_no_entry v s m level k e q missing h l =
    missing m (entry_live v m k h) (l ∙ sym e) (h.key_is ∙ sym q)

pub adds_entry : (old new : Known) (s : SoughtKey) (n : Name) (level : ℕ) (k : Key)
    → IsSoughtKey old.words.plan s → s.level ≡ level → sought_key s ≡ k → AddsNode old s n new
    → MakesEntry old level k n new
adds_entry old new s n level k sk e q a =
    let of : n.level ≡ s.level = ap (λ (m : Name). m.level) a.name_is in
    let bucket : n.bucket ≡ s.bucket = ap (λ (m : Name). m.bucket) a.name_is in
    record {
      level_is = of ∙ e;
      bucket_is = bucket ∙ sk.bucket_is
          ∙ ap (λ (x : Key). bucket_of_key x (buckets_at old.words.plan s.level)) q
          ∙ ap (λ (l : ℕ). bucket_of_key k (buckets_at old.words.plan l)) e;
      lowest = subst (λ (b : ℕ). IsLowestFree old.words level b n.slot) (sym bucket)
          (subst (λ (l : ℕ). IsLowestFree old.words l s.bucket n.slot) e a.lowest);
      words = subst (λ (x : Key). PutsEntry old.words n x new.words) q a.words;
      roots = a.roots;
      made = a.told.made
          ∙ ap (λ (x : Key). shape_over s.level (key_in old.words) x ∷ old.told.made) q
          ∙ ap (λ (l : ℕ). shape_over l (key_in old.words) k ∷ old.told.made) e;
    }

pub finds_full : (old new : Known) (s : SoughtKey) (level bucket : ℕ) (k : Key)
    → IsSoughtKey old.words.plan s → s.level ≡ level → sought_key s ≡ k → bucket ≡ s.bucket
    → MeetsFull old s new → FindsFull old level k bucket new
finds_full old new s level bucket k sk e q b m =
    let full : IsFull old.words.plan (core_of old) s.level s.bucket =
    record { level_in = sk.level_in; bucket_in = sk.bucket_in.bucket_in; each = m.full } in
    record {
      bucket_is = b ∙ sk.bucket_is
          ∙ ap (λ (x : Key). bucket_of_key x (buckets_at old.words.plan s.level)) q
          ∙ ap (λ (l : ℕ). bucket_of_key k (buckets_at old.words.plan l)) e;
      full = subst (λ (x : ℕ). IsFull old.words.plan (core_of old) level x) (sym b)
          (subst (λ (l : ℕ). IsFull old.words.plan (core_of old) l s.bucket) e full);
      words = m.words;
      roots = m.roots;
    }

-- from one outcome to another
pub match_result : {A E : Type 0} {P : A → Type 0} {Q R : E → Type 0} {S : A → Type 0}
    {T : E → Type 0} (r : Result A E) → ((a : A) → P a → S a) → ((e : E) → Q e → R e → T e)
    → IfOk r P → IfErr r Q → IfErr r R → MatchResult r S T
match_result (Ok a) f g p q t = f a p
match_result (Err e) f g p q t = g e q t

-- giving back
pub gave_one : (old new : Known) (n : Name) → LowersShare old n new → 2 ≤ book_in old.words n
    → GivesBack old n new
gave_one old new n r more =
    record { several = λ h. r.words; last = λ h. absurd (omega arith); roots = r.roots }

pub gave_last : (old new : Known) (n : Name) → FreesNode old n new → book_in old.words n ≡ 1
    → GivesBack old n new
gave_last old new n r one =
    record { several = λ h. absurd (omega arith); last = λ h. r.words.book_is; roots = r.roots }

pub gave_node : (old mid new : Known) (n : Name) (row : ℕ → Tree) (steps now : ℕ)
    → IsLive old.words.plan (core_of old) n → FreesNode old n mid
    → ReleasesRow mid row 8 new steps now → book_in old.words n ≡ 1 → GivesBack old n new
gave_node old mid new n row steps now live r b one =
    let plan : mid.words.plan ≡ old.words.plan = ap (λ (w : Written). w.plan) r.words.keys in
    let fell = b.frees.fell n (subst (λ (p : Layout). IsName p n) (sym plan) live.name) in
    record {
      several = λ h. absurd (omega arith);
      last = λ h. omega
          (arith, fell, r.words.book_is);
      roots = b.moves.roots ∙ r.roots;
    }
