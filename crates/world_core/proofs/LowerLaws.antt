-- Shares that go, and the children of what is freed.
use Rattle.std.proofs.Common.{◌≡◌, ℕ, zero, suc, ◌+◌, ◌<◌, ◌≤◌, refl, sym, ◌∙◌, ap, subst, arith, Some, None, Option, List, [], ◌∷◌, length, set, take, sum_by}
use Rattle.std.specs.List.{slice_get}
use Rattle.std.proofs.lemmas.List.Sums.{sum_by_more, sum_by-cons}
use Rattle.vox_read.specs.Sums.{sum_below, sum_below-suc, sum_below-zero}
use Rattle.node_words.specs.declared.shapes.names.Name.{Name}
use Rattle.node_words.specs.declared.keys.Key.{Key}
use Rattle.node_words.specs.declared.keys.Key.TheVariants.{Leaf, Node}
use Rattle.node_words.specs.Held.{name_in}
use Rattle.bucket_core.specs.declared.counted.Entry.{Entry}
use Rattle.bucket_core.specs.declared.counted.Lowered.{Lowered}
use Rattle.bucket_core.specs.declared.counted.Lowered.TheVariants.{Left, Last}
use Rattle.bucket_core.specs.Buckets.{book_of_slot, with_book}
use Rattle.core_laws.specs.Counting.{weight, children_weight}
use Rattle.core_laws.specs.Soundness.{FitsLevel}
use Rattle.core_laws.specs.Events as events
use Rattle.core_laws.specs.Events.{no_weight, one_name, children_named, Lowers, Frees, lowers, frees}
use Rattle.core_laws.specs.LogEvents.{stores}
use Rattle.core_laws.specs.States.{IsLive}
use Rattle.core_laws.proofs.Lives.{held_lives}
use Rattle.world_core.specs.Slots.{BucketRow, entry_at, key_or_none, put_at}
use Rattle.world_core.proofs.SlotLaws.{lowers_slot, frees_slot, stays_laid_out}
use Rattle.world_core.specs.Changes.{LowersEntryAt}
use Rattle.world_core.specs.Trading.{HasAll, TradesNames, weights}
use Rattle.world_core.specs.Answering.{children_in}
use Rattle.world_core.specs.Lawful.{HoldsShares, MayLower}
use Rattle.world_core.specs.Stored.{Stored, IsStored, stored_state, root_in}
use Rattle.world_core.specs.Steps.{LowersEntry, FreesEntry}
use Rattle.world_core.proofs.Keeping.{kept, no_weights, one_weight, live_there}
use Rattle.world_core.proofs.ShareLaws.{moved, few_after, trades_as}

-- a name of which a session holds a share is live
pub held_live : (s : Stored) (session : ℕ) (n : Name) → IsStored s
    → HoldsShares (stored_state s) session (Some n ∷ []) → IsLive s.plan (stored_state s) n
held_live s session n is held = held_lives s.plan (stored_state s) session n is.sound.entries
    (record {
      names = held.names;
      at = held.at;
      weighs = λ f.
          (let h = held.has.weighs f in let one = one_weight (Some n) f in omega arith);
    })

-- what a session holds of the list is there
pub has_of : (s : Stored) (session : ℕ) (some : List (Option Name)) (names : List Name)
    → HoldsShares (stored_state s) session some → slice_get s.held session ≡ Some names
    → HasAll names some
has_of s session some names held at = subst (λ (ns : List Name). HasAll ns some)
    (sym (Rattle.std.proofs.lemmas.Option.same_Some names held.names (sym at ∙ held.at))) held.has

-- a sum over a row by its places
row_sum : (g : Option Name → ℕ) (xs : List (Option Name)) (n : ℕ) → n ≤ length xs
    → sum_by g (take n xs) ≡ sum_below n (λ k. g (name_in xs k))
row_sum g xs zero le = sym (sum_below-zero (λ k. g (name_in xs k)))
row_sum g xs (suc n) le =
    let more = sum_by_more g xs n None (omega arith) in
    let up : suc n ≡ n + 1 = omega arith in
    let same : sum_by g (take (suc n) xs) ≡ sum_by g (take (n + 1) xs) =
    ap (λ (k : ℕ). sum_by g (take k xs)) up in
    let rest = row_sum g xs n (omega arith) in
    let last = sum_below-suc n (λ k. g (name_in xs k)) in
    omega arith

pub children_weigh : (children : List (Option Name)) (f : Name → ℕ) → length children ≡ 8
    → weights children f ≡ children_weight f (Node children)
unfolding children_weight
children_weigh children f eight =
    ap (λ (xs : List (Option Name)). sum_by (weight f) xs)
    (sym (Rattle.std.proofs.lemmas.List.take_all 8 children (omega arith)))
    ∙ row_sum (weight f) children 8 (omega arith)

pub no_children : (bits : ℕ) (f : Name → ℕ) → 0 ≡ children_weight f (Leaf bits)
unfolding children_weight sum_below
no_children bits f = refl

leaf_weighs : (bits : ℕ) (f : Name → ℕ)
    → weights (children_in (Leaf bits)) f ≡ children_weight f (Leaf bits)
unfolding children_weight sum_below
leaf_weighs bits f = refl

-- the children of a key that fits its level weigh what they weigh in its list
pub key_weighs : (level : ℕ) (key : Key) (f : Name → ℕ) → FitsLevel level key
    → weights (children_in key) f ≡ children_weight f key
key_weighs level (Leaf bits) f fits = leaf_weighs bits f
key_weighs zero (Node children) f fits = absurd fits
key_weighs (suc level) (Node children) f fits = children_weigh children f fits.0

-- a list of eight weighs at most eight
pub few_children : (level : ℕ) (key : Key) → FitsLevel level key
    → weights (children_in key) (λ _. 1) ≤ 8
few_children level (Leaf bits) fits = omega arith
few_children zero (Node children) fits = absurd fits
few_children (suc level) (Node children) fits =
    let le = row children in let eight = fits.0 in omega arith
  where
    one : (o : Option Name) → weight (λ _. 1) o ≤ 1
    one None = omega arith
    one (Some n) = omega arith

    row : (xs : List (Option Name)) → weights xs (λ _. 1) ≤ length xs
    row [] = omega arith
    row (o ∷ os) = let first = one o in let rest = row os in let all = sum_by-cons
        (weight (λ _. 1)) o os in omega arith

module _ (s : Stored) (session : ℕ) (n : Name) (names after : List Name) (entries : List BucketRow)
    (is : IsStored s) (may : MayLower (stored_state s) session n)
    (at : slice_get s.held session ≡ Some names) where
  live : IsLive s.plan (stored_state s) n
  live = held_live s session n is may.held

  has : HasAll names (Some n ∷ [])
  has = has_of s session (Some n ∷ []) names may.held at

  -- one of several shares went
  pub lowered : (result : Lowered Key) → 1 < (stored_state s).book n
      → TradesNames names (Some n ∷ []) [] after → LowersEntryAt s.entries n result entries
      → LowersEntry s session n (moved s entries session after)
  lowered (Last key) more trade put = absurd
      (let one : book_of_slot (entry_at s.entries n)
      ≡ 1 = ap book_of_slot put.entry.0 in omega arith)
  lowered (Left left) more trade put =
      let trades =
      trades_as s session names after (Some n ∷ []) [] at has trade (one_name n) no_weight
      (one_weight (Some n)) no_weights in
      let few =
      few_after s session names after (Some n ∷ []) [] at has trade 4089 may.room
      (omega (arith, no_weights (λ _. 1), one_weight (Some n) (λ _. 1))) in
      go (entry_at s.entries n) refl trades few
    where
      go : (e : Option (Entry Key)) → entry_at s.entries n ≡ e
          → events.Trades s.held session (one_name n) no_weight (set s.held session after)
          → length after ≤ 4096
          → LowersEntry s session n (moved s entries session after)
      go None none trades few = absurd (live_there s n (held_live s session n is may.held) none)
      go (Some e) some trades few =
          let all : List BucketRow =
          put_at s.entries n (Some (record { key = e.key; book = left })) in
          let book : e.book ≡ left + 1 = sym (ap book_of_slot some) ∙ put.entry.1 in
          let is_all : entries ≡ all =
          put.others ∙ ap (λ (x : Option (Entry Key)). put_at s.entries n x)
          (put.entry.2 ∙ ap (λ (x : Option (Entry Key)). with_book x left) some) in
          let name = (held_live s session n is may.held).name in
          let step : Lowers s.plan session n (stored_state s) (stored_state (moved s all session after)) =
          lowers_slot s.plan s.entries n e.key left session (root_in s.roots) s.log s.held
          (set s.held session after)
          is.laid name (some ∙ ap (λ (b : ℕ). Some (record { key = e.key; book = b })) book)
          (omega (arith, put.entry.0)) trades in
          subst (λ (x : List BucketRow). LowersEntry s session n (moved s x session after))
          (sym is_all) (record {
            lowers = step;
            stays = record {
              plan = refl;
              models = refl;
              log = refl;
              stored = kept s all s.roots s.log session after is
                  (stays_laid_out s.plan s.entries n _ is.laid name) is.places few
                  (stores (lowers n step) (λ v. refl) refl);
            };
          })

  -- the last share went
  pub freed : (result : Lowered Key) (children : List (Option Name)) → (stored_state s).book n ≡ 1
      → children ≡ children_in ((stored_state s).key n)
      → TradesNames names (Some n ∷ []) children after → LowersEntryAt s.entries n result entries
      → FreesEntry s session n (moved s entries session after)
  freed (Left left) children last same trade put = absurd
      (omega (arith, last, put.entry.0, put.entry.1))
  freed (Last key) children last same trade put =
      let name = (held_live s session n is may.held).name in
      let fits : FitsLevel n.level ((stored_state s).key n) =
      is.sound.entries.fits n (held_live s session n is may.held) in
      let its : (stored_state s).key n ≡ key = ap key_or_none put.entry.0 in
      let weigh : (f : Name → ℕ) → weights children f ≡ children_named key f =
      λ f. ap (λ (cs : List (Option Name)). weights cs f) same
      ∙ key_weighs n.level ((stored_state s).key n) f fits
      ∙ ap (λ (k : Key). children_weight f k) its in
      let eight : weights children (λ _. 1) ≤ 8 =
      subst (λ (cs : List (Option Name)). weights cs (λ _. 1) ≤ 8) (sym same)
      (few_children n.level ((stored_state s).key n) fits) in
      let trades =
      trades_as s session names after (Some n ∷ []) children at
      (has_of s session (Some n ∷ []) names may.held at) trade (one_name n)
      (children_named key) (one_weight (Some n)) weigh in
      let few =
      few_after s session names after (Some n ∷ []) children at
      (has_of s session (Some n ∷ []) names may.held at) trade 4089 may.room
      (omega (arith, eight, one_weight (Some n) (λ _. 1))) in
      let all : List BucketRow = put_at s.entries n None in
      let is_all : entries ≡ all =
      put.others ∙ ap (λ (x : Option (Entry Key)). put_at s.entries n x) put.entry.1 in
      let step : Frees s.plan session n (stored_state s) (stored_state (moved s all session after)) =
      frees_slot s.plan s.entries n key session (root_in s.roots) s.log s.held
      (set s.held session after)
      is.laid name put.entry.0 trades in
      subst (λ (x : List BucketRow). FreesEntry s session n (moved s x session after)) (sym is_all)
      (record {
        frees = step;
        stays = record {
          plan = refl;
          models = refl;
          log = refl;
          stored = kept s all s.roots s.log session after is
              (stays_laid_out s.plan s.entries n _ is.laid name) is.places few
              (stores (frees n step) (λ v. refl) refl);
        };
      })
