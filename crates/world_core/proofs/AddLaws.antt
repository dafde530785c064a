-- Entries that are sought, and entries that are made.
use Rattle.std.proofs.Common.{◌≡◌, ℕ, ◌<◌, refl, sym, ◌∙◌, ap, subst, arith, Some, None, Option, List, [], ◌∷◌, ◌++◌, length, set, sum_by}
use Rattle.std.specs.List.{slice_get}
use Rattle.std.proofs.lemmas.List.Sums.{sum_by-append, sum_by-cons}
use Rattle.node_words.specs.declared.shapes.names.Name.{Name}
use Rattle.std.proofs.Math.Nat.{mod-lt}
use Rattle.node_words.specs.declared.keys.Key.{Key}
use Rattle.node_words.specs.declared.keys.Key.TheVariants.{Leaf, Node}
use Rattle.node_words.specs.Keys.{bucket_of_key}
use Rattle.node_words.proofs.PlanLaws.{some_buckets}
use Rattle.core_laws.specs.places.Names.{IsName, named}
use Rattle.core_laws.specs.places.WordIds.{levels, buckets_at}
use Rattle.bucket_core.specs.declared.counted.Entry.{Entry}
use Rattle.bucket_core.specs.Buckets.{book_of_slot, HasKey, HasNone, IsFirstFree, IsFirstWith}
use Rattle.core_laws.specs.Counting.{children_weight}
use Rattle.core_laws.specs.Soundness.{FitsLevel, IsFull}
use Rattle.core_laws.specs.Events.{one_name, children_named, Adds, adds}
use Rattle.core_laws.specs.LogEvents.{stores}
use Rattle.core_laws.proofs.Bounds.{missing_in_bucket}
use Rattle.world_core.specs.Slots.{SlotRow, BucketRow, bucket_at, entry_at, key_or_none, put_at}
use Rattle.world_core.proofs.SlotLaws.{adds_slot, stays_laid_out}
use Rattle.world_core.specs.Changes.{AreLive}
use Rattle.world_core.specs.Trading.{TradesNames, weights}
use Rattle.world_core.specs.Lawful.{HoldsShares, HoldsAtMost}
use Rattle.world_core.specs.Stored.{Stored, IsStored, stored_state, root_in}
use Rattle.world_core.specs.Steps.{FindsEntry, AddsEntry, IsNowhere}
use Rattle.world_core.proofs.Keeping.{kept, no_weights, one_weight}
use Rattle.world_core.proofs.ShareLaws.{moved, few_after, trades_as}
use Rattle.world_core.proofs.LowerLaws.{has_of}

-- what is there has its key, and books of what is there aren't 0
key_there : (e : Option (Entry Key)) (key : Key) → HasKey key e → key_or_none e ≡ key
key_there None key has = absurd has
key_there (Some e) key has = has

has_there : (e : Option (Entry Key)) (key : Key) → 0 < book_of_slot e → key_or_none e ≡ key
    → HasKey key e
has_there None key some same = absurd (omega arith)
has_there (Some e) key some same = same

key_below : (key : Key) (buckets : ℕ) → 0 < buckets → bucket_of_key key buckets < buckets
key_below (Leaf bits) buckets some = mod-lt _ some
key_below (Node children) buckets some = mod-lt _ some

-- a bucket of a level of the plan
pub bucket_in : (s : Stored) (level bucket : ℕ) (key : Key) → IsStored s → level < levels s.plan
    → bucket ≡ bucket_of_key key (buckets_at s.plan level) → bucket < buckets_at s.plan level
bucket_in s level bucket key is low same =
    let high = is.plan.side_high in
    let some = some_buckets s.plan level is.plan (omega arith) in
    let lt = key_below key (buckets_at s.plan level) (omega arith) in omega arith

module _ (s : Stored) (level bucket : ℕ) (key : Key) (is : IsStored s) (low : level < levels s.plan)
    (same : bucket ≡ bucket_of_key key (buckets_at s.plan level)) where
  inside : bucket < buckets_at s.plan level
  inside = bucket_in s level bucket key is low same

  wide : length (bucket_at s.entries level bucket) ≡ s.plan.cap
  wide = is.laid.slots level bucket low (bucket_in s level bucket key is low same)

  slots : SlotRow
  slots = bucket_at s.entries level bucket

  -- no slot of the key's bucket has it, and so no live entry
  pub none_found : HasNone (bucket_at s.entries level bucket) key
      (length (bucket_at s.entries level bucket))
      → IsNowhere s level bucket key
  none_found none = record {
    missing = missing_in_bucket s.plan (stored_state s) level key is.sound.entries
        (λ slot lt some it. subst
        (λ (b : ℕ). HasNone (bucket_at s.entries level b) key
        (length (bucket_at s.entries level b)) → ⊥) same
        (λ no. no.each slot
        (let w = is.laid.slots level bucket low
        (bucket_in s level bucket key is low same) in omega arith)
        (has_there (entry_at s.entries (named level bucket slot)) key
        (subst (λ (b : ℕ). 0 < book_of_slot (entry_at s.entries (named level b slot)))
        (sym same) some)
        (subst (λ (b : ℕ). key_or_none (entry_at s.entries (named level b slot)) ≡ key)
        (sym same) it)))
        (subst (λ (b : ℕ). HasNone (bucket_at s.entries level b) key
        (length (bucket_at s.entries level b))) same none));
    absent = none;
  }

  -- a slot that has it is a live name
  pub slot_found : (slot : ℕ) → IsFirstWith (bucket_at s.entries level bucket) key slot
      → 0 < book_of_slot (entry_at s.entries (named level bucket slot))
      → FindsEntry s level key (named level bucket slot)
  slot_found slot found live = record {
    same_level = refl;
    same_key = key_there (entry_at s.entries (named level bucket slot)) key found.at;
    live = record {
      name = record {
        level_in = low;
        bucket_in = bucket_in s level bucket key is low same;
        slot_in = (let w = is.laid.slots level bucket low
            (bucket_in s level bucket key is low same) in let b = found.below in omega arith);
      };
      book = live;
    };
  }

  -- each slot of the bucket is taken
  pub all_taken : AreLive (bucket_at s.entries level bucket)
      (length (bucket_at s.entries level bucket))
      → IsFull s.plan (stored_state s) level bucket
  all_taken taken = record {
    level_in = low;
    bucket_in = bucket_in s level bucket key is low same;
    each = λ slot lt. taken.each slot
        (let w = is.laid.slots level bucket low
        (bucket_in s level bucket key is low same) in omega arith);
  }

  -- an entry is made in the lowest free slot
  pub added : (session slot : ℕ) (names rest after : List Name) (children : List (Option Name))
      (entries : List BucketRow) → IsNowhere s level bucket key → FitsLevel level key
      → ((f : Name → ℕ) → weights children f ≡ children_weight f key)
      → HoldsShares (stored_state s) session children → HoldsAtMost (stored_state s) session 4095
      → slice_get s.held session ≡ Some names → TradesNames names children [] rest
      → after ≡ rest ++ named level bucket slot ∷ []
      → IsFirstFree (bucket_at s.entries level bucket) slot
      → AreLive (bucket_at s.entries level bucket) slot
      → entries ≡ put_at s.entries (named level bucket slot) (Some (record { key = key; book = 1 }))
      → AddsEntry s session level key (named level bucket slot) (moved s entries session after)
  added session slot names rest after children entries nowhere fits weigh held room at trade is_after free lower put =
      let n : Name = named level bucket slot in
      let name : IsName s.plan n = record {
        level_in = low;
        bucket_in = bucket_in s level bucket key is low same;
        slot_in = (let w = is.laid.slots level bucket low
            (bucket_in s level bucket key is low same) in let b = free.below in omega arith);
      } in
      let has = has_of s session children names held at in
      let all_trade : TradesNames names children (Some n ∷ []) after = record {
        weighs = λ f.
            (let w = trade.weighs f in let one = one_weight (Some n) f in let none = no_weights f in
            let more =
            ap (λ (ns : List Name). sum_by f ns) is_after ∙ sum_by-append f rest (n ∷ []) in
            let last = sum_by-cons f n [] in omega arith);
      } in
      let trades =
      trades_as s session names after children (Some n ∷ []) at has all_trade
      (children_named key) (one_name n) weigh (one_weight (Some n)) in
      let few =
      few_after s session names after children (Some n ∷ []) at has all_trade 4095 room
      (omega (arith, one_weight (Some n) (λ _. 1))) in
      let all : List BucketRow = put_at s.entries n (Some (record { key = key; book = 1 })) in
      let step : Adds s.plan session n key (stored_state s) (stored_state (moved s all session after)) =
      adds_slot s.plan s.entries n key session (root_in s.roots) s.log s.held
      (set s.held session after)
      is.laid name free.at fits same nowhere.missing trades in
      subst (λ (x : List BucketRow). AddsEntry s session level key n (moved s x session after))
      (sym put) (record {
        same_level = refl;
        lowest = record { each = lower.each };
        adds = step;
        stays = record {
          plan = refl;
          models = refl;
          log = refl;
          stored = kept s all s.roots s.log session after is
              (stays_laid_out s.plan s.entries n _ is.laid name) is.places few
              (stores (adds n key step) (λ v. refl) refl);
        };
      })
