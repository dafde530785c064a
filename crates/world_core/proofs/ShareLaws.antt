-- Steps of entries and of what a session holds.
use Rattle.std.proofs.Common.{◌≡◌, ℕ, ◌+◌, ◌<◌, ◌≤◌, refl, sym, ◌∙◌, ap, subst, arith, Some, None, Option, List, [], ◌∷◌, length, set, get_or}
use Rattle.std.specs.List.{slice_get}
use Rattle.std.proofs.lemmas.Option.{get_or_from_slice_get}
use Rattle.node_words.specs.declared.shapes.names.Name.{Name}
use Rattle.node_words.specs.declared.keys.Key.{Key}
use Rattle.bucket_core.specs.declared.counted.Entry.{Entry}
use Rattle.bucket_core.specs.Buckets.{book_of_slot, with_book}
use Rattle.core_laws.specs.Events as events
use Rattle.core_laws.specs.Events.{no_weight, one_name, Raises, raises}
use Rattle.core_laws.specs.LogEvents.{stores}
use Rattle.core_laws.specs.States.{IsLive}
use Rattle.world_core.specs.Slots.{BucketRow, entry_at, put_at}
use Rattle.world_core.proofs.SlotLaws.{raises_slot, stays_laid_out}
use Rattle.world_core.specs.Trading.{HasAll, TradesNames, weights}
use Rattle.world_core.specs.Lawful.{HoldsAtMost}
use Rattle.world_core.specs.Stored.{Stored, IsStored, stored_state, root_in}
use Rattle.world_core.specs.Steps.{RaisesEntry}
use Rattle.world_core.proofs.Keeping.{traded, kept, no_weights, one_weight, ones, live_there}

-- the lists with other entries, and with another holding of a session
abbrev pub moved : Stored → List BucketRow → ℕ → List Name → Stored
moved s entries session after =
    record { plan = s.plan; models = s.models; entries = entries; roots = s.roots; log = s.log; held = set s.held session after }

-- what is found of a session in the lists is what it holds
pub same_names : (s : Stored) (session most : ℕ) (names : List Name)
    → HoldsAtMost (stored_state s) session most → names ≡ get_or s.held session names
    → slice_get s.held session ≡ Some names
same_names s session most names room found =
    room.at ∙ ap Some (sym (found ∙ get_or_from_slice_get s.held session room.names names room.at))

few_names : (s : Stored) (session most : ℕ) (names : List Name)
    → HoldsAtMost (stored_state s) session most
    → slice_get s.held session ≡ Some names → length names ≤ most
few_names s session most names room at =
    let same = Rattle.std.proofs.lemmas.Option.same_Some names room.names (sym at ∙ room.at) in
    let few = room.few in
    subst (λ (ns : List Name). length ns ≤ most) (sym same) few

pub raised : (s : Stored) (session : ℕ) (n : Name) (names after : List Name)
    (entries : List BucketRow)
    → IsStored s → IsLive s.plan (stored_state s) n → HoldsAtMost (stored_state s) session 4095
    → slice_get s.held session ≡ Some names → TradesNames names [] (Some n ∷ []) after
    → entries ≡ put_at s.entries n
    (with_book (entry_at s.entries n) (book_of_slot (entry_at s.entries n) + 1))
    → RaisesEntry s session n (moved s entries session after)
raised s session n names after entries is live room at trade put =
    subst (λ (all : List BucketRow). RaisesEntry s session n (moved s all session after)) (sym put)
    (go (entry_at s.entries n) refl)
  where
    trades : events.Trades s.held session no_weight (one_name n) (set s.held session after)
    trades = traded s.held session names after [] (Some n ∷ []) no_weight (one_name n) at
        (record { weighs = λ f. omega arith }) trade no_weights (one_weight (Some n))

    few : length after ≤ 4096
    few = let w = trade.weighs (λ _. 1) in let a = ones after in let b = ones names in
        let g = no_weights (λ _. 1) in let t = one_weight (Some n) (λ _. 1) in
        let low = few_names s session 4095 names room at in omega arith

    go : (e : Option (Entry Key)) → entry_at s.entries n ≡ e
        → RaisesEntry s session n
        (moved s (put_at s.entries n
        (with_book (entry_at s.entries n)
        (book_of_slot (entry_at s.entries n) + 1))) session after)
    go None none = absurd (live_there s n live none)
    go (Some e) some =
        let P : Option (Entry Key) → Type 0 =
        λ o. RaisesEntry s session n
        (moved s (put_at s.entries n (with_book o (book_of_slot o + 1))) session after) in
        let all : List BucketRow =
        put_at s.entries n (Some (record { key = e.key; book = e.book + 1 })) in
        let book : book_of_slot (entry_at s.entries n) ≡ e.book = ap book_of_slot some in
        let low = live.book in
        let step : Raises s.plan session n (stored_state s) (stored_state (moved s all session after)) =
        raises_slot s.plan s.entries n e.key e.book session (root_in s.roots) s.log s.held
        (set s.held session after)
        is.laid live.name some (omega arith) trades in
        subst P (sym some) (record {
          raises = step;
          stays = record {
            plan = refl;
            models = refl;
            log = refl;
            stored = kept s all s.roots s.log session after is
                (stays_laid_out s.plan s.entries n _ is.laid live.name) is.places few
                (stores (raises n step) (λ v. refl) refl);
          };
        })

-- the same, where the session's place is told apart from its number
pub names_at : (s : Stored) (session at most : ℕ) (names : List Name) → at ≡ session
    → HoldsAtMost (stored_state s) session most → names ≡ get_or s.held at names
    → slice_get s.held session ≡ Some names
names_at s session at most names same room found =
    same_names s session most names room (found ∙ ap (λ (k : ℕ). get_or s.held k names) same)

pub seat_in : (s : Stored) (session at most : ℕ) → at ≡ session
    → HoldsAtMost (stored_state s) session most
    → at < length s.held
seat_in s session at most same room =
    let lt =
    Rattle.std.proofs.lemmas.Option.slice_get_within s.held session room.names room.at in omega arith

-- a holding of a session becomes another
module _ (s : Stored) (session : ℕ) (names after : List Name) (gives takes : List (Option Name))
    (at : slice_get s.held session ≡ Some names) (has : HasAll names gives)
    (trade : TradesNames names gives takes after) where
  pub few_after : (most : ℕ) → HoldsAtMost (stored_state s) session most
      → most + weights takes (λ _. 1) ≤ 4096 + weights gives (λ _. 1) → length after ≤ 4096
  few_after most room fits =
      let w = trade.weighs (λ _. 1) in let a = ones after in let b = ones names in
      let low = few_names s session most names room at in omega arith

  pub trades_as : (g t : (Name → ℕ) → ℕ) → ((f : Name → ℕ) → weights gives f ≡ g f)
      → ((f : Name → ℕ) → weights takes f ≡ t f)
      → events.Trades s.held session g t (set s.held session after)
  trades_as g t of_g of_t = traded s.held session names after gives takes g t at has trade of_g of_t
