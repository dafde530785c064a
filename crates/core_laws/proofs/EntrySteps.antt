-- Each step of a store keeps its entries sound.
use Rattle.std.proofs.Common.{◌≡◌, ◌≢◌, ℕ, ◌+◌, ◌*◌, ◌<◌, sym, ◌∙◌, ap, subst, arith, Option, List}
use Rattle.node_words.specs.declared.shapes.names.Name.{Name}
use Rattle.node_words.proofs.OfShapes.TreeEqual.{Name-discrete}
use Rattle.node_words.specs.declared.keys.Key.{Key}
use Rattle.node_words.specs.Keys.{bucket_of_key}
use Rattle.node_words.specs.Plans.{Layout}
use Rattle.core_laws.specs.places.WordIds.{buckets_at}
use Rattle.core_laws.specs.States.{State, IsLive}
use Rattle.core_laws.specs.places.Names.{IsName}
use Rattle.core_laws.specs.Counting.{weight, children_weight, if_live, entry_weight, rooted, holdings}
use Rattle.core_laws.specs.Soundness.{FitsLevel, SoundEntries}
use Rattle.core_laws.specs.Events.{Trades, EntriesStay, OthersStay, RootsStay, Rests, PutsRoot, TakesRoot, StoreStep, rests, raises, adds, lowers, frees, puts_root, takes_root, Raises, Adds, Lowers, Frees, no_weight, one_name, at_most_one, children_named}
use Rattle.core_laws.proofs.Sums.{is_name, if_live_live}
use Rattle.core_laws.proofs.Lives.{named_lives, holdings-at}
use Rattle.core_laws.specs.Events.{KeysStay}
use Rattle.core_laws.proofs.Counts.{traded, booked-change, parented-change, rooted-same, rooted-change, booked-same, parented-same}

-- where all entries stay, whatever is live was live
pub was_live : (p : Layout) (old new : State) (n : Name) → EntriesStay p old new → IsLive p new n
    → IsLive p old n
was_live p old new n same live = let b = same.book n live.name in let some = live.book in
    record { name = live.name; book = omega arith }

pub keys_stay : (p : Layout) (old new : State) → EntriesStay p old new → KeysStay p old new
keys_stay p old new same = record { key = λ n before after. same.key n before }

-- entries that stay are sound where roots and shares together are as many as before
pub entries_stay_sound : (p : Layout) (old new : State) → SoundEntries p old
    → EntriesStay p old new
    → ((f : Name → ℕ) → rooted f new + holdings f new.held ≡ rooted f old + holdings f old.held)
    → SoundEntries p new
entries_stay_sound p old new s same total = record {
  fits = λ n live.
      (let before = was_live p old new n same live in
      subst (λ (k : Key). FitsLevel n.level k) (sym (same.key n before)) (s.fits n before));
  placed =
      λ n live.
      (let before = was_live p old new n same live in
      s.placed n before
      ∙ ap (λ (k : Key). bucket_of_key k (buckets_at p n.level))
      (sym (same.key n before)));
  once = λ m n of_m of_n level keys. (
      let m_before = was_live p old new m same of_m in
      let n_before = was_live p old new n same of_n in
      s.once m n m_before n_before level (sym (same.key m m_before) ∙ keys ∙ same.key n n_before));
  counted = λ f. (
      let books = booked-same p f old new same in
      let parents = parented-same p f old new same in
      let all = total f in
      let count = s.counted f in
      omega arith);
}

-- what n's entry and the holder's shares weigh together changes on both sides alike
pub record Balances (holder : ℕ) (n : Name) (old new : State) : Type 0 where
  pub gives : (Name → ℕ) → ℕ
  pub takes : (Name → ℕ) → ℕ
  pub held : Trades old.held holder gives takes new.held
  pub weighs : (f : Name → ℕ)
      → new.book n * f n + entry_weight f old n + gives f
      ≡ old.book n * f n + entry_weight f new n + takes f

-- n's entry, where it is live afterwards, is as it should be
pub record IsProper (p : Layout) (n : Name) (old new : State) : Type 0 where
  pub fits : FitsLevel n.level (new.key n)
  pub placed : n.bucket ≡ bucket_of_key (new.key n) (buckets_at p n.level)
  pub once : (m : Name) → IsLive p old m → m ≢ n → m.level ≡ n.level → old.key m ≢ new.key n

module _ (p : Layout) (holder : ℕ) (n : Name) (old new : State) (s : SoundEntries p old)
    (is : IsName p n) (others : OthersStay p n old new) (roots : RootsStay old new)
    (balance : Balances holder n old new) (proper : IsLive p new n → IsProper p n old new) where
  was : (m : Name) → m ≢ n → IsLive p new m → IsLive p old m
  was m other live = let b = others.book m live.name other in let some = live.book in
      record { name = live.name; book = omega arith }

  kept : (m : Name) → m ≢ n → IsLive p new m → new.key m ≡ old.key m
  kept m other live = others.key m (was m other live) other

  -- P of n, and of each other name, so of each
  each : (P : Name → Type 0) (m : Name) → P n → (m ≢ n → P m) → P m
  each P m here there =
      elim (Name-discrete m n) [ yes same ↦ subst P (sym same) here | no other ↦ there other ]

  pub one_changes : SoundEntries p new
  one_changes = record {
    fits = λ m live. elim (Name-discrete m n) [
      | yes same ↦
          (let P : Name → Type 0 = λ k. FitsLevel k.level (new.key k) in
          subst P (sym same) (proper (at_n m same live)).fits)
      | no other ↦
          subst (λ (k : Key). FitsLevel m.level k) (sym (kept m other live))
          (s.fits m (was m other live))
    ];
    placed = λ m live. elim (Name-discrete m n) [
      | yes same ↦
          (let P : Name → Type 0 = λ k.
          k.bucket ≡ bucket_of_key (new.key k) (buckets_at p k.level) in
          subst P (sym same) (proper (at_n m same live)).placed)
      | no other ↦
          s.placed m (was m other live)
          ∙ ap (λ (k : Key). bucket_of_key k (buckets_at p m.level)) (sym (kept m other live))
    ];
    once = λ m k of_m of_k level keys. elim (Name-discrete m n) [
      | yes same ↦ elim (Name-discrete k n) [
        | yes same' ↦ same ∙ sym same'
        | no other ↦
            absurd ((proper (at_n m same of_m)).once k (was k other of_k) other
            (sym level ∙ ap (λ (x : Name). x.level) same)
            (sym (kept k other of_k) ∙ sym keys ∙ ap new.key same))
      ]
      | no other ↦ elim (Name-discrete k n) [
        | yes same' ↦
            absurd ((proper (at_n k same' of_k)).once m (was m other of_m) other
            (level ∙ ap (λ (x : Name). x.level) same')
            (sym (kept m other of_m) ∙ keys ∙ ap new.key same'))
        | no other' ↦
            s.once m k (was m other of_m)
            (was k other' of_k) level (sym (kept m other of_m) ∙ keys ∙ kept k other' of_k)
      ]
    ];
    counted = λ f. (
        let books = booked-change p f n old new is others in
        let parents = parented-change p f n old new is others in
        let of_roots = rooted-same f old new roots in
        let shares = traded f old.held new.held holder balance.gives balance.takes balance.held in
        let here = balance.weighs f in
        let count = s.counted f in
        omega arith);
  }
    where
      at_n : (m : Name) → m ≡ n → IsLive p new m → IsLive p new n
      at_n m same live = let P : Name → Type 0 = λ k. IsLive p new k in subst P same live

-- an entry that goes on with its key
goes_on : (p : Layout) (n : Name) (old new : State) → SoundEntries p old → IsLive p old n
    → new.key n ≡ old.key n → IsProper p n old new
goes_on p n old new s live key = record {
  fits = subst (λ (k : Key). FitsLevel n.level k) (sym key) (s.fits n live);
  placed = s.placed n live ∙ ap (λ (k : Key). bucket_of_key k (buckets_at p n.level)) (sym key);
  once = λ m of_m other level keys. other (s.once m n of_m live level (keys ∙ key));
}

-- its children weigh the same while it is live
still_weighs : (p : Layout) (n : Name) (old new : State) (f : Name → ℕ) → 0 < old.book n
    → 0 < new.book n → new.key n ≡ old.key n → entry_weight f new n ≡ entry_weight f old n
still_weighs p n old new f before after key = if_live_live (new.book n) _ after
    ∙ ap (children_weight f) key ∙ sym (if_live_live (old.book n) _ before)

one_more : (a b x : ℕ) → a ≡ b + 1 → a * x ≡ b * x + x
one_more a b x e = ap (λ (k : ℕ). k * x) e ∙ omega arith

no_more : (a x : ℕ) → a ≡ 0 → a * x ≡ 0
no_more a x e = ap (λ (k : ℕ). k * x) e ∙ omega arith

pub raise_entries : (p : Layout) (holder : ℕ) (n : Name) (old new : State) → SoundEntries p old
    → Raises p holder n old new → SoundEntries p new
raise_entries p holder n old new s e =
    let some = e.live.book in let b = e.book in
    one_changes p holder n old new s e.live.name e.others e.roots
    (record {
      gives = no_weight;
      takes = one_name n;
      held = e.held;
      weighs =
          λ f. (let more = one_more (new.book n) (old.book n) (f n) b in
          let same = still_weighs p n old new f some (omega arith) e.key in omega arith);
    })
    (λ _. goes_on p n old new s e.live e.key)

pub lower_entries : (p : Layout) (holder : ℕ) (n : Name) (old new : State) → SoundEntries p old
    → Lowers p holder n old new → SoundEntries p new
lower_entries p holder n old new s e =
    let some = e.left in let b = e.book in
    one_changes p holder n old new s e.name e.others e.roots
    (record {
      gives = one_name n;
      takes = no_weight;
      held = e.held;
      weighs =
          λ f. (let more = one_more (old.book n) (new.book n) (f n) (sym b) in
          let same = still_weighs p n old new f (omega arith) some e.key in omega arith);
    })
    (λ _. goes_on p n old new s (record { name = e.name; book = omega arith }) e.key)

pub add_entries : (p : Layout) (holder : ℕ) (n : Name) (key : Key) (old new : State)
    → SoundEntries p old → Adds p holder n key old new → SoundEntries p new
add_entries p holder n key old new s e =
    let free = e.free in let b = e.book in
    one_changes p holder n old new s e.name e.others e.roots
    (record {
      gives = children_named key;
      takes = one_name n;
      held = e.held;
      weighs = λ f. (
          let before : old.book n * f n ≡ 0 = no_more (old.book n) (f n) free in
          let after : new.book n * f n ≡ 0 * f n + f n = one_more (new.book n) 0 (f n) b in
          let none : 0 * f n ≡ 0 = omega arith in
          let earlier : entry_weight f old n ≡ 0 =
          ap (λ (k : ℕ). if_live k (children_weight f (old.key n))) free in
          let latest : entry_weight f new n ≡ children_weight f key =
          ap (λ (k : ℕ). if_live k (children_weight f (new.key n))) b
          ∙ ap (children_weight f) e.new_key in
          omega arith);
    })
    (λ _. record {
      fits = subst (λ (k : Key). FitsLevel n.level k) (sym e.new_key) e.fits;
      placed = e.bucket ∙ ap (λ (k : Key). bucket_of_key k (buckets_at p n.level)) (sym e.new_key);
      once = λ m live other level keys. e.missing m live level (keys ∙ e.new_key);
    })

pub free_entries : (p : Layout) (holder : ℕ) (n : Name) (old new : State) → SoundEntries p old
    → Frees p holder n old new → SoundEntries p new
free_entries p holder n old new s e =
    let last = e.last in let b = e.book in
    one_changes p holder n old new s e.name e.others e.roots
    (record {
      gives = one_name n;
      takes = children_named (old.key n);
      held = e.held;
      weighs = λ f. (
          let before : old.book n * f n ≡ 0 * f n + f n = one_more (old.book n) 0 (f n) last in
          let after : new.book n * f n ≡ 0 = no_more (new.book n) (f n) b in
          let none : 0 * f n ≡ 0 = omega arith in
          let earlier : entry_weight f old n ≡ children_weight f (old.key n) =
          ap (λ (k : ℕ). if_live k (children_weight f (old.key n))) last in
          let latest : entry_weight f new n ≡ 0 =
          ap (λ (k : ℕ). if_live k (children_weight f (new.key n))) b in
          omega arith);
    })
    (λ live. absurd (let some = live.book in omega arith))

-- names that are live before and after keep their keys where n does
pub keys_stay_at : (p : Layout) (n : Name) (old new : State) → OthersStay p n old new
    → (IsLive p old n → IsLive p new n → new.key n ≡ old.key n) → KeysStay p old new
keys_stay_at p n old new others here = record {
  key = λ m before after. elim (Name-discrete m n) [
    | yes same ↦
        (let P : Name → Type 0 = λ k. IsLive p old k → IsLive p new k → new.key k ≡ old.key k in
        subst P (sym same) here before after)
    | no other ↦ others.key m before other
  ];
}

pub raise_keys : (p : Layout) (holder : ℕ) (n : Name) (old new : State) → Raises p holder n old new
    → KeysStay p old new
raise_keys p holder n old new e = keys_stay_at p n old new e.others (λ _ _. e.key)

pub lower_keys : (p : Layout) (holder : ℕ) (n : Name) (old new : State) → Lowers p holder n old new
    → KeysStay p old new
lower_keys p holder n old new e = keys_stay_at p n old new e.others (λ _ _. e.key)

pub add_keys : (p : Layout) (holder : ℕ) (n : Name) (key : Key) (old new : State)
    → Adds p holder n key old new → KeysStay p old new
add_keys p holder n key old new e =
    keys_stay_at p n old new e.others
    (λ before _. absurd (let free = e.free in let some = before.book in omega arith))

pub free_keys : (p : Layout) (holder : ℕ) (n : Name) (old new : State) → Frees p holder n old new
    → KeysStay p old new
free_keys p holder n old new e =
    keys_stay_at p n old new e.others
    (λ _ after. absurd (let none = e.book in let some = after.book in omega arith))

-- a name that a holder gives is live
pub given_lives : (p : Layout) (state : State) (holder : ℕ) (gives takes : (Name → ℕ) → ℕ)
    (held : List (List Name)) (n : Name) → SoundEntries p state
    → Trades state.held holder gives takes held → 0 < gives (is_name n) → IsLive p state n
given_lives p state holder gives takes held n s t some =
    let holds = t.holds (is_name n) in
    let part = holdings-at (is_name n) state.held holder t.before t.had in
    named_lives p state n s (omega arith)

pub rest_entries : (p : Layout) (old new : State) → SoundEntries p old → Rests p old new
    → SoundEntries p new
rest_entries p old new s e =
    entries_stay_sound p old new s e.entries
    (λ f. (let roots = rooted-same f old new e.roots in let held = ap (holdings f) e.held in
    omega arith))

pub put_root_entries : (p : Layout) (holder place : ℕ) (root : Option Name) (old new : State)
    → SoundEntries p old → PutsRoot p holder place root old new → SoundEntries p new
put_root_entries p holder place root old new s e = entries_stay_sound p old new s e.entries (λ f. (
    let roots = rooted-change f old new place e.in_range e.roots in
    let none : weight f (old.root place) ≡ 0 = ap (weight f) e.free in
    let latest : weight f (new.root place) ≡ weight f root = ap (weight f) e.new_root in
    let shares = traded f old.held new.held holder (at_most_one root) no_weight e.held in
    omega arith))

pub take_root_entries : (p : Layout) (holder place : ℕ) (old new : State) → SoundEntries p old
    → TakesRoot p holder place old new → SoundEntries p new
take_root_entries p holder place old new s e = entries_stay_sound p old new s e.entries (λ f. (
    let roots = rooted-change f old new place e.in_range e.roots in
    let none : weight f (new.root place) ≡ 0 = ap (weight f) e.no_root in
    let shares =
    traded f old.held new.held holder no_weight (at_most_one (old.root place)) e.held in
    omega arith))

-- each step keeps entries sound
pub step_entries : (p : Layout) (holder : ℕ) (old new : State) → SoundEntries p old
    → StoreStep p holder old new → SoundEntries p new
step_entries p holder old new s (rests e) = rest_entries p old new s e
step_entries p holder old new s (raises n e) = raise_entries p holder n old new s e
step_entries p holder old new s (adds n key e) = add_entries p holder n key old new s e
step_entries p holder old new s (lowers n e) = lower_entries p holder n old new s e
step_entries p holder old new s (frees n e) = free_entries p holder n old new s e
step_entries p holder old new s (puts_root place root e) =
    put_root_entries p holder place root old new s e
step_entries p holder old new s (takes_root place e) = take_root_entries p holder place old new s e

-- each step keeps the keys of entries that are live before and after
pub step_keys : (p : Layout) (holder : ℕ) (old new : State) → StoreStep p holder old new
    → KeysStay p old new
step_keys p holder old new (rests e) = keys_stay p old new e.entries
step_keys p holder old new (raises n e) = raise_keys p holder n old new e
step_keys p holder old new (adds n key e) = add_keys p holder n key old new e
step_keys p holder old new (lowers n e) = lower_keys p holder n old new e
step_keys p holder old new (frees n e) = free_keys p holder n old new e
step_keys p holder old new (puts_root place root e) = keys_stay p old new e.entries
step_keys p holder old new (takes_root place e) = keys_stay p old new e.entries
