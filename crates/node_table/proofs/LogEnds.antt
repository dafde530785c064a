-- What the last words of a table show of its log.
use Rattle.std.proofs.Common.{◌≡◌, ◌≢◌, ℕ, zero, suc, ◌+◌, ◌-◌, ◌/◌, ◌%◌, ◌^◌, ◌<◌, ◌≤◌, Some, List, [], ◌∷◌, ◌++◌, length, map, refl, sym, ap, ◌∙◌, subst, inl, inr, arith, append-nil}
use Rattle.std.specs.Prelude.{All}
use Rattle.std.specs.List.{AllPairs, Contains}
use Rattle.std.proofs.Math.Nat.{div-add-mod, mod-lt}
use Rattle.std.proofs.lemmas.Bool.{cases_eq}
use Rattle.std.proofs.lemmas.List.Elements.{All-contains, All-append, Contains-append_left, Contains-append_right}
use Rattle.std.proofs.lemmas.List.Kept.{AllPairs-cons}
use Rattle.table_rule.proofs.Containing.{contains_more}
use Rattle.table_rule.proofs.OwnLaws.{first_or_more}
use Rattle.vox_read.specs.Contents.{Content}
use Rattle.node_words.specs.declared.shapes.names.Name.{Name}
use Rattle.node_words.specs.Plans.{Layout, IsPlan}
use Rattle.node_words.proofs.PlanLaws.{few_buckets}
use Rattle.core_laws.specs.places.KeyWords.{child_of_word}
use Rattle.core_laws.specs.places.WordIds.{WordId, LogLength, Version, versions}
use Rattle.core_laws.specs.contents.Aligned.{top}
use Rattle.core_laws.specs.contents.Versions.{HoldsVersion}
use Rattle.core_laws.proofs.Lives.{root_lives}
use Rattle.core_laws.proofs.LogSteps.{root_in_range}
use Rattle.core_laws.specs.Soundness.{Sound}
use Rattle.core_laws.specs.States.{State}
use Rattle.history_model.specs.declared.acts.Act.TheVariants.{Tint}
use Rattle.table_rule.specs.LogWords.{act_of_words, tint_of_words, mark_of_words, marks_in, records_in, if_marked}
use Rattle.table_rule.specs.Rules.{table_state}
use Rattle.table_rule.proofs.LogReading.{length_records, mark_stands, marks_suc, no_mark}
use Rattle.table_rule.proofs.LogTellingLaw.{root_there}
use Rattle.node_table.specs.Closing.{AreRoots}
use Rattle.node_table.specs.Roots.{IsLogSmall, if_unmarked, roots_in}
use Rattle.world_core.specs.declared.closed.Root.{Root}
use Rattle.node_table.proofs.LogLists.{roots_suc, no_roots}

-- kinds of 8 and more are those of tinted acts
pub tint_kinds : (kind place size to : ℕ) → 8 ≤ kind
    → act_of_words kind place size to ≡ Tint (tint_of_words (kind - 8) place size to)
tint_kinds (suc (suc (suc (suc (suc (suc (suc (suc kind)))))))) place size to low =
    let less : suc (suc (suc (suc (suc (suc (suc (suc kind))))))) - 8 ≡ kind = omega arith in
    ap (λ (k : ℕ). Tint (tint_of_words k place size to)) (sym less)
tint_kinds kind place size to low = absurd (omega arith)

module _ {A : Type 0} where
  all_one : (P : A → Type 0) (x : A) → P x → All P (x ∷ [])
  all_one P x h zero d lt = h
  all_one P x h (suc k) d lt = absurd (omega arith)

  -- one more at the end, which each of the others stands in the relation with
  pairs_end : (R : A → A → Type 0) (xs : List A) (y : A) → AllPairs R xs → All (λ x. R x y) xs
      → AllPairs R (xs ++ y ∷ [])
  pairs_end R [] y p all = λ i j d lt within. absurd (omega arith)
  pairs_end R (x ∷ xs) y p all =
      AllPairs-cons R x (xs ++ y ∷ [])
      (All-append (R x) xs (y ∷ []) (λ k d lt. p 0 (suc k) d (omega arith) (omega arith))
      (all_one (R x) y (all 0 x (omega arith))))
      (pairs_end R xs y (λ i j d lt within. p (suc i) (suc j) d (omega arith) (omega arith))
      (λ k d lt. all (suc k) d (omega arith)))

  contains_map : {B : Type 0} (f : A → B) (xs : List A) (x : A) → Contains xs x
      → Contains (map f xs) (f x)
  contains_map f [] x c = absurd (let k = c.1 in omega arith)
  contains_map f (y ∷ xs) x c =
      first_or_more y xs x c (λ e. (0, omega arith, ap f e))
      (λ more. contains_more (f y) (map f xs) (f x) (contains_map f xs x more))

-- versions without a mark add none
marks_more : (mem : WordId → ℕ) (n k : ℕ)
    → ((v : ℕ) → n ≤ v → v < n + k → mem (Version v 6) ≡ 0) → marks_in mem (n + k) ≡ marks_in mem n
marks_more mem n zero none = ap (marks_in mem) (let e : n + 0 ≡ n = omega arith in e)
marks_more mem n (suc k) none =
    let s : n + suc k ≡ suc (n + k) = omega arith in
    ap (marks_in mem) s ∙ marks_suc mem (n + k)
    ∙ ap (λ (w : ℕ). marks_in mem (n + k) ++ if_marked (n + k) w (mem (Version (n + k) 7)))
    (none (n + k) (omega arith) (omega arith))
    ∙ append-nil (marks_in mem (n + k))
    ∙ marks_more mem n k (λ v le lt. none v le (omega arith))

pub marks_end : (mem : WordId → ℕ) (long : ℕ) → IsLogSmall mem long
    → marks_in mem (long + 1) ≡ marks_in mem versions
marks_end mem long s =
    let few = s.few in
    let k : ℕ = 65535 - long in
    sym (ap (marks_in mem) (let e : versions ≡ (long + 1) + k = omega arith in e)
    ∙ marks_more mem (long + 1) k (λ v le lt. s.late v (omega arith) (omega arith)))

module _ (p : Layout) (models : List Content) (mem : WordId → ℕ) (plan : IsPlan p)
    (sound : Sound p models (table_state p mem [])) where
  abbrev c : State
  c = table_state p mem []

  long_few : mem LogLength ≤ 65535
  long_few = let few = sound.versions.legal.few in
      let long = length_records mem (mem LogLength) in omega arith

  marked : (v at : ℕ) → v < versions → mem (Version v 6) ≡ suc at → (v < at) × (at ≤ mem LogLength)
  marked v at lt e =
      let there = mark_stands mem versions v at lt e in
      let of = All-contains (λ m. (m.version < m.at)
      × (m.at ≤ length (records_in mem (mem LogLength)))) (marks_in mem versions)
      (mark_of_words v at (mem (Version v 7))) sound.versions.legal.marked there in
      let long = length_records mem (mem LogLength) in
      let a = of.0 in let b = of.1 in (a, omega arith)

  late : (v : ℕ) → mem LogLength < v → v < versions → mem (Version v 6) ≡ 0
  late v after lt = go (mem (Version v 6)) refl
    where
      go : (word : ℕ) → mem (Version v 6) ≡ word → mem (Version v 6) ≡ 0
      go zero e = e
      go (suc at) e =
          absurd (let m = marked v at lt e in let a = m.0 in let b = m.1 in omega arith)

  root_is : (v : ℕ) → v ≤ mem LogLength → mem (Version v 6) ≡ 0
      → c.root v ≡ child_of_word (top p.side) (mem (Version v 5))
  root_is v le none = root_there (top p.side) (mem LogLength) v _ _ le none

  root_few : (v : ℕ) → v ≤ mem LogLength → mem (Version v 6) ≡ 0 → (word : ℕ)
      → mem (Version v 5) ≡ word → word ≤ 2 ^ 24
  root_few v le none zero e = omega arith
  root_few v le none (suc at) e =
      let n : Name = record { level = top p.side; bucket = at / 256; slot = at % 256 } in
      let root : c.root v ≡ Some n = root_is v le none ∙ ap (child_of_word (top p.side)) e in
      let live = root_lives p c v n sound.entries (root_in_range p models c v n sound.versions root)
      root in
      let bucket = live.name.bucket_in in let few = few_buckets p (top p.side) plan in
      let all = div-add-mod at 256 in let low : at % 256 < 256 = mod-lt at (omega arith) in
      omega arith

  pub log_small : IsLogSmall mem (mem LogLength)
  log_small = record {
    long_is = refl;
    few = long_few;
    marks = λ v at le e. (let few = long_few in (marked v at (omega arith) e).1);
    late = late;
    roots = λ v le none. root_few v le none (mem (Version v 5)) refl;
  }

  kept_word : (v : ℕ) → HoldsVersion c.log v → mem (Version v 6) ≡ 0
  kept_word v is = go (mem (Version v 6)) refl
    where
      go : (word : ℕ) → mem (Version v 6) ≡ word → mem (Version v 6) ≡ 0
      go zero e = e
      go (suc at) e =
          absurd (All-contains (λ m. m.version ≢ v) (marks_in mem versions)
          (mark_of_words v at (mem (Version v 7))) is.unmarked
          (mark_stands mem versions v at
          (let le = is.there in let few = long_few in
          let long = length_records mem (mem LogLength) in omega arith) e) refl)

  is_kept : (v : ℕ) → v ≤ mem LogLength → mem (Version v 6) ≡ 0 → HoldsVersion c.log v
  is_kept v le none = record {
    there = (let long = length_records mem (mem LogLength) in omega arith);
    unmarked = no_mark mem versions v none;
  }

  abbrev root_at : ℕ → Root
  root_at v = record { version = v; name = child_of_word (top p.side) (mem (Version v 5)) }

  -- the roots of the first versions are those of versions without a mark, by rising version
  record AreFirst (n : ℕ) (roots : List Root) : Type 0 where
    pub below : All (λ r. r.version < n) roots
    pub rising : AllPairs (λ a b. a.version < b.version) roots
    pub kept : All (λ r. HoldsVersion c.log r.version) roots
    pub named : All (λ r. r.name ≡ c.root r.version) roots
    pub all : (v : ℕ) → v < n → mem (Version v 6) ≡ 0 → Contains roots (root_at v)

  -- one version more
  one_first : (v word : ℕ) (roots : List Root) → v ≤ mem LogLength → mem (Version v 6) ≡ word
      → AreFirst v roots → AreFirst (suc v) (roots ++ if_unmarked word (root_at v))
  one_first v (suc at) roots le e a =
      subst (λ (l : List Root). AreFirst (suc v) l) (sym (append-nil roots)) (record {
        below = λ k d lt. (let b = a.below k d lt in omega arith);
        rising = a.rising;
        kept = a.kept;
        named = a.named;
        all = λ u lt none. elim (cases_eq u v) [
          | inl same ↦
              absurd (let s = ap (λ (x : ℕ). mem (Version x 6)) same in omega arith)
          | inr other ↦ a.all u (omega arith) none
        ];
      })
  one_first v zero roots le e a = record {
    below = All-append (λ r. r.version < suc v) roots (root_at v ∷ [])
        (λ k d lt. (let b = a.below k d lt in omega arith))
        (all_one (λ (r : Root). r.version < suc v) (root_at v) (omega arith));
    rising = pairs_end (λ (x y : Root). x.version < y.version) roots (root_at v) a.rising a.below;
    kept = All-append (λ (r : Root). HoldsVersion c.log r.version) roots (root_at v ∷ []) a.kept
        (all_one (λ (r : Root). HoldsVersion c.log r.version) (root_at v) (is_kept v le e));
    named = All-append (λ (r : Root). r.name ≡ c.root r.version) roots (root_at v ∷ []) a.named
        (all_one (λ (r : Root). r.name ≡ c.root r.version) (root_at v) (sym (root_is v le e)));
    all = λ u lt none. elim (cases_eq u v) [
      | inl same ↦
          Contains-append_right roots (root_at v ∷ []) (root_at u)
          (0, omega arith, ap (λ (x : ℕ). root_at x) (sym same))
      | inr other ↦
          Contains-append_left roots (root_at v ∷ []) (root_at u) (a.all u (omega arith) none)
    ];
  }

  first_roots : (n : ℕ) → n ≤ mem LogLength + 1 → AreFirst n (roots_in p mem n)
  first_roots zero le = subst (λ (l : List Root). AreFirst 0 l) (sym (no_roots p mem)) (record {
    below = λ k d lt. absurd (omega arith);
    rising = λ i j d lt within. absurd (omega arith);
    kept = λ k d lt. absurd (omega arith);
    named = λ k d lt. absurd (omega arith);
    all = λ v lt none. absurd (omega arith);
  })
  first_roots (suc n) le =
      subst (λ (l : List Root). AreFirst (suc n) l) (sym (roots_suc p mem n))
      (one_first n (mem (Version n 6)) (roots_in p mem n) (omega arith) refl
      (first_roots n (omega arith)))

  pub are_roots : AreRoots c (roots_in p mem (mem LogLength + 1))
  are_roots = let a = first_roots (mem LogLength + 1) (omega arith) in record {
    rising = a.rising;
    kept = a.kept;
    named = a.named;
    all = λ v is.
        contains_map (λ (r : Root). r.version) (roots_in p mem (mem LogLength + 1)) (root_at v)
        (a.all v (let le = is.there in let long = length_records mem (mem LogLength) in
        omega arith) (kept_word v is));
  }
