-- A core in which nothing was done yet.
use Rattle.std.proofs.Common.{◌≡◌, ℕ, ◌≤◌, refl, sym, ◌∙◌, ap, subst, arith, None, Option, List, [], length, get_or, replicate, sum_by, false}
use Rattle.std.proofs.lemmas.Bool.{cases_lt}
use Rattle.std.proofs.Common.{inl, inr}
use Rattle.std.proofs.lemmas.List.{get_or_past, get_or-replicate, length-replicate}
use Rattle.std.proofs.lemmas.List.Folds.{sum_by-replicate}
use Rattle.vox_read.specs.Contents.{Content}
use Rattle.node_words.specs.declared.shapes.names.Name.{Name}
use Rattle.node_words.specs.Plans.{Layout, IsPlan}
use Rattle.bucket_core.specs.Buckets.{book_of_slot}
use Rattle.core_laws.specs.Counting.{holdings}
use Rattle.core_laws.proofs.RootCells.{empty_sound}
use Rattle.world_core.specs.Slots.{BucketRow, IsLaidOut, entry_at}
use Rattle.world_core.specs.Beginning.{HasBegun}
use Rattle.world_core.specs.Stored.{Stored, IsStored, root_in, stored_state}

abbrev no_name : Option Name
no_name = None

no_root : (v : ℕ) → get_or (replicate 65536 no_name) v no_name ≡ no_name
no_root v = elim (cases_lt v 65536) [
  | inl lt ↦ get_or-replicate 65536 v no_name no_name lt
  | inr ge ↦ get_or_past (replicate 65536 no_name) v no_name
      (let e = length-replicate 65536 no_name in omega arith)
]

abbrev nobody : List Name
nobody = []

no_holdings : (sessions : ℕ) (f : Name → ℕ) → holdings f (replicate sessions nobody) ≡ 0
unfolding holdings
no_holdings sessions f =
    let e = sum_by-replicate (λ (names : List Name). sum_by f names) sessions nobody in omega arith

abbrev pub begun : Layout → List Content → List BucketRow → List (Option Name) → List (List Name)
    → Stored
begun p models entries roots held = record {
  plan = p;
  models = models;
  entries = entries;
  roots = roots;
  log = record { side = p.side; coloured = false; records = []; marks = [] };
  held = held;
}

module _ (p : Layout) (models : List Content) (entries : List BucketRow)
    (roots : List (Option Name))
    (held : List (List Name)) (sessions : ℕ) (plan : IsPlan p) (laid : IsLaidOut p entries)
    (free : (n : Name) → entry_at entries n ≡ None) (none : roots ≡ replicate 65536 None)
    (nobody_holds : held ≡ replicate sessions []) (few : sessions ≤ 64) where
  pub begins : HasBegun p sessions (stored_state (begun p models entries roots held))
  begins = record {
    untouched = record {
      book = λ n is. ap book_of_slot (free n);
      root = λ v. ap (λ (r : List (Option Name)). root_in r v) none ∙ no_root v;
      log = refl;
      held = λ f. ap (λ (h : List (List Name)). holdings f h) nobody_holds ∙ no_holdings sessions f;
    };
    seats = ap length nobody_holds ∙ length-replicate sessions nobody;
  }

  pub begins_stored : IsStored (begun p models entries roots held)
  begins_stored = record {
    plan = plan;
    laid = laid;
    places = ap length none ∙ length-replicate 65536 no_name;
    sound = empty_sound p models (stored_state (begun p models entries roots held)) (record {
      book = λ n is. ap book_of_slot (free n);
      root = λ v. ap (λ (r : List (Option Name)). root_in r v) none ∙ no_root v;
      log = refl;
      held = λ f. ap (λ (h : List (List Name)). holdings f h) nobody_holds ∙ no_holdings sessions f;
    });
    sessions = let e = ap length nobody_holds ∙ length-replicate sessions nobody in omega arith;
    few = subst (λ (h : List (List Name)). Rattle.std.specs.Prelude.All
        (λ names. length names ≤ 4096) h) (sym nobody_holds)
        (λ k d lt. subst (λ (names : List Name). length names ≤ 4096)
        (sym (get_or-replicate sessions k nobody d
        (let w = length-replicate sessions nobody in omega arith))) (omega arith));
  }
