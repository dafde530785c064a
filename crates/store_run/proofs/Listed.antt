-- The roots of a history's versions are a list of which a file can be written.
use Rattle.std.proofs.Common.{◌≡◌, ℕ, suc, ◌-◌, ◌<◌, ◌≤◌, List, length, get_or, Some, subst, arith}
use Rattle.std.specs.Prelude.{slice_get}
use Rattle.std.specs.List.{Contains}
use Rattle.std.proofs.lemmas.Option.{get_or_from_slice_get, slice_get_within}
use Rattle.vox_read.specs.Contents.{Content}
use Rattle.history_model.specs.Logs.{Log}
use Rattle.node_words.specs.shapes.Tree.{Tree}
use Rattle.node_words.specs.descent.Roots.{HoldsRoot}
use Rattle.dag_file.specs.Lists.{HoldsList, DoNumbersRise, AreNumbersSmall}
use Rattle.store_run.specs.Marked.{Rooted, HoldsVersions}

pub is_in : (roots : List Rooted) (v : ℕ) (x : Rooted) → slice_get roots v ≡ Some x
    → Contains roots x
is_in roots v x is = (v, slice_get_within roots v x is, get_or_from_slice_get roots v x x is)

module _ (models : List Content) (log : Log) (held : List Tree) (roots : List Rooted)
    (low : 2 ≤ log.side) (kept : HoldsVersions log.side models log held roots) where
  same_side : log.side ≡ suc (log.side - 1)
  same_side = omega (arith, low)

  pub roots_held : HoldsList held (log.side - 1) roots
  roots_held = λ v x is.
      subst (λ (s : ℕ). HoldsRoot held s x.1) same_side (kept.each x (is_in roots v x is)).holds

  pub roots_rise : DoNumbersRise roots
  roots_rise = λ v x y is next.
      let at = get_or_from_slice_get roots v x x is in
      let later = get_or_from_slice_get roots (suc v) y x next in
      let lt =
      kept.versions.rising v (suc v) x (omega arith) (slice_get_within roots (suc v) y next) in
      subst (λ (a : Rooted). a.0 < y.0) at
      (subst (λ (b : Rooted). (get_or roots v x).0 < b.0) later lt)

  pub roots_small : length log.records ≤ 65535 → AreNumbersSmall roots
  roots_small few = λ v x is.
      let le = (kept.versions.listed x (is_in roots v x is)).there in omega (arith, le, few)
