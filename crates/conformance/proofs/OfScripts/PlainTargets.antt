-- What a store made and met for an edit without a tint, told by its target, is what the edit wants.
use Rattle.std.proofs.Common.{◌≡◌, ℕ, ◌^◌, false, true, List, refl, sym, subst, arith}
use Rattle.vox_read.specs.Contents.{Content}
use Rattle.history_model.specs.declared.acts.Act.{Act}
use Rattle.history_model.specs.declared.acts.Act.TheVariants.{Fill, Erase, Ball, Carve, Copy, Stamp, Tint, Undo, Redo}
use Rattle.history_model.specs.declared.histories.Record.{Record}
use Rattle.history_model.specs.Logs.{suits_tints}
use Rattle.history_model.specs.Stores.{edit_part_number, made_by_parts, stored_in}
use Rattle.history_model.specs.Worlds.{World, edited}
use Rattle.node_words.specs.shapes.Shape.{Shape, ShowsCells, IsPart}
use Rattle.node_words.specs.Gathering.{Grew, unchanged, one, Fails}
use Rattle.node_words.specs.Held.{StoreState}
use Rattle.node_words.specs.Plans.{Layout}
use Rattle.core_laws.specs.contents.Aligned.{world_block}
use Rattle.conformance.specs.scripts.Keeping.{IsWanted, IsPlainTarget, MeetsFull}

-- such an edit has one part, which makes all of it
pub one_part : (act : Act) → suits_tints false act ≡ true → edit_part_number act ≡ 1
one_part (Fill b) plain = refl
one_part (Erase b) plain = refl
one_part (Ball b) plain = refl
one_part (Carve b) plain = refl
one_part (Copy b to) plain = refl
one_part (Stamp m at) plain = refl
one_part (Tint t) plain = absurd (let no : ⊥ = cc in no)
one_part Undo plain = refl
one_part Redo plain = refl

pub made_at_once : (side : ℕ) (models : List Content) (act : Act) (w : World)
    → suits_tints false act ≡ true
    → made_by_parts side models act 1 w ≡ edited models act w
made_at_once side models (Fill b) w plain = refl
made_at_once side models (Erase b) w plain = refl
made_at_once side models (Ball b) w plain = refl
made_at_once side models (Carve b) w plain = refl
made_at_once side models (Copy b to) w plain = refl
made_at_once side models (Stamp m at) w plain = refl
made_at_once side models (Tint t) w plain = absurd (let no : ⊥ = cc in no)
made_at_once side models Undo w plain = refl
made_at_once side models Redo w plain = refl

module _ (p : Layout) (models : List Content) (records : List Record) (act : Act) (version : ℕ)
    (target : Shape)
    (of : IsPlainTarget p models records act version target) where
  pub plain_target_wanted : (s : Shape) → IsPart s target → IsWanted p models records act version s
  plain_target_wanted s part =
      let before : World = stored_in (2 ^ p.side) models records version in
      let number : edit_part_number act ≡ 1 = one_part act of.plain in
      record {
        edit = of.edit;
        parts = 1;
        some_part = omega arith;
        few_parts = omega (arith, number);
        part = record {
          all = target;
          canonical = of.canonical;
          shows = subst (λ (w : World). ShowsCells (world_block p.side) target w)
              (sym (made_at_once (2 ^ p.side) models act before of.plain)) of.shows;
          part = part;
        };
      }

  -- what was made for it
  pub plain_growth_wanted : (old new : List Shape) → Grew (λ s. IsPart s target) old new
      → Grew (IsWanted p models records act version) old new
  plain_growth_wanted old _ unchanged = unchanged
  plain_growth_wanted old _ (one {a} {new = before} part rest) = one (plain_target_wanted a part)
      (plain_growth_wanted old before rest)

  -- and what of it met a full bucket
  pub plain_failure_meets_full : (level bucket : ℕ) (old new : StoreState)
      → Fails target level bucket old new
      → MeetsFull (IsWanted p models records act version) level bucket old new
  plain_failure_meets_full level bucket old new fails = record {
    plan = fails.plan;
    made = plain_growth_wanted old.made new.made fails.made;
    wanted = fails.wanted;
    wants = plain_target_wanted fails.wanted fails.is_part;
    sought = fails.sought;
    met = fails.met;
  }
