-- Versions of which nothing was done yet.
use Rattle.std.proofs.Common.{◌≡◌, ℕ, None, Option, List, [], ◌∷◌, replicate, length, sym, ◌∙◌, ap, subst, All, Bool, true, false}
use Rattle.std.proofs.lemmas.Option.{none-some}
use Rattle.std.proofs.lemmas.List.{length-replicate}
use Rattle.std.proofs.lemmas.List.Elements.{All-nil}
use Rattle.history_model.specs.declared.histories.Record.{Record}
use Rattle.vox_read.specs.Contents.{Content}
use Rattle.history_model.specs.Logs.{Log, suits_tints}
use Rattle.core_laws.specs.contents.MarkLists.{marks_below}
use Rattle.core_laws.specs.Soundness.{SoundVersions}
use Rattle.history_model.specs.declared.histories.Mark.{Mark}
use Rattle.history_model.specs.Positions.{beginning, position_after}
use Rattle.node_words.specs.declared.shapes.names.Name.{Name}
use Rattle.node_words.specs.shapes.Weights.{weigh}
use Rattle.node_words.proofs.OfShapes.WeightLaws.{weigh-nil}
use Rattle.node_words.specs.Plans.{Layout}
use Rattle.one_store.specs.WordIds.{versions}
use Rattle.core_laws.specs.Counting.{holdings}
use Rattle.core_laws.proofs.RootCells.{empty_sound}
use Rattle.one_store.specs.entries.Words.{book_in}
use Rattle.one_store.specs.notes.StoreNotes.{StoreNotes, no_notes}
use Rattle.act_rebuilds.specs.Drawn.{HaveTints}
use Rattle.undo.specs.Trails.{trail_position}
use Rattle.one_store.specs.Known.{Known, root_names, stored_root}
use Rattle.one_store.proofs.StateLaws.{root_weight, holdings-one}
use Rattle.store_run.specs.declared.stored_versions.Versions.{Versions}
use Rattle.store_run.specs.Kept.{plan_of, log_of, noted_of, mark_in, core_with, AreStoredVersions, AreVersions, IsLargeStore, HoldsNothing}
use Rattle.store_run.proofs.Marking.{none_listed, no_mark}

no_holdings : (f : Name → ℕ) → holdings f (root_names [] ∷ []) ≡ 0
no_holdings f = holdings-one f [] ∙ weigh-nil (root_weight f)

-- versions are as sound where their history is coloured, or isn't
recoloured : (p : Layout) (models : List Content) (log : Log) (s : Known) (tint : Bool)
    → SoundVersions p models (core_with log s)
    → SoundVersions p models
    (core_with (record { side = log.side; coloured = tint; records = log.records; marks = log.marks }) s)
recoloured p models log s tint sound = record {
  legal = record {
    same_side = sound.legal.same_side;
    few = sound.legal.few;
    fit = sound.legal.fit;
    follow = sound.legal.follow;
    rising = sound.legal.rising;
    marked = sound.legal.marked;
  };
  kept = λ v n e. (let k = sound.kept v n e in record { there = k.there; unmarked = k.unmarked });
  level = λ v n e. sound.level v n e;
  shown = λ v kept. sound.shown v (record { there = kept.there; unmarked = kept.unmarked });
}

module _ (v : Versions) (p : Layout) (side : v.side ≡ p.side) (plan : plan_of v ≡ p)
    (free : (n : Name) → book_in v.store.words n ≡ 0)
    (tint : Bool) (is : v.models.tint ≡ tint)
    (roots : (place : ℕ) → stored_root v.store.roots place ≡ None)
    (told : v.store.told ≡ no_notes)
    (records : v.records.items ≡ []) (marks : v.marks.items ≡ replicate versions None)
    (trail : trail_position v.trail ≡ beginning) where
  none_marked : (version : ℕ) → mark_in v.marks.items version ≡ None
  none_marked version = ap (λ (ms : List (Option Mark)). mark_in ms version) marks
      ∙ no_mark versions version

  pub begun_log : log_of v ≡ record { side = p.side; coloured = tint; records = []; marks = [] }
  begun_log = λ i.
      record {
        side = side i;
        coloured = is i;
        records = records i;
        marks = none_listed
            (mark_in v.marks.items) versions none_marked i;
      }

  -- the same history, not coloured
  abbrev plain_begun : Log
  plain_begun = record {
    side = v.side;
    coloured = false;
    records = v.records.items;
    marks = marks_below (mark_in v.marks.items) versions;
  }

  pub begun_nothing : HoldsNothing v.store
  begun_nothing = record { weighs = λ f. ap (λ (t : StoreNotes). weigh f t.held) told ∙ weigh-nil f }

  pub begun_are : IsLargeStore tint p.side → HaveTints tint v.models.models
      → AreStoredVersions v
  begun_are large colours = record {
    side = side ∙ sym (ap (λ (q : Layout). q.side) plan);
    sound = recoloured (plan_of v) v.models.models plain_begun v.store v.models.tint
        (empty_sound (plan_of v) v.models.models (core_with plain_begun v.store) (record {
          book = λ n i. free n;
          root = roots;
          log = λ i. record {
            side = (side ∙ sym (ap (λ (q : Layout). q.side) plan)) i;
            coloured = false;
            records = records i;
            marks = none_listed (mark_in v.marks.items) versions none_marked i;
          };
          held = λ f. ap (λ (t : StoreNotes). holdings f (root_names t.held ∷ [])) told ∙ no_holdings f;
        })).versions;
    suits = subst (λ (rs : List Record). All (λ r. suits_tints v.models.tint r.act ≡ true) rs)
        (sym records) (All-nil _);
    large =
        subst (λ (b : Bool). IsLargeStore b (plan_of v).side) (sym is)
        (subst (λ (q : Layout). IsLargeStore tint q.side) (sym plan) large);
    colours = subst (λ (b : Bool). HaveTints b v.models.models) (sym is) colours;
    places = ap (λ (ms : List (Option Mark)). length ms) marks
        ∙ length-replicate {A = Option Mark} versions None;
    of_versions = record { each = λ n m e. absurd (none-some m (sym (none_marked n) ∙ e)) };
    position = trail ∙ sym (ap position_after records);
  }

  pub begun_noted : noted_of v ≡ record { made = []; met = [] }
  begun_noted = ap (λ (t : StoreNotes). record { made = t.made; met = t.met }) told

-- where cells have no tints
pub begun_plain : (v : Versions) → AreStoredVersions v → v.models.tint ≡ false → AreVersions v
begun_plain v are plain = record { stored = are; plain = plain }
