-- What forgetting a version leaves.
use Rattle.std.proofs.Common.{◌≡◌, ◌+◌, ◌<◌, ◌≤◌, arith, ℕ, None, Option, List, [], ◌∷◌, refl, sym, ◌∙◌, ap, subst}
use Rattle.std.proofs.lemmas.List.{append-nil}
use Rattle.history_model.specs.Worlds.{World}
use Rattle.node_words.specs.declared.shapes.names.Name.{Name}
use Rattle.node_words.specs.shapes.Shape.{ShowsCells}
use Rattle.node_words.specs.shapes.Tree.{shape_of}
use Rattle.node_words.specs.shapes.Weights.{weigh, weight_of}
use Rattle.core_laws.specs.contents.Aligned.{world_block}
use Rattle.table_rule.specs.LogFacts.{number_seen, seen_has}
use Rattle.retain.specs.Listing.{Found}
use Rattle.table_rule.specs.Views.{SeatView}
use Rattle.node_table.specs.LogTurns.{FoundOpen, ForgetsUnderTurn, HasNoTurn, LearnsLog, TakesLog, next_mark}
use Rattle.version_log.specs.Forgets.{ForgetsVersion}
use Rattle.version_log.specs.Seeing.{KeepsFound, IsDated, OnlyReadsLog}
use Rattle.version_log.proofs.LookLaws.{begun_looks, open_looks, looks_on, begins_on, dated_with, others_by, others_on}

refl_le : (n : ℕ) → n ≤ n
refl_le n = omega arith

module _ (v m w : SeatView) (n line at session : ℕ) (root : Option Name) (looks : OnlyReadsLog v m)
    (same_held : m.held ≡ v.held) (here : at ≡ number_seen m) (earlier : n < at)
    (number : v.numbers ≡ session ∷ [])
    (f : ForgetsUnderTurn m (next_mark m n session line) root w) where
  records_stay : w.log.seen.records ≡ m.log.seen.records
  records_stay = ap (λ (x : SeatView). x.log.seen.records) f.is

  cells_stay : seen_has m n ≡ seen_has w n
  cells_stay = sym (ap (λ (x : SeatView). seen_has x n) f.is)

  pub forgets : ForgetsVersion v n line (record { at = at; root = root }) w
  forgets =
      record {
        at = here ∙ sym (ap (λ (x : SeatView). number_seen x) f.is);
        earlier = earlier;
        mark = next_mark m n session line;
        own = record { session = number; version_is = refl; at_is = sym here; line_is = refl };
        comes = f.comes;
        marks = ap (λ (x : SeatView). x.log.marks) f.is
            ∙ ap (λ ms. next_mark m n session line ∷ ms) looks.marks;
        tree = f.tree;
        name = f.root_is;
        shows = subst (λ (cells : World).
            ShowsCells (world_block w.plan.side) (shape_of f.tree) cells) cells_stay
            (subst (λ (x : ℕ). ShowsCells (world_block x) (shape_of f.tree) (seen_has m n))
            (sym (ap (λ (x : SeatView). x.plan.side) f.is)) f.shows);
        loses = record {
          weighs = λ g. ap (λ ts. weight_of g f.tree + weigh g ts) (sym same_held)
              ∙ sym (f.weighs g)
              ∙ ap (λ ts. weigh g ts) (sym (ap (λ (x : SeatView). x.held) f.is));
        };
        sees = record {
          seen = begins_on v.log.seen m.log.seen w.log.seen looks.sees.seen
              (record {
                more = [];
                records = records_stay ∙ sym (append-nil m.log.seen.records);
                marks = f.stay;
              });
          side = ap (λ (x : SeatView). x.log.seen.side) f.is ∙ looks.sees.side;
          dated = λ dated. subst (λ (x : SeatView). IsDated x.log.seen) (sym f.is)
              (dated_with m.log.seen (next_mark m n session line)
              (subst (λ (k : ℕ). n < k) here earlier, refl_le (number_seen m))
              (looks.sees.dated dated));
          taken = ap (λ (x : SeatView). x.log.taken) f.is ∙ looks.sees.taken;
          found = subst (λ (fs : List Found). KeepsFound v.log.found fs)
              (sym (ap (λ (x : SeatView). x.log.found) f.is)) looks.sees.found;
        };
        session = record {
          alive = ap (λ (x : SeatView). x.alive) f.is ∙ looks.session.alive;
          plan = ap (λ (x : SeatView). x.plan) f.is ∙ looks.session.plan;
          models = ap (λ (x : SeatView). x.models) f.is ∙ looks.session.models;
          numbers = ap (λ (x : SeatView). x.numbers) f.is ∙ looks.session.numbers;
        };
        records = ap (λ (x : SeatView). x.log.records) f.is ∙ looks.records;
        busy = others_on v.numbers v.log.busy m.log.busy w.log.busy looks.busy
            (others_by v.numbers m.log.busy w.log.busy (ap (λ (x : SeatView). x.log.busy) f.is));
        made = ap (λ (x : SeatView). x.made) f.is ∙ looks.made;
        met = ap (λ (x : SeatView). x.met) f.is ∙ looks.met;
      }

  pub forgets_idle : m.turn ≡ None → HasNoTurn w
  forgets_idle idle =
      record {
        bucket = ap (λ (x : SeatView). x.turn) f.is ∙ idle;
        log = ap (λ (x : SeatView). x.log.turn) f.is;
      }

-- under the turn the version was found without a mark
pub looked_open : {made : ℕ} (v t u m : SeatView) (n : ℕ) → TakesLog made v t → LearnsLog t u → FoundOpen u n m
    → OnlyReadsLog v m
looked_open v t u m n takes learns is_open =
    looks_on v u m (begun_looks v t u takes learns) (open_looks u n m is_open)

pub looked_held : {made : ℕ} (v t u m : SeatView) (n : ℕ) → TakesLog made v t → LearnsLog t u → FoundOpen u n m
    → m.held ≡ v.held
looked_held v t u m n takes learns is_open =
    ap (λ (x : SeatView). x.held) is_open.is ∙ ap (λ (x : SeatView). x.held) learns.is
    ∙ ap (λ (x : SeatView). x.held) takes.is

pub looked_number : (t u m : SeatView) (n at : ℕ) → at ≡ number_seen t → LearnsLog t u
    → FoundOpen u n m → at ≡ number_seen m
looked_number t u m n at here learns is_open =
    here ∙ sym (ap (λ (x : SeatView). number_seen x) learns.is)
    ∙ sym (ap (λ (x : SeatView). number_seen x) is_open.is)

pub looked_turn : (t u m : SeatView) (n : ℕ) → t.turn ≡ None → LearnsLog t u → FoundOpen u n m
    → m.turn ≡ None
looked_turn t u m n idle learns is_open =
    ap (λ (x : SeatView). x.turn) is_open.is ∙ ap (λ (x : SeatView). x.turn) learns.is ∙ idle
