-- The words of the next record.
use Rattle.std.proofs.Common.{All, IfSome, ◌<◌, ◌≡◌, ◌+◌, ◌-◌, ◌*◌, ◌^◌, ◌≤◌, ℕ, suc, true, false, cond, Option, Some, None, List, [], ◌∷◌, ◌++◌, length, take, slice_get, slice_index, refl, sym, ◌∙◌, ap, subst, arith}
use Rattle.std.proofs.lemmas.Option.{slice_get-get_or}
use Rattle.history_model.specs.declared.acts.Act.{Act}
use Rattle.history_model.specs.declared.acts.Act.TheVariants.{Fill, Erase, Ball, Carve, Copy, Stamp, Tint, Undo, Redo}
use Rattle.history_model.specs.declared.histories.Record.{Record}
use Rattle.history_model.specs.Laws.{position_of_next}
use Rattle.history_model.specs.Packing.{packed, last_edit, log_words}
use Rattle.history_model.specs.PositionLaws.{names_below}
use Rattle.history_model.specs.Positions.{Position, next_position, position_after, undone, redone}
use Rattle.history_model.specs.Worlds.{is_edit}
use Rattle.table_rule.specs.LogFacts.{IsShownUnmarked, number_seen}
use Rattle.table_rule.specs.Views.{SeatView}
use Rattle.table_rule.specs.LogChanges.{HasOpenTarget, IsOpenTarget}
use Rattle.node_table.specs.LogTurns.{AreWordsOf}
use Rattle.undo.specs.declared.cursor.UndoCursor.{UndoCursor}
use Rattle.undo.specs.Standings.{version_of}
use Rattle.undo.specs.Targets.{record_at, words_at, past_top, future_top}
use Rattle.undo.proofs.Chains.{last_of_next, threads}
use Rattle.version_log.specs.declared.lookahead.Lookahead.{Lookahead}
use Rattle.version_log.specs.declared.sures.Sure.{Sure}
use Rattle.version_log.specs.Looking.{KeepsLookahead}
use Rattle.version_log.specs.Targets.{KnowsNext, IsNextCursor, NextCursor, with_lookahead, act_target, with_act}

-- the words of a record, behind which this version stands and this is the last edit
abbrev pub words_by : Act → ℕ → ℕ → ℕ → ℕ → List ℕ
words_by act now last session line =
    (slice_index (packed act) 0 + 2 ^ 8 * now + 2 ^ 32 * last)
    ∷ slice_index (packed act) 1 ∷ slice_index (packed act) 2 ∷ slice_index (packed act) 3
    ∷ (session + 2 ^ 16 * line) ∷ []

now_of_edit : (n : ℕ) (act : Act) (before : Position) → is_edit act ≡ true
    → (next_position n act before).now ≡ n
now_of_edit n (Fill b) before edit = refl
now_of_edit n (Erase b) before edit = refl
now_of_edit n (Ball b) before edit = refl
now_of_edit n (Carve b) before edit = refl
now_of_edit n (Copy b to) before edit = refl
now_of_edit n (Stamp m at) before edit = refl
now_of_edit n (Tint t) before edit = refl
now_of_edit n Undo before edit = absurd (let no : ⊥ = cc in no)
now_of_edit n Redo before edit = absurd (let no : ⊥ = cc in no)

number_back : (n : ℕ) → 1 ≤ n → suc (n - 1) ≡ n
number_back n low = omega arith

-- the words of a record that is seen are those of its number
pub words_read : (v u : SeatView) (n : ℕ) (ws : List ℕ) → u ≡ v → 1 ≤ n → n ≤ number_seen v
    → AreWordsOf u (n - 1) ws → ws ≡ words_at v.log.seen.records n
words_read v u n ws same low high are =
    let records : List Record = v.log.seen.records in
    let here = subst (λ (x : SeatView). AreWordsOf x (n - 1) ws) same are in
    here (record_at records n) (slice_get-get_or records (n - 1) _ (omega arith))
    ∙ ap (λ k. log_words (take k records) (record_at records n)) (number_back n low)

-- where the history stands behind an edit
pub edit_stands : (records : List Record) (act : Act) (n : ℕ) → is_edit act ≡ true
    → n ≡ length records + 1 → NextCursor records act n n
edit_stands records act n edit here =
    record {
      now_is = λ session line.
          ap (λ (q : Position). q.now) (position_of_next records (with_act session line act))
          ∙ now_of_edit (length records + 1) act (position_after records) edit ∙ sym here;
      last_is = λ session line.
          last_of_next 1 0 records (with_act session line act)
          ∙ ap (λ test. cond test (1 + length records) (last_edit records)) edit
          ∙ (let e : 1 + length records ≡ n = omega arith in e);
    }

-- and behind an undo and a redo
undo_now : (past : List ℕ) (now : ℕ) (future : List ℕ) (to : ℕ) → slice_get past 0 ≡ Some to
    → (undone past now future).now ≡ to
undo_now [] now future to e = absurd (let no : ⊥ = cc in no)
undo_now (t ∷ past) now future to e = cc

redo_now : (past : List ℕ) (now : ℕ) (future : List ℕ) (to : ℕ) → slice_get future 0 ≡ Some to
    → (redone past now future).now ≡ to
redo_now past now [] to e = absurd (let no : ⊥ = cc in no)
redo_now past now (t ∷ future) to e = cc

pub other_now : (records : List Record) (n : ℕ) (act : Act) (to : ℕ)
    → act_target records act ≡ Some to
    → (next_position n act (position_after records)).now ≡ to
other_now records n (Fill b) to e = absurd (let no : ⊥ = cc in no)
other_now records n (Erase b) to e = absurd (let no : ⊥ = cc in no)
other_now records n (Ball b) to e = absurd (let no : ⊥ = cc in no)
other_now records n (Carve b) to e = absurd (let no : ⊥ = cc in no)
other_now records n (Copy b c) to e = absurd (let no : ⊥ = cc in no)
other_now records n (Stamp m at) to e = absurd (let no : ⊥ = cc in no)
other_now records n (Tint t) to e = absurd (let no : ⊥ = cc in no)
other_now records n Undo to e =
    let at = position_after records in undo_now at.past at.now at.future to e
other_now records n Redo to e =
    let at = position_after records in redo_now at.past at.now at.future to e

pub other_stands : (records : List Record) (act : Act) (to last : ℕ) → is_edit act ≡ false
    → act_target records act ≡ Some to → last ≡ last_edit records → NextCursor records act to last
other_stands records act to last other target is =
    record {
      now_is = λ session line.
          ap (λ (q : Position). q.now) (position_of_next records (with_act session line act))
          ∙ other_now records (length records + 1) act to target;
      last_is = λ session line.
          last_of_next 1 0 records (with_act session line act)
          ∙ ap (λ test. cond test (1 + length records) (last_edit records)) other ∙ sym is;
    }

-- the words of the next record, by where the history then stands
pub words_of_next : (records : List Record) (act : Act) (now last session line : ℕ)
    → NextCursor records act now last
    → log_words (records ++ with_act session line act ∷ []) (with_act session line act)
    ≡ words_by act now last session line
words_of_next records act now last session line stands =
    λ i. words_by act (stands.now_is session line i) (stands.last_is session line i) session line

-- a target that is open is there
open_first : (v : SeatView) (versions : List ℕ) → IsOpenTarget v versions
    → (to : ℕ) × (slice_get versions 0 ≡ Some to) × IsShownUnmarked v to
open_first v [] is = absurd is
open_first v (to ∷ others) is = (to, refl, is)

pub open_target : (v : SeatView) (act : Act) → is_edit act ≡ false → HasOpenTarget v act
    → (to : ℕ) × (act_target v.log.seen.records act ≡ Some to) × IsShownUnmarked v to
open_target v (Fill b) other is = absurd (let no : ⊥ = cc in no)
open_target v (Erase b) other is = absurd (let no : ⊥ = cc in no)
open_target v (Ball b) other is = absurd (let no : ⊥ = cc in no)
open_target v (Carve b) other is = absurd (let no : ⊥ = cc in no)
open_target v (Copy b c) other is = absurd (let no : ⊥ = cc in no)
open_target v (Stamp m at) other is = absurd (let no : ⊥ = cc in no)
open_target v (Tint t) other is = absurd (let no : ⊥ = cc in no)
open_target v Undo other is = open_first v (position_after v.log.seen.records).past is
open_target v Redo other is = open_first v (position_after v.log.seen.records).future is

-- what is no undo and no redo is an edit
pub edit_by_not : (act : Act) → ¬ (act ≡ Undo) → ¬ (act ≡ Redo) → is_edit act ≡ true
edit_by_not (Fill b) no_undo no_redo = refl
edit_by_not (Erase b) no_undo no_redo = refl
edit_by_not (Ball b) no_undo no_redo = refl
edit_by_not (Carve b) no_undo no_redo = refl
edit_by_not (Copy b to) no_undo no_redo = refl
edit_by_not (Stamp m at) no_undo no_redo = refl
edit_by_not (Tint t) no_undo no_redo = refl
edit_by_not Undo no_undo no_redo = absurd (no_undo refl)
edit_by_not Redo no_undo no_redo = absurd (no_redo refl)

-- a version gone to is there
top_below : (n : ℕ) (versions : List ℕ) → All (λ v. v < n + 1) versions
    → IfSome (slice_get versions 0) (λ to. to ≤ n)
top_below n [] below = tt
top_below n (t ∷ rest) below = let low = below 0 t (omega arith) in omega (arith, low)

pub past_there : (records : List Record) → IfSome (past_top records) (λ to. to ≤ length records)
past_there records =
    top_below (length records) (position_after records).past (names_below records).past

pub future_there : (records : List Record)
    → IfSome (future_top records) (λ to. to ≤ length records)
future_there records =
    top_below (length records) (position_after records).future (names_below records).future

gone_there : (records : List Record) (act : Act) (to : ℕ) → act_target records act ≡ Some to
    → to ≤ length records
gone_there records (Fill b) to e = absurd (let no : ⊥ = cc in no)
gone_there records (Erase b) to e = absurd (let no : ⊥ = cc in no)
gone_there records (Ball b) to e = absurd (let no : ⊥ = cc in no)
gone_there records (Carve b) to e = absurd (let no : ⊥ = cc in no)
gone_there records (Copy b c) to e = absurd (let no : ⊥ = cc in no)
gone_there records (Stamp m at) to e = absurd (let no : ⊥ = cc in no)
gone_there records (Tint t) to e = absurd (let no : ⊥ = cc in no)
gone_there records Undo to e =
    subst (λ (t : Option ℕ). IfSome t (λ k. k ≤ length records)) e (past_there records)
gone_there records Redo to e =
    subst (λ (t : Option ℕ). IfSome t (λ k. k ≤ length records)) e (future_there records)

-- where the history stands behind an undo or a redo, as the log's words tell
pub looked_behind : (records : List Record) (act : Act) (behind : Option UndoCursor)
    → is_edit act ≡ false → length records ≤ 65535 → version_of behind ≡ act_target records act
    → IfSome behind (λ s. s.last ≡ last_edit records)
    → IfSome behind (IsNextCursor records act)
looked_behind records act None other few target last = tt
looked_behind records act (Some s) other few target last =
    let low = (threads records).1 in
    let there = gone_there records act s.now (sym target) in
    record {
      next = other_stands records act s.now s.last other (sym target) last;
      small = (omega (arith, there, few), omega (arith, low, last, few));
    }

-- a version that it leads to is there
pub led_there : (records : List Record) (act : Act) (behind : Option UndoCursor)
    → version_of behind ≡ act_target records act
    → IfSome (version_of behind) (λ to. to ≤ length records)
led_there records act None target = tt
led_there records act (Some s) target = gone_there records act s.now (sym target)

-- it is kept for the act
kept_by : (records : List Record) (act : Act) (behind : Option UndoCursor) (a : Lookahead)
    → IfSome behind (IsNextCursor records act) → KnowsNext records act (with_lookahead act behind a)
kept_by records (Fill b) behind a knows = tt
kept_by records (Erase b) behind a knows = tt
kept_by records (Ball b) behind a knows = tt
kept_by records (Carve b) behind a knows = tt
kept_by records (Copy b to) behind a knows = tt
kept_by records (Stamp m at) behind a knows = tt
kept_by records (Tint t) behind a knows = tt
kept_by records Undo behind a knows = knows
kept_by records Redo behind a knows = knows

pub kept_known : (records now : List Record) (act : Act) (behind : Option UndoCursor) (a b : Lookahead)
    → b ≡ with_lookahead act behind a → now ≡ records → IfSome behind (IsNextCursor records act)
    → KnowsNext now act b
kept_known records now act behind a b is same knows =
    subst (λ (x : Lookahead). KnowsNext now act x) (sym is)
    (subst (λ (rs : List Record). KnowsNext rs act (with_lookahead act behind a)) (sym same)
    (kept_by records act behind a knows))

-- what was kept for any act stays so, or is what was found of that act
kept_beside : (records : List Record) (act : Act) (behind : Option UndoCursor) (a : Lookahead)
    → IfSome behind (IsNextCursor records act) → (other : Act) → KnowsNext records other a
    → KnowsNext records other (with_lookahead act behind a)
kept_beside records Undo behind a found Undo knows = found
kept_beside records Undo behind a found Redo knows = knows
kept_beside records Undo behind a found edit knows = tt
kept_beside records Redo behind a found Redo knows = found
kept_beside records Redo behind a found Undo knows = knows
kept_beside records Redo behind a found edit knows = tt
kept_beside records edit behind a found other knows = knows

pub stays_kept : (s t : Sure) (act : Act) (behind : Option UndoCursor)
    → t.ahead ≡ with_lookahead act behind s.ahead
    → t.pass.now.view.log.seen.records ≡ s.pass.now.view.log.seen.records
    → IfSome behind (IsNextCursor s.pass.now.view.log.seen.records act) → KeepsLookahead s t
stays_kept s t act behind is same found other knows =
    subst (λ (a : Lookahead). KnowsNext t.pass.now.view.log.seen.records other a) (sym is)
    (subst (λ (rs : List Record). KnowsNext rs other (with_lookahead act behind s.ahead)) (sym same)
    (kept_beside s.pass.now.view.log.seen.records act behind s.ahead found other knows))

-- for an edit nothing needs to be kept
pub edit_knows : (records : List Record) (act : Act) (a : Lookahead) → is_edit act ≡ true
    → KnowsNext records act a
edit_knows records (Fill b) a edit = tt
edit_knows records (Erase b) a edit = tt
edit_knows records (Ball b) a edit = tt
edit_knows records (Carve b) a edit = tt
edit_knows records (Copy b to) a edit = tt
edit_knows records (Stamp m at) a edit = tt
edit_knows records (Tint t) a edit = tt
edit_knows records Undo a edit = absurd (let no : ⊥ = cc in no)
edit_knows records Redo a edit = absurd (let no : ⊥ = cc in no)

-- what is kept is as right of the same records
pub stays_ahead : (s t : Sure) → t.ahead ≡ s.ahead
    → t.pass.now.view.log.seen.records ≡ s.pass.now.view.log.seen.records → KeepsLookahead s t
stays_ahead s t same records act knows =
    subst (λ (a : Lookahead). KnowsNext t.pass.now.view.log.seen.records act a) (sym same)
    (subst (λ (rs : List Record). KnowsNext rs act s.ahead) (sym records) knows)
