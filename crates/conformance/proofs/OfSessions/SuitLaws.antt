-- Histories that suit their worlds, and the worlds that their stores keep.
use Rattle.std.proofs.Common.{◌≡◌, ℕ, ◌+◌, ◌*◌, ◌/◌, ◌<◌, ◌≤◌, ◌^◌, Bool, true, false, List, [], ◌∷◌, length, get_or, All, refl, ap, sym, subst, ◌∙◌, arith}
use Rattle.std.proofs.lemmas.List.{get_or_append_left}
use Rattle.std.proofs.lemmas.List.Elements.{All-nil, All-cons, All-append, All-head, All-tail, All-weaker}
use Rattle.vw_cell.specs.declared.boxes.Boxed.{Boxed}
use Rattle.vw_cell.specs.declared.cells.Cell.{Cell}
use Rattle.vw_cell.specs.Counts.{cell_at, number_in, number_below-same}
use Rattle.vw_cell.specs.Places.{FitsAt, IsInWorld}
use Rattle.history_model.specs.Contents.{Content}
use Rattle.history_model.specs.declared.histories.Record.{Record}
use Rattle.history_model.specs.declared.questions.Question.{Question}
use Rattle.history_model.specs.Logs.{Log, FitsWorld, IsLegal, IsPlain, side_of_world, suits_tints, world_side}
use Rattle.history_model.specs.Moments.{world_has, world_tint}
use Rattle.history_model.specs.Planes.{StoresTints, plane_at}
use Rattle.history_model.specs.Stores.{store_has, stored_in}
use Rattle.history_model.specs.StoreLaws.{stored_stays}
use Rattle.history_model.specs.Tints.{Tints, SameTints}
use Rattle.history_model.specs.Worlds.{World, plus}
use Rattle.history_model.proofs.MarkLaws.{whole_again}
use Rattle.node_words.specs.Sums.{one_if}
use Rattle.node_words.specs.Plans.{Layout}
use Rattle.core_laws.specs.contents.Versions.{SameWorld}
use Rattle.core_laws.proofs.OfTints.AgreeLaws.{stored_same, tints_same}
use Rattle.core_laws.proofs.OfTints.VersionLaws.{versions_plain, versions_plainly_tinted, versions_set, versions_stored}
use Rattle.script.specs.declared.commands.Command.{Command}
use Rattle.script.specs.declared.commands.Command.TheVariants.{Edit, Forget, Ask, Save, Same, Head}
use Rattle.script.specs.declared.commands.ScriptLine.{ScriptLine}
use Rattle.script.specs.Fitting.{CommandFits}
use Rattle.transcript.specs.declared.answers.Answer.{Answer}
use Rattle.transcript.specs.declared.answers.Answer.TheVariants as answers
use Rattle.transcript.specs.declared.answers.LineAnswer.{LineAnswer}
use Rattle.conformance.specs.Answers.{ExtendsLog}
use Rattle.conformance.specs.Shown.{Accepted, SameItems, numbered, accepted_by}
use Rattle.conformance.specs.QuestionAnswers.{AnswersTo}
use Rattle.conformance.proofs.Seeing.{longer}
use Rattle.conformance.specs.sessions.SessionViews.{SessionOf, SessionView, MayTint, MayKeep, SuitsWorld, AllowsWhole, log_as}
use Rattle.conformance.specs.sessions.Lines.{SuitsCommand}
use Rattle.conformance.specs.sessions.Ran.{ClosesWorld, SessionsRanKeeping, records_of_all}
use Rattle.conformance.specs.sessions.CallSpecs.{AnswersStored, plainly_tinted}
use Rattle.conformance.proofs.OfSessions.Items.{same_numbers, where_so}
use Rattle.core_laws.proofs.OfTints.TintBounds.{versions_small}

-- ---- plain histories

-- a store has the cells of the world
plain_cells : (models : List Content) (log : Log) → IsPlain log → (v : ℕ)
    → store_has models log v ≡ world_has models log.records v
plain_cells models log plain v = λ i p. versions_plain models log plain v p i

-- each set cell of which has tint 1
plain_tints : (models : List Content) (log : Log) → IsPlain log → (v : ℕ)
    → plainly_tinted (store_has models log v) ≡ world_tint models log.records v
plain_tints models log plain v =
    ap plainly_tinted (plain_cells models log plain v)
    ∙ sym (λ i p. versions_plainly_tinted models log plain v p i)

same_ones : (a b : Bool) → one_if a ≡ one_if b → a ≡ b
same_ones true true e = refl
same_ones true false e = absurd (omega arith)
same_ones false true e = absurd (omega arith)
same_ones false false e = refl

-- the acts of a history that isn't coloured have no tint
plainly_suits : (p : Layout) (models : List Content) (log : Log) → SuitsWorld false p models log
    → IsPlain log
plainly_suits p models log suits = record {
  coloured = suits.coloured;
  acts = subst (λ (c : Bool). All (λ r. suits_tints c r.act ≡ true) log.records) suits.coloured
      suits.acts;
}

-- ---- coloured histories

module _ (p : Layout) (models : List Content) (log : Log) (suits : SuitsWorld true p models log)
  where
    -- the side of the world
    abbrev quarter : ℕ
    quarter = 2 ^ log.side / 4

    again : 4 * quarter ≡ 2 ^ log.side
    again =
        subst (λ (n : ℕ). 4 * (n / 4) ≡ n) (sym suits.keeps.side)
        (whole_again p.side suits.keeps.can.large)

    fit_here : All (λ r. FitsWorld (2 ^ log.side) models r.act) log.records
    fit_here =
        subst (λ (n : ℕ). All (λ r. FitsWorld n models r.act) log.records) (sym suits.keeps.side)
        suits.keeps.fit

    stored : (v : ℕ)
        → StoresTints quarter (world_tint models log.records v) (store_has models log v)
    stored v = versions_stored models log suits.coloured suits.acts fit_here v

    small : (v : ℕ) (c : Cell) → world_tint models log.records v c < 2 ^ 8
    small v c =
        versions_small (2 ^ p.side) models log.records suits.keeps.can.colours suits.keeps.fit v c

    from_none : (x : ℕ) → 0 + x ≡ x
    from_none x = omega arith

    first_at : (c : Cell) → plus (plane_at quarter 0) c ≡ c
    first_at c = λ i. cell_at (from_none c.x i) (from_none c.y i) (from_none c.z i)

    -- the first plane has the cells of the world
    first_plane : (v : ℕ) (c : Cell) → IsInWorld quarter c
        → store_has models log v c ≡ world_has models log.records v c
    first_plane v c i =
        ap (store_has models log v) (sym (first_at c)) ∙ (stored v).each 0 c (omega arith) i
        ∙ versions_set (2 ^ p.side) models log.records suits.keeps.fit v c

    in_quarters : (c : Cell) → IsInWorld (4 * quarter) c → IsInWorld (2 ^ log.side) c
    in_quarters c i = subst (λ (n : ℕ). IsInWorld n c) again i

    in_store : (c : Cell) → IsInWorld (2 ^ log.side) c → IsInWorld (4 * quarter) c
    in_store c i = subst (λ (n : ℕ). IsInWorld n c) (sym again) i

    coloured_same : (v w : ℕ)
        → SameWorld (2 ^ log.side) (store_has models log v) (store_has models log w)
        → SameTints quarter (world_tint models log.records v) (world_tint models log.records w)
    coloured_same v w alike = record {
      each = λ c i.
          tints_same quarter (world_tint models log.records v) (world_tint models log.records w)
          (store_has models log v) (store_has models log w) (stored v) (stored w)
          (λ q j. alike.each q (in_quarters q j)) c i (small v c) (small w c);
    }

    coloured_stored : (v w : ℕ)
        → SameTints quarter (world_tint models log.records v) (world_tint models log.records w)
        → SameWorld (2 ^ log.side) (store_has models log v) (store_has models log w)
    coloured_stored v w alike = record {
      each = λ q j.
          stored_same quarter (world_tint models log.records v) (world_tint models log.records w)
          (store_has models log v) (store_has models log w) (stored v) (stored w)
          (λ c i. alike.each c i) q (in_store q j);
    }

-- ---- what the store of a history that suits its world keeps

-- the side of the world
world_side_is : (tint : Bool) (p : Layout) (models : List Content) (log : Log)
    → SuitsWorld tint p models log → world_side log ≡ side_of_world tint (2 ^ log.side)
world_side_is tint p models log suits =
    ap (λ (c : Bool). side_of_world c (2 ^ log.side)) suits.coloured

-- its cells in the world
pub store_keeps : (tint : Bool) (p : Layout) (models : List Content) (log : Log)
    → SuitsWorld tint p models log → (v : ℕ) (c : Cell)
    → IsInWorld (side_of_world tint (2 ^ log.side)) c
    → store_has models log v c ≡ world_has models log.records v c
store_keeps false p models log suits v c i =
    versions_plain models log (plainly_suits p models log suits) v c
store_keeps true p models log suits v c i = first_plane p models log suits v c i

-- so a box of the world has as many
pub box_keeps : (tint : Bool) (p : Layout) (models : List Content) (log : Log)
    → SuitsWorld tint p models log → (v : ℕ) (b : Boxed)
    → FitsAt b.at b.size (side_of_world tint (2 ^ p.side))
    → number_in b (store_has models log v) ≡ number_in b (world_has models log.records v)
box_keeps false p models log suits v b fits =
    number_below-same b.size _ _ (λ q below.
    versions_plain models log (plainly_suits p models log suits) v
    (cell_at (b.at.x + q.x) (b.at.y + q.y) (b.at.z + q.z)))
box_keeps true p models log suits v b fits =
    let here : FitsAt b.at b.size (side_of_world true (2 ^ log.side)) =
    subst (λ (n : ℕ). FitsAt b.at b.size (side_of_world true n)) (sym suits.keeps.side) fits
    in
    number_below-same b.size _ _ (λ q below.
    first_plane p models log suits v (cell_at (b.at.x + q.x) (b.at.y + q.y) (b.at.z + q.z))
    (record {
      x = omega (arith, here.x, below.x);
      y = omega (arith, here.y, below.y);
      z = omega (arith, here.z, below.z);
    }))

-- what is told of the world that it keeps is told of the world
pub told_of_world : (tint : Bool) (p : Layout) (models : List Content) (log : Log)
    → SuitsWorld tint p models log → (v : ℕ) (question : Question) (answer : Answer)
    → AnswersStored tint (2 ^ log.side) (store_has models log v) question answer
    → AnswersTo (world_side log) (world_has models log.records v) (world_tint models log.records v)
    question answer
told_of_world false p models log suits v question answer told =
    let plain = plainly_suits p models log suits in
    subst (λ (side : ℕ). AnswersTo side (world_has models log.records v)
    (world_tint models log.records v) question answer)
    (sym (world_side_is false p models log suits))
    (subst (λ (t : Tints). AnswersTo (2 ^ log.side) (world_has models log.records v) t question answer)
    (plain_tints models log plain v)
    (subst (λ (w : World). AnswersTo (2 ^ log.side) w (plainly_tinted (store_has models log v)) question
    answer) (plain_cells models log plain v) told))
told_of_world true p models log suits v question answer told =
    subst (λ (side : ℕ). AnswersTo side (world_has models log.records v)
    (world_tint models log.records v) question answer)
    (sym (world_side_is true p models log suits))
    (told (world_has models log.records v) (world_tint models log.records v)
    (stored p models log suits v) (λ c i. small p models log suits v c)
    (λ c i. versions_set (2 ^ p.side) models log.records suits.keeps.fit v c))

-- versions have the same tints where the store has the same cells
pub same_tints : (tint : Bool) (p : Layout) (models : List Content) (log : Log)
    → SuitsWorld tint p models log → (v w : ℕ)
    → SameWorld (2 ^ log.side) (store_has models log v) (store_has models log w)
    → SameTints (world_side log) (world_tint models log.records v)
    (world_tint models log.records w)
same_tints false p models log suits v w alike =
    let plain = plainly_suits p models log suits in
    subst (λ (side : ℕ). SameTints side (world_tint models log.records v)
    (world_tint models log.records w)) (sym (world_side_is false p models log suits))
    (record {
      each = λ q i.
          ap (λ (t : Tints). t q) (sym (plain_tints models log plain v))
          ∙ ap one_if (alike.each q i) ∙ ap (λ (t : Tints). t q) (plain_tints models log plain w);
    })
same_tints true p models log suits v w alike =
    subst (λ (side : ℕ). SameTints side (world_tint models log.records v)
    (world_tint models log.records w)) (sym (world_side_is true p models log suits))
    (coloured_same p models log suits v w alike)

-- and the other way
pub same_cells : (tint : Bool) (p : Layout) (models : List Content) (log : Log)
    → SuitsWorld tint p models log → (v w : ℕ)
    → SameTints (world_side log) (world_tint models log.records v)
    (world_tint models log.records w)
    → SameWorld (2 ^ log.side) (store_has models log v) (store_has models log w)
same_cells false p models log suits v w alike =
    let plain = plainly_suits p models log suits in
    let here = subst (λ (side : ℕ). SameTints side (world_tint models log.records v)
    (world_tint models log.records w)) (world_side_is false p models log suits) alike in
    record {
      each = λ q i.
          same_ones (store_has models log v q) (store_has models log w q)
          (ap (λ (t : Tints). t q) (plain_tints models log plain v) ∙ here.each q i
          ∙ ap (λ (t : Tints). t q) (sym (plain_tints models log plain w)));
    }
same_cells true p models log suits v w alike =
    coloured_stored p models log suits v w
    (subst (λ (side : ℕ). SameTints side (world_tint models log.records v)
    (world_tint models log.records w)) (world_side_is true p models log suits) alike)

-- ---- earlier histories

-- records and marks go on whatever they are of
pub goes_as : (coloured : Bool) (old new : Log) → ExtendsLog old new
    → ExtendsLog (log_as coloured old) (log_as coloured new)
goes_as coloured old new g = record {
  side = g.side;
  coloured = refl;
  more = g.more;
  records = g.records;
  marks = g.marks;
}

all_before : (P : Record → Type 0) (old new : Log) → ExtendsLog old new → All P new.records
    → All P old.records
all_before P old new g all i d lt =
    let wide = longer old new g in
    subst P (get_or_append_left old.records g.more d i lt)
    (subst (λ (rs : List Record). P (get_or rs i d)) g.records (all i d (omega arith)))

-- a history that goes on keeps tints as the earlier does
keeps_before : (tint : Bool) (p : Layout) (models : List Content) (old new : Log)
    → ExtendsLog old new → MayKeep tint p models new → MayKeep tint p models old
keeps_before false p models old new g keeps = tt
keeps_before true p models old new g keeps = record {
  side = ap (λ (n : ℕ). 2 ^ n) (sym g.side) ∙ keeps.side;
  can = keeps.can;
  fit = all_before (λ r. FitsWorld (2 ^ p.side) models r.act) old new g keeps.fit;
}

pub suits_before : (tint : Bool) (p : Layout) (models : List Content) (old new : Log)
    → ExtendsLog old new → SuitsWorld tint p models new → SuitsWorld tint p models old
suits_before tint p models old new g suits = record {
  coloured = sym g.coloured ∙ suits.coloured;
  acts = subst (λ (c : Bool). All (λ r. suits_tints c r.act ≡ true) old.records) g.coloured
      (all_before (λ r. suits_tints new.coloured r.act ≡ true) old new g suits.acts);
  keeps = keeps_before tint p models old new g suits.keeps;
}

-- a legal history keeps the tints of a world that can have some
legal_keeps : (tint : Bool) (p : Layout) (models : List Content) (log : Log)
    → IsLegal (2 ^ p.side) models log → MayTint tint p models → MayKeep tint p models log
legal_keeps false p models log legal may = tt
legal_keeps true p models log legal may = record {
  side = legal.same_side;
  can = may;
  fit = legal.fit;
}

-- whose world then can
pub may_tint : (tint : Bool) (p : Layout) (models : List Content) (log : Log)
    → MayKeep tint p models log → MayTint tint p models
may_tint false p models log keeps = tt
may_tint true p models log keeps = keeps.can

-- a whole history that a view allows
pub whole_suits : (of : SessionOf) (s : SessionView) (whole : Log) → AllowsWhole of s whole
    → SuitsWorld of.tint of.plan of.models whole
whole_suits of s whole is = record {
  coloured = is.coloured;
  acts = is.suits;
  keeps = legal_keeps of.tint of.plan of.models whole is.legal is.may;
}

-- what a session saw of a store's version is what the store has
pub store_stays : (models : List Content) (old new : Log) (v : ℕ) → ExtendsLog old new
    → v ≤ length old.records → store_has models new v ≡ store_has models old v
store_stays models old new v g le =
    (λ i. stored_in (2 ^ (g.side i)) models (g.records i) v)
    ∙ (λ i q. stored_stays (2 ^ old.side) models old.records g.more v q le i)

-- ---- what sessions did

-- the change suits the world
abbrev DoneSuits : Bool → Accepted → Type 0
DoneSuits tint c = suits_tints tint c.entry.act ≡ true

-- what a line accepts suits where its command does
pub accepted_suit : (tint : Bool) (session line : ℕ) (command : Command) (n : ℕ) (answer : Answer)
    → SuitsCommand tint command
    → All (λ (c : Accepted). suits_tints tint c.entry.act ≡ true)
    (accepted_by session line command n answer)
accepted_suit tint session line (Edit act once) n answers.Done suits =
    All-cons (DoneSuits tint) _ [] suits (All-nil (DoneSuits tint))
accepted_suit tint session line (Edit act once) n _ suits = All-nil (DoneSuits tint)
accepted_suit tint session line _ n answer suits = All-nil (DoneSuits tint)

pub command_suits : (tint : Bool) (side : ℕ) (models : List Content) (command : Command)
    → CommandFits tint side models command → SuitsCommand tint command
command_suits tint side models (Edit act once) fits = fits.1
command_suits tint side models (Forget v) fits = tt
command_suits tint side models (Ask version question) fits = tt
command_suits tint side models (Save version name part) fits = tt
command_suits tint side models (Same v w) fits = tt
command_suits tint side models Head fits = tt

all_suit : (keep : ℕ) (tint : Bool) (p : Layout) (models : List Content) (first : ℕ)
    (scripts : List (List ScriptLine)) (transcripts : List (List LineAnswer))
    (sessions : List SessionView)
    → SessionsRanKeeping keep tint p models first scripts transcripts sessions
    → All (DoneSuits tint) (records_of_all sessions)
all_suit keep tint p models first [] [] [] ran = All-nil (DoneSuits tint)
all_suit keep tint p models first (script ∷ scripts) (answers ∷ transcripts) (s ∷ sessions) ran =
    All-append (DoneSuits tint) s.records (records_of_all sessions) ran.0.suit
    (all_suit keep tint p models (first + 1) scripts transcripts sessions ran.1)
all_suit keep tint p models first _ _ _ ran = absurd ran

suit_number : (b : Bool) → where_so b 1 ≡ 1 → b ≡ true
suit_number true e = refl
suit_number false e = absurd (omega arith)

numbered_suit : (tint : Bool) (n : ℕ) (records : List Record)
    → All (DoneSuits tint) (numbered n records)
    → All (λ r. suits_tints tint r.act ≡ true) records
numbered_suit tint n [] all = All-nil (λ (r : Record). suits_tints tint r.act ≡ true)
numbered_suit tint n (r ∷ more) all =
    All-cons (λ (q : Record). suits_tints tint q.act ≡ true) r more
    (All-head (DoneSuits tint) (record { at = n; entry = r }) (numbered (n + 1) more) all)
    (numbered_suit tint (n + 1) more
    (All-tail (DoneSuits tint) (record { at = n; entry = r }) (numbered (n + 1) more) all))

-- so do all acts of a history of sessions whose own do
acts_suit : (keep : ℕ) (tint : Bool) (p : Layout) (models : List Content)
    (scripts : List (List ScriptLine)) (transcripts : List (List LineAnswer))
    (sessions : List SessionView) (log : Log)
    → SessionsRanKeeping keep tint p models 0 scripts transcripts sessions
    → SameItems (numbered 1 log.records) (records_of_all sessions)
    → All (λ r. suits_tints tint r.act ≡ true) log.records
acts_suit keep tint p models scripts transcripts sessions log ran same =
    numbered_suit tint 1 log.records
    (All-weaker (λ (c : Accepted). where_so (suits_tints tint c.entry.act) 1 ≡ 1) (DoneSuits tint)
    (λ c e. suit_number (suits_tints tint c.entry.act) e) (numbered 1 log.records)
    (same_numbers (λ (c : Accepted). where_so (suits_tints tint c.entry.act) 1) 1
    (numbered 1 log.records) (records_of_all sessions) same
    (All-weaker (DoneSuits tint)
    (λ (c : Accepted). where_so (suits_tints tint c.entry.act) 1 ≡ 1)
    (λ c e. ap (λ (b : Bool). where_so b 1) e) (records_of_all sessions)
    (all_suit keep tint p models 0 scripts transcripts sessions ran))))

-- and it suits its world, where that was closed
pub history_suits : (keep : ℕ) (tint : Bool) (p : Layout) (models : List Content)
    (scripts : List (List ScriptLine)) (transcripts : List (List LineAnswer))
    (sessions : List SessionView) (log : Log)
    → SessionsRanKeeping keep tint p models 0 scripts transcripts sessions
    → ClosesWorld tint p models sessions log → SuitsWorld tint p models log
history_suits keep tint p models scripts transcripts sessions log ran closes = record {
  coloured = closes.coloured;
  acts = subst (λ (c : Bool). All (λ r. suits_tints c r.act ≡ true) log.records)
      (sym closes.coloured)
      (acts_suit keep tint p models scripts transcripts sessions log ran closes.records);
  keeps = legal_keeps tint p models log closes.legal closes.may;
}
