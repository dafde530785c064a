-- What was made and met for lines goes on to be so, and comes to what a run keeps.
use Rattle.std.proofs.Common.{ℕ, ◌≤◌, List, [], ◌∷◌, ◌++◌, length, refl, sym, subst, arith, append-nil}
use Rattle.std.specs.List.{AllZip, Contains}
use Rattle.std.proofs.lemmas.List.Elements.{All-nil, All-append, All-weaker, Contains-append_left, Contains-append_right}
use Rattle.history_model.specs.Contents.{Content}
use Rattle.history_model.specs.declared.histories.Record.{Record}
use Rattle.history_model.specs.Logs.{Log}
use Rattle.node_words.specs.shapes.Shape.{Shape}
use Rattle.node_words.specs.Held.{Wanted}
use Rattle.node_words.specs.Plans.{Layout}
use Rattle.conformance.specs.possible.Needed.{Span}
use Rattle.script.specs.declared.commands.Command.{Command}
use Rattle.script.specs.declared.commands.Command.TheVariants.{Edit, Forget, Ask, Save, Same, Head}
use Rattle.script.specs.declared.commands.ScriptLine.{ScriptLine}
use Rattle.transcript.specs.declared.answers.LineAnswer.{LineAnswer}
use Rattle.conformance.specs.Answers.{ExtendsLog}
use Rattle.conformance.specs.Refusing.{Refusal, span_by, spans_in, refused_by, refused_in}
use Rattle.conformance.proofs.LineKinds.{goes_nowhere}
use Rattle.conformance.specs.scripts.Keeping.{MadeAndMet, MakesFor, WasMet, LineMakes, IsMadeInRun, KeepsMade, last_moment}
use Rattle.conformance.proofs.OfScripts.Refusals.{makes_more, wanted_stays, was_met_stays, append_more}
use Rattle.conformance.specs.sessions.Notes.{LineNotes, LinesNote}
use Rattle.conformance.specs.sessions.Ran.{IsAnswered}

-- ---- a longer history

module _ (p : Layout) (models : List Content) (old new : Log) (g : ExtendsLog old new) where
  makes_stays : (command : Command) (first last : ℕ) (s : Shape) → last ≤ length old.records
      → MakesFor p models old.records command first last s
      → MakesFor p models new.records command first last s
  makes_stays (Edit act once) first last s within m = record {
    version = m.version;
    low = m.low;
    high = m.high;
    wanted = wanted_stays p models old new g act m.version s
        (let high = m.high in omega arith) m.wanted;
  }
  makes_stays (Forget v) first last s within m = absurd m
  makes_stays (Ask version question) first last s within m = absurd m
  makes_stays (Save version name part) first last s within m = absurd m
  makes_stays (Same v w) first last s within m = absurd m
  makes_stays Head first last s within m = absurd m

  line_notes_stay : (first : ℕ) (l : ScriptLine) (a : LineAnswer) (before after : MadeAndMet)
      → a.at ≤ length old.records → LineNotes p models old.records first l a before after
      → LineNotes p models new.records first l a before after
  line_notes_stay first l a before after within n = record {
    more = n.more;
    made = n.made;
    further = n.further;
    met = n.met;
    parts = All-weaker (MakesFor p models old.records l.command first a.at)
        (MakesFor p models new.records l.command first a.at)
        (λ s m. makes_stays l.command first a.at s within m) n.more n.parts;
    wanted =
        All-weaker (λ w. MakesFor p models old.records l.command first a.at w.shape)
        (λ w. MakesFor p models new.records l.command first a.at w.shape)
        (λ w m. makes_stays l.command first a.at w.shape within m) n.further n.wanted;
    was_met = All-weaker (WasMet p models old.records n.further)
        (WasMet p models new.records n.further)
        (λ r m. was_met_stays p models old new g n.further [] r m)
        (refused_by l.command a.at a.answer) n.was_met;
  }

  pub notes_stay : (n first : ℕ) (lines : List ScriptLine) (answers : List LineAnswer)
      (before after : MadeAndMet) → n ≤ length old.records → AllZip (IsAnswered n) lines answers
      → LinesNote p models old.records first lines answers before after
      → LinesNote p models new.records first lines answers before after
  notes_stay n first [] [] before after le all notes = notes
  notes_stay n first [] (a ∷ answers) before after le all notes = absurd notes
  notes_stay n first (l ∷ lines) [] before after le all notes = absurd notes
  notes_stay n first (l ∷ lines) (a ∷ answers) before after le all notes =
      let within = all.0.within in (
        notes.0,
        line_notes_stay first l a before notes.0
            (omega arith) notes.1,
        notes_stay n a.at lines answers notes.0 after le all.1 notes.2,
      )

-- ---- one more line

pub notes_push : (p : Layout) (models : List Content) (records : List Record) (first : ℕ)
    (lines : List ScriptLine) (answers : List LineAnswer) (before between after : MadeAndMet)
    (l : ScriptLine) (a : LineAnswer)
    → LinesNote p models records first lines answers before between
    → LineNotes p models records (last_moment first answers) l a between after
    → LinesNote p models records first (lines ++ l ∷ []) (answers ++ a ∷ []) before after
notes_push p models records first [] [] before between after l a notes line = (
  after,
  subst
      (λ (m : MadeAndMet). LineNotes p models records first l a m after) notes line,
  refl,
)
notes_push p models records first [] (b ∷ answers) before between after l a notes line =
    absurd notes
notes_push p models records first (k ∷ lines) [] before between after l a notes line = absurd notes
notes_push p models records first (k ∷ lines) (b ∷ answers) before between after l a notes line =
    (notes.0, notes.1, notes_push p models records b.at lines answers notes.0 between after l a notes.2 line)

-- what is told from a later moment on holds from an earlier one on
makes_from : (p : Layout) (models : List Content) (records : List Record) (command : Command)
    (first low last : ℕ) (s : Shape) → first ≤ low → MakesFor p models records command low last s
    → MakesFor p models records command first last s
makes_from p models records (Edit act once) first low last s le m =
    (let from = m.low in
    record { version = m.version; low = omega arith; high = m.high; wanted = m.wanted })
makes_from p models records (Forget v) first low last s le m = absurd m
makes_from p models records (Ask version question) first low last s le m = absurd m
makes_from p models records (Save version name part) first low last s le m = absurd m
makes_from p models records (Same v w) first low last s le m = absurd m
makes_from p models records Head first low last s le m = absurd m

pub line_notes_from : (p : Layout) (models : List Content) (records : List Record) (first low : ℕ)
    (l : ScriptLine) (a : LineAnswer) (before after : MadeAndMet) → first ≤ low
    → LineNotes p models records low l a before after
    → LineNotes p models records first l a before after
line_notes_from p models records first low l a before after le n = record {
  more = n.more;
  made = n.made;
  further = n.further;
  met = n.met;
  parts = All-weaker (MakesFor p models records l.command low a.at)
      (MakesFor p models records l.command first a.at)
      (λ s m. makes_from p models records l.command first low a.at s le m) n.more n.parts;
  wanted =
      All-weaker (λ w. MakesFor p models records l.command low a.at w.shape)
      (λ w. MakesFor p models records l.command first a.at w.shape)
      (λ w m. makes_from p models records l.command first low a.at w.shape le m) n.further n.wanted;
  was_met = n.was_met;
}

-- ---- what a run keeps

line_makes : (p : Layout) (models : List Content) (records : List Record) (first : ℕ)
    (l : ScriptLine) (a : LineAnswer) (old new : MadeAndMet)
    → LineNotes p models records first l a old new → LineMakes p models first l a records old new
line_makes p models records first l a old new n = record {
  more = n.more;
  made = n.made;
  parts = n.parts;
  further = n.further;
  met = n.met;
  was_met =
      All-weaker (WasMet p models records n.further) (WasMet p models records new.met)
      (λ r m. record {
        shape = m.shape;
        is_met = m.is_met;
        listed = subst
            (λ (ws : List Wanted). Contains ws
            (record { level = r.level; bucket = r.bucket; shape = m.shape })) (sym n.met)
            (Contains-append_left n.further old.met _ m.listed);
        there = m.there;
      }) (refused_by l.command a.at a.answer) n.was_met;
}

notes_keep : (p : Layout) (models : List Content) (log : Log) (n first : ℕ)
    (lines : List ScriptLine) (answers : List LineAnswer) (spans : List Span)
    (refused : List Refusal) (old new : MadeAndMet) → n ≤ length log.records
    → AllZip (IsAnswered n) lines answers
    → KeepsMade p models log.records spans refused old
    → LinesNote p models log.records first lines answers old new
    → KeepsMade p models log.records (spans ++ spans_in first lines answers)
    (refused ++ refused_in lines answers) new
notes_keep p models log n first [] [] spans refused old new le all keeps notes =
    subst (λ (ss : List Span). KeepsMade p models log.records ss (refused ++ []) new)
    (sym (append-nil spans))
    (subst (λ (rs : List Refusal). KeepsMade p models log.records spans rs new)
    (sym (append-nil refused))
    (subst (λ (m : MadeAndMet). KeepsMade p models log.records spans refused m) (sym notes) keeps))
notes_keep p models log n first [] (a ∷ answers) spans refused old new le all keeps notes =
    absurd notes
notes_keep p models log n first (l ∷ lines) [] spans refused old new le all keeps notes =
    absurd notes
notes_keep p models log n first (l ∷ lines) (a ∷ answers) spans refused old new le all keeps notes =
    let within = all.0.within in
    let more =
    makes_more p models log log spans refused old notes.0 first l a (goes_nowhere log)
    (omega arith) keeps (line_makes p models log.records first l a old notes.0 notes.1) in
    let rest =
    notes_keep p models log n a.at lines answers (spans ++ span_by first l.command a.at)
    (refused ++ refused_by l.command a.at a.answer) notes.0 new le all.1 more notes.2 in
    subst (λ (ss : List Span). KeepsMade p models log.records ss
    (refused ++ refused_in (l ∷ lines) (a ∷ answers)) new)
    (append_more spans (span_by first l.command a.at) (spans_in a.at lines answers))
    (subst (λ (rs : List Refusal). KeepsMade p models log.records
    ((spans ++ span_by first l.command a.at) ++ spans_in a.at lines answers) rs new)
    (append_more refused (refused_by l.command a.at a.answer)
    (refused_in lines answers)) rest)

-- from nothing
pub notes_are_kept : (p : Layout) (models : List Content) (log : Log) (n : ℕ)
    (lines : List ScriptLine) (answers : List LineAnswer) (new : MadeAndMet)
    → n ≤ length log.records → AllZip (IsAnswered n) lines answers
    → LinesNote p models log.records 0 lines answers (record { made = []; met = [] }) new
    → KeepsMade p models log.records (spans_in 0 lines answers) (refused_in lines answers) new
notes_are_kept p models log n lines answers new le all notes =
    notes_keep p models log n 0 lines answers [] [] (record { made = []; met = [] }) new le all
    (record { made_in = All-nil _; was_met = All-nil _ }) notes

-- ---- of two

wider_made : (p : Layout) (models : List Content) (records : List Record) (spans more : List Span)
    (s : Shape) → ((x : Span) → Contains spans x → Contains more x)
    → IsMadeInRun p models records spans s → IsMadeInRun p models records more s
wider_made p models records spans more s wide m = record {
  made = record { span = m.made.span; listed = wide m.made.span m.made.listed; version = m.made.version; low = m.made.low; high = m.made.high; wanted = m.made.wanted };
  there = m.there;
}

wider_met : (p : Layout) (models : List Content) (records : List Record) (noted more : List Wanted)
    (r : Refusal) → ((x : Wanted) → Contains noted x → Contains more x)
    → WasMet p models records noted r → WasMet p models records more r
wider_met p models records noted more r wide m =
    record { shape = m.shape; is_met = m.is_met; listed = wide _ m.listed; there = m.there }

pub keep_both : (p : Layout) (models : List Content) (records : List Record)
    (spans more : List Span) (refused further : List Refusal) (a b : MadeAndMet)
    → KeepsMade p models records spans refused a → KeepsMade p models records more further b
    → KeepsMade p models records (spans ++ more) (refused ++ further)
    (record { made = a.made ++ b.made; met = a.met ++ b.met })
keep_both p models records spans more refused further a b first second = record {
  made_in =
      All-append (IsMadeInRun p models records (spans ++ more)) a.made b.made
      (All-weaker (IsMadeInRun p models records spans) _
      (λ s m. wider_made p models records spans (spans ++ more) s
      (λ x there. Contains-append_left spans more x there) m) a.made first.made_in)
      (All-weaker (IsMadeInRun p models records more) _
      (λ s m. wider_made p models records more (spans ++ more) s
      (λ x there. Contains-append_right spans more x there) m) b.made second.made_in);
  was_met =
      All-append (WasMet p models records (a.met ++ b.met)) refused further
      (All-weaker (WasMet p models records a.met) _
      (λ r m. wider_met p models records a.met (a.met ++ b.met) r
      (λ x there. Contains-append_left a.met b.met x there) m) refused first.was_met)
      (All-weaker (WasMet p models records b.met) _
      (λ r m. wider_met p models records b.met (a.met ++ b.met) r
      (λ x there. Contains-append_right a.met b.met x there) m) further second.was_met);
}
