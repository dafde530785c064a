-- What each answer of a session's calls makes of the line that it answers.
use Rattle.std.proofs.Common.{◌≡◌, ap, ℕ, ◌<◌, ◌^◌, Bool, true, false, Option, Some, List, [], ◌++◌, length, Result, Ok, Err, refl, sym, subst, ◌∙◌, inl, inr, arith, append-nil}
use Rattle.std.specs.Prelude.{All}
use Rattle.std.proofs.lemmas.Option.{same_Some}
use Rattle.std.specs.List.{Contains}
use Rattle.vw_cell.specs.declared.boxes.Boxed.{Boxed}
use Rattle.vw_cell.specs.Counts.{number_in}
use Rattle.history_model.specs.declared.acts.Act.{Act}
use Rattle.history_model.specs.declared.histories.Mark.{Mark}
use Rattle.history_model.specs.declared.questions.Question.{Question}
use Rattle.history_model.specs.Logs.{side_of_world}
use Rattle.history_model.specs.Stores.{store_has}
use Rattle.core_laws.specs.contents.Versions.{SameWorld}
use Rattle.script.specs.declared.commands.Command.{Command}
use Rattle.script.specs.declared.commands.Command.TheVariants.{Edit, Forget, Ask, Save, Same, Head}
use Rattle.script.specs.declared.commands.SaveName.{SaveName}
use Rattle.script.specs.declared.commands.ScriptLine.{ScriptLine}
use Rattle.script.specs.Fitting.{SaveFits}
use Rattle.transcript.specs.declared.answers.Answer.{Answer}
use Rattle.transcript.specs.declared.answers.Answer.TheVariants as answers
use Rattle.transcript.specs.declared.answers.LineAnswer.{LineAnswer}
use Rattle.conformance.specs.Answers.{Answers, IsForgotten, IsReadable, Names, LooksUp, asked_version, tells, saves, same, different, head, no_version, forgotten, is_head, nothing_to_undo, nothing_to_redo, log_full}
use Rattle.conformance.specs.Passes.{IsLooked}
use Rattle.conformance.specs.Refusing.{refused_by}
use Rattle.conformance.specs.Saves.{saved_by}
use Rattle.conformance.specs.declared.sessions.calls.ActAnswer.{ActAnswer}
use Rattle.conformance.specs.declared.sessions.calls.ActAnswer.TheVariants as acts
use Rattle.conformance.specs.declared.sessions.calls.OnceAnswer.{OnceAnswer}
use Rattle.conformance.specs.declared.sessions.calls.OnceAnswer.TheVariants as onces
use Rattle.conformance.specs.declared.sessions.calls.AskedAt.{AskedAt}
use Rattle.conformance.specs.declared.sessions.calls.SavedAt.{SavedAt}
use Rattle.retain.specs.declared.refusals.PinRefused.{PinRefused}
use Rattle.retain.specs.declared.refusals.PinRefused.TheVariants as pins
use Rattle.retain.specs.declared.refusals.ForgetRefused.{ForgetRefused}
use Rattle.retain.specs.declared.refusals.ForgetRefused.TheVariants as forgets
use Rattle.retain.specs.declared.comparing.SameAt.{SameAt}
use Rattle.retain.specs.declared.comparing.SameRefused.{SameRefused}
use Rattle.retain.specs.declared.comparing.SameRefused.TheVariants as sames
use Rattle.conformance.specs.sessions.Calls.{KnowsOwn, AcceptsNothing, OnlySees, FindsVersion, SeesForgotten}
use Rattle.conformance.specs.sessions.Lines.{AreEarlier, AnswersLine}
use Rattle.conformance.specs.sessions.Saves.{version_saved, versions_of}
use Rattle.conformance.specs.sessions.SessionViews.{SessionOf, SessionView, history_seen}
use Rattle.conformance.specs.sessions.CallSpecs.{WasAsked, IsSeenLength, NamesNone, NamesMarked, ActSpec, OnceSpec, AskSpec, SaveSpec, ForgetSpec, SameSpec, HeadSpec, IsEqual, NamesVersion, AnswersStored, answered, act_line, once_line, ask_line, save_line, forget_line, same_line, named_version}
use Rattle.conformance.proofs.OfSessions.SuitLaws.{box_keeps, same_cells, same_tints, told_of_world}
use Rattle.conformance.proofs.OfSessions.Arms.{accepted_arm, full_arm, stale_arm, refused_arm, forgot_arm, resting_arm, found_readable, marked_forgotten, found_way}

module _ (of : SessionOf) (old new : SessionView) (knows : KnowsOwn of.number new) where
  -- what is shown at the length that was seen holds at the answer's moment
  at_moment : (l : ScriptLine) (at : ℕ) (answer : Answer) → IsSeenLength new at
      → AnswersLine of l old new
      (record { line = l.line; at = length new.log.records; answer = answer })
      → AnswersLine of l old new (record { line = l.line; at = at; answer = answer })
  at_moment l at answer at_is takes = subst
      (λ (n : ℕ). AnswersLine of l old new (record { line = l.line; at = n; answer = answer }))
      (sym at_is) takes

  -- the own marks are the earlier ones, where nothing was accepted
  still_earlier : (line : ℕ) → AcceptsNothing old new → AreEarlier old line → AreEarlier new line
  still_earlier line nothing earlier = subst (λ (ms : List Mark). All (λ m. m.line < line) ms)
      (sym nothing.marks) earlier

  readable : (line v : ℕ) → FindsVersion new v
      → IsReadable (IsLooked new.found new.marks line (length new.log.records))
      (length new.log.records) v
  readable line v finds = found_readable of.number line new v knows finds

  seen_marked : (mark : Mark) → Contains new.log.marks mark → SeesForgotten new mark.version
  seen_marked mark listed = record { mark = mark; listed = listed; same = refl }

  pub act_takes : (line : ℕ) (act : Act) (once : Bool) (answer : ActAnswer) → AreEarlier old line
      → ActSpec of line act old new answer
      → AnswersLine of (record { line = line; command = Edit act once }) old new
      (act_line line answer)
  act_takes line act once (acts.Done n) earlier told = at_moment
      (record { line = line; command = Edit act once }) n answers.Done told.at_is
      (accepted_arm of.keep of.tint of.plan of.models of.number line act once old new told.appends told.notes)
  act_takes line act once (acts.Full at full) earlier told =
      at_moment (record { line = line; command = Edit act once }) at
      (answers.Full full.level full.bucket) told.at_is
      (full_arm of.keep of.tint of.plan of.models of.number line act once full.level full.bucket old new told.nothing told.meets)
  act_takes line act once acts.LogFull earlier told =
      at_moment (record { line = line; command = Edit act once }) 65535 answers.LogFull
      (sym told.all)
      (refused_arm of.keep of.tint of.plan of.models of.number line act once answers.LogFull old new told.nothing told.notes refl refl (λ suits. log_full act once told.all (found_way of.number line new act knows told.way)))
  act_takes line act once (acts.NothingToUndo at) earlier told =
      at_moment (record { line = line; command = Edit act once }) at answers.NothingToUndo told.at_is
      (refused_arm of.keep of.tint of.plan of.models of.number line act once answers.NothingToUndo old new told.nothing told.notes refl refl
      (λ suits. subst
      (λ (a : Act). Answers of.plan of.models (history_seen of new)
      (IsLooked new.found new.marks line (length new.log.records)) of.number line
      (length new.log.records) (Edit a once) answers.NothingToUndo) (sym told.is)
      (nothing_to_undo once told.none)))
  act_takes line act once (acts.NothingToRedo at) earlier told =
      at_moment (record { line = line; command = Edit act once }) at answers.NothingToRedo told.at_is
      (refused_arm of.keep of.tint of.plan of.models of.number line act once answers.NothingToRedo old new told.nothing told.notes refl refl
      (λ suits. subst
      (λ (a : Act). Answers of.plan of.models (history_seen of new)
      (IsLooked new.found new.marks line (length new.log.records)) of.number line
      (length new.log.records) (Edit a once) answers.NothingToRedo) (sym told.is)
      (nothing_to_redo once told.none)))
  act_takes line act once (acts.Forgotten at mark) earlier told =
      at_moment (record { line = line; command = Edit act once }) at
      (answers.Forgotten mark.version) told.at_is
      (refused_arm of.keep of.tint of.plan of.models of.number line act once
      (answers.Forgotten mark.version) old new told.nothing told.notes refl refl
      (λ suits. forgotten (Edit act once) mark.version told.target
      (marked_forgotten of.number line new mark.version knows
      (still_earlier line told.nothing earlier) (seen_marked mark told.listed))))

  pub once_takes : (line : ℕ) (act : Act) (answer : OnceAnswer) → AreEarlier old line
      → OnceSpec of line act old new answer
      → AnswersLine of (record { line = line; command = Edit act true }) old new
      (once_line line answer)
  once_takes line act (onces.Done n) earlier told = act_takes line act true
      (acts.Done n) earlier told
  once_takes line act (onces.Full at full) earlier told = act_takes line act true
      (acts.Full at full) earlier told
  once_takes line act onces.LogFull earlier told = act_takes line act true acts.LogFull earlier told
  once_takes line act (onces.Stale at base) earlier told =
      at_moment (record { line = line; command = Edit act true }) at (answers.Stale base) told.at_is
      (stale_arm of.keep of.tint of.plan of.models of.number line act base old new told.nothing told.notes told.low told.over told.room)

  -- a version that isn't pinned
  none_named : (line : ℕ) (command : Command) (version : Option ℕ) (at : ℕ)
      → ((n v : ℕ) → version ≡ Some v → refused_by command n (answers.NoVersion v) ≡ [])
      → ((v : ℕ) → version ≡ Some v → length new.log.records < v
      → Answers of.plan of.models (history_seen of new)
      (IsLooked new.found new.marks line (length new.log.records)) of.number line
      (length new.log.records) command (answers.NoVersion v))
      → NamesNone version old new at
      → AnswersLine of (record { line = line; command = command }) old new
      (answered line at (answers.NoVersion (named_version version)))
  none_named line command version at none fits told =
      let at_is = told.at_is in
      let over = told.over in
      subst (λ (v : Option ℕ). AnswersLine of (record { line = line; command = command }) old new
      (answered line at (answers.NoVersion (named_version v)))) (sym told.is)
      (at_moment (record { line = line; command = command }) at
      (answers.NoVersion told.named) told.at_is
      (resting_arm of.keep of.tint of.plan of.models of.number
      (record { line = line; command = command })
      (answers.NoVersion told.named) old new told.only refl
      (none (length new.log.records) told.named told.is)
      (λ suits. fits told.named told.is (omega arith))))

  marked_named : (line : ℕ) (command : Command) (version : Option ℕ) (at : ℕ) (mark : Mark)
      → AreEarlier old line
      → refused_by command (length new.log.records) (answers.Forgotten mark.version) ≡ []
      → (SeesForgotten new mark.version → version ≡ Some mark.version
      → Answers of.plan of.models (history_seen of new)
      (IsLooked new.found new.marks line (length new.log.records)) of.number line
      (length new.log.records) command (answers.Forgotten mark.version))
      → NamesMarked version old new at mark
      → AnswersLine of (record { line = line; command = command }) old new
      (answered line at (answers.Forgotten mark.version))
  marked_named line command version at mark earlier none fits told =
      at_moment (record { line = line; command = command }) at
      (answers.Forgotten mark.version) told.at_is
      (resting_arm of.keep of.tint of.plan of.models of.number
      (record { line = line; command = command })
      (answers.Forgotten mark.version) old new told.only refl none
      (λ suits. fits (seen_marked mark told.listed) told.is))

  marked_is : (line v : ℕ) → OnlySees old new → AreEarlier old line → SeesForgotten new v
      → IsForgotten new.log.marks of.number line (length new.log.records) v
  marked_is line v only earlier sees = marked_forgotten of.number line new v knows
      (still_earlier line only.nothing earlier) sees

  ask_ok : (line : ℕ) (version : Option ℕ) (question : Question) (a : AskedAt)
      → WasAsked of version question old new a
      → AnswersLine of (record { line = line; command = Ask version question }) old new
      (answered line a.at a.answer)
  ask_ok line version question a told =
      let n = length new.log.records in
      let v = asked_version version n in
      at_moment (record { line = line; command = Ask version question }) a.at a.answer told.at_is
      (resting_arm of.keep of.tint of.plan of.models of.number
      (record { line = line; command = Ask version question }) a.answer old new told.only told.rests refl
      (λ suits. tells version question a.answer
      (readable line v
      (subst (λ (m : ℕ). FindsVersion new (asked_version version m)) told.at_is told.finds))
      (told_of_world of.tint of.plan of.models (history_seen of new) suits v question a.answer
      (subst (λ (m : ℕ). AnswersStored of.tint (2 ^ new.log.side)
      (store_has of.models new.log
      (asked_version version m)) question a.answer) told.at_is told.tells))))

  save_ok : (line : ℕ) (version : Option ℕ) (name : SaveName) (part : Boxed) (at cells : ℕ)
      → SaveFits (side_of_world of.tint (2 ^ of.plan.side)) name part → IsSeenLength new at
      → OnlySees old new → FindsVersion new (asked_version version at)
      → cells ≡ number_in part (store_has of.models new.log (asked_version version at))
      → AnswersLine of (record { line = line; command = Save version name part }) old new
      (answered line at (answers.Saved cells))
  save_ok line version name part at cells fits at_is only finds e =
      at_moment (record { line = line; command = Save version name part }) at
      (answers.Saved cells) at_is
      (resting_arm of.keep of.tint of.plan of.models of.number
      (record { line = line; command = Save version name part })
      (answers.Saved cells) old new only refl refl
      (λ suits. saves version name part cells
      (readable line (asked_version version (length new.log.records))
      (subst (λ (n : ℕ). FindsVersion new (asked_version version n)) at_is finds))
      (subst (λ (n : ℕ). cells
      ≡ number_in part (store_has of.models new.log (asked_version version n))) at_is e
      ∙ box_keeps of.tint of.plan of.models (history_seen of new) suits
      (asked_version version (length new.log.records)) part fits.inside)))

  pub ask_takes : (line : ℕ) (version : Option ℕ) (question : Question)
      (answer : Result AskedAt PinRefused) → AreEarlier old line
      → AskSpec of version question old new answer
      → AnswersLine of (record { line = line; command = Ask version question }) old new
      (ask_line line version answer)
  ask_takes line version question (Ok a) earlier told = ask_ok line version question a told
  ask_takes line version question (Err (pins.NoVersion at)) earlier told =
      none_named line (Ask version question) version at (λ n v _. refl)
      (λ v e over. no_version (Ask version question) v
      (subst (λ (o : Option ℕ). Names
      (IsLooked new.found new.marks line (length new.log.records)) (length new.log.records)
      (Ask o question) v) (sym e) refl) over) told
  ask_takes line version question (Err (pins.Forgotten at mark)) earlier told =
      marked_named line (Ask version question) version at mark earlier refl
      (λ sees e. forgotten (Ask version question) mark.version
      (subst (λ (o : Option ℕ). LooksUp
      (IsLooked new.found new.marks line (length new.log.records)) new.log.records
      (length new.log.records) (Ask o question) mark.version) (sym e) refl)
      (marked_is line mark.version told.only earlier sees)) told

  pub save_takes : (line : ℕ) (version : Option ℕ) (name : SaveName) (part : Boxed)
      (answer : Result SavedAt PinRefused)
      → SaveFits (side_of_world of.tint (2 ^ of.plan.side)) name part → AreEarlier old line
      → SaveSpec of version part old new answer
      → AnswersLine of (record { line = line; command = Save version name part }) old new
      (save_line line version answer)
  save_takes line version name part
      (Ok a) fits earlier told = save_ok line version name part a.at a.cells fits told.at_is told.only told.finds told.cells
  save_takes line version name part (Err (pins.NoVersion at)) fits earlier told =
      none_named line (Save version name part) version at (λ n v _. refl)
      (λ v e over. no_version (Save version name part) v
      (subst (λ (o : Option ℕ). Names
      (IsLooked new.found new.marks line (length new.log.records)) (length new.log.records)
      (Save o name part) v) (sym e) refl) over) told
  save_takes line version name part (Err (pins.Forgotten at mark)) fits earlier told =
      marked_named line (Save version name part) version at mark earlier refl
      (λ sees e. forgotten (Save version name part) mark.version
      (subst (λ (o : Option ℕ). LooksUp
      (IsLooked new.found new.marks line (length new.log.records)) new.log.records
      (length new.log.records) (Save o name part) mark.version) (sym e) refl)
      (marked_is line mark.version told.only earlier sees)) told

  pub forget_takes : (line version : ℕ) (answer : Result ℕ ForgetRefused) → AreEarlier old line
      → ForgetSpec of line version old new answer
      → AnswersLine of (record { line = line; command = Forget version }) old new
      (forget_line line version answer)
  forget_takes line version (Ok at) earlier told = at_moment
      (record { line = line; command = Forget version }) at (answers.Forgot version) told.at_is
      (forgot_arm of.keep of.tint of.plan of.models of.number line version old new told.forgets)
  forget_takes line version (Err (forgets.NoVersion at)) earlier told =
      none_named line (Forget version) (Some version) at (λ n v _. refl)
      (λ v e over. no_version (Forget version) v (same_Some version v e) over) told
  forget_takes line version (Err (forgets.IsHead at)) earlier told =
      subst (λ (v : ℕ). AnswersLine of (record { line = line; command = Forget v }) old new
      (answered line at answers.IsHead)) (sym (told.is ∙ told.at_is))
      (at_moment (record {
        line = line;
        command = Forget
            (length new.log.records);
      }) at answers.IsHead told.at_is
      (resting_arm of.keep of.tint of.plan of.models of.number
      (record {
        line = line;
        command = Forget
            (length new.log.records);
      }) answers.IsHead old new told.only refl refl
      (λ suits. is_head)))
  forget_takes line version (Err (forgets.Forgotten at mark)) earlier told =
      subst (λ (v : ℕ). AnswersLine of (record { line = line; command = Forget version }) old new
      (answered line at (answers.Forgotten v))) (sym (same_Some version mark.version told.is))
      (marked_named line (Forget version) (Some version) at mark earlier refl
      (λ sees e. forgotten (Forget version) mark.version (same_Some version mark.version e)
      (marked_is line mark.version told.only earlier sees)) told)

  -- the command names the version
  names_one : (line v w version : ℕ) → NamesVersion v w new version
      → Names (IsLooked new.found new.marks line (length new.log.records)) (length new.log.records)
      (Same v w) version
  names_one line v w version (inl e) = inl e
  names_one line v w version (inr e) = inr (e.0, readable line v e.1)

  same_ok : (line v w at : ℕ) (equal : Bool) → IsSeenLength new at → OnlySees old new
      → FindsVersion new v → FindsVersion new w
      → IsEqual equal
      (SameWorld (2 ^ new.log.side) (store_has of.models new.log v)
      (store_has of.models new.log w))
      → AnswersLine of (record { line = line; command = Same v w }) old new
      (answered line at (answers.Same equal))
  same_ok line v w at true at_is only first second e =
      at_moment (record { line = line; command = Same v w }) at (answers.Same true) at_is
      (resting_arm of.keep of.tint of.plan of.models of.number
      (record { line = line; command = Same v w }) (answers.Same true) old new only refl refl
      (λ suits. same v w (readable line v first) (readable line w second)
      (same_tints of.tint of.plan of.models (history_seen of new) suits v w e)))
  same_ok line v w at false at_is only first second e =
      at_moment (record { line = line; command = Same v w }) at (answers.Same false) at_is
      (resting_arm of.keep of.tint of.plan of.models of.number
      (record { line = line; command = Same v w }) (answers.Same false) old new only refl refl
      (λ suits. different v w (readable line v first) (readable line w second)
      (λ alike. e (same_cells of.tint of.plan of.models
      (history_seen of new) suits v w alike))))

  pub same_takes : (line v w : ℕ) (answer : Result SameAt SameRefused) → AreEarlier old line
      → SameSpec of v w old new answer
      → AnswersLine of (record { line = line; command = Same v w }) old new (same_line line answer)
  same_takes line v w
      (Ok a) earlier told = same_ok line v w a.at a.equal told.at_is told.only told.first told.second told.equal
  same_takes line v w (Err (sames.NoVersion at version)) earlier told =
      let at_is = told.at_is in
      let over = told.over in
      at_moment (record { line = line; command = Same v w }) at
      (answers.NoVersion version) told.at_is
      (resting_arm of.keep of.tint of.plan of.models of.number
      (record { line = line; command = Same v w })
      (answers.NoVersion version) old new told.only refl refl
      (λ suits. no_version (Same v w) version (names_one line v w version told.named)
      (omega arith)))
  same_takes line v w (Err (sames.Forgotten at mark)) earlier told =
      at_moment (record { line = line; command = Same v w }) at
      (answers.Forgotten mark.version) told.at_is
      (resting_arm of.keep of.tint of.plan of.models of.number
      (record { line = line; command = Same v w })
      (answers.Forgotten mark.version) old new told.only refl refl
      (λ suits. forgotten (Same v w) mark.version (names_one line v w mark.version told.named)
      (marked_is line mark.version told.only earlier (seen_marked mark told.listed))))

  pub head_takes : (line at : ℕ) → HeadSpec old new at
      → AnswersLine of (record { line = line; command = Head }) old new
      (answered line at answers.Head)
  head_takes line at told = at_moment
      (record { line = line; command = Head }) at answers.Head told.at_is
      (resting_arm of.keep of.tint of.plan of.models of.number
      (record { line = line; command = Head }) answers.Head old new told.only refl refl
      (λ suits. head))

-- the line has this command, and this is its answer
pub line_is : (of : SessionOf) (old new : SessionView) (l : ScriptLine) (command : Command)
    (a result : LineAnswer) → l.command ≡ command → result ≡ a
    → AnswersLine of (record { line = l.line; command = command }) old new a
    → AnswersLine of l old new result
line_is of old new l command a result of_command told takes =
    subst (λ (b : LineAnswer). AnswersLine of l old new b) (sym told)
    (subst (λ (c : Command). AnswersLine of (record { line = l.line; command = c }) old new a)
    (sym of_command) takes)

-- the line is a try
pub tried_is : (of : SessionOf) (old new : SessionView) (l : ScriptLine) (act : Act) (once : Bool)
    (a result : LineAnswer) → l.command ≡ Edit act once → once ≡ true → result ≡ a
    → AnswersLine of (record { line = l.line; command = Edit act true }) old new a
    → AnswersLine of l old new result
tried_is of old new l act once a result of_command tried told takes =
    line_is of old new l (Edit act true) a result
    (of_command ∙ ap (λ (b : Bool). Edit act b) tried) told takes

-- ---- what is saved

pub none_saved : (old new : List ℕ) → new ≡ old → new ≡ old ++ []
none_saved old new e = e ∙ sym (append-nil old)

pub save_saved : (old new : List ℕ) (line : ℕ) (version : Option ℕ) (name : SaveName) (part : Boxed)
    (answer : Result SavedAt PinRefused) → new ≡ old ++ version_saved version answer
    → new ≡ old ++ versions_of
    (saved_by (Save version name part) (save_line line version answer).at
    (save_line line version answer).answer)
save_saved old new line version name part (Ok a) e = e
save_saved old new line version name part (Err (pins.NoVersion at)) e = e
save_saved old new line version name part (Err (pins.Forgotten at mark)) e = e
