-- What a change makes of a world that holds its last versions alone.
use Rattle.std.proofs.Common.{◌≡◌, ◌≢◌, ℕ, ◌-◌, ◌<◌, ◌≤◌, Bool, true, false, Option, Some, None, List, ◌⊎◌, length, refl, sym, ◌∙◌, ap, subst, inl, inr, arith}
use Rattle.std.proofs.lemmas.Bool.{cases_lt, cases_eq, false≢true}
use Rattle.std.proofs.lemmas.Option.{none-some, same_Some}
use Rattle.vox_read.specs.Contents.{Content}
use Rattle.history_model.specs.declared.acts.Act.{Act}
use Rattle.history_model.specs.declared.histories.Record.{Record}
use Rattle.history_model.specs.Logs.{Log}
use Rattle.node_words.specs.Plans.{Layout}
use Rattle.retain.specs.Retained.{falls_out}
use Rattle.retain.proofs.Merging.{falls, falls_not}
use Rattle.script.specs.declared.commands.Command.TheVariants.{Edit, Forget}
use Rattle.script.specs.declared.commands.ScriptLine.{ScriptLine}
use Rattle.transcript.specs.declared.answers.Answer.{Answer}
use Rattle.transcript.specs.declared.answers.Answer.TheVariants as answers
use Rattle.conformance.specs.Answers.{mark_of}
use Rattle.conformance.specs.Kinds.{answer_at}
use Rattle.conformance.specs.Running.{ForgetsBy, PushesOut}
use Rattle.conformance.specs.Shown.{is_done}
use Rattle.conformance.specs.scripts.Keeping.{MadeAndMet, last_moment}
use Rattle.conformance.specs.scripts.Sessions.{ExtendsBefore, ExtendsWith, TakesLine}
use Rattle.conformance.proofs.LineKinds.{resting_accepts}
use Rattle.conformance.proofs.OfScripts.Arms.{other_arm, pushed_arm}
use Rattle.store_run.specs.declared.stored_versions.Versions.{Versions}
use Rattle.store_run.specs.Kept.{plan_of, log_of, moment_of, noted_of}
use Rattle.store_run.specs.declared.stored_versions.VersionFound.{VersionFound}
use Rattle.store_run.specs.declared.stored_versions.VersionFound.TheVariants.{NotThere, Marked}
use Rattle.store_run.specs.Steps.{IsVersionFound, IsVersionMarked, GainsMark}
use Rattle.store_run.specs.Worlds.{WorldState, world_state}
use Rattle.store_run.specs.Changing.{log_with_record, Changes, ChangesKeeping, ForgetsFallen, MakesVersion}
use Rattle.store_run.specs.Answering.{ExtendsBy}
use Rattle.store_run.proofs.Changing.{made_version, nothing_not_done}
use Rattle.store_run.proofs.Opening.{changed_goes}

-- ---- what the newest record pushed out

-- it is earlier than the newest version
fallen_low : (n keep version : ℕ) → falls_out n keep ≡ Some version → version < n
fallen_low n keep version falls_so = elim (cases_lt n keep) [
  | inl early ↦ absurd (none-some version (sym (falls_not n keep early) ∙ falls_so))
  | inr late ↦ elim (cases_eq keep 0) [
    | inl none ↦ absurd (none-some version
        (sym (ap (λ (k : ℕ). falls_out n k) none) ∙ falls_so))
    | inr some ↦
        let is : n - keep ≡ version =
        same_Some (n - keep) version (sym (falls n keep (omega (arith, some)) late) ∙ falls_so) in
        omega (arith, is, some, late)
  ]
]

module _ (v : Versions) (session line keep at : ℕ) (now : at ≡ moment_of v) where
  pub fallen_earlier : (version : ℕ) → falls_out at keep ≡ Some version → version < moment_of v
  fallen_earlier version falls_so =
      (let low = fallen_low at keep version falls_so in omega (arith, low, now))

  falls_now : (o : Option ℕ) → falls_out at keep ≡ o → falls_out (moment_of v) keep ≡ o
  falls_now o falls_so = subst (λ (n : ℕ). falls_out n keep ≡ o) now falls_so

  nothing_falls : PushesOut keep (plan_of v) v.models.models session line (log_of v) (log_of v)
      → ForgetsFallen keep (world_state v) session line (world_state v)
  nothing_falls pushes =
      record { plan = refl; models = refl; noted = refl; pushes = pushes }

  pub none_fell : falls_out at keep ≡ None
      → ForgetsFallen keep (world_state v) session line (world_state v)
  none_fell falls_so = nothing_falls (PushesOut.none (log_of v) (falls_now None falls_so) refl)

  past_fell : (version : ℕ) → falls_out at keep ≡ Some version → moment_of v < version
      → ForgetsFallen keep (world_state v) session line (world_state v)
  past_fell version falls_so past =
      absurd (let low = fallen_earlier version falls_so in omega (arith, low, past))

  marked_fell : (version : ℕ) → falls_out at keep ≡ Some version
      → (version ≤ moment_of v) × IsVersionMarked v version
      → ForgetsFallen keep (world_state v) session line (world_state v)
  marked_fell version falls_so found =
      let mark = found.1 in
      nothing_falls
      (PushesOut.marked (log_of v) mark.mark
      (falls_now (Some version) falls_so ∙ ap (λ (n : ℕ). Some n) (sym mark.same))
      mark.listed refl)

  pub unkept_fell : (version : ℕ) (found : VersionFound) → falls_out at keep ≡ Some version
      → (found ≡ NotThere) ⊎ (found ≡ Marked) → IsVersionFound v version found
      → ForgetsFallen keep (world_state v) session line (world_state v)
  unkept_fell version found falls_so (inl missing) is =
      past_fell version falls_so
      (subst (λ (f : VersionFound). IsVersionFound v version f) missing is)
  unkept_fell version found falls_so (inr gone) is =
      marked_fell version falls_so
      (subst (λ (f : VersionFound). IsVersionFound v version f) gone is)

  pub kept_fell : (w : Versions) (version : ℕ) → falls_out at keep ≡ Some version
      → GainsMark v (record { version = version; at = at; session = session; line = line }) w
      → ForgetsFallen keep (world_state v) session line (world_state w)
  kept_fell w version falls_so gains = record {
    plan = gains.only.plan;
    models = gains.only.models;
    noted = λ i. record { made = gains.only.only.made i; met = gains.only.only.met i };
    pushes =
        PushesOut.forgot (log_of w) version (falls_now (Some version) falls_so)
        (subst (λ (n : ℕ). ForgetsBy (plan_of v) v.models.models (mark_of version n session line)
        (log_of v) (log_of w)) now gains.forgets);
  }

pub fallen_seen : (keep session line : ℕ) (v w : Versions) (s : WorldState) → world_state v ≡ s
    → ForgetsFallen keep (world_state v) session line (world_state w)
    → ForgetsFallen keep s session line (world_state w)
fallen_seen keep session line v w s is falls_so =
    subst (λ (t : WorldState). ForgetsFallen keep t session line (world_state w)) is falls_so

-- ---- a change, and what it pushed out

pushed_records : (keep : ℕ) (p : Layout) (models : List Content) (session line : ℕ)
    (mid new : Log) → PushesOut keep p models session line mid new → new.records ≡ mid.records
pushed_records keep p models session line mid new (PushesOut.none _ falls_so same) =
    ap (λ (log : Log). log.records) same
pushed_records keep p models session line mid new (PushesOut.marked _ mark falls_so listed same) =
    ap (λ (log : Log). log.records) same
pushed_records keep p models session line mid new (PushesOut.forgot _ version falls_so e) =
    e.records

-- a change that was made has its record behind the others
done_log : (old mid : Log) (r : Record) (answer : Answer) → Changes old r answer mid
    → answer ≡ answers.Done → mid ≡ log_with_record old r
done_log old mid r _ (Changes.done _ room way is) e = is
done_log old mid r _ (Changes.full _ level bucket edit is) e = absurd (let no : ⊥ = cc in no)
done_log old mid r _ (Changes.log_full _ all way is) e = absurd (let no : ⊥ = cc in no)
done_log old mid r _ (Changes.forgotten _ to goes gone is) e = absurd (let no : ⊥ = cc in no)
done_log old mid r _ (Changes.nothing _ other none is) e = absurd (nothing_not_done r.act e)

done_is : (answer : Answer) → is_done answer ≡ true → answer ≡ answers.Done
done_is answers.Done e = refl
done_is _ e = absurd (false≢true e)

not_done : (answer : Answer) → answer ≢ answers.Done → is_done answer ≡ false
not_done answer other = go (is_done answer) refl
  where
    go : (b : Bool) → is_done answer ≡ b → is_done answer ≡ false
    go true e = absurd (other (done_is answer e))
    go false e = e

with_records : Log → List Record → Log
with_records log records = record {
  side = log.side;
  coloured = log.coloured;
  records = records;
  marks = log.marks;
}

same_version : (models : List Content) (old : Log) (act : Act) (mid new : Log)
    → new.records ≡ mid.records → MakesVersion models old act mid → MakesVersion models old act new
unfolding with_records
same_version models old act mid new same makes =
    subst (λ (rs : List Record). MakesVersion models old act (with_records new rs)) (sym same)
    (record {
      one_more = makes.one_more;
      earlier = makes.earlier;
      edit = makes.edit;
      other = makes.other;
      tints_earlier = makes.tints_earlier;
      tints_edit = makes.tints_edit;
      tints_other = makes.tints_other;
    })

module _ (keep : ℕ) (s t : WorldState) (session line : ℕ) (act : Act) (answer : Answer)
    (plan : t.plan ≡ s.plan) (models : t.models ≡ s.models)
    (logs : Changes s.log (record { session = session; line = line; act = act }) answer t.log)
    (goes_on : (once : Bool) → ExtendsBefore s.plan s.models session
    (record { line = line; command = Edit act once }) s.log t.log s.noted t.noted
    (answer_at (record { line = line; command = Edit act once })
    (length t.log.records) answer)) where
  pushes_here : (u : WorldState) → ForgetsFallen keep t session line u
      → PushesOut keep s.plan s.models session line t.log u.log
  pushes_here u falls_so =
      subst (λ (p : Layout). PushesOut keep p s.models session line t.log u.log) plan
      (subst (λ (ms : List Content). PushesOut keep t.plan ms session line t.log u.log) models
      falls_so.pushes)

  pub kept_logs : (u : WorldState) → answer ≡ answers.Done → ForgetsFallen keep t session line u
      → ChangesKeeping keep s.plan s.models s.log
      (record { session = session; line = line; act = act }) answer u.log
  kept_logs u done falls_so = record {
    before = t.log;
    changes = logs;
    pushes = λ _. pushes_here u falls_so;
    stays = λ other. absurd (other done);
  }

  pub kept_makes : (u : WorldState) → ForgetsFallen keep t session line u
      → answer ≡ answers.Done → MakesVersion s.models s.log act u.log
  kept_makes u falls_so done =
      same_version s.models s.log act t.log u.log
      (pushed_records keep s.plan s.models session line t.log u.log (pushes_here u falls_so))
      (made_version s.models s.log t.log (record { session = session; line = line; act = act })
      answer logs done)

  pub kept_goes : (u : WorldState) → answer ≡ answers.Done → ForgetsFallen keep t session line u
      → (once : Bool) → ExtendsWith keep s.plan s.models session
      (record { line = line; command = Edit act once }) s.log u.log s.noted u.noted
      (answer_at (record { line = line; command = Edit act once }) (length u.log.records) answer)
  kept_goes u done falls_so once since scripts transcripts script transcript running within number after =
      let l : ScriptLine = record { line = line; command = Edit act once } in
      let r : Record = record { session = session; line = line; act = act } in
      let first = last_moment 0 transcript in
      let is : t.log ≡ log_with_record s.log r = done_log s.log t.log r answer logs done in
      let takes : TakesLine 0 s.plan s.models session first l s.log t.log s.noted t.noted
      (record { line = line; at = length t.log.records; answer = answers.Done }) =
      subst (λ (a : Answer). TakesLine 0 s.plan s.models session first l s.log t.log s.noted t.noted
      (record { line = line; at = length t.log.records; answer = a })) done
      (goes_on once keep since scripts transcripts script transcript running within number after) in
      let out =
      pushed_arm keep s.plan s.models session first line act once s.log t.log u.log s.noted t.noted
      takes (ap (λ (log : Log). log.records) is) (ap (λ (log : Log). log.marks) is)
      (pushes_here u falls_so) in
      let as_many : length t.log.records ≡ length u.log.records =
      ap (λ (rs : List Record). length rs)
      (sym (pushed_records keep s.plan s.models session line t.log u.log
      (pushes_here u falls_so))) in
      subst (λ (a : Answer). TakesLine keep s.plan s.models session first l s.log u.log s.noted
      u.noted (record { line = line; at = length u.log.records; answer = a })) (sym done)
      (subst (λ (n : ℕ). TakesLine keep s.plan s.models session first l s.log u.log s.noted
      u.noted (record { line = line; at = n; answer = answers.Done })) as_many
      (subst (λ (now : MadeAndMet). TakesLine keep s.plan s.models session first l s.log u.log
      s.noted now (record { line = line; at = length t.log.records; answer = answers.Done }))
      (sym falls_so.noted) out))

  -- nothing was accepted
  pub other_logs : answer ≢ answers.Done
      → ChangesKeeping keep s.plan s.models s.log
      (record { session = session; line = line; act = act }) answer t.log
  other_logs other = record {
    before = t.log;
    changes = logs;
    pushes = λ done. absurd (other done);
    stays = λ _. refl;
  }

  pub other_makes : answer ≢ answers.Done → answer ≡ answers.Done
      → MakesVersion s.models s.log act t.log
  other_makes other done = absurd (other done)

  pub other_goes : answer ≢ answers.Done → (once : Bool)
      → ExtendsWith keep s.plan s.models session
      (record { line = line; command = Edit act once }) s.log t.log s.noted t.noted
      (answer_at (record { line = line; command = Edit act once }) (length t.log.records) answer)
  other_goes other once since scripts transcripts script transcript running within number after =
      other_arm keep s.plan s.models session (last_moment 0 transcript)
      (record { line = line; command = Edit act once }) s.log t.log s.noted t.noted
      (answer_at (record { line = line; command = Edit act once }) (length t.log.records) answer)
      (resting_accepts session line (Edit act once) (length t.log.records) answer
      (not_done answer other))
      (goes_on once keep since scripts transcripts script transcript running within number after)

-- ---- a version is forgotten by hand, however many are held

pub forget_goes : (v w : Versions) (s : WorldState) → world_state v ≡ s
    → (session line version : ℕ) (answer : Answer)
    → ExtendsBy v session (record { line = line; command = Forget version }) answer w
    → (keep : ℕ) → ExtendsWith keep s.plan s.models session
    (record { line = line; command = Forget version }) s.log (log_of w) s.noted (noted_of w)
    (answer_at (record { line = line; command = Forget version }) (moment_of w) answer)
forget_goes v w s is session line version answer g keep since scripts transcripts script transcript running within number after =
    let l : ScriptLine = record { line = line; command = Forget version } in
    other_arm keep s.plan s.models session (last_moment 0 transcript) l s.log (log_of w) s.noted
    (noted_of w) (answer_at l (moment_of w) answer) refl
    (changed_goes v w s is session l answer g keep since scripts transcripts script transcript
    running within number after)
