-- A history is legal where its marks are, and its records follow one another.
use Rattle.std.proofs.Common.{◌≡◌, ℕ, ◌^◌, ◌≤◌, List, length, Option, sym}
use Rattle.std.specs.Prelude.{All, Bool, true, Result, IfErr}
use Rattle.history_model.specs.Contents.{Content}
use Rattle.history_model.specs.declared.histories.Mark.{Mark}
use Rattle.history_model.specs.declared.histories.Record.{Record}
use Rattle.history_model.specs.Logs.{Log, FitsWorld, IsLegal, SuitsTints, suits_tints}
use Rattle.std.proofs.Common.{◌↔◌, subst}
use Rattle.node_words.specs.Plans.{Layout}
use Rattle.script.specs.declared.commands.ScriptLine.{ScriptLine}
use Rattle.transcript.specs.declared.answers.LineAnswer.{LineAnswer}
use Rattle.retain.specs.Retained.{KeepsLast}
use Rattle.conformance.specs.Agreeing.{AgreesKeeping}
use Rattle.audit.specs.declared.audits.AuditRefused.{AuditRefused}
use Rattle.audit.specs.Audits.{IsAudited, RefusesAlong}
use Rattle.store_run.specs.Replaying.{ReplayState}
use Rattle.audit.specs.declared.replaying.UndoTargets.{UndoTargets}
use Rattle.audit.specs.Reruns.{IsRerun}
use Rattle.audit.specs.Marks.{TellsMarks}
use Rattle.audit.specs.Replaying.{FollowEach, AreUndoTargets}

pub no_follow : (models : List Content) (log : Log)
    → (FollowEach (2 ^ log.side) models log.marks log.records → ⊥)
    → IsLegal (2 ^ log.side) models log → ⊥
no_follow models log wrong legal = wrong (record { fit = legal.fit; follow = legal.follow })

pub legal_rerun : (log : Log) (replay : ReplayState) (ways : List UndoTargets) (table : List (Option Mark))
    → replay.tint ≡ log.coloured → replay.records ≡ log.records → replay.plan.side ≡ log.side
    → length log.records ≤ 65535 → AreUndoTargets log.records ways → TellsMarks log.marks table
    → IsRerun log replay ways table
legal_rerun log replay ways table tint records side few are tells = record {
  tint = tint;
  records = records;
  side = side;
  few = few;
  are_ways = are;
  tells = tells;
}

pub never_audited : (keep : ℕ) (p : Layout) (models : List Content) (log : Log)
    (scripts : List (List ScriptLine)) (transcripts : List (List LineAnswer))
    → p.side ≡ log.side → (IsLegal (2 ^ log.side) models log → ⊥)
    → IsAudited keep p models log scripts transcripts → ⊥
never_audited keep p models log scripts transcripts side wrong audited =
    wrong (subst (λ (s : ℕ). IsLegal (2 ^ s) models log) side audited.legal)

pub audited_by : (keep : ℕ) (p : Layout) (models : List Content) (log : Log)
    (scripts : List (List ScriptLine)) (transcripts : List (List LineAnswer))
    → p.side ≡ log.side → IsLegal (2 ^ log.side) models log → SuitsTints log → KeepsLast keep log
    → AgreesKeeping keep p models log scripts transcripts
    ↔ IsAudited keep p models log scripts transcripts
audited_by keep p models log scripts transcripts side legal suits last = (
  λ agrees. record {
    legal = subst (λ (s : ℕ). IsLegal (2 ^ s) models log)
        (sym side) legal;
    suits = suits;
    last = last;
    agrees = agrees;
  },
  λ audited. audited.agrees,
)

pub never_suits : (keep : ℕ) (p : Layout) (models : List Content) (log : Log)
    (scripts : List (List ScriptLine)) (transcripts : List (List LineAnswer))
    → (SuitsTints log → ⊥) → IsAudited keep p models log scripts transcripts → ⊥
never_suits keep p models log scripts transcripts wrong audited = wrong audited.suits

pub never_kept : (keep : ℕ) (p : Layout) (models : List Content) (log : Log)
    (scripts : List (List ScriptLine)) (transcripts : List (List LineAnswer))
    → (KeepsLast keep log → ⊥) → IsAudited keep p models log scripts transcripts → ⊥
never_kept keep p models log scripts transcripts wrong audited = wrong audited.last

-- ---- by the plans of the side

pub audited_by_plan : (keep : ℕ) (p q : Layout) (models : List Content) (log : Log)
    (scripts : List (List ScriptLine))
    (transcripts : List (List LineAnswer)) (answer : Type 0) → p ≡ q
    → answer ↔ IsAudited keep p models log scripts transcripts
    → answer ↔ IsAudited keep q models log scripts transcripts
audited_by_plan keep p q models log scripts transcripts answer same both =
    subst (λ (r : Layout). answer ↔ IsAudited keep r models log scripts transcripts) same both

pub refused_all : (p q : Layout) (models : List Content) (marks : List Mark)
    (records : List Record)
    (result : Result Bool AuditRefused) → p ≡ q → IfErr result (RefusesAlong p models marks records)
    → IfErr result (RefusesAlong q models marks records)
refused_all p q models marks records result same refuses =
    subst (λ (r : Layout). IfErr result (RefusesAlong r models marks records)) same refuses

-- ---- by the state with which a replay begins

pub follows_log : (s : ReplayState) (side : ℕ) (models : List Content) (marks : List Mark)
    (records : List Record)
    → s.plan.side ≡ side → s.models ≡ models → FollowEach (2 ^ s.plan.side) s.models marks records
    → FollowEach (2 ^ side) models marks records
follows_log s side models marks records same list follow =
    subst (λ (n : ℕ). FollowEach (2 ^ n) models marks records) same
    (subst (λ (ms : List Content). FollowEach (2 ^ s.plan.side) ms marks records) list follow)

pub follows_begun : (s : ReplayState) (side : ℕ) (models : List Content) (marks : List Mark)
    (records : List Record)
    → s.plan.side ≡ side → s.models ≡ models → FollowEach (2 ^ side) models marks records
    → FollowEach (2 ^ s.plan.side) s.models marks records
follows_begun s side models marks records same list follow =
    subst (λ (ms : List Content). FollowEach (2 ^ s.plan.side) ms marks records) (sym list)
    (subst (λ (n : ℕ). FollowEach (2 ^ n) models marks records) (sym same) follow)

pub fit_begun : (s : ReplayState) (side : ℕ) (models : List Content) (records : List Record)
    → s.plan.side ≡ side → s.models ≡ models → All (λ r. FitsWorld (2 ^ side) models r.act) records
    → All (λ r. FitsWorld (2 ^ s.plan.side) s.models r.act) records
fit_begun s side models records same list all =
    subst (λ (ms : List Content). All
    (λ (r : Record). FitsWorld (2 ^ s.plan.side) ms r.act) records) (sym list)
    (subst (λ (n : ℕ). All (λ (r : Record). FitsWorld (2 ^ n) models r.act) records) (sym same) all)

pub suits_begun : (s : ReplayState) (tint : Bool) (records : List Record) → s.tint ≡ tint
    → All (λ r. suits_tints tint r.act ≡ true) records
    → All (λ r. suits_tints s.tint r.act ≡ true) records
suits_begun s tint records same all =
    subst (λ (b : Bool). All (λ (r : Record). suits_tints b r.act ≡ true) records) (sym same) all

pub refused_begun : (s : ReplayState) (p : Layout) (models : List Content) (marks : List Mark)
    (records : List Record)
    (refused : AuditRefused) → s.plan ≡ p → s.models ≡ models
    → RefusesAlong s.plan s.models marks records refused
    → RefusesAlong p models marks records refused
refused_begun s p models marks records refused plan same refuses =
    subst (λ (q : Layout). RefusesAlong q models marks records refused) plan
    (subst (λ (ms : List Content). RefusesAlong s.plan ms marks records refused) same refuses)
