-- The refusals of texts that faults of its texts become: want of memory stays want of memory.
use Rattle.std.specs.Prelude.{◌≡◌, Result, Err, ⊤}
use Rattle.vox_chunk.specs.declared.faults.VoxFault.{VoxFault}
use Rattle.vox_chunk.specs.declared.faults.VoxFault.TheVariants as faults
use Rattle.script.specs.declared.faults.ScriptKind.{ScriptKind}
use Rattle.script.specs.declared.faults.ScriptKind.TheVariants as kinds
use Rattle.script.specs.Fitting.{IsOfText}
use Rattle.flood.specs.declared.models.FloodRefused.{FloodRefused}
use Rattle.flood.specs.declared.models.FloodRefused.TheVariants as floods
use Rattle.dag_answers.specs.declared.asking.LookRefused.{LookRefused}
use Rattle.dag_answers.specs.declared.asking.LookRefused.TheVariants as looks
use Rattle.vox_scene.specs.declared.faults.SceneFault.{SceneFault}
use Rattle.vox_scene.specs.declared.faults.SceneFault.TheVariants as scenes
use Rattle.history_model.specs.declared.reading.JournalFault.{JournalFault}
use Rattle.history_model.specs.declared.reading.JournalFault.TheVariants as journals
use Rattle.audit.specs.declared.audits.AuditRefused.{AuditRefused}
use Rattle.audit.specs.declared.audits.AuditRefused.TheVariants as audits
use Rattle.commands.specs.declared.refusals.NumberedFault.{NumberedFault}
use Rattle.commands.specs.declared.refusals.TextRefused.{TextRefused}
use Rattle.commands.specs.declared.refusals.TextRefused.TheVariants.{Vox, Script, NoScene, NoPlace, StoreFull, NoDag, Journal, Memory}

abbrev pub of_vox : VoxFault → TextRefused
of_vox faults.Memory = Memory
of_vox fault = Vox fault

abbrev pub of_kind : ScriptKind → NumberedFault → TextRefused
of_kind kinds.Memory at = Memory
of_kind _ at = Script at

abbrev pub of_fault : NumberedFault → TextRefused
of_fault at = of_kind at.fault.kind at

abbrev pub of_scene : SceneFault → TextRefused
of_scene scenes.Memory = Memory
of_scene fault = NoScene fault

abbrev pub of_flood : FloodRefused → TextRefused
of_flood (floods.StoreFull full) = StoreFull full
of_flood floods.Memory = Memory

abbrev pub of_journal : JournalFault → TextRefused
of_journal (journals.Line line) = Journal line
of_journal journals.Memory = Memory

abbrev pub of_audit : AuditRefused → TextRefused
of_audit (audits.Full full) = StoreFull full
of_audit audits.Memory = Memory

abbrev pub of_look : LookRefused → TextRefused
of_look (looks.Dag place) = NoDag place
of_look looks.NoPlace = NoPlace
of_look looks.Memory = Memory

-- what a refusal says of what scripts say: a fault is their first one, and want of memory says
-- nothing
abbrev pub RefusesScripts : {X : Type 0} → TextRefused → Result X NumberedFault → Type 0
RefusesScripts (Script at) read = IsOfText at.fault.kind × (read ≡ Err at)
RefusesScripts Memory read = ⊤
RefusesScripts _ read = ⊥
