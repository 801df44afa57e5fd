-- What an ask of an engine leaves of its store, whatever it answers.
use Rattle.std.specs.Prelude.{◌≢◌, ℕ}
use Rattle.object_values.specs.declared.views.View.{View}
use Rattle.odin_outside.specs.Disk.{Telling}
use Rattle.meaning_graph.specs.Graphs.{Text, Graph}
use Rattle.kept_derive.specs.Runs.{At}
use Rattle.kept_derive.specs.StopLaws.{KeepsResults, StopsInResults}
use Rattle.odin_engine.specs.declared.fault.AskFault.{AskFault}
use Rattle.odin_engine.specs.declared.fault.AskFault.TheVariants as fault
use Rattle.odin_engine.specs.Asking.{IsAnswered, IsAskFault}

module _ {Disk : Type 0} (told : Disk → Telling) where
  -- An answer keeps calls and notes of nodes, and nothing else changes.
  abbrev pub AnswersKeep : Type 0
  AnswersKeep = (g : Graph) (limit : ℕ) (text : Text) (old new : At Disk) (view : View) → IsAnswered told g limit text old new view → KeepsResults told old new

  -- So does each fault that is not the disk's.
  abbrev pub FaultsKeep : Type 0
  FaultsKeep = (g : Graph) (limit : ℕ) (text : Text) (old new : At Disk) (given : AskFault) → given ≢ fault.Disk → IsAskFault told g limit text old new given → KeepsResults told old new

  -- After a fault of the disk such calls are there, and what was to be kept at last may be.
  abbrev pub DiskStopsAsk : Type 0
  DiskStopsAsk = (g : Graph) (limit : ℕ) (text : Text) (old new : At Disk) → IsAskFault told g limit text old new fault.Disk → StopsInResults told old new
