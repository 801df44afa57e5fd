-- How a child program ended, and what it left.
use Rattle.std.specs.Prelude.{◌≡◌, ◌⊎◌, ℕ, ℤ, Bool, true, false, ◌||◌, nat_eq, pos, List, Option, Some, None, Result, Ok, Err, IfOk, IfSome, codes}
use Rattle.std.specs.List.{All}
use Rattle.std.specs.Process.{exit_code, exit_signal}
use Rattle.std.specs.declared.process.status.ExitStatus.{ExitStatus}
use Rattle.object_values.specs.declared.jobs.End.{End}
use Rattle.object_values.specs.declared.jobs.End.TheVariants.{Exit, Signal}
use Rattle.object_values.specs.declared.jobs.FileBody.{FileBody}
use Rattle.object_values.specs.declared.jobs.Raw.{Raw}
use Rattle.odin_real.specs.declared.fault.SystemFault.{SystemFault}
use Rattle.odin_real.specs.declared.fault.SystemFault.TheVariants.{Failed, Memory}
use Rattle.odin_real.specs.Folders.{Standing, IsFileName, AreLeft, IsToldOf}
use Rattle.odin_real.specs.Logs as logs
use Rattle.odin_real.specs.Logs.{Log, log_with, end_event, settle_event, fault_event}
use Rattle.odin_real.specs.Told.{ChildView}

-- with the exit code of its status, or by a signal where that has none
abbrev pub IsEndOf : ExitStatus → End → Type 0
IsEndOf status (Exit code) = exit_code status ≡ Some (pos code)
IsEndOf status Signal = exit_code status ≡ None

-- the same of the status that a wait has told
abbrev pub TellsEnd : Option ExitStatus → End → Type 0
TellsEnd told end = (status : ExitStatus) × (told ≡ Some status) × IsEndOf status end

-- the signals by which others end a program: SIGHUP, SIGINT, SIGQUIT, SIGKILL and SIGTERM
abbrev pub is_outside_signal : ℕ → Bool
is_outside_signal signal = nat_eq signal 1 || nat_eq signal 2 || nat_eq signal 3 || nat_eq signal 9 || nat_eq signal 15

abbrev pub is_outside : Option ℤ → Bool
is_outside (Some (pos signal)) = is_outside_signal signal
is_outside _ = false

-- others ended the program, so that its end says nothing of what it was asked
abbrev pub is_lost_end : ExitStatus → Bool
is_lost_end status = is_outside (exit_signal status)

-- what a tool leaves in its folder that has no outcome
abbrev pub no_outcome : List ℕ
no_outcome = codes "no-outcome"

-- This end is that of the tool. Where an earlier wait has told its status, that is its status.
pub record IsEndingOf (tool : ChildView) (exit : logs.Exit) : Type 0 where
  pub at : exit.folder ≡ tool.folder
  pub again : IfSome tool.status (λ status. exit.status ≡ status)

-- With this end the tool has an outcome, and left the files of its outputs and no others.
pub record Leaves (tool : ChildView) (exit : logs.Exit) (raw : Raw) : Type 0 where
  pub ending : IsEndingOf tool exit
  pub end : IsEndOf exit.status raw.end
  pub whole : is_lost_end exit.status ≡ false
  pub outcome : IsToldOf exit.holds no_outcome false
  pub files : AreLeft exit.holds tool.running.job.outs raw.files

-- an end was told, and then the folder was settled
abbrev pub settled_after : Log → logs.Exit → List ℕ → Log
settled_after log exit folder = log_with (log_with log (end_event exit)) (settle_event folder)

-- The end of the tool was told, then its folder was settled, and this is what it left by then.
pub record HasLeft (tool : ChildView) (old new : Log) (raw : Raw) : Type 0 where
  pub exit : logs.Exit
  pub told : new ≡ settled_after old exit tool.folder
  pub leaves : Leaves tool exit raw

-- The end of the tool was told, and its folder may be settled.
pub record HasEnded (tool : ChildView) (old new : Log) : Type 0 where
  pub exit : logs.Exit
  pub ending : IsEndingOf tool exit
  pub told : (new ≡ log_with old (end_event exit)) ⊎ (new ≡ settled_after old exit tool.folder)

-- Why an end is lost: the system fails once at the wait, at the folder or at what was left there; or others ended the program; or it has no outcome.
pub data IsLost (tool : ChildView) (old new : Log) : Type 0 where
  not_waited : new ≡ log_with old fault_event → IsLost tool old new
  ended_by_others : (exit : logs.Exit) → IsEndingOf tool exit → is_lost_end exit.status ≡ true → new ≡ log_with old (end_event exit) → IsLost tool old new
  not_settled : (exit : logs.Exit) → IsEndingOf tool exit → new ≡ log_with (log_with old (end_event exit)) fault_event → IsLost tool old new
  without_outcome : (exit : logs.Exit) → IsEndingOf tool exit → IsToldOf exit.holds no_outcome true → new ≡ settled_after old exit tool.folder → IsLost tool old new
  not_read : (exit : logs.Exit) → IsEndingOf tool exit → new ≡ log_with (settled_after old exit tool.folder) fault_event → IsLost tool old new

-- The end of a tool, whose outputs have names that files can have.
pub record EndsAs (tool : ChildView) (old new : Log) (result : Result Raw SystemFault) : Type 0 where
  pub ok : IfOk result (HasLeft tool old new)
  pub wanted : result ≡ Err Memory → HasEnded tool old new
  pub failed : All IsFileName tool.running.job.outs → result ≡ Err Failed → IsLost tool old new

-- How the files that were left are read, after the end: the folder is settled first, and may have no outcome.
pub data IsUnread (folder : List ℕ) (holds : Option Standing) (old new : Log) : Type 0 where
  unsettled : new ≡ log_with old fault_event → IsUnread folder holds old new
  outcomeless : IsToldOf holds no_outcome true → new ≡ log_with old (settle_event folder) → IsUnread folder holds old new
  unreadable : new ≡ log_with (log_with old (settle_event folder)) fault_event → IsUnread folder holds old new

-- the outputs that were left in a folder that has an outcome
pub record AreOutputs (outs : List (List ℕ)) (holds : Option Standing) (files : List FileBody) : Type 0 where
  pub outcome : IsToldOf holds no_outcome false
  pub left : AreLeft holds outs files

pub record Reads (folder : List ℕ) (outs : List (List ℕ)) (holds : Option Standing) (old new : Log) (result : Result (List FileBody) SystemFault) : Type 0 where
  pub ok : IfOk result (λ files. new ≡ log_with old (settle_event folder))
  pub given : IfOk result (AreOutputs outs holds)
  pub wanted : result ≡ Err Memory → (new ≡ old) ⊎ (new ≡ log_with old (settle_event folder))
  pub failed : All IsFileName outs → result ≡ Err Failed → IsUnread folder holds old new
