-- What the system did, where that is told: it started programs, told their ends, settled their folders, and failed. No failure is tried again or
-- passed over, and want of memory is none.
use Rattle.std.specs.Prelude.{◌≡◌, ◌≢◌, ℕ, false, List, [], ◌∷◌, ◌++◌, Option, Some, None, Result, Err, OnOk, OnErr, IfOk, IfErr}
use Rattle.std.specs.Option.{option_map}
use Rattle.std.specs.Process.{command_program, command_args, command_dir, command_var, clears_env}
use Rattle.std.specs.declared.process.command.Command.{Command}
use Rattle.std.specs.declared.process.status.ExitStatus.{ExitStatus}
use Rattle.odin_real.specs.declared.fault.SystemFault.{SystemFault}
use Rattle.odin_real.specs.declared.fault.SystemFault.TheVariants.{Failed}
use Rattle.odin_real.specs.Folders.{Standing}

-- the words that a program is started with, its current folder, and what stood there then, where that is told
pub record Launch : Type 0 where
  pub words : List (List ℕ)
  pub folder : Option (List ℕ)
  pub holds : Option Standing

-- the status that a wait told, the folder where the program ran, and what stood there then, where that is told
pub record Exit : Type 0 where
  pub status : ExitStatus
  pub folder : List ℕ
  pub holds : Option Standing

-- A program was started; its end was told; a folder was found to be the one that was made, on a disk that takes more; or the system failed.
pub data Event : Type 0 where
  launch_event : Launch → Event
  end_event : Exit → Event
  settle_event : List ℕ → Event
  fault_event : Event

-- what happened, in its order
abbrev pub Log : Type 0
Log = Option (List Event)

-- one more, where it is told what happened
abbrev pub log_with : Log → Event → Log
log_with log event = option_map (λ events. events ++ event ∷ []) log

-- At `Ok` and for want of memory nothing happened, and where the call fails the system failed once.
pub record CountsFailure {T E : Type 0} (memory : E) (old new : Log) (result : Result T E) : Type 0 where
  pub ok : OnOk result (new ≡ old)
  pub wanted : result ≡ Err memory → new ≡ old
  pub failed : IfErr result (λ fault. fault ≢ memory → new ≡ log_with old fault_event)

-- The same where what is asked for can be done; else the call may fail although the system doesn't.
pub record CountsWhere {T E : Type 0} (can : Type 0) (memory : E) (old new : Log) (result : Result T E) : Type 0 where
  pub ok : OnOk result (new ≡ old)
  pub wanted : result ≡ Err memory → new ≡ old
  pub failed : can → IfErr result (λ fault. fault ≢ memory → new ≡ log_with old fault_event)

-- the same of a call that does this at `Ok`
pub record LogsWhere {T E : Type 0} (can : Type 0) (event : Event) (memory : E) (old new : Log) (result : Result T E) : Type 0 where
  pub ok : OnOk result (new ≡ log_with old event)
  pub wanted : result ≡ Err memory → new ≡ old
  pub failed : can → IfErr result (λ fault. fault ≢ memory → new ≡ log_with old fault_event)

-- the same of the answers other than `Ok` alone
pub record FailsWhere {T E : Type 0} (can : Type 0) (memory : E) (old new : Log) (result : Result T E) : Type 0 where
  pub wanted : result ≡ Err memory → new ≡ old
  pub failed : can → IfErr result (λ fault. fault ≢ memory → new ≡ log_with old fault_event)

-- A wait tells an end, with what stands in the folder from now on, or fails once. It takes no memory.
pub record LogsEnd (folder : List ℕ) (holds : Option Standing) (old new : Log) (result : Result ExitStatus SystemFault) : Type 0 where
  pub ok : IfOk result (λ status. new ≡ log_with old (end_event (record { status = status; folder = folder; holds = holds })))
  pub failed : OnErr result (result ≡ Err Failed)
  pub counted : OnErr result (new ≡ log_with old fault_event)

abbrev pub launch_of : {A : Type 0} → Command A → Option Standing → Launch
launch_of command holds = record { words = command_program command ∷ command_args command; folder = command_dir command; holds = holds }

-- the program has the environment of this one
pub record InheritsEnvironment {A : Type 0} (command : Command A) : Type 0 where
  pub cleared : clears_env command ≡ false
  pub variables : (name : List ℕ) → command_var command name ≡ None
