-- How a child program is started.
use Rattle.std.specs.Prelude.{◌≡◌, ◌≢◌, ℕ, ◌<◌, List, [], ◌∷◌, ◌++◌, Option, Some, None, IfSome}
use Rattle.std.specs.List.{All}
use Rattle.std.specs.Str.{IsUtf8}
use Rattle.std.specs.declared.process.status.ExitStatus.{ExitStatus}
use Rattle.object_values.specs.declared.jobs.Job.{Job}
use Rattle.odin_outside.specs.declared.events.Running.{Running}
use Rattle.odin_outside.specs.Spawned.{IsRunning}
use Rattle.odin_real.specs.Folders.{FoldersTold, SameBut, SameBeside, laid_out, IsFileName}
use Rattle.odin_real.specs.Logs.{Log, log_with, launch_event}
use Rattle.odin_real.specs.Paths.{IsSession, call_path}
use Rattle.odin_real.specs.Told.{ChildView}

-- words that a program can be started with: texts, and one at least
pub record AreWords (words : List (List ℕ)) : Type 0 where
  pub some : words ≢ []
  pub texts : All IsUtf8 words

-- a job whose words and names of files are such
pub record JobIsStartable (job : Job) : Type 0 where
  pub words : AreWords job.words
  pub files : All (λ file. IsFileName file.name) job.files

-- a slot is left
abbrev pub HasFreeSlot : List Running → ℕ → Type 0
HasFreeSlot running most = (slot : ℕ) × (slot < most) × ¬ IsRunning running slot

-- the folder of the session stays where it is, and has a name of two numbers in that of all
pub record IsHome (work : List ℕ) (old new : Option (List ℕ)) : Type 0 where
  pub stays : IfSome old (λ home. new ≡ Some home)
  pub named : old ≡ None → IfSome new (IsSession work)

-- This is the path of the folder of the start of this number, in that of the session; but for that of the session all is as it was.
pub record IsCallPath (home : Option (List ℕ)) (number : ℕ) (path : List ℕ) (held held' : FoldersTold) : Type 0 where
  pub session : List ℕ
  pub at : home ≡ Some session
  pub is : path ≡ call_path session number
  pub others : SameBut session held held'

-- There the program of the job was started, and the folder had the files of the job alone then; what it has now isn't told. But for it and
-- that of the session all is as it was.
pub record IsLaunched (home : Option (List ℕ)) (number : ℕ) (job : Job) (path : List ℕ) (held held' : FoldersTold) (log log' : Log) : Type 0 where
  pub session : List ℕ
  pub at : home ≡ Some session
  pub is : path ≡ call_path session number
  pub untold : held' path ≡ None
  pub others : SameBeside session path held held'
  pub launched : log' ≡ log_with log (launch_event (record { words = job.words; folder = Some path; holds = laid_out job.files (held path) }))

-- The same, and it runs as the youngest, in a slot.
pub record IsStarted (old new : List ChildView) (home : Option (List ℕ)) (number slot : ℕ) (job : Job) (held held' : FoldersTold) (log log' : Log) : Type 0 where
  pub path : List ℕ
  pub status : Option ExitStatus
  pub launched : IsLaunched home number job path held held' log log'
  pub runs : new ≡ old ++ (record { running = record { slot = slot; job = job }; folder = path; status = status }) ∷ []

-- A slot is left, and the job is one that can be started.
pub record CanStart (running : List Running) (job : Job) : Type 0 where
  pub room : HasFreeSlot running 64
  pub fits : JobIsStartable job
