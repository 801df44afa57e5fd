-- How one of the child programs that run is given up.
use Rattle.std.specs.Prelude.{◌≡◌, ℕ, List, ◌∷◌, ◌++◌, length, Result, Ok, Err}
use Rattle.std.specs.List.{All}
use Rattle.object_values.specs.declared.jobs.Raw.{Raw}
use Rattle.odin_outside.specs.declared.spawner.FinishFault.{FinishFault}
use Rattle.odin_outside.specs.declared.spawner.FinishFault.TheVariants.{Failed, Memory}
use Rattle.odin_real.specs.Ends.{HasEnded, HasLeft, IsLost}
use Rattle.odin_real.specs.Folders.{FoldersTold, IsGone, IsFileName, SameBut}
use Rattle.odin_real.specs.Logs.{Log}
use Rattle.odin_real.specs.Told.{ChildView, AreAsked, NoneEnded}

-- Its folder is gone, and at other paths all is as it was.
pub record FolderIsCleared (tool : ChildView) (held held' : FoldersTold) : Type 0 where
  pub gone : IsGone (held' tool.folder)
  pub others : SameBut tool.folder held held'

-- One that ran in this slot is given up, the oldest of those that ended: its folder is gone, and all others run on.
pub record IsGivenUp (old new : List ChildView) (slot : ℕ) (held held' : FoldersTold) : Type 0 where
  pub before : List ChildView
  pub tool : ChildView
  pub after : List ChildView
  pub ran : old ≡ before ++ tool ∷ after
  pub at : tool.running.slot ≡ slot
  pub cleared : FolderIsCleared tool held held'
  pub stay : AreAsked (before ++ after) new
  pub oldest : NoneEnded (length before) new

-- the same of one whose result is given: its end is the last one that was told
pub record ResultIsGiven (old new : List ChildView) (slot : ℕ) (raw : Raw) (held held' : FoldersTold) (log log' : Log) : Type 0 where
  pub up : IsGivenUp old new slot held held'
  pub left : HasLeft up.tool log log' raw

-- the same of one whose result is lost
pub record ResultIsLost (old new : List ChildView) (slot : ℕ) (held held' : FoldersTold) (log log' : Log) : Type 0 where
  pub up : IsGivenUp old new slot held held'
  pub why : All IsFileName up.tool.running.job.outs → IsLost up.tool log log'

-- One of them has ended and runs on with all others, so that the call can be made again. But for its folder all stands as it was.
pub record IsPutOff (old new : List ChildView) (held held' : FoldersTold) (log log' : Log) : Type 0 where
  pub before : List ChildView
  pub tool : ChildView
  pub after : List ChildView
  pub runs : old ≡ before ++ tool ∷ after
  pub stay : AreAsked old new
  pub others : SameBut tool.folder held held'
  pub ended : HasEnded tool log log'

-- A finish: one is given, or given up in a slot, or the call is put off for want of memory.
abbrev pub Finishes : List ChildView → List ChildView → FoldersTold → FoldersTold → Log → Log → Result (ℕ × Raw) FinishFault → Type 0
Finishes old new held held' log log' (Ok end) = ResultIsGiven old new end.0 end.1 held held' log log'
Finishes old new held held' log log' (Err (Failed slot)) = ResultIsLost old new slot held held' log log'
Finishes old new held held' log log' (Err Memory) = IsPutOff old new held held' log log'
