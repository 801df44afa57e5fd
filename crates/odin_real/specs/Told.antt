-- What child programs tell.
use Rattle.std.specs.Prelude.{◌≡◌, ⊤, ℕ, zero, suc, List, [], ◌∷◌, Option, Some, None, IfSome}
use Rattle.std.specs.declared.process.status.ExitStatus.{ExitStatus}
use Rattle.odin_outside.specs.declared.events.Running.{Running}
use Rattle.odin_outside.specs.Spawned.{Spawned}

-- what runs, how many were started, and how often one failed to start or to give its end; no answers and no log
abbrev pub children_view : List Running → ℕ → ℕ → Spawned
children_view running starts faults = record { answer = None; running = running; log = None; starts = starts; faults = faults }

-- A child program: its slot and job, the path of its folder, and its status where a wait has told it.
pub record ChildView : Type 0 where
  pub running : Running
  pub folder : List ℕ
  pub status : Option ExitStatus

-- It was asked whether it has ended: what was told stays told.
pub record IsAsked (old new : ChildView) : Type 0 where
  pub running : new.running ≡ old.running
  pub folder : new.folder ≡ old.folder
  pub status : IfSome old.status (λ status. new.status ≡ Some status)

-- the same of each, in their order
abbrev pub AreAsked : List ChildView → List ChildView → Type 0
AreAsked [] [] = ⊤
AreAsked [] (new ∷ news) = ⊥
AreAsked (old ∷ olds) [] = ⊥
AreAsked (old ∷ olds) (new ∷ news) = IsAsked old new × AreAsked olds news

-- None of those before a place has told an end.
abbrev pub NoneEnded : ℕ → List ChildView → Type 0
NoneEnded zero tools = ⊤
NoneEnded (suc place) [] = ⊤
NoneEnded (suc place) (tool ∷ tools) = (tool.status ≡ None) × NoneEnded place tools
