-- What the program does with its words.
use Rattle.std.specs.Prelude.{◌≡◌, ℕ, List, []}
use Rattle.odin_shell.specs.Objects.{Outside, Views}
use Rattle.odin_shell.specs.Run.{RunEnds}

-- A run with these words ended with this status; what its tools had still running has ended since, and none runs now.
pub record IsServed {I O T S D : Type 0} (m : Views I O T S D) (words : List (List ℕ)) (before now : Outside I O T S D) (status : ℕ) : Type 0 where
  pub left : S
  pub ends : RunEnds m words before (record now { tools = left }) status
  pub rest : (m.tools.told now.tools).running ≡ []
