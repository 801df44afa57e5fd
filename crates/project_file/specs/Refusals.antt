-- What a function that reads a part of a project answers.
use Rattle.std.specs.Prelude.{◌≡◌, ⊤, ℕ, List, Result, Ok, Err}
use Rattle.project_file.specs.declared.project.Flaw.{Flaw}
use Rattle.project_file.specs.declared.project.Refused.{Refused}
use Rattle.project_file.specs.declared.project.Refused.TheVariants.{Memory, Problem}
use Rattle.project_file.specs.Projects.{Reading}

-- Memory is wanted, or this is the first problem with what is to be read.
abbrev pub Refuses : {A : Type 0} → Reading A → Refused → Type 0
Refuses reading Memory = ⊤
Refuses reading (Problem p) = reading ≡ Err p

-- what is to be read, or why it isn't
abbrev pub Reads : {A : Type 0} → Reading A → Result A Refused → Type 0
Reads reading (Ok x) = reading ≡ Ok x
Reads reading (Err e) = Refuses reading e

-- this problem, or that memory is wanted
abbrev pub IsRefusal : List (List ℕ) → Flaw → Refused → Type 0
IsRefusal place flaw Memory = ⊤
IsRefusal place flaw (Problem p) = p ≡ record { place = place; flaw = flaw }
