use Rattle.std.proofs.Common.{◌≡◌, ◌++◌, ℕ, List, map, Bor}
use Rattle.project_file.specs.Patterns.{step_fits}
use Rattle.project_file.specs.Rows.{pairs_pass, moved_on}
use Rattle.project_file.proofs.patterns.after_step.Given as goal

-- the names behind references
abbrev pub read : List (Bor (List ℕ)) → List (List ℕ)
read names = map (λ name. name.now) names

-- what is written and what is left to write make the whole
abbrev pub invariant-loop-name : goal.invariant-loop-name
invariant-loop-name l =
    l.next.items ++ pairs_pass (step_fits l.step) (read l.name-iterator.a.rest.now) l.name-iterator.b.rest.now ≡ moved_on (step_fits l.step) (read l.names)
    l.row
