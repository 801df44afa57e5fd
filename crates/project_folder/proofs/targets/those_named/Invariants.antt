use Rattle.std.proofs.Common.{map, take, Bor, List, ℕ}
use Rattle.project_file.specs.declared.project.Target.{Target}
use Rattle.project_folder.specs.Targets.{AreNamed}
use Rattle.project_folder.proofs.targets.those_named.Given as goal

abbrev pub invariant-loop-name : goal.invariant-loop-name
invariant-loop-name l = AreNamed l.targets (map (λ (n : Bor (List ℕ)). n.now) (take l.name-index l.names)) (map (λ (t : Bor Target). t.now) l.found.items)
