use Rattle.std.proofs.Common.{◌≡◌, map, take, Bor}
use Rattle.project_file.specs.declared.project.Target.{Target}
use Rattle.project_folder.proofs.targets.all_of.Given as goal

abbrev pub invariant-loop-target : goal.invariant-loop-target
invariant-loop-target l = map (λ (t : Bor Target). t.now) l.all.items ≡ take l.target-index l.targets
