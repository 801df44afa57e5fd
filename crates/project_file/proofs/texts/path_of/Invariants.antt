use Rattle.std.proofs.Common.{◌≡◌, take, map}
use Rattle.project_file.proofs.texts.path_of.Given as goal

abbrev pub invariant-loop-key : goal.invariant-loop-key
invariant-loop-key l = l.path ≡ map (λ key. key.now) (take l.key-index l.keys)
