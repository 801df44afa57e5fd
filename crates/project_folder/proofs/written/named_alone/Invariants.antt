use Rattle.std.proofs.Common.{◌≡◌, take}
use Rattle.project_folder.specs.Written.{named_alone}
use Rattle.project_folder.proofs.written.named_alone.Given as goal

abbrev pub invariant-loop-pattern : goal.invariant-loop-pattern
invariant-loop-pattern l = l.named ≡ named_alone (take l.pattern-index l.patterns)
