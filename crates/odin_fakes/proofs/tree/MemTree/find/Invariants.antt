use Rattle.std.proofs.Common.{◌≡◌}
use Rattle.std.specs.FinMap.{get}
use Rattle.odin_fakes.proofs.Scan.{found_from}
use Rattle.odin_fakes.proofs.tree.MemTree.find.Given as goal

abbrev pub invariant-loop-file : goal.invariant-loop-file
invariant-loop-file l = get l.fn.self.files l.name ≡ found_from l.name l.file-items l.file-index
