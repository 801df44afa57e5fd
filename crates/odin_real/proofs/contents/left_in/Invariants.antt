use Rattle.std.proofs.Common.{◌≡◌, take}
use Rattle.odin_real.specs.Folders.{AreLeft}
use Rattle.odin_real.proofs.contents.left_in.Given as goal

abbrev pub invariant-loop-name : goal.invariant-loop-name
invariant-loop-name g l = record {
  left : AreLeft (g.S.System.held l.fn.system l.folder) (take l.name-index l.names) l.files;
  held : g.S.System.held l.system ≡ g.S.System.held l.fn.system;
  log : g.S.System.log l.system ≡ g.S.System.log l.fn.system;
}
