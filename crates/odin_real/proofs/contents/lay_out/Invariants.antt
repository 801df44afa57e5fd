use Rattle.std.proofs.Common.{◌≡◌, take}
use Rattle.odin_real.specs.Folders.{laid_out, SameBut}
use Rattle.odin_real.proofs.contents.lay_out.Given as goal

abbrev pub invariant-loop-file : goal.invariant-loop-file
invariant-loop-file g l = record {
  laid : g.S.System.held l.system l.folder ≡ laid_out (take l.file-index l.files) (g.S.System.held l.fn.system l.folder);
  others : SameBut l.folder (g.S.System.held l.fn.system) (g.S.System.held l.system);
  log : g.S.System.log l.system ≡ g.S.System.log l.fn.system;
}
