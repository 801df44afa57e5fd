use Rattle.std.proofs.Common.{take}
use Rattle.project_kits.specs.Lists.{AreListFiles}
use Rattle.project_kits.proofs.lists.list_files.Given as goal

abbrev pub invariant-units : goal.invariant-units
invariant-units l = AreListFiles l.outputs l.found (take l.each-index l.units) l.files
