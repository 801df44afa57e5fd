use Rattle.std.proofs.Common.{◌≡◌, take, drop}
use Rattle.odin_engine.specs.Engaged.{GraphStays}
use Rattle.fresh_build.specs.Edits.{changes_of}
use Rattle.fresh_build.specs.Sets.{MakesChanges, MayMake}
use Rattle.fresh_build.proofs.set.make_edits.Given as goal

abbrev pub invariant-edits : goal.invariant-edits
invariant-edits g l = record {
  makes : MakesChanges g.D.Disk.told (changes_of (take l.edit-index l.edits)) l.fn.engine.store l.engine.store l.fn.disk l.disk;
  may : MayMake l.engine.store (g.D.Disk.size_of l.disk) (drop l.edit-index l.edits);
  stays : GraphStays l.fn.engine l.engine;
  counted : g.D.Disk.faults l.disk ≡ g.D.Disk.faults l.fn.disk;
}
