use Rattle.std.proofs.Common.{◌≡◌, ◌≤◌, take}
use Rattle.kept_derive.specs.Calls.{IsIdle}
use Rattle.kept_derive.specs.Runs.{at}
use Rattle.odin_engine.specs.Engaged.{GraphStays}
use Rattle.project_build.specs.Built.{AreBuilt, standing}
use Rattle.project_build.proofs.BuildLemmas.{those}
use Rattle.project_build.proofs.targets.build_targets.Given as goal

abbrev pub invariant-targets : goal.invariant-targets
invariant-targets g l = record {
  built : AreBuilt g.D.Disk.told l.fn.engine.graph l.fn.engine.jobs
      (standing (at l.fn.engine.store l.fn.disk (g.S.Spawner.told l.fn.tools)) (g.O.Outputs.files l.fn.outputs)) (those (take l.target-index l.targets)) l.replies
      (standing (at l.engine.store l.disk (g.S.Spawner.told l.tools)) (g.O.Outputs.files l.outputs));
  idle : IsIdle l.engine.store (g.D.Disk.size_of l.disk) (g.S.Spawner.told l.tools);
  stays : GraphStays l.fn.engine l.engine;
  answer : (g.S.Spawner.told l.tools).answer ≡ (g.S.Spawner.told l.fn.tools).answer;
  later : (g.S.Spawner.told l.fn.tools).faults ≤ (g.S.Spawner.told l.tools).faults;
  disk : g.D.Disk.faults l.disk ≡ g.D.Disk.faults l.fn.disk;
  written : g.O.Outputs.faults l.outputs ≡ g.O.Outputs.faults l.fn.outputs;
}
