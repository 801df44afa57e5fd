use Rattle.std.proofs.Common.{◌≡◌, map, take}
use Rattle.project_build.specs.Writes.{HaveWritten, part_write}
use Rattle.project_build.proofs.object.write_parts.Given as goal

abbrev pub invariant-parts : goal.invariant-parts
invariant-parts g l = record {
  written : HaveWritten (g.O.Outputs.files l.fn.outputs) (map (part_write l.folder) (take l.part-index l.parts)) (g.O.Outputs.files l.outputs);
  counted : g.O.Outputs.faults l.outputs ≡ g.O.Outputs.faults l.fn.outputs;
}
