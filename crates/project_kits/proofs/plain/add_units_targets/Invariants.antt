use Rattle.std.proofs.Common.{◌≡◌, ◌++◌, map, take}
use Rattle.project_kits.specs.Plain.{target_of}
use Rattle.project_kits.proofs.plain.add_units_targets.Given as goal

abbrev pub invariant-loop-each : goal.invariant-loop-each
invariant-loop-each l = l.targets ≡ l.initial.targets ++ map target_of (take l.each-index l.units)
