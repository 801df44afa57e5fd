use Rattle.std.proofs.Common.{◌≡◌, ◌++◌, take}
use Rattle.std.specs.List.{flat_map}
use Rattle.project_kits.specs.declared.wanted.Units.{Units}
use Rattle.project_kits.proofs.plain.add_units_patterns.Given as goal

abbrev pub invariant-loop-each : goal.invariant-loop-each
invariant-loop-each l = l.all ≡ l.initial.all ++ flat_map (λ (one : Units). one.patterns) (take l.each-index l.units)
