use Rattle.std.proofs.Common.{◌≡◌, length, drop}
use Rattle.kept_tables.specs.Tests.{are_named}
use Rattle.kept_tables.proofs.outcomes.are_named.Given as goal

abbrev pub invariant-loop-place : goal.invariant-loop-place
invariant-loop-place l = (length l.outputs ≡ length l.names) × (are_named (drop l.place l.outputs) (drop l.place l.names) ≡ are_named l.outputs l.names)
