use Rattle.std.proofs.Common.{◌≡◌, length, drop}
use Rattle.validator.specs.Fitting.{are_named}
use Rattle.validator.proofs.fitting.are_named.Given as goal

abbrev pub invariant-loop-place : goal.invariant-loop-place
invariant-loop-place l = (length l.parts ≡ length l.declared) × (are_named (drop l.place l.parts) (drop l.place l.declared) ≡ are_named l.parts l.declared)
