-- The exit statuses that tell why nothing was printed.
use Rattle.std.specs.Prelude.{ℕ}
use Rattle.build_files.specs.declared.takes.Fault.{Fault}
use Rattle.build_files.specs.declared.takes.Fault.TheVariants.{Input, Output, Memory, Words}

abbrev pub takes_fault_status : Fault → ℕ
takes_fault_status (Input cause) = 3
takes_fault_status (Output cause) = 3
takes_fault_status Memory = 4
takes_fault_status Words = 9
