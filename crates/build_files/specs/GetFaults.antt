-- The exit statuses that tell why there was no answer.
use Rattle.std.specs.Prelude.{ℕ}
use Rattle.build_files.specs.declared.get.Fault.{Fault}
use Rattle.build_files.specs.declared.get.Fault.TheVariants.{Replies, Input, Output, Memory, Words}

abbrev pub get_fault_status : Fault → ℕ
get_fault_status Replies = 2
get_fault_status (Input cause) = 3
get_fault_status (Output cause) = 3
get_fault_status Memory = 4
get_fault_status Words = 9
