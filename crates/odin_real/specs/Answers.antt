-- What is answered at an error of the system.
use Rattle.std.specs.Prelude.{List, ℕ, Option, None, Result, Ok, Err, if◌then◌else◌}
use Rattle.std.specs.IoError.{error_kind}
use Rattle.std.specs.declared.io.Error.{Error}
use Rattle.std.specs.declared.io.ErrorKind.{ErrorKind}
use Rattle.std.specs.declared.io.ErrorKind.TheVariants.{OutOfMemory}
use Rattle.odin_outside.specs.Causes.{once_more}
use Rattle.odin_outside.specs.declared.tree.TreeFault.{TreeFault}
use Rattle.odin_outside.specs.declared.tree.TreeFault.TheVariants as tree
use Rattle.odin_real.specs.declared.fault.SystemFault.{SystemFault}
use Rattle.odin_real.specs.declared.fault.SystemFault.TheVariants.{Failed, Memory}
use Rattle.odin_real.specs.Opens.{says_absent}

-- want of memory is no fault of the system
abbrev pub fault_of : ErrorKind → SystemFault
fault_of OutOfMemory = Memory
fault_of _ = Failed

-- nothing where the error says that no file is there, or else the fault
abbrev pub answer_of_error : Error → Result (Option (List ℕ)) SystemFault
answer_of_error error = if says_absent (error_kind error) then Ok None else Err (fault_of (error_kind error))

-- the same fault of a tree, and the count of faults after it
abbrev pub tree_fault : SystemFault → TreeFault
tree_fault Memory = tree.Memory
tree_fault Failed = tree.Failed

abbrev pub faults_after : SystemFault → ℕ → ℕ
faults_after Memory count = count
faults_after Failed count = once_more count
