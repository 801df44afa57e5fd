-- What is told on standard error of how a run ended.
use Rattle.std.specs.Prelude.{ℕ, Bool, nat_eq, ◌&&◌, if◌then◌else◌, Option, Some, None}
use Rattle.odin_shell.specs.declared.ending.Ending.{Ending}
use Rattle.odin_shell.specs.declared.ending.Ending.TheVariants as ending
use Rattle.odin_start.specs.declared.faults.Fault.{Fault}
use Rattle.odin_start.specs.declared.faults.Fault.TheVariants.{CutShort, Disk, InUse, Memory, Output, Input, TooLong}

-- the line of an ending; of the others all is told by the replies, or by a line that was written already
abbrev pub line_of : Ending → Option Fault
line_of ending.CutShort = Some CutShort
line_of ending.Disk = Some Disk
line_of ending.Room = Some Disk
line_of ending.Memory = Some Memory
line_of ending.Output = Some Output
line_of ending.Input = Some Input
line_of ending.TooLong = Some TooLong
line_of other = None

-- that another session has the store, where a fault of the disk ended the run
abbrev pub in_use_line : ℕ → Bool → Option Fault
in_use_line status in_use = if nat_eq status 3 && in_use then Some InUse else None
