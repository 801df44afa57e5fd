-- The ways in which a run ends, each with its status.
use Rattle.std.specs.Prelude.{⊤, ℕ}
use Rattle.odin_shell.specs.declared.ending.Ending.{Ending}
use Rattle.odin_shell.specs.declared.ending.Ending.TheVariants.{Whole, CutShort, BadGraph, Disk, Memory, Output, Input, NotOurs, Full, Usage, TooLong, Loaded, Room}
use Rattle.odin_journal.specs.declared.fault.JournalFault.{JournalFault}
use Rattle.odin_journal.specs.declared.fault.JournalFault.TheVariants as fault
use Rattle.odin_shell.specs.declared.stop.Stop.{Stop}
use Rattle.odin_shell.specs.declared.stop.Stop.TheVariants as stop

abbrev pub ending_status : Ending → ℕ
ending_status Whole = 0
ending_status CutShort = 1
ending_status BadGraph = 2
ending_status Disk = 3
ending_status Memory = 4
ending_status Output = 5
ending_status Input = 6
ending_status (NotOurs at) = 7
ending_status (Full at size) = 8
ending_status Usage = 9
ending_status TooLong = 10
ending_status Loaded = 0
ending_status Room = 3

-- the endings that leave what runs: those of the store's faults, and want of memory
abbrev pub EndingLeavesTools : Ending → Type 0
EndingLeavesTools Disk = ⊤
EndingLeavesTools Memory = ⊤
EndingLeavesTools (Full at size) = ⊤
EndingLeavesTools other = ⊥

-- how a run ends whose serving stopped
abbrev pub ending_of : Stop → Ending
ending_of stop.Disk = Disk
ending_of stop.Memory = Memory
ending_of stop.Output = Output
ending_of (stop.Full at size) = Full at size
ending_of stop.Quit = Whole

-- Why the serving stops where the store failed. That a file is not a store's no command finds: this row is for no fault that comes
-- (`FileIsOurs`).
abbrev pub stop_of : JournalFault → Stop
stop_of fault.Disk = stop.Disk
stop_of (fault.NotOurs at) = stop.Memory
stop_of (fault.Full at size) = stop.Full at size
stop_of fault.Memory = stop.Memory
