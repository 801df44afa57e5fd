-- What is seen of a child program that runs.
use Rattle.std.specs.Prelude.{string_bytes}
use Rattle.std.specs.Process.{child_status}
use Rattle.odin_real.specs.declared.program.Started.{Started}
use Rattle.odin_real.specs.Told.{ChildView}

-- its slot and job, the path of its folder, and its status where a wait has told it
abbrev pub seen_of : {A P I O E : Type 0} → Started A P I O E → ChildView
seen_of tool = record { running = tool.running; folder = string_bytes tool.folder; status = child_status tool.child }
