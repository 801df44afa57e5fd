use Rattle.odin_shell.specs.Run.{whole, cut_off}
use Rattle.odin_shell.proofs.entry.end_with.Goals as goal

pub returns-in-Ok : goal.returns-in-Ok
returns-in-Ok g c = whole c.in-Ok.ensures.ok

pub returns-in-Err : goal.returns-in-Err
returns-in-Err g c = cut_off c.in-Err.ensures.err
