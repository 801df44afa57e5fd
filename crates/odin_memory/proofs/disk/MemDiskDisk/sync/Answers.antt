use Rattle.std.proofs.Common.{rules}
use Rattle.odin_memory.proofs.disk.MemDiskDisk.sync.Goals as goal

pub returns-clause-ok : goal.returns-clause-ok
returns-clause-ok c = search rules
