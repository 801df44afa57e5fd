use Rattle.std.proofs.Common.{◌≡◌, length, ap, sym, ◌∙◌, arith}
use Rattle.odin_memory.specs.File.{File}
use Rattle.odin_memory.proofs.Replaying.{length-calls}
use Rattle.odin_memory.proofs.disk.MemDisk.crash.Goals as goal

pub stopped-requires-clause-moment : goal.stopped-requires-clause-moment
stopped-requires-clause-moment c =
    let kept : length c.args.self.now.calls ≡ length c.self.inside.entries.items = ap (λ (file : File). length file.calls) (sym c.self.view_is) ∙ length-calls c.self.inside.entries.items c.self.inside.written.items in
    let same : length c.deref.result.now ≡ length c.self.inside.entries.items = ap length c.deref.ensures.value in
    omega arith
