use Rattle.std.proofs.Common.{ℕ, ◌≤◌, length, take, arith}
use Rattle.std.proofs.lemmas.List.{length-take}
use Rattle.std.proofs.lemmas.Result.{on_ok_weaker}
use Rattle.odin_outside.specs.Steps.{torn_wider}
use Rattle.odin_memory.proofs.tear.mix_write.Goals as goal

pub returns : goal.returns
returns c =
    let some : length (take c.up_to-count.result c.deref-2.result.now) ≤ length c.args.bytes.now = omega (arith, length-take {A = ℕ}) in
    on_ok_weaker c.place.result (torn_wider _ _ c.args.start (length c.args.bytes.now) _ _ (omega arith) (omega arith)) c.place.ensures.torn
