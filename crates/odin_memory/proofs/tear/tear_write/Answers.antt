use Rattle.std.proofs.Common.{◌≡◌, ℕ, ◌-◌, ◌≤◌, ◌/◌, length, take, drop, length-drop, arith}
use Rattle.std.proofs.lemmas.List.{length-take}
use Rattle.std.proofs.lemmas.Result.{on_ok_weaker}
use Rattle.odin_outside.specs.Steps.{torn_wider}
use Rattle.odin_memory.proofs.tear.tear_write.Goals as goal

pub returns-in-2-clause-torn : goal.returns-in-2-clause-torn
returns-in-2-clause-torn c =
    let half : length (take (length c.args.bytes.now / 2) c.args.bytes.now) ≤ length c.args.bytes.now = omega (arith, length-take {A = ℕ}) in
    on_ok_weaker c.place-in-2.result (torn_wider _ _ c.args.start (length c.args.bytes.now) _ _ (omega arith) (omega arith)) c.place-in-2.ensures.torn

pub returns-in-3-clause-torn : goal.returns-in-3-clause-torn
returns-in-3-clause-torn c =
    let half : length (drop (length c.args.bytes.now / 2) c.args.bytes.now) ≡ length c.args.bytes.now - length c.args.bytes.now / 2 = length-drop {A = ℕ} _ _ in
    on_ok_weaker c.place-in-3.result (torn_wider _ _ c.args.start (length c.args.bytes.now) _ _ (omega arith) (omega arith)) c.place-in-3.ensures.torn
