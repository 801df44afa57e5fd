use Rattle.std.proofs.Common.{◌≡◌, refl, arith}
use Rattle.std.proofs.lemmas.Grind.{common_steps}
use Rattle.odin_fakes.proofs.sink.MemSinkSink.write.Goals as goal
use Rattle.odin_fakes.proofs.sink.MemSinkSink.write.Goals.{then-count-eq0-via-then-count-eq0, then-count-eq0-via-else-count-eq0+then-is_err}

pub returns-then-count-eq0-clause-fails : goal.returns-then-count-eq0-clause-fails
returns-then-count-eq0-clause-fails c =
    let none : c.args.self.now.room ≡ 0 = elim c.then-count-eq0.branch [ then-count-eq0-via-then-count-eq0 w ↦ grind arith | then-count-eq0-via-else-count-eq0+then-is_err w ↦ grind (arith, common_steps) ] in
    ((λ _. none), (λ _. refl))
