use Rattle.std.proofs.Common.{take, ap, ◌∙◌}
use Rattle.dynamic_inputs.proofs.Found.{kept_front}
use Rattle.dynamic_inputs.proofs.names.Names.add_all.Goals as goal

pub returns-in-Err-clause-err : goal.returns-in-Err-clause-err
returns-in-Err-clause-err c =
    c.truncate.ensures ∙ ap (λ k. take k c.add.new.self) c.loop-name.invariant.known
    ∙ kept_front c.args.self.now (take c.loop-name.name-index c.args.names.now) c.add.new.self (c.in-Err.ensures.err ∙ c.loop-name.invariant.added)
