use Rattle.derive_core.proofs.walk.Core.new.Goals as goal

pub returns-clause-formed : goal.returns-clause-formed
returns-clause-formed c = c.new.ensures.formed

pub returns-clause-right : goal.returns-clause-right
returns-clause-right c = c.new.ensures.right
