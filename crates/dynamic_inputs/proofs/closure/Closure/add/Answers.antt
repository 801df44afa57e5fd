use Rattle.dynamic_inputs.proofs.Asked.{tells_as, followed_as}
use Rattle.dynamic_inputs.proofs.closure.Closure.add.Goals as goal

pub invariant_of-self : goal.invariant_of-self
invariant_of-self c = followed_as c.self.inside.root c.self.inside.names c.self.inside.told c.args.self.now c.args.lines.now c.tell.new.names c.tell.new.told c.self.invariant c.self.view_is c.requires c.in-Ok.ensures.ok

pub returns-in-Ok-clause-ok : goal.returns-in-Ok-clause-ok
returns-in-Ok-clause-ok c = tells_as c.self.inside.root c.self.inside.names c.self.inside.told c.args.self.now c.args.lines.now c.tell.new.names c.tell.new.told c.self.invariant c.self.view_is c.requires c.in-Ok.ensures.ok
