use Rattle.std.proofs.Common.{◌≡◌, Some, slice_get, sym, rules}
use Rattle.dynamic_inputs.proofs.Found.{stands_there}
use Rattle.dynamic_inputs.proofs.names.Names.add.Goals as goal

pub returns-in-Some-clause-place : goal.returns-in-Some-clause-place
returns-in-Some-clause-place c =
    let there : slice_get c.self.inside.names.keys c.in-Some.place ≡ Some c.args.name.now = stands_there c.self.inside.names.keys c.args.name.now c.in-Some.place (sym c.in-Some.ensures.index) in
    grind rules
