use Rattle.std.proofs.Common.{◌≡◌, arith}
use Rattle.std.specs.Prelude.{None, Some, slice_get}
use Rattle.std.proofs.lemmas.Grind.{common_steps}
use Rattle.std.proofs.lemmas.Option.{gets}
use Rattle.kept_records.proofs.PlaceLemmas.{stands_at, stands_past}
use Rattle.kept_records.proofs.sought.SoughtNodeSought.is_at.Goals as goal

pub returns-in-Some : goal.returns-in-Some
returns-in-Some c =
    let records = c.args.self.now.records.now in
    let there = c.in-Some.kept.now in
    let at : slice_get records c.args.number ≡ Some there = grind (arith, common_steps, gets) in
    stands_at c.args.self.now.node.now records c.args.number there c.eq.result at c.eq.ensures

pub returns-in-None : goal.returns-in-None
returns-in-None c =
    let records = c.args.self.now.records.now in
    let at : slice_get records c.args.number ≡ None = grind (arith, common_steps, gets) in
    stands_past c.args.self.now.node.now records c.args.number at
