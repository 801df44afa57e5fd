use Rattle.std.proofs.Common.{◌≡◌, arith}
use Rattle.std.specs.Prelude.{None, Some, slice_get}
use Rattle.std.proofs.lemmas.Grind.{common_steps}
use Rattle.std.proofs.lemmas.Option.{gets}
use Rattle.kept_contents.specs.Heads.{head_of}
use Rattle.kept_contents.proofs.HeadLemmas.{stands_at, stands_past}
use Rattle.kept_contents.proofs.heads.SoughtHeadSought.is_at.Goals as goal

pub returns-in-Some : goal.returns-in-Some
returns-in-Some c =
    let heads = c.args.self.now.heads.now in
    let there = c.in-Some.head.now in
    let at : slice_get heads c.args.number ≡ Some there = grind (arith, common_steps, gets) in
    stands_at (head_of c.args.self.now.call.now) heads c.args.number there c.is_of.result at c.is_of.ensures

pub returns-in-None : goal.returns-in-None
returns-in-None c =
    let heads = c.args.self.now.heads.now in
    let at : slice_get heads c.args.number ≡ None = grind (arith, common_steps, gets) in
    stands_past (head_of c.args.self.now.call.now) heads c.args.number at
