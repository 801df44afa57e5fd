use Rattle.std.proofs.Common.{◌<◌, length, arith, rules}
use Rattle.test_support.proofs.NoteLemmas.{one_more}
use Rattle.test_support.proofs.notable.are_reached_last.Goals as goal

pub loop-dep-preserved : goal.loop-dep-preserved
loop-dep-preserved c =
    let deps = c.args.deps.now in
    let within : c.loop-dep.dep-index < length deps = omega arith in
    let role = c.is_reached-is.ensures in
    λ rest. c.loop-dep.invariant (one_more deps c.loop-dep.dep-index c.dep-item.result within c.dep-item.is c.loop-dep.reached c.is_reached-is.result
    role.reached role.needed (c.may_follow.ensures (search rules)) rest)
