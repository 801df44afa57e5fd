use Rattle.std.proofs.Common.{◌≡◌, ap}
use Rattle.odin_fakes.specs.Plan.{FaultPlan}
use Rattle.odin_fakes.proofs.FailingEnds.{lost_by_plan}
use Rattle.odin_fakes.proofs.fail_tools.FailingTableToolsSpawner.finish.Goals as goal

pub returns-then-fails_next-clause-told_lost : goal.returns-then-fails_next-clause-told_lost
returns-then-fails_next-clause-told_lost c = λ slot is.
    let same : c.fails_next.new.self.faults ≡ c.args.self.now.plan.faults = ap (λ (plan : FaultPlan). plan.faults) c.fails_next.ensures.counted in
    let lost : c.in_ok-slot.slot ≡ slot = cc in
    lost_by_plan c.args.self.now (record { inner = c.lose.new.self; plan = c.count_fault.new.self }) c.fails_next.new.self.faults c.in_ok-slot.slot slot same c.count_fault.ensures.rose c.in_ok-slot.ensures.ok lost
