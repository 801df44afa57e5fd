use Rattle.std.proofs.Common.{ℕ, refl, subst, inl, arith}
use Rattle.kept_derive.specs.Rests.{ComesToRest}
use Rattle.project_build.specs.Projects.{FailsOver, LeavesToolsRunning, WorkFaultIsCounted, scene}
use Rattle.project_build.specs.declared.fault.BuildFault.TheVariants as fault
use Rattle.project_build.proofs.ProjectLemmas.{built_over, failed_over, new_may_build}
use Rattle.project_build.proofs.BuildLemmas.{those}
use Rattle.project_build.proofs.RestLemmas.{rest_none}
use Rattle.project_build.proofs.WriteLemmas.{handed}
use Rattle.project_build.proofs.project.build_over.Goals as goal

pub open-requires : goal.open-requires
open-requires g c = record { read = c.requires.read; limit = c.requires.limit }

pub build_from-requires : goal.build_from-requires
build_from-requires g c =
    new_may_build c.in_ok-engine.engine _ _ _ _ _ c.in_ok-engine.ensures.new c.requires.fit c.requires.idle

pub returns-in_err-engine-clause-err : goal.returns-in_err-engine-clause-err
returns-in_err-engine-clause-err g c =
    let tools = g.S.Spawner.told c.args.tools.now in
    let files = g.O.Outputs.files c.args.outputs.now in
    let e = c.in_err-engine.field-0.0 in
    handed (FailsOver g.D.Disk.told c.args.text.now c.args.graph c.args.plan.now.jobs c.args.wanted.now.texts (those c.args.plan.now.targets.now)
    (scene c.args.disk.now tools files) (scene c.open.new.disk tools files)) c.from_residual.result (fault.Store e) c.from_residual.ensures.1
    (inl (record { refused = c.in_err-engine.ensures.refused; tools = refl; files = refl }))

pub returns-in_err-engine-clause-rest : goal.returns-in_err-engine-clause-rest
returns-in_err-engine-clause-rest g c = rest_none LeavesToolsRunning _ _ _ c.from_residual.result refl (omega arith) c.requires.idle

pub returns-clause-ok : goal.returns-clause-ok
returns-clause-ok g c =
    let tools = g.S.Spawner.told c.args.tools.now in
    let files = g.O.Outputs.files c.args.outputs.now in
    let engine = c.in_ok-engine.engine in
    let new = scene c.build_from.new.disk (g.S.Spawner.told c.build_from.new.tools) (g.O.Outputs.files c.build_from.new.outputs) in
    built_over g.D.Disk.told c.args.text.now c.args.graph engine.graph c.args.plan.now.jobs engine.jobs c.args.wanted.now.texts (those c.args.plan.now.targets.now)
    (scene c.args.disk.now tools files) new c.open.new.disk engine.store c.build_from.new.engine.store
    c.in_ok-engine.ensures.new.graph_is c.in_ok-engine.ensures.new.jobs_is c.in_ok-engine.ensures.opened c.in_ok-engine.ensures.new.knows
    c.build_from.result c.build_from.ensures.ok

pub returns-clause-err : goal.returns-clause-err
returns-clause-err g c =
    let tools = g.S.Spawner.told c.args.tools.now in
    let files = g.O.Outputs.files c.args.outputs.now in
    let engine = c.in_ok-engine.engine in
    let new = scene c.build_from.new.disk (g.S.Spawner.told c.build_from.new.tools) (g.O.Outputs.files c.build_from.new.outputs) in
    failed_over g.D.Disk.told c.args.text.now c.args.graph engine.graph c.args.plan.now.jobs engine.jobs c.args.wanted.now.texts (those c.args.plan.now.targets.now)
    (scene c.args.disk.now tools files) new c.open.new.disk engine.store c.build_from.new.engine.store
    c.in_ok-engine.ensures.new.graph_is c.in_ok-engine.ensures.new.jobs_is c.in_ok-engine.ensures.opened c.build_from.result c.build_from.ensures.err

pub returns-clause-rest : goal.returns-clause-rest
returns-clause-rest g c =
    subst (λ (n : ℕ). ComesToRest LeavesToolsRunning n (g.S.Spawner.told c.args.tools.now) (g.S.Spawner.told c.build_from.new.tools) c.build_from.result)
    c.in_ok-engine.ensures.new.jobs_is c.build_from.ensures.rest

pub returns-clause-cause : goal.returns-clause-cause
returns-clause-cause g c =
    subst (λ (n : ℕ). WorkFaultIsCounted n (g.D.Disk.faults c.build_from.new.disk) (g.O.Outputs.faults c.args.outputs.now) (g.O.Outputs.faults c.build_from.new.outputs)
    c.build_from.result) c.in_ok-engine.ensures.cause.ok c.build_from.ensures.cause
