use Rattle.std.proofs.Common.{◌≤◌, length, refl, subst, arith}
use Rattle.kept_derive.specs.Runs.{at}
use Rattle.project_build.specs.Built.{standing}
use Rattle.project_build.specs.Projects.{FailsFrom, LeavesToolsRunning}
use Rattle.project_build.specs.declared.fault.BuildFault.TheVariants as fault
use Rattle.project_build.proofs.BuildLemmas.{those}
use Rattle.project_build.proofs.ProjectLemmas.{built_from, stopped_from}
use Rattle.project_build.proofs.RestLemmas.{rest_err, rest_none}
use Rattle.project_build.proofs.WriteLemmas.{handed}
use Rattle.project_build.proofs.project.build_from.Goals as goal

pub build_targets-requires : goal.build_targets-requires
build_targets-requires g c = record { ready = c.in_ok-set_sources.ensures.left.ready; none = c.requires.none }

pub returns-in_err-set_sources-clause-err : goal.returns-in_err-set_sources-clause-err
returns-in_err-set_sources-clause-err g c =
    let engine = c.args.engine.now in
    let tools = g.S.Spawner.told c.args.tools.now in
    let files = g.O.Outputs.files c.args.outputs.now in
    let old = standing (at engine.store c.args.disk.now tools) files in
    let new = standing (at c.set_sources.new.engine.store c.set_sources.new.disk tools) files in
    let e = c.in_err-set_sources.field-0.0 in
    handed (λ why. FailsFrom g.D.Disk.told engine.graph engine.jobs c.args.wanted.now.texts (those c.args.targets.now) old new why) c.from_residual.result
    (fault.Store e) c.from_residual.ensures.1
    (record { failed = c.in_err-set_sources.ensures.err; tools = refl; files = refl })

pub returns-in_err-set_sources-clause-rest : goal.returns-in_err-set_sources-clause-rest
returns-in_err-set_sources-clause-rest g c = rest_none LeavesToolsRunning _ _ _ c.from_residual.result refl (omega arith) c.requires.none

pub returns-in_err-replies-clause-err : goal.returns-in_err-replies-clause-err
returns-in_err-replies-clause-err g c =
    let engine = c.args.engine.now in
    let tools = g.S.Spawner.told c.args.tools.now in
    let mid = c.set_sources.new.engine in
    let old = standing (at engine.store c.args.disk.now tools) (g.O.Outputs.files c.args.outputs.now) in
    let new = standing (at c.build_targets.new.engine.store c.build_targets.new.disk (g.S.Spawner.told c.build_targets.new.tools)) (g.O.Outputs.files c.build_targets.new.outputs) in
    let e = c.in_err-replies.field-0.0 in
    handed (λ why. FailsFrom g.D.Disk.told engine.graph engine.jobs c.args.wanted.now.texts (those c.args.targets.now) old new why)
    c.from_residual-in_err-replies.result (fault.Target e) c.from_residual-in_err-replies.ensures.1
    (stopped_from g.D.Disk.told c.args.wanted.now.texts (those c.args.targets.now) old new (at mid.store c.set_sources.new.disk tools)
    c.in_ok-set_sources.ensures.ok refl engine.graph mid.graph engine.jobs mid.jobs e c.in_ok-set_sources.ensures.stays.graph
    c.in_ok-set_sources.ensures.stays.jobs c.in_err-replies.ensures.err)

pub returns-in_err-replies-clause-rest : goal.returns-in_err-replies-clause-rest
returns-in_err-replies-clause-rest g c =
    let now = g.S.Spawner.told c.build_targets.new.tools in
    rest_err LeavesToolsRunning c.args.engine.now.jobs (g.S.Spawner.told c.args.tools.now) now (fault.Target c.in_err-replies.field-0.0)
    c.from_residual-in_err-replies.result c.from_residual-in_err-replies.ensures.1 c.in_err-replies.ensures.rest.answer c.in_err-replies.ensures.rest.later
    (subst (λ n. length now.running ≤ n) c.in_ok-set_sources.ensures.stays.jobs c.in_err-replies.ensures.rest.few) c.in_err-replies.ensures.rest.left

pub returns-clause-ok : goal.returns-clause-ok
returns-clause-ok g c =
    let engine = c.args.engine.now in
    let tools = g.S.Spawner.told c.args.tools.now in
    let mid = c.set_sources.new.engine in
    let old = standing (at engine.store c.args.disk.now tools) (g.O.Outputs.files c.args.outputs.now) in
    let new = standing (at c.build_targets.new.engine.store c.build_targets.new.disk (g.S.Spawner.told c.build_targets.new.tools)) (g.O.Outputs.files c.build_targets.new.outputs) in
    built_from g.D.Disk.told c.args.wanted.now.texts (those c.args.targets.now) old new (at mid.store c.set_sources.new.disk tools)
    c.in_ok-set_sources.ensures.ok refl engine.graph mid.graph engine.jobs mid.jobs c.in_ok-replies.replies c.in_ok-set_sources.ensures.stays.graph
    c.in_ok-set_sources.ensures.stays.jobs c.in_ok-replies.ensures.ok

pub returns-clause-rest : goal.returns-clause-rest
returns-clause-rest g c =
    rest_none LeavesToolsRunning _ _ _ _ c.in_ok-replies.ensures.rest.answer c.in_ok-replies.ensures.rest.later c.in_ok-replies.ensures.rest.idle
