use Rattle.std.proofs.Common.{◌≤◌, List, [], length, refl, sym, subst, ◌∙◌, arith}
use Rattle.kept_derive.specs.Runs.{at}
use Rattle.object_values.specs.declared.replies.Reply.{Reply}
use Rattle.project_build.specs.Built.{AreBuilt, none_built, standing, StopsBuilding, LeavesTools}
use Rattle.project_build.specs.declared.fault.TargetFault.TheVariants as fault
use Rattle.project_build.proofs.BuildLemmas.{those, built_by, fails_by, half_of, one_more, stops_at}
use Rattle.project_build.proofs.RestLemmas.{rest_err, rest_none}
use Rattle.project_build.proofs.WriteLemmas.{handed}
use Rattle.project_build.proofs.targets.build_targets.Goals as goal

pub targets-init : goal.targets-init
targets-init g c =
    let start = standing (at c.args.engine.now.store c.args.disk.now (g.S.Spawner.told c.args.tools.now)) (g.O.Outputs.files c.args.outputs.now) in
    record {
      built = subst (λ (r : List Reply). AreBuilt g.D.Disk.told c.args.engine.now.graph c.args.engine.now.jobs start [] r start) (sym c.new-replies.ensures) none_built;
      idle = c.requires;
      stays = record { graph = refl; jobs = refl };
      answer = refl;
      later = omega arith;
      disk = refl;
      written = refl;
    }

pub returns-in_err-reply-clause-err : goal.returns-in_err-reply-clause-err
returns-in_err-reply-clause-err g c =
    let engine = c.args.engine.now in
    let old = standing (at engine.store c.args.disk.now (g.S.Spawner.told c.args.tools.now)) (g.O.Outputs.files c.args.outputs.now) in
    let mid = standing (at c.targets.engine.store c.targets.disk (g.S.Spawner.told c.targets.tools)) (g.O.Outputs.files c.targets.outputs) in
    let new = standing (at c.build_target.new.engine.store c.build_target.new.disk (g.S.Spawner.told c.build_target.new.tools)) (g.O.Outputs.files c.build_target.new.outputs) in
    let e = c.in_err-reply.field-0.0 in
    handed (λ why. StopsBuilding g.D.Disk.told engine.graph engine.jobs (those c.args.targets.now) old new why) c.from_residual.result e c.from_residual.ensures.1
    (stops_at g.D.Disk.told engine.graph engine.jobs c.args.targets.now c.targets.target-index c.target-item.result c.targets.replies e old mid new
    c.targets-test.true c.target-item.is c.targets.invariant.built
    (fails_by g.D.Disk.told engine.graph c.targets.engine.graph engine.jobs c.targets.engine.jobs c.target-item.result.now e mid new
    c.targets.invariant.stays.graph c.targets.invariant.stays.jobs c.in_err-reply.ensures.err))

pub returns-in_err-push-clause-err : goal.returns-in_err-push-clause-err
returns-in_err-push-clause-err g c =
    let engine = c.args.engine.now in
    let old = standing (at engine.store c.args.disk.now (g.S.Spawner.told c.args.tools.now)) (g.O.Outputs.files c.args.outputs.now) in
    let mid = standing (at c.targets.engine.store c.targets.disk (g.S.Spawner.told c.targets.tools)) (g.O.Outputs.files c.targets.outputs) in
    let new = standing (at c.build_target.new.engine.store c.build_target.new.disk (g.S.Spawner.told c.build_target.new.tools)) (g.O.Outputs.files c.build_target.new.outputs) in
    handed (λ why. StopsBuilding g.D.Disk.told engine.graph engine.jobs (those c.args.targets.now) old new why) c.from_residual-in_err-push.result fault.Memory
    c.from_residual-in_err-push.ensures.1
    (stops_at g.D.Disk.told engine.graph engine.jobs c.args.targets.now c.targets.target-index c.target-item.result c.targets.replies fault.Memory old mid new
    c.targets-test.true c.target-item.is c.targets.invariant.built
    (half_of g.D.Disk.told engine.graph engine.jobs c.target-item.result.now c.in_ok-reply.reply mid new
    (built_by g.D.Disk.told engine.graph c.targets.engine.graph engine.jobs c.targets.engine.jobs c.target-item.result.now c.in_ok-reply.reply mid new
    c.targets.invariant.stays.graph c.targets.invariant.stays.jobs c.in_ok-reply.ensures.ok)))

pub returns-in_err-reply-clause-rest : goal.returns-in_err-reply-clause-rest
returns-in_err-reply-clause-rest g c =
    let tools = g.S.Spawner.told c.build_target.new.tools in
    rest_err LeavesTools c.args.engine.now.jobs (g.S.Spawner.told c.args.tools.now) tools c.in_err-reply.field-0.0
    c.from_residual.result c.from_residual.ensures.1 (c.in_err-reply.ensures.rest.answer ∙ c.targets.invariant.answer)
    (omega (arith, c.targets.invariant.later, c.in_err-reply.ensures.rest.later))
    (subst (λ n. length tools.running ≤ n) c.targets.invariant.stays.jobs c.in_err-reply.ensures.rest.few) c.in_err-reply.ensures.rest.left

pub returns-in_err-push-clause-rest : goal.returns-in_err-push-clause-rest
returns-in_err-push-clause-rest g c =
    rest_none LeavesTools c.args.engine.now.jobs (g.S.Spawner.told c.args.tools.now) (g.S.Spawner.told c.build_target.new.tools) c.from_residual-in_err-push.result
    (c.in_ok-reply.ensures.rest.answer ∙ c.targets.invariant.answer) (omega (arith, c.targets.invariant.later, c.in_ok-reply.ensures.rest.later))
    c.in_ok-reply.ensures.rest.idle

pub targets-preserved : goal.targets-preserved
targets-preserved g c =
    let engine = c.args.engine.now in
    let old = standing (at engine.store c.args.disk.now (g.S.Spawner.told c.args.tools.now)) (g.O.Outputs.files c.args.outputs.now) in
    let mid = standing (at c.targets.engine.store c.targets.disk (g.S.Spawner.told c.targets.tools)) (g.O.Outputs.files c.targets.outputs) in
    let new = standing (at c.build_target.new.engine.store c.build_target.new.disk (g.S.Spawner.told c.build_target.new.tools)) (g.O.Outputs.files c.build_target.new.outputs) in
    record {
      built = one_more g.D.Disk.told engine.graph engine.jobs c.args.targets.now c.targets.target-index c.target-item.result c.targets.replies c.push.new.self
          c.in_ok-reply.reply old mid new c.targets-test.true c.target-item.is c.in_ok-push.ensures.ok c.targets.invariant.built
          (built_by g.D.Disk.told engine.graph c.targets.engine.graph engine.jobs c.targets.engine.jobs c.target-item.result.now c.in_ok-reply.reply mid new
          c.targets.invariant.stays.graph c.targets.invariant.stays.jobs c.in_ok-reply.ensures.ok);
      idle = c.in_ok-reply.ensures.left;
      stays = record {
        graph = c.in_ok-reply.ensures.stays.graph ∙ c.targets.invariant.stays.graph;
        jobs = c.in_ok-reply.ensures.stays.jobs ∙ c.targets.invariant.stays.jobs;
      };
      answer = c.in_ok-reply.ensures.rest.answer ∙ c.targets.invariant.answer;
      later = omega (arith, c.targets.invariant.later, c.in_ok-reply.ensures.rest.later);
      disk = c.in_ok-reply.ensures.cause.ok.0 ∙ c.targets.invariant.disk;
      written = c.in_ok-reply.ensures.cause.ok.1 ∙ c.targets.invariant.written;
    }

pub returns-clause-rest : goal.returns-clause-rest
returns-clause-rest g c =
    rest_none LeavesTools _ _ _ _ c.targets.invariant.answer c.targets.invariant.later c.targets.invariant.idle.none
