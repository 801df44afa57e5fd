use Rattle.std.proofs.Common.{List, ℕ, refl, subst}
use Rattle.kept_derive.specs.Runs.{at}
use Rattle.meaning_graph.specs.Graphs.{Text}
use Rattle.odin_answers.specs.Replied.{HasReplied, HasStopped}
use Rattle.project_build.specs.Writes.{HaveWritten, HasWrittenSome}
use Rattle.project_build.specs.Built.{standing, writes_for, LeavesTools, FailsTarget}
use Rattle.project_build.specs.declared.fault.TargetFault.TheVariants as fault
use Rattle.project_build.proofs.BuildLemmas.{fails_output}
use Rattle.project_build.proofs.RestLemmas.{counted_ok, counted_output, counted_store, no_ok, rest_err, rest_none}
use Rattle.project_build.proofs.WriteLemmas.{handed}
use Rattle.project_build.proofs.targets.build_target.Goals as goal

-- ---- no reply

pub returns-in_err-reply-clause-err : goal.returns-in_err-reply-clause-err
returns-in_err-reply-clause-err g c =
    let engine = c.args.engine.now in
    let target = c.args.target.now in
    let old = at engine.store c.args.disk.now (g.S.Spawner.told c.args.tools.now) in
    let new = at c.answer_ask.new.engine.store c.answer_ask.new.disk (g.S.Spawner.told c.answer_ask.new.tools) in
    let files = g.O.Outputs.files c.args.outputs.now in
    let e = c.in_err-reply.field-0.0 in
    handed (λ why. FailsTarget g.D.Disk.told engine.graph engine.jobs target why (standing old files) (standing new files)) c.from_residual.result (fault.Store e)
    c.from_residual.ensures.1
    (record {
      stopped = subst (λ (t : Text). HasStopped g.D.Disk.told engine.graph engine.jobs t old new e) c.as_slice.ensures c.in_err-reply.ensures.err;
      files = refl;
    })

pub returns-in_err-reply-clause-rest : goal.returns-in_err-reply-clause-rest
returns-in_err-reply-clause-rest g c =
    rest_err LeavesTools c.args.engine.now.jobs (g.S.Spawner.told c.args.tools.now) (g.S.Spawner.told c.answer_ask.new.tools) (fault.Store c.in_err-reply.field-0.0)
    c.from_residual.result c.from_residual.ensures.1 c.in_err-reply.ensures.rest.answer c.in_err-reply.ensures.rest.later
    c.in_err-reply.ensures.rest.few (λ leaves. absurd (leaves tt))

pub returns-in_err-reply-clause-left : goal.returns-in_err-reply-clause-left
returns-in_err-reply-clause-left g c = no_ok _ _ c.from_residual.result c.from_residual.ensures.1

pub returns-in_err-reply-clause-cause : goal.returns-in_err-reply-clause-cause
returns-in_err-reply-clause-cause g c =
    counted_store (g.D.Disk.faults c.args.disk.now) (g.D.Disk.faults c.answer_ask.new.disk) (g.O.Outputs.faults c.args.outputs.now) c.in_err-reply.field-0.0
    c.from_residual.result c.from_residual.ensures.1 c.in_err-reply.ensures.cause.later c.in_err-reply.ensures.cause.err

-- ---- built

pub returns-in-Ok-clause-ok : goal.returns-in-Ok-clause-ok
returns-in-Ok-clause-ok g c =
    let engine = c.args.engine.now in
    let target = c.args.target.now in
    let old = at engine.store c.args.disk.now (g.S.Spawner.told c.args.tools.now) in
    let new = at c.answer_ask.new.engine.store c.answer_ask.new.disk (g.S.Spawner.told c.answer_ask.new.tools) in
    record {
      replied = subst (λ (t : Text). HasReplied g.D.Disk.told engine.graph engine.jobs t old new c.in_ok-reply.reply) c.as_slice.ensures c.in_ok-reply.ensures.ok;
      written = subst (λ (f : List ℕ). HaveWritten (g.O.Outputs.files c.args.outputs.now) (writes_for f c.in_ok-reply.reply) (g.O.Outputs.files c.write_reply.new.outputs))
          c.as_slice-2.ensures c.in-Ok.ensures.ok;
    }

pub returns-in-Ok-clause-rest : goal.returns-in-Ok-clause-rest
returns-in-Ok-clause-rest g c =
    rest_none LeavesTools _ _ _ _ c.in_ok-reply.ensures.rest.answer c.in_ok-reply.ensures.rest.later c.in_ok-reply.ensures.rest.idle

pub returns-in-Ok-clause-left : goal.returns-in-Ok-clause-left
returns-in-Ok-clause-left g c = record { ready = c.in_ok-reply.ensures.left.ready; none = c.in_ok-reply.ensures.rest.idle }

pub returns-in-Ok-clause-cause : goal.returns-in-Ok-clause-cause
returns-in-Ok-clause-cause g c = counted_ok _ _ _ _ _ c.in_ok-reply.ensures.cause.ok c.in-Ok.ensures.cause.ok

-- ---- a file that was not written

pub returns-in-Err-clause-err : goal.returns-in-Err-clause-err
returns-in-Err-clause-err g c =
    let engine = c.args.engine.now in
    let target = c.args.target.now in
    let old = at engine.store c.args.disk.now (g.S.Spawner.told c.args.tools.now) in
    let new = at c.answer_ask.new.engine.store c.answer_ask.new.disk (g.S.Spawner.told c.answer_ask.new.tools) in
    let before = g.O.Outputs.files c.args.outputs.now in
    let after = g.O.Outputs.files c.write_reply.new.outputs in
    fails_output g.D.Disk.told engine.graph engine.jobs target c.in-Err.fault c.output_fault.result (standing old before) (standing new after) c.output_fault.ensures
    (record {
      reply = c.in_ok-reply.reply;
      replied = subst (λ (t : Text). HasReplied g.D.Disk.told engine.graph engine.jobs t old new c.in_ok-reply.reply) c.as_slice.ensures c.in_ok-reply.ensures.ok;
      written = subst (λ (f : List ℕ). HasWrittenSome (writes_for f c.in_ok-reply.reply) before after) c.as_slice-2.ensures c.in-Err.ensures.err;
    })

pub returns-in-Err-clause-rest : goal.returns-in-Err-clause-rest
returns-in-Err-clause-rest g c =
    rest_none LeavesTools _ _ _ _ c.in_ok-reply.ensures.rest.answer c.in_ok-reply.ensures.rest.later c.in_ok-reply.ensures.rest.idle

pub returns-in-Err-clause-cause : goal.returns-in-Err-clause-cause
returns-in-Err-clause-cause g c =
    counted_output _ c.in-Err.fault c.output_fault.result _ _ _ _ c.output_fault.ensures c.in_ok-reply.ensures.cause.ok c.in-Err.ensures.cause.later c.in-Err.ensures.cause.failed
