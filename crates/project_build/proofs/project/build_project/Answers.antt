use Rattle.std.proofs.Common.{List, ℕ, refl, sym, subst, inl, arith}
use Rattle.dg_reader.specs.Files.{IsRead}
use Rattle.project_build.specs.Projects.{IsProjectUnbuilt, LeavesToolsRunning, scene}
use Rattle.project_build.proofs.BuildLemmas.{those}
use Rattle.project_build.proofs.ProjectLemmas.{built_all, counted_unread, failed_all, read_as, read_counted}
use Rattle.project_build.proofs.RestLemmas.{rest_none}
use Rattle.project_build.proofs.WriteLemmas.{handed}
use Rattle.project_build.proofs.project.build_project.Goals as goal

-- ---- what is not read

pub returns-in_err-text-clause-err : goal.returns-in_err-text-clause-err
returns-in_err-text-clause-err g c =
    let plan = c.args.plan.now in
    let old = scene c.args.disk.now (g.S.Spawner.told c.args.tools.now) (g.O.Outputs.files c.args.outputs.now) in
    handed (IsProjectUnbuilt g.D.Disk.told (g.T.Tree.files c.args.tree.now) plan.graph.now plan.sources.now plan.jobs (those plan.targets.now) old old)
    c.from_residual.result c.in_err-text.field-0.0 c.from_residual.ensures.1 (inl (record { fails = c.in_err-text.ensures.err; same = refl }))

pub returns-in_err-text-clause-rest : goal.returns-in_err-text-clause-rest
returns-in_err-text-clause-rest g c = rest_none LeavesToolsRunning _ _ _ c.from_residual.result refl (omega arith) c.requires.idle

pub returns-in_err-text-clause-cause : goal.returns-in_err-text-clause-cause
returns-in_err-text-clause-cause g c =
    let plan = c.args.plan.now in
    counted_unread (g.T.Tree.files c.args.tree.now) plan.graph.now plan.sources.now _ _ _ _ c.in_err-text.field-0.0 c.from_residual.result c.from_residual.ensures.1
    c.in_err-text.ensures.err c.in_err-text.ensures.cause.later c.in_err-text.ensures.cause.err

-- ---- what is

pub build_over-requires : goal.build_over-requires
build_over-requires g c = record {
  read = subst (λ (t : List ℕ). IsRead t c.in_ok-text.graph) (sym c.as_slice.ensures) c.in_ok-text.ensures.ok.graph_is.read;
  limit = c.requires.limit;
  fit = c.in_ok-text.ensures.ok.fit;
  idle = c.requires.idle;
}

pub returns-clause-ok : goal.returns-clause-ok
returns-clause-ok g c =
    let plan = c.args.plan.now in
    let old = scene c.args.disk.now (g.S.Spawner.told c.args.tools.now) (g.O.Outputs.files c.args.outputs.now) in
    let new = scene c.build_over.new.disk (g.S.Spawner.told c.build_over.new.tools) (g.O.Outputs.files c.build_over.new.outputs) in
    built_all g.D.Disk.told (g.T.Tree.files c.args.tree.now) plan.graph.now plan.sources.now plan.jobs (those plan.targets.now) old new c.as_slice.result.now
    c.in_ok-text.graph c.in_ok-text.wanted.texts c.build_over.result (read_as (g.T.Tree.files c.args.tree.now) plan.graph.now plan.sources.now _ c.as_slice.result.now
    c.in_ok-text.graph c.in_ok-text.wanted.texts c.as_slice.ensures c.in_ok-text.ensures.ok) c.build_over.ensures.ok

pub returns-clause-err : goal.returns-clause-err
returns-clause-err g c =
    let plan = c.args.plan.now in
    let old = scene c.args.disk.now (g.S.Spawner.told c.args.tools.now) (g.O.Outputs.files c.args.outputs.now) in
    let new = scene c.build_over.new.disk (g.S.Spawner.told c.build_over.new.tools) (g.O.Outputs.files c.build_over.new.outputs) in
    failed_all g.D.Disk.told (g.T.Tree.files c.args.tree.now) plan.graph.now plan.sources.now plan.jobs (those plan.targets.now) old new c.as_slice.result.now
    c.in_ok-text.graph c.in_ok-text.wanted.texts c.build_over.result (read_as (g.T.Tree.files c.args.tree.now) plan.graph.now plan.sources.now _ c.as_slice.result.now
    c.in_ok-text.graph c.in_ok-text.wanted.texts c.as_slice.ensures c.in_ok-text.ensures.ok) c.build_over.ensures.err

pub returns-clause-cause : goal.returns-clause-cause
returns-clause-cause g c =
    let plan = c.args.plan.now in
    let old = scene c.args.disk.now (g.S.Spawner.told c.args.tools.now) (g.O.Outputs.files c.args.outputs.now) in
    let new = scene c.build_over.new.disk (g.S.Spawner.told c.build_over.new.tools) (g.O.Outputs.files c.build_over.new.outputs) in
    record {
      tree = read_counted g.D.Disk.told c.as_slice.result.now c.in_ok-text.graph plan.jobs c.in_ok-text.wanted.texts (those plan.targets.now) old new _ _
          c.build_over.result c.build_over.ensures.err c.in_ok-text.ensures.cause.ok;
      work = c.build_over.ensures.cause;
    }
