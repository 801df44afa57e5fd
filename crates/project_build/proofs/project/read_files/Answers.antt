use Rattle.std.proofs.Common.{refl, subst, Option}
use Rattle.odin_outside.specs.Files.{Files}
use Rattle.fresh_build.specs.Listed.{AreFiles, IsListFault}
use Rattle.project_build.specs.Projects.{IsReadFault}
use Rattle.project_build.specs.declared.fault.BuildFault.TheVariants as fault
use Rattle.project_build.proofs.ProjectLemmas.{counted_read}
use Rattle.project_build.proofs.WriteLemmas.{handed}
use Rattle.project_build.proofs.project.read_files.Goals as goal

pub returns-in_err-text-clause-err : goal.returns-in_err-text-clause-err
returns-in_err-text-clause-err g c =
    handed (IsReadFault (g.T.Tree.files c.args.tree.now) c.args.path.now c.args.names.now) c.from_residual.result (fault.Graph c.in_err-text.field-0.0)
    c.from_residual.ensures.1 c.in_err-text.ensures.err

pub returns-in_err-text-clause-cause : goal.returns-in_err-text-clause-cause
returns-in_err-text-clause-cause g c =
    counted_read _ _ _ (fault.Graph c.in_err-text.field-0.0) c.from_residual.result c.from_residual.ensures.1 refl c.in_err-text.ensures.cause.later
    c.in_err-text.ensures.cause.err

pub returns-in_err-wanted-clause-err : goal.returns-in_err-wanted-clause-err
returns-in_err-wanted-clause-err g c =
    let e = c.in_err-wanted.field-0.0 in
    handed (IsReadFault (g.T.Tree.files c.args.tree.now) c.args.path.now c.args.names.now) c.from_residual-in_err-wanted.result (fault.Sources e)
    c.from_residual-in_err-wanted.ensures.1
    (subst (λ (f : Option Files). IsListFault f c.args.names.now e) c.in_ok-text.ensures.kept c.in_err-wanted.ensures.err)

pub returns-in_err-wanted-clause-cause : goal.returns-in_err-wanted-clause-cause
returns-in_err-wanted-clause-cause g c =
    counted_read _ _ _ (fault.Sources c.in_err-wanted.field-0.0) c.from_residual-in_err-wanted.result c.from_residual-in_err-wanted.ensures.1
    c.in_ok-text.ensures.cause.ok c.in_err-wanted.ensures.cause.later c.in_err-wanted.ensures.cause.err

pub returns-clause-ok : goal.returns-clause-ok
returns-clause-ok g c = record {
  graph_is = c.in_ok-text.ensures.ok;
  sources_are = subst (λ (f : Option Files). AreFiles f c.args.names.now c.in_ok-wanted.wanted.texts) c.in_ok-text.ensures.kept c.in_ok-wanted.ensures.ok;
  fit = c.in_ok-wanted.ensures.fit;
}
