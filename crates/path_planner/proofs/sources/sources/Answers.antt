-- Type by type.
use Rattle.std.proofs.Common.{◌+◌, sym, subst}
use Rattle.path_planner.specs.Near.{AreSourcesTo}
use Rattle.path_planner.proofs.SourceLemmas.{more_sources}
use Rattle.path_planner.proofs.sources.sources.Goals as goal

pub loop-to-preserved : goal.loop-to-preserved
loop-to-preserved c = subst (AreSourcesTo c.args.graph.now (c.loop-to.to + 1)) (sym c.in_ok-push.ensures.ok) (more_sources c.args.graph.now c.loop-to.to c.loop-to.sources c.loop-to.invariant _ c.in_ok-sources_of.ensures)
