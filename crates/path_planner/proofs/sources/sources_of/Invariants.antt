-- So many makers are looked at.
use Rattle.path_planner.specs.Near.{LeadBy}
use Rattle.path_planner.proofs.sources.sources_of.Given as goal

abbrev pub invariant-loop-maker : goal.invariant-loop-maker
invariant-loop-maker l = LeadBy l.graph l.to l.maker-index l.sources
