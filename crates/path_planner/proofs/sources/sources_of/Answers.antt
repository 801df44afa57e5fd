-- Maker by maker.
use Rattle.std.proofs.Common.{◌+◌, ap, sym, subst}
use Rattle.path_planner.specs.declared.route.Ends.{Ends}
use Rattle.path_planner.specs.Near.{LeadBy}
use Rattle.path_planner.proofs.EndLemmas.{place_ends, ends_are_types}
use Rattle.path_planner.proofs.SourceLemmas.{leads_one, leads_other}
use Rattle.path_planner.proofs.sources.sources_of.Goals as goal
use Rattle.path_planner.proofs.sources.sources_of.Goals.{in-Some+in_ok-add_below, in_default}

pub add_below-requires : goal.add_below-requires
add_below-requires c =
    let here = place_ends c.args.graph.now c.args.makers.now c.loop-maker.maker-index _ c.requires.made c.loop-maker-test.true in
    record { of = (ends_are_types c.args.graph.now c.loop-maker.maker-index _ here).from_is c.in-Some.from (ap (λ (e : Ends). e.from) c.in-Some.ensures.some) }

pub loop-maker-preserved : goal.loop-maker-preserved
loop-maker-preserved c = elim c.match-taken_for.branch [
  | in-Some+in_ok-add_below w ↦ subst (LeadBy c.args.graph.now c.args.to (c.loop-maker.maker-index + 1)) (sym w.sources-is)
      (leads_one c.args.graph.now c.args.to c.loop-maker.maker-index c.loop-maker.sources c.loop-maker.invariant _ (place_ends c.args.graph.now c.args.makers.now c.loop-maker.maker-index _ c.requires.made c.loop-maker-test.true) w.in-Some.from w.in-Some.ensures.some _ w.in_ok-add_below.ensures)
  | in_default w ↦ subst (LeadBy c.args.graph.now c.args.to (c.loop-maker.maker-index + 1)) (sym w.sources-is)
      (leads_other c.args.graph.now c.args.to c.loop-maker.maker-index c.loop-maker.sources c.loop-maker.invariant _ (place_ends c.args.graph.now c.args.makers.now c.loop-maker.maker-index _ c.requires.made c.loop-maker-test.true) w.in_default.ensures.none)
]
