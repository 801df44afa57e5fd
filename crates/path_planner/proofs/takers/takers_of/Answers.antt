-- Maker by maker.
use Rattle.std.proofs.Common.{◌<◌, ◌≤◌, ◌+◌, ap, length, arith}
use Rattle.std.proofs.lemmas.List.{length-map}
use Rattle.meaning_graph.specs.Graphs.{makers}
use Rattle.path_planner.specs.Ends.{ends_in, ends_of}
use Rattle.path_planner.proofs.EndLemmas.{place_ends, ends_are_types}
use Rattle.path_planner.proofs.TakerLemmas.{one_taker, all_takers}
use Rattle.path_planner.proofs.takers.takers_of.Goals as goal

pub add_taker-requires-clause-ends : goal.add_taker-requires-clause-ends
add_taker-requires-clause-ends c =
    let below : c.loop-number.number < length c.args.makers.now = omega (arith, c.loop-number-test.true, c.maker_count-number-end.ensures, ap length c.requires.made, length-map (makers c.args.graph.now) (ends_of c.args.graph.now)) in
    ends_are_types c.args.graph.now c.loop-number.number _ (place_ends c.args.graph.now c.args.makers.now c.loop-number.number _ c.requires.made below)

pub loop-number-preserved : goal.loop-number-preserved
loop-number-preserved c =
    let below : c.loop-number.number < length c.args.makers.now = omega (arith, c.loop-number-test.true, c.maker_count-number-end.ensures, ap length c.requires.made, length-map (makers c.args.graph.now) (ends_of c.args.graph.now)) in
    one_taker c.args.graph.now c.args.a (ends_in c.args.graph.now) c.loop-number.number (c.loop-number.number + 1) _ c.loop-number.takers _ _ (place_ends c.args.graph.now c.args.makers.now c.loop-number.number _ c.requires.made below) (omega arith) c.loop-number.invariant c.in_ok-add_taker.ensures

pub returns : goal.returns
returns c =
    let all : length (ends_in c.args.graph.now) ≤ c.loop-number.number = omega (arith, c.loop-number-test.false, c.maker_count-number-end.ensures, length-map (makers c.args.graph.now) (ends_of c.args.graph.now)) in
    all_takers c.args.graph.now c.args.a (ends_in c.args.graph.now) c.loop-number.number c.loop-number.takers _ all c.loop-number.invariant
