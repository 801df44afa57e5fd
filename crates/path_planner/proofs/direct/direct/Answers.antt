-- The first maker that leads to the type is the least one.
use Rattle.std.proofs.Common.{◌∙◌, ◌<◌, length, sym, ap, arith, slice_get, inl, inr}
use Rattle.std.specs.Prelude.{Some}
use Rattle.std.proofs.lemmas.List.{length-map}
use Rattle.meaning_graph.specs.Graphs.{makers}
use Rattle.meaning_texts.proofs.Lemmas.{same_some}
use Rattle.path_planner.specs.Ends.{ends_in, ends_of}
use Rattle.path_planner.proofs.EndLemmas.{place_ends, ends_are_types, makes_of, of_makes}
use Rattle.path_planner.proofs.NearLemmas.{below_or, not_below}
use Rattle.path_planner.proofs.direct.direct.Goals as goal

pub led-requires-clause-ends : goal.led-requires-clause-ends
led-requires-clause-ends c =
    let below : c.loop-number.number < length c.args.makers.now = omega (arith, c.loop-number-test.true, c.maker_count-number-end.ensures, ap length c.requires.made, length-map (makers c.args.graph.now) (ends_of c.args.graph.now)) in
    ends_are_types c.args.graph.now c.loop-number.number _ (place_ends c.args.graph.now c.args.makers.now c.loop-number.number _ c.requires.made below)

pub returns-in-Some : goal.returns-in-Some
returns-in-Some c =
    let below : c.loop-number.number < length c.args.makers.now = omega (arith, c.loop-number-test.true, c.maker_count-number-end.ensures, ap length c.requires.made, length-map (makers c.args.graph.now) (ends_of c.args.graph.now)) in
    let lead = c.in-Some.ensures in (
      (makes_of c.args.graph.now c.args.at c.loop-number.number lead.0 c.in-Some.next (place_ends c.args.graph.now c.args.makers.now c.loop-number.number _ c.requires.made below ∙ ap Some lead.1) lead.2, lead.3),
      λ j other leads. not_below c.loop-number.number j (λ less. c.loop-number.invariant j other less leads),
    )

pub loop-number-preserved : goal.loop-number-preserved
loop-number-preserved c = λ j other less leads.
    let below : c.loop-number.number < length c.args.makers.now = omega (arith, c.loop-number-test.true, c.maker_count-number-end.ensures, ap length c.requires.made, length-map (makers c.args.graph.now) (ends_of c.args.graph.now)) in
    elim (below_or j c.loop-number.number (omega (arith, less))) [
      | inl before ↦ c.loop-number.invariant j other before leads
      | inr here ↦
          let lead = of_makes c.args.graph.now c.args.at j other leads.0 in
          c.in_default.ensures lead.from other (same_some (sym (place_ends c.args.graph.now c.args.makers.now c.loop-number.number _ c.requires.made below) ∙ ap (slice_get (ends_in c.args.graph.now)) (sym here) ∙ lead.ends_are)) lead.fits leads.1
    ]

pub returns : goal.returns
returns c = λ j other leads.
    let lead = of_makes c.args.graph.now c.args.at j other leads.0 in
    c.loop-number.invariant j other (omega (arith, lead.within, c.loop-number-test.false, c.maker_count-number-end.ensures, length-map (makers c.args.graph.now) (ends_of c.args.graph.now))) leads
