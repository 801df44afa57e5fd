-- The first maker that leads to the distance is the least one.
use Rattle.std.proofs.Common.{◌∙◌, ◌<◌, ◌≤◌, length, sym, ap, subst, arith, slice_get, slice_index_or, take, inl, inr}
use Rattle.std.specs.Prelude.{Some}
use Rattle.std.proofs.lemmas.List.{take_more}
use Rattle.meaning_texts.specs.Lists.{IsIn}
use Rattle.meaning_texts.proofs.Lemmas.{same_some, in_either}
use Rattle.path_planner.specs.Ends.{ends_in}
use Rattle.path_planner.proofs.EndLemmas.{place_ends, ends_are_types, makes_of, of_makes}
use Rattle.path_planner.proofs.NearLemmas.{in_at, take_all}
use Rattle.path_planner.proofs.TakerLemmas.{leads_among, taker_within, least_taker}
use Rattle.path_planner.proofs.route.nearer.Goals as goal

pub bounds-makers-number : goal.bounds-makers-number
bounds-makers-number c =
    let k = slice_index_or c.args.takers.now c.loop-number.number-index 0 in
    let within = taker_within c.args.graph.now c.args.at c.args.takers.now c.requires.takers k (in_at c.args.takers.now c.loop-number.number-index 0 c.loop-number-test.true) in
    omega (arith, within, ap length c.requires.made)

pub lead-requires-clause-ends : goal.lead-requires-clause-ends
lead-requires-clause-ends c =
    let k = slice_index_or c.args.takers.now c.loop-number.number-index 0 in
    let within = taker_within c.args.graph.now c.args.at c.args.takers.now c.requires.takers k (in_at c.args.takers.now c.loop-number.number-index 0 c.loop-number-test.true) in
    let below : k < length c.args.makers.now = omega (arith, within, ap length c.requires.made) in
    ends_are_types c.args.graph.now k _ (place_ends c.args.graph.now c.args.makers.now k _ c.requires.made below)

pub returns-in-Some : goal.returns-in-Some
returns-in-Some c =
    let k = slice_index_or c.args.takers.now c.loop-number.number-index 0 in
    let within = taker_within c.args.graph.now c.args.at c.args.takers.now c.requires.takers k (in_at c.args.takers.now c.loop-number.number-index 0 c.loop-number-test.true) in
    let below : k < length c.args.makers.now = omega (arith, within, ap length c.requires.made) in
    let lead = c.in-Some.ensures in (
      (makes_of c.args.graph.now c.args.at k lead.0 c.in-Some.next (place_ends c.args.graph.now c.args.makers.now k _ c.requires.made below ∙ ap Some lead.1) lead.2, lead.3),
      λ j other leads. elim (least_taker c.args.graph.now c.args.at c.args.takers.now c.requires.takers c.loop-number.number-index 0 c.loop-number-test.true j (leads_among c.args.graph.now c.args.at c.args.takers.now c.requires.takers j other leads.0)) [
        | inl before ↦ absurd (c.loop-number.invariant j other before leads)
        | inr least ↦ least
      ],
    )

pub loop-number-preserved : goal.loop-number-preserved
loop-number-preserved c = λ j other there leads.
    let k = slice_index_or c.args.takers.now c.loop-number.number-index 0 in
    let within = taker_within c.args.graph.now c.args.at c.args.takers.now c.requires.takers k (in_at c.args.takers.now c.loop-number.number-index 0 c.loop-number-test.true) in
    let below : k < length c.args.makers.now = omega (arith, within, ap length c.requires.made) in
    elim (in_either j (take c.loop-number.number-index c.args.takers.now) _ (subst (λ l. IsIn j l) (take_more c.args.takers.now c.loop-number.number-index 0 c.loop-number-test.true) there)) [
      | inl before ↦ c.loop-number.invariant j other before leads
      | inr last ↦ elim last [
        | inl here ↦
            let lead = of_makes c.args.graph.now c.args.at j other leads.0 in
            c.in_default.ensures lead.from other (same_some (sym (place_ends c.args.graph.now c.args.makers.now k _ c.requires.made below) ∙ ap (slice_get (ends_in c.args.graph.now)) (sym here) ∙ lead.ends_are)) lead.fits leads.1
        | inr bad ↦ absurd bad
      ]
    ]

pub returns : goal.returns
returns c = λ j other leads.
    let all : length c.args.takers.now ≤ c.loop-number.number-index = omega (arith, c.loop-number-test.false) in
    c.loop-number.invariant j other (subst (λ l. IsIn j l) (sym (take_all c.args.takers.now c.loop-number.number-index all)) (leads_among c.args.graph.now c.args.at c.args.takers.now c.requires.takers j other leads.0)) leads
