use Rattle.std.proofs.Common.{◌∙◌, sym}
use Rattle.project_file.specs.Places.{climbs}
use Rattle.project_file.proofs.StepLemmas.{goes_on, passes, last_step}
use Rattle.project_file.proofs.places.some_step_climbs.Goals as goal

pub returns-then-climbs : goal.returns-then-climbs
returns-then-climbs c =
    sym (passes climbs c.args.path.now c.steps.rest.now c.in-Some.step.now c.in-Some.behind.now c.in-Some.ensures.some
    (sym c.climbs.ensures ∙ c.if-climbs.true) c.steps.invariant)

pub steps-preserved : goal.steps-preserved
steps-preserved c =
    goes_on climbs c.args.path.now c.steps.rest.now c.in-Some.step.now c.in-Some.behind.now c.in-Some.ensures.some (sym c.climbs.ensures ∙ c.if-climbs.false)
    c.steps.invariant

pub returns : goal.returns
returns c = c.climbs-2.ensures ∙ last_step climbs c.args.path.now c.steps.rest.now c.in_default.ensures.none c.steps.invariant
