use Rattle.std.proofs.Common.{◌∙◌, sym}
use Rattle.project_file.specs.Places.{leads_on}
use Rattle.project_file.proofs.StepLemmas.{goes_on, passes, last_step}
use Rattle.project_file.proofs.places.some_step_leads_on.Goals as goal

pub returns-then-leads_on : goal.returns-then-leads_on
returns-then-leads_on c =
    sym (passes leads_on c.args.path.now c.steps.rest.now c.in-Some.step.now c.in-Some.behind.now c.in-Some.ensures.some
    (sym c.leads_on.ensures ∙ c.if-leads_on.true) c.steps.invariant)

pub steps-preserved : goal.steps-preserved
steps-preserved c =
    goes_on leads_on c.args.path.now c.steps.rest.now c.in-Some.step.now c.in-Some.behind.now c.in-Some.ensures.some
    (sym c.leads_on.ensures ∙ c.if-leads_on.false) c.steps.invariant

pub returns : goal.returns
returns c = c.leads_on-2.ensures ∙ last_step leads_on c.args.path.now c.steps.rest.now c.in_default.ensures.none c.steps.invariant
