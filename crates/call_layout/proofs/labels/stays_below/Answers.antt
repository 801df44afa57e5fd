use Rattle.std.proofs.Common.{◌∙◌, sym}
use Rattle.call_layout.proofs.Steps.{goes_on, goes_astray, last_step}
use Rattle.call_layout.proofs.labels.stays_below.Goals as goal

pub returns-then-not-leads_down : goal.returns-then-not-leads_down
returns-then-not-leads_down c =
    sym (goes_astray c.args.path.now c.steps.rest.now c.in-Some.step.now c.in-Some.behind.now c.in-Some.ensures.some (sym c.leads_down.ensures ∙ c.if-not-leads_down.true) c.steps.invariant)

pub steps-preserved : goal.steps-preserved
steps-preserved c =
    goes_on c.args.path.now c.steps.rest.now c.in-Some.step.now c.in-Some.behind.now c.in-Some.ensures.some (sym c.leads_down.ensures ∙ c.if-not-leads_down.false) c.steps.invariant

pub returns : goal.returns
returns c = c.leads_down-2.ensures ∙ last_step c.args.path.now c.steps.rest.now c.in_default.ensures.none c.steps.invariant
