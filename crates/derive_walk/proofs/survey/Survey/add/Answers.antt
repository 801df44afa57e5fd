use Rattle.std.proofs.Common.{◌++◌, ◌∷◌, [], false, ap, ◌∙◌}
use Rattle.derive_walk.specs.declared.survey.Survey.{Survey}
use Rattle.derive_walk.proofs.SurveyLemmas.{add_done, add_waiting, add_unvisited}
use Rattle.derive_walk.proofs.survey.Survey.add.Goals as goal

pub returns-in-Some : goal.returns-in-Some
returns-in-Some c before = add_done c.args.done.now c.args.waiting.now before c.args.node.now c.in-Some.entry.now c.in-Some.ensures c.args.self.now c.raise.new.self c.raise.ensures

pub returns-in-Some-height : goal.returns-in-Some-height
returns-in-Some-height c before = add_waiting c.args.done.now c.args.waiting.now before c.args.node.now c.in_default.ensures c.in-Some-height.height c.in-Some-height.ensures c.args.self.now c.raise-in-Some-height.new.self c.raise-in-Some-height.ensures

pub returns-in_ok-push-in-None : goal.returns-in_ok-push-in-None
returns-in_ok-push-in-None c before =
    let old : Survey = c.args.self.now in
    add_unvisited c.args.done.now c.args.waiting.now before c.args.node.now c.in_default.ensures c.in-None.ensures old (record { top = old.top; done = false; unvisited = c.push.new.self })
    (λ i. record { top = old.top; done = false; unvisited = (c.in_ok-push-in-None.ensures.ok ∙ ap (λ n. old.unvisited ++ n ∷ []) c.in_ok-copy-in-None.ensures) i })
