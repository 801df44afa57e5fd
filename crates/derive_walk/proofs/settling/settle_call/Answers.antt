use Rattle.std.proofs.Common.{sym, ap, ◌∙◌}
use Rattle.std.specs.Prelude.{option_map}
use Rattle.derive_walk.specs.Tables.{results_of}
use Rattle.derive_walk.proofs.CloseLooks.{may_take}
use Rattle.derive_walk.proofs.settling.settle_call.Goals as goal

pub returns-in_default-2-clause-took : goal.returns-in_default-2-clause-took
returns-in_default-2-clause-took g c = λ took.
    may_take c.args.setting.now.planned.now (results_of c.args.done.now) c.args.setting.now.given.now c.args.wanted.now c.args.node.now c.args.call c.requires.called _
    c.contains.ensures c.if-contains.false (sym c.outcome.ensures ∙ ap (option_map (λ o. o.now)) c.in_default.is)

pub returns-clause-took : goal.returns-clause-took
returns-clause-took g c = λ took.
    may_take c.args.setting.now.planned.now (results_of c.args.done.now) c.args.setting.now.given.now c.args.wanted.now c.args.node.now c.args.call c.requires.called _
    c.contains.ensures c.if-contains.false (sym c.outcome.ensures ∙ ap (option_map (λ o. o.now)) c.in_default.is)
