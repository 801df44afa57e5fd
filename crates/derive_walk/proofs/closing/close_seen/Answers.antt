use Rattle.std.proofs.Common.{◌+◌, [], ◌∷◌, ◌++◌, sym, ap, subst, refl, ◌∙◌}
use Rattle.std.proofs.lemmas.Result.{err_from_is_err_and}
use Rattle.derive_walk.specs.Looks.{GoesByLooks, lost}
use Rattle.derive_walk.specs.Paths.{IsLed}
use Rattle.derive_walk.specs.Settings.{world_in}
use Rattle.derive_walk.proofs.FormedLemmas.{formed_taking}
use Rattle.derive_walk.proofs.GoingLemmas.{stays}
use Rattle.derive_walk.proofs.LooksLemmas.{goes_still, one_lost}
use Rattle.derive_walk.proofs.TakenLemmas.{closes_lost, closes_taking, closes_without, goes_taking, holds_taking, took_none, took_one, visited_taking}
use Rattle.derive_walk.proofs.ClosingLemmas.{last_fits}
use Rattle.derive_walk.proofs.closing.close_seen.Goals as goal

pub settle_node-requires-clause-fits : goal.settle_node-requires-clause-fits
settle_node-requires-clause-fits g c = last_fits (world_in g.K.Known.keeps c.args.setting.now) c.args.walk.now c.args.node c.requires.last

pub settle_node-requires-clause-needed : goal.settle_node-requires-clause-needed
settle_node-requires-clause-needed g c = c.requires.closing.found

pub take_closed-requires-clause-closed : goal.take_closed-requires-clause-closed
take_closed-requires-clause-closed g c = record { closing = c.requires.closing; is = c.in_ok-closed.ensures.closed }

-- ---- looks

pub returns-in_err-copy-clause-counted : goal.returns-in_err-copy-clause-counted
returns-in_err-copy-clause-counted g c = goes_still (world_in g.K.Known.keeps c.args.setting.now) c.args.setting.now.given.now c.args.walk.now _ _

pub returns-in_err-closed-clause-counted : goal.returns-in_err-closed-clause-counted
returns-in_err-closed-clause-counted g c =
    let given = err_from_is_err_and _ c.from_residual-in_err-closed.ensures.1 in
    closes_lost (world_in g.K.Known.keeps c.args.setting.now) c.args.setting.now.given.now c.args.walk.now c.args.walk.now (stays c.args.walk.now)
    (record { looked = refl; taken = refl }) _ _ _ (one_lost _ _ given.1) c.in_err-closed.ensures.counted.later c.in_err-closed.ensures.counted.once

pub returns-in_err-take_closed-clause-counted : goal.returns-in_err-take_closed-clause-counted
returns-in_err-take_closed-clause-counted g c =
    let given = err_from_is_err_and _ c.from_residual-in_err-take_closed.ensures.1 in
    closes_lost (world_in g.K.Known.keeps c.args.setting.now) c.args.setting.now.given.now c.args.walk.now c.take_closed.new.walk c.take_closed.ensures.on
    c.take_closed.ensures.alone.same _ _ _ (one_lost _ _ given.1) c.in_ok-closed.ensures.counted.later c.in_ok-closed.ensures.counted.once

pub returns-then-not-took-clause-counted : goal.returns-then-not-took-clause-counted
returns-then-not-took-clause-counted g c =
    closes_without (world_in g.K.Known.keeps c.args.setting.now) c.args.setting.now.given.now c.args.walk.now c.take_closed.new.walk c.take_closed.ensures.on
    c.take_closed.ensures.alone.same _ _ _ (took_none _ _ _ c.in_ok-closed.ensures.counted.ok c.if-not-took.true)

-- ---- an outcome that was looked for

pub returns-clause-on : goal.returns-clause-on
returns-clause-on g c = goes_taking c.args.walk.now c.take_closed.new.walk c.push.new.self c.take_closed.ensures.on

pub returns-clause-formed : goal.returns-clause-formed
returns-clause-formed g c = formed_taking (world_in g.K.Known.keeps c.args.setting.now) c.take_closed.new.walk c.push.new.self c.take_closed.ensures.formed

pub returns-clause-holds : goal.returns-clause-holds
returns-clause-holds g c = λ led. holds_taking (world_in g.K.Known.keeps c.args.setting.now) c.take_closed.new.walk c.push.new.self (c.take_closed.ensures.holds led)

pub returns-clause-visited : goal.returns-clause-visited
returns-clause-visited g c =
    visited_taking (world_in g.K.Known.keeps c.args.setting.now) c.args.walk.now c.take_closed.new.walk c.args.node c.push.new.self
    c.in_ok-take_closed.ensures.visited

pub returns-clause-counted : goal.returns-clause-counted
returns-clause-counted g c =
    closes_taking (world_in g.K.Known.keeps c.args.setting.now) c.args.setting.now.given.now c.args.walk.now c.take_closed.new.walk c.take_closed.ensures.on
    c.take_closed.ensures.alone.same _ _ c.args.node c.args.height c.requires.last c.requires.closing (c.in_ok-closed.ensures.took c.if-not-took.false)
    _ c.in_ok-closed.ensures.closed c.in_ok-take_closed.ensures.alone.ended c.push.new.self
    (c.in_ok-push.ensures.ok ∙ ap (λ z. c.take_closed.new.walk.taken ++ z ∷ []) c.in_ok-copy.ensures) _ (took_one _ _ _ c.in_ok-closed.ensures.counted.ok c.if-not-took.false)

pub returns-in_err-push-clause-on : goal.returns-in_err-push-clause-on
returns-in_err-push-clause-on g c = goes_taking c.args.walk.now c.take_closed.new.walk c.push.new.self c.take_closed.ensures.on

pub returns-in_err-push-clause-formed : goal.returns-in_err-push-clause-formed
returns-in_err-push-clause-formed g c = formed_taking (world_in g.K.Known.keeps c.args.setting.now) c.take_closed.new.walk c.push.new.self c.take_closed.ensures.formed

pub returns-in_err-push-clause-holds : goal.returns-in_err-push-clause-holds
returns-in_err-push-clause-holds g c = λ led. holds_taking (world_in g.K.Known.keeps c.args.setting.now) c.take_closed.new.walk c.push.new.self (c.take_closed.ensures.holds led)

pub returns-in_err-push-clause-counted : goal.returns-in_err-push-clause-counted
returns-in_err-push-clause-counted g c =
    let given = err_from_is_err_and c.from_residual-in_err-push.result c.from_residual-in_err-push.ensures.1 in
    let w = world_in g.K.Known.keeps c.args.setting.now in
    subst (λ l. GoesByLooks w c.args.setting.now.given.now (IsLed w c.args.walk.now) c.args.walk.now (record c.take_closed.new.walk { taken = l }) c.args.steps.now c.settle_node.new.steps
    (lost c.from_residual-in_err-push.result))
    (sym c.in_err-push.ensures.err)
    (closes_lost w c.args.setting.now.given.now c.args.walk.now c.take_closed.new.walk c.take_closed.ensures.on
    c.take_closed.ensures.alone.same _ _ _ (one_lost c.from_residual-in_err-push.result given.0 given.1) c.in_ok-closed.ensures.counted.later c.in_ok-closed.ensures.counted.once)
