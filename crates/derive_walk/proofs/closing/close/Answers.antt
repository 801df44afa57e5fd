use Rattle.std.proofs.Common.{◌+◌, ◌≤◌, sym, ap, subst, ◌∙◌, arith}
use Rattle.std.proofs.lemmas.Result.{err_from_is_err_and}
use Rattle.meaning_texts.specs.Limits.{height_limit}
use Rattle.derive_walk.specs.Tables.{top_of}
use Rattle.derive_walk.specs.Settings.{world_in}
use Rattle.derive_walk.specs.States.{heights_in, IsFormedIn, HoldsIn}
use Rattle.derive_walk.proofs.LooksLemmas.{goes_down, goes_lost, goes_waiting}
use Rattle.derive_walk.proofs.Tables.{not_waiting}
use Rattle.derive_walk.proofs.ClosingLemmas.{last_is_new}
use Rattle.derive_walk.proofs.GoingLemmas.{goes_with_waiting, visited_with_waiting}
use Rattle.derive_walk.proofs.CloseCases.{is_tall, formed_waiting, holds_waiting, whole_visited, whole_top, whole_done}
use Rattle.derive_walk.proofs.closing.close.Goals as goal

pub descend-requires-clause-tall : goal.descend-requires-clause-tall
descend-requires-clause-tall g c =
    let w = world_in g.K.Known.keeps c.args.setting.now in
    let whole = c.requires.whole in
    let top = whole_top w c.args.walk.now c.args.node c.args.needed.now c.args.survey.now whole in
    let high : height_limit ≤ top_of (heights_in c.args.walk.now) whole.surveyed.needs = omega (arith, top, c.if-survey.true) in
    is_tall w c.args.walk.now c.args.node c.requires.last whole.surveyed.needs
    (whole_visited w c.args.walk.now c.args.node c.args.needed.now c.args.survey.now whole) high

pub close_seen-requires-clause-closing : goal.close_seen-requires-clause-closing
close_seen-requires-clause-closing g c =
    let w = world_in g.K.Known.keeps c.args.setting.now in
    let whole = c.requires.whole in
    record {
      anew = whole.anew;
      found = whole.found;
      needs = whole.surveyed.needs;
      listed = whole.surveyed.listed;
      done = sym (whole_done w c.args.walk.now c.args.node c.args.needed.now c.args.survey.now whole) ∙ c.if-survey-2.true;
      above = ap (λ t. t + 1) (whole_top w c.args.walk.now c.args.node c.args.needed.now c.args.survey.now whole);
      high = omega (arith, c.if-survey.false);
    }

pub add-requires : goal.add-requires
add-requires g c = not_waiting c.args.walk.now.done c.args.walk.now.waiting c.args.node (last_is_new (world_in g.K.Known.keeps c.args.setting.now) c.args.walk.now c.args.node c.requires.last)

-- ---- too deep

pub returns-then-survey-clause-after : goal.returns-then-survey-clause-after
returns-then-survey-clause-after g c = ((c.in_ok-chain.ensures.fit, tt), c.in_ok-chain.ensures.deep)

-- ---- a need waits

pub returns-in_err-add-clause-formed : goal.returns-in_err-add-clause-formed
returns-in_err-add-clause-formed g c = subst (λ z. IsFormedIn (world_in g.K.Known.keeps c.args.setting.now) (record c.args.walk.now { waiting = z }))
    (sym c.in_err-add.ensures.err) c.requires.last.formed

pub returns-in_err-add-clause-holds : goal.returns-in_err-add-clause-holds
returns-in_err-add-clause-holds g c = λ led. subst (λ z. HoldsIn (world_in g.K.Known.keeps c.args.setting.now) (record c.args.walk.now { waiting = z }))
    (sym c.in_err-add.ensures.err) led.holds

pub returns-clause-on : goal.returns-clause-on
returns-clause-on g c = goes_with_waiting (world_in g.K.Known.keeps c.args.setting.now) c.args.walk.now c.args.node c.requires.last (c.args.survey.now.top + 1) c.add.new.self c.in_ok-add.ensures.ok c.args.walk.now.wanted (λ d i. i)

pub returns-clause-formed : goal.returns-clause-formed
returns-clause-formed g c =
    let w = world_in g.K.Known.keeps c.args.setting.now in
    let whole = c.requires.whole in
    let visited = whole_visited w c.args.walk.now c.args.node c.args.needed.now c.args.survey.now whole in
    formed_waiting w c.args.walk.now c.args.node c.requires.last whole.surveyed.needs visited c.args.survey.now.top
    (omega (arith, c.if-survey.false)) c.add.new.self c.in_ok-add.ensures.ok

pub returns-clause-holds : goal.returns-clause-holds
returns-clause-holds g c = λ led.
    let w = world_in g.K.Known.keeps c.args.setting.now in
    let whole = c.requires.whole in
    let visited = whole_visited w c.args.walk.now c.args.node c.args.needed.now c.args.survey.now whole in
    let unfinished = sym (whole_done w c.args.walk.now c.args.node c.args.needed.now c.args.survey.now whole) ∙ c.if-survey-2.false in
    holds_waiting w c.args.walk.now c.args.node c.requires.last whole.surveyed.needs visited led.holds unfinished c.args.survey.now.top
    (whole_top w c.args.walk.now c.args.node c.args.needed.now c.args.survey.now whole)
    (omega (arith, c.if-survey.false)) c.add.new.self c.in_ok-add.ensures.ok

pub returns-clause-after : goal.returns-clause-after
returns-clause-after g c = visited_with_waiting (world_in g.K.Known.keeps c.args.setting.now) c.args.walk.now c.args.node c.requires.last (c.args.survey.now.top + 1) c.add.new.self c.in_ok-add.ensures.ok c.args.walk.now.wanted

-- ---- looks

pub returns-in_err-chain-clause-counted : goal.returns-in_err-chain-clause-counted
returns-in_err-chain-clause-counted g c =
    let w = world_in g.K.Known.keeps c.args.setting.now in
    let given = err_from_is_err_and _ c.from_residual.ensures.1 in
    goes_lost w c.args.setting.now.given.now c.args.walk.now _ _ _ _ _ given.1
    (goes_down w c.args.setting.now.given.now c.args.walk.now _ _ _ c.in_err-chain.ensures.counted.later c.in_err-chain.ensures.counted.most)

pub returns-then-survey-clause-counted : goal.returns-then-survey-clause-counted
returns-then-survey-clause-counted g c =
    let w = world_in g.K.Known.keeps c.args.setting.now in
    goes_down w c.args.setting.now.given.now c.args.walk.now _ _ _ c.in_ok-chain.ensures.counted.later c.in_ok-chain.ensures.counted.ok

pub returns-in_err-close_seen-clause-counted : goal.returns-in_err-close_seen-clause-counted
returns-in_err-close_seen-clause-counted g c =
    let w = world_in g.K.Known.keeps c.args.setting.now in
    let given = err_from_is_err_and _ c.from_residual-in_err-close_seen.ensures.1 in
    goes_lost w c.args.setting.now.given.now c.args.walk.now _ _ _ _ _ given.1 c.in_err-close_seen.ensures.counted

pub returns-then-survey-2-clause-counted : goal.returns-then-survey-2-clause-counted
returns-then-survey-2-clause-counted g c = c.in_ok-close_seen.ensures.counted

pub returns-in_err-add-clause-counted : goal.returns-in_err-add-clause-counted
returns-in_err-add-clause-counted g c =
    let w = world_in g.K.Known.keeps c.args.setting.now in
    goes_waiting w c.args.setting.now.given.now c.args.walk.now c.add.new.self _ _

pub returns-clause-counted : goal.returns-clause-counted
returns-clause-counted g c =
    let w = world_in g.K.Known.keeps c.args.setting.now in
    goes_waiting w c.args.setting.now.given.now c.args.walk.now c.add.new.self _ _
