use Rattle.std.proofs.Common.{◌≡◌, [], ◌∷◌, ◌++◌, sym, ap, ◌∙◌, subst}
use Rattle.std.specs.Prelude.{Ok}
use Rattle.std.proofs.lemmas.Result.{err_from_is_err_and}
use Rattle.derive_walk.specs.Looks.{ClosesAlone}
use Rattle.derive_walk.specs.Tables.{results_of}
use Rattle.derive_walk.specs.Noting.{IsNoteOf}
use Rattle.derive_walk.specs.Settings.{world_in}
use Rattle.derive_walk.specs.Settled.{HasSettled, HasSettledWhole, NodeHasStopped, NodeIsClosed}
use Rattle.derive_walk.specs.States.{IsFormedIn, HoldsIn, GoesOnFrom}
use Rattle.derive_walk.specs.Told.{TakesSettled}
use Rattle.derive_walk.specs.Worlds.{World}
use Rattle.derive_walk.proofs.CloseLooks.{on_err, same_alone, source_alone, stopped_alone, whole_alone}
use Rattle.derive_walk.proofs.Tables.{not_done, not_waiting}
use Rattle.derive_walk.proofs.ClosingLemmas.{last_is_new}
use Rattle.derive_walk.proofs.GoingLemmas.{goes_with_done, visited_with_done, goes_with_waiting, visited_with_waiting}
use Rattle.derive_walk.proofs.NotingCases.{may_note}
use Rattle.derive_walk.proofs.SeenCases.{keep_put, goes_wanting, source_formed, whole_formed, wanted_formed, stopped_formed, source_holds, whole_holds, wanted_holds, stopped_holds}
use Rattle.derive_walk.proofs.closing.take_closed.Goals as goal

pub add-requires : goal.add-requires
add-requires g c =
    let walk = c.args.walk.now in
    not_done walk.done walk.waiting c.args.node (last_is_new (world_in g.K.Known.keeps c.args.setting.now) walk c.args.node c.requires.last)

pub take_settled-requires : goal.take_settled-requires
take_settled-requires g c =
    let walk = c.args.walk.now in
    not_done walk.done walk.waiting c.args.node (last_is_new (world_in g.K.Known.keeps c.args.setting.now) walk c.args.node c.requires.last)

pub add-requires-in-Stops-2 : goal.add-requires-in-Stops-2
add-requires-in-Stops-2 g c =
    let walk = c.args.walk.now in
    not_waiting walk.done walk.waiting c.args.node (last_is_new (world_in g.K.Known.keeps c.args.setting.now) walk c.args.node c.requires.last)

-- ---- a source

pub returns-in_ok-add-in-Given-clause-on : goal.returns-in_ok-add-in-Given-clause-on
returns-in_ok-add-in-Given-clause-on g c =
    let w : World = world_in g.K.Known.keeps c.args.setting.now in
    let walk = c.args.walk.now in
    goes_with_done w walk c.args.node c.requires.last (record { view = c.in-Given.view; height = c.args.height }) walk.fresh walk.renewed _ (ap (λ z. record walk { done = z }) c.in_ok-add-in-Given.ensures.ok)

pub returns-in_ok-add-in-Given-clause-visited : goal.returns-in_ok-add-in-Given-clause-visited
returns-in_ok-add-in-Given-clause-visited g c =
    let w : World = world_in g.K.Known.keeps c.args.setting.now in
    let walk = c.args.walk.now in
    visited_with_done w walk c.args.node c.requires.last (record { view = c.in-Given.view; height = c.args.height }) walk.fresh walk.renewed _ (ap (λ z. record walk { done = z }) c.in_ok-add-in-Given.ensures.ok)

pub returns-in_ok-add-in-Given-clause-formed : goal.returns-in_ok-add-in-Given-clause-formed
returns-in_ok-add-in-Given-clause-formed g c =
    let w : World = world_in g.K.Known.keeps c.args.setting.now in
    let walk = c.args.walk.now in
    let is = subst (NodeIsClosed w c.args.node (results_of walk.done)) c.in-Given.is c.requires.closed.is in
    source_formed w c.requires.set walk c.args.node c.args.height c.requires.last c.requires.closed.closing c.in-Given.view is.0 is.1 c.add.new.self c.in_ok-add-in-Given.ensures.ok

pub returns-in_ok-add-in-Given-clause-holds : goal.returns-in_ok-add-in-Given-clause-holds
returns-in_ok-add-in-Given-clause-holds g c =
    let w : World = world_in g.K.Known.keeps c.args.setting.now in
    let walk = c.args.walk.now in
    let is = subst (NodeIsClosed w c.args.node (results_of walk.done)) c.in-Given.is c.requires.closed.is in
    λ led. source_holds w walk led c.args.node c.args.height c.requires.last c.requires.closed.closing c.in-Given.view is.1 c.add.new.self c.in_ok-add-in-Given.ensures.ok

pub returns-in_ok-add-in-Given-clause-alone : goal.returns-in_ok-add-in-Given-clause-alone
returns-in_ok-add-in-Given-clause-alone g c =
    let walk = c.args.walk.now in
    let none = not_done walk.done walk.waiting c.args.node (last_is_new (world_in g.K.Known.keeps c.args.setting.now) walk c.args.node c.requires.last) in
    subst (λ z. ClosesAlone walk (record walk { done = c.add.new.self }) c.args.node z (Ok tt)) (sym c.in-Given.is)
    (source_alone walk c.args.node tt none c.in-Given.view (record { view = c.in-Given.view; height = c.args.height }) c.add.new.self c.in_ok-add-in-Given.ensures.ok)

pub returns-in_err-add-in-Given-clause-holds : goal.returns-in_err-add-in-Given-clause-holds
returns-in_err-add-in-Given-clause-holds g c =
    let w : World = world_in g.K.Known.keeps c.args.setting.now in
    let walk = c.args.walk.now in
    λ led. subst (λ z. HoldsIn w (record walk { done = z })) (sym c.in_err-add-in-Given.ensures.err) led.holds

-- ---- a node with steps

pub returns-in_ok-take_settled-in-Settled-clause-on : goal.returns-in_ok-take_settled-in-Settled-clause-on
returns-in_ok-take_settled-in-Settled-clause-on g c =
    let w : World = world_in g.K.Known.keeps c.args.setting.now in
    let walk = c.args.walk.now in
    let takes : TakesSettled walk c.take_settled.new.self c.args.node (record { view = c.in-Settled.settled.view; height = c.args.height }) c.in_ok-note-in-Settled.note =
    subst (λ v. TakesSettled walk c.take_settled.new.self c.args.node (record { view = v; height = c.args.height }) c.in_ok-note-in-Settled.note) c.into_view-view.ensures c.in_ok-take_settled-in-Settled.ensures.ok in
    goes_with_done w walk c.args.node c.requires.last (record { view = c.in-Settled.settled.view; height = c.args.height }) (walk.fresh ++ c.in_ok-note-in-Settled.note ∷ []) walk.renewed _ takes.is

pub returns-in_ok-take_settled-in-Settled-clause-visited : goal.returns-in_ok-take_settled-in-Settled-clause-visited
returns-in_ok-take_settled-in-Settled-clause-visited g c =
    let w : World = world_in g.K.Known.keeps c.args.setting.now in
    let walk = c.args.walk.now in
    let takes : TakesSettled walk c.take_settled.new.self c.args.node (record { view = c.in-Settled.settled.view; height = c.args.height }) c.in_ok-note-in-Settled.note =
    subst (λ v. TakesSettled walk c.take_settled.new.self c.args.node (record { view = v; height = c.args.height }) c.in_ok-note-in-Settled.note) c.into_view-view.ensures c.in_ok-take_settled-in-Settled.ensures.ok in
    visited_with_done w walk c.args.node c.requires.last (record { view = c.in-Settled.settled.view; height = c.args.height }) (walk.fresh ++ c.in_ok-note-in-Settled.note ∷ []) walk.renewed _ takes.is

pub returns-in_ok-take_settled-in-Settled-clause-formed : goal.returns-in_ok-take_settled-in-Settled-clause-formed
returns-in_ok-take_settled-in-Settled-clause-formed g c =
    let w : World = world_in g.K.Known.keeps c.args.setting.now in
    let walk = c.args.walk.now in
    let so = subst (NodeIsClosed w c.args.node (results_of walk.done)) c.in-Settled.is c.requires.closed.is in
    let noted = c.in_ok-note-in-Settled.ensures w.graph w.outcomes (may_note w c.requires.set walk c.args.node c.requires.last c.args.height c.requires.closed.closing c.in-Settled.settled so) in
    let takes : TakesSettled walk c.take_settled.new.self c.args.node (record { view = c.in-Settled.settled.view; height = c.args.height }) c.in_ok-note-in-Settled.note =
    subst (λ v. TakesSettled walk c.take_settled.new.self c.args.node (record { view = v; height = c.args.height }) c.in_ok-note-in-Settled.note) c.into_view-view.ensures c.in_ok-take_settled-in-Settled.ensures.ok in
    whole_formed w c.requires.set walk c.args.node c.args.height c.requires.last c.requires.closed.closing c.in-Settled.settled so c.in_ok-note-in-Settled.note noted c.take_settled.new.self takes

pub returns-in_ok-take_settled-in-Settled-clause-holds : goal.returns-in_ok-take_settled-in-Settled-clause-holds
returns-in_ok-take_settled-in-Settled-clause-holds g c =
    let w : World = world_in g.K.Known.keeps c.args.setting.now in
    let walk = c.args.walk.now in
    let so = subst (NodeIsClosed w c.args.node (results_of walk.done)) c.in-Settled.is c.requires.closed.is in
    let noted = c.in_ok-note-in-Settled.ensures w.graph w.outcomes (may_note w c.requires.set walk c.args.node c.requires.last c.args.height c.requires.closed.closing c.in-Settled.settled so) in
    let takes : TakesSettled walk c.take_settled.new.self c.args.node (record { view = c.in-Settled.settled.view; height = c.args.height }) c.in_ok-note-in-Settled.note =
    subst (λ v. TakesSettled walk c.take_settled.new.self c.args.node (record { view = v; height = c.args.height }) c.in_ok-note-in-Settled.note) c.into_view-view.ensures c.in_ok-take_settled-in-Settled.ensures.ok in
    λ led. whole_holds w walk led c.args.node c.args.height c.requires.last c.requires.closed.closing c.in-Settled.settled so c.in_ok-note-in-Settled.note noted c.take_settled.new.self takes

pub returns-in_ok-take_settled-in-Settled-clause-alone : goal.returns-in_ok-take_settled-in-Settled-clause-alone
returns-in_ok-take_settled-in-Settled-clause-alone g c =
    let walk = c.args.walk.now in
    let none = not_done walk.done walk.waiting c.args.node (last_is_new (world_in g.K.Known.keeps c.args.setting.now) walk c.args.node c.requires.last) in
    subst (λ z. ClosesAlone walk c.take_settled.new.self c.args.node z (Ok tt)) (sym c.in-Settled.is)
    (whole_alone walk c.args.node tt none c.in-Settled.settled _ c.in_ok-note-in-Settled.note c.take_settled.new.self c.in_ok-take_settled-in-Settled.ensures.ok)

pub returns-in_err-take_settled-in-Settled-clause-alone : goal.returns-in_err-take_settled-in-Settled-clause-alone
returns-in_err-take_settled-in-Settled-clause-alone g c =
    let given = err_from_is_err_and c.from_residual-in_err-take_settled-in-Settled.result c.from_residual-in_err-take_settled-in-Settled.ensures.1 in
    record {
      same = same_alone c.args.walk.now c.take_settled.new.self c.in_err-take_settled-in-Settled.ensures.err;
      ended = on_err c.from_residual-in_err-take_settled-in-Settled.result given.0 _ given.1;
    }

pub returns-in_err-take_settled-in-Settled-clause-formed : goal.returns-in_err-take_settled-in-Settled-clause-formed
returns-in_err-take_settled-in-Settled-clause-formed g c = subst (IsFormedIn (world_in g.K.Known.keeps c.args.setting.now)) (sym c.in_err-take_settled-in-Settled.ensures.err) c.requires.last.formed

pub returns-in_err-take_settled-in-Settled-clause-holds : goal.returns-in_err-take_settled-in-Settled-clause-holds
returns-in_err-take_settled-in-Settled-clause-holds g c = λ led. subst (HoldsIn (world_in g.K.Known.keeps c.args.setting.now)) (sym c.in_err-take_settled-in-Settled.ensures.err) led.holds

-- ---- a node that stops

pub returns-in_err-add-in-Stops-clause-holds : goal.returns-in_err-add-in-Stops-clause-holds
returns-in_err-add-in-Stops-clause-holds g c =
    let w : World = world_in g.K.Known.keeps c.args.setting.now in
    let walk = c.args.walk.now in
    λ led. subst (λ z. HoldsIn w (record walk { wanted = z })) (sym c.in_err-add-in-Stops.ensures.err) led.holds

pub returns-in_err-add-in-Stops-2-clause-on : goal.returns-in_err-add-in-Stops-2-clause-on
returns-in_err-add-in-Stops-2-clause-on g c =
    let w : World = world_in g.K.Known.keeps c.args.setting.now in
    let walk = c.args.walk.now in
    subst (λ z. GoesOnFrom walk (record walk { wanted = c.add-in-Stops.new.self; waiting = z })) (sym c.in_err-add-in-Stops-2.ensures.err) (goes_wanting walk c.in-Stops.call c.add-in-Stops.new.self c.in_ok-add-in-Stops.ensures.ok)

pub returns-in_err-add-in-Stops-2-clause-formed : goal.returns-in_err-add-in-Stops-2-clause-formed
returns-in_err-add-in-Stops-2-clause-formed g c =
    let w : World = world_in g.K.Known.keeps c.args.setting.now in
    let walk = c.args.walk.now in
    let stop = subst (NodeIsClosed w c.args.node (results_of walk.done)) c.in-Stops.is c.requires.closed.is in
    subst (λ z. IsFormedIn w (record walk { wanted = c.add-in-Stops.new.self; waiting = z })) (sym c.in_err-add-in-Stops-2.ensures.err)
    (wanted_formed w c.requires.set walk c.args.node c.args.height c.requires.last c.requires.closed.closing c.in-Stops.call stop c.add-in-Stops.new.self c.in_ok-add-in-Stops.ensures.ok)

pub returns-in_err-add-in-Stops-2-clause-holds : goal.returns-in_err-add-in-Stops-2-clause-holds
returns-in_err-add-in-Stops-2-clause-holds g c =
    let w : World = world_in g.K.Known.keeps c.args.setting.now in
    let walk = c.args.walk.now in
    let stop = subst (NodeIsClosed w c.args.node (results_of walk.done)) c.in-Stops.is c.requires.closed.is in
    λ led. subst (λ z. HoldsIn w (record walk { wanted = c.add-in-Stops.new.self; waiting = z })) (sym c.in_err-add-in-Stops-2.ensures.err)
    (wanted_holds w walk led c.args.node c.args.height c.requires.last c.requires.closed.closing c.in-Stops.call stop c.add-in-Stops.new.self c.in_ok-add-in-Stops.ensures.ok)

pub returns-in_ok-add-in-Stops-2-clause-on : goal.returns-in_ok-add-in-Stops-2-clause-on
returns-in_ok-add-in-Stops-2-clause-on g c =
    let w : World = world_in g.K.Known.keeps c.args.setting.now in
    let walk = c.args.walk.now in
    goes_with_waiting w walk c.args.node c.requires.last c.args.height c.add-in-Stops-2.new.self c.in_ok-add-in-Stops-2.ensures.ok c.add-in-Stops.new.self (keep_put c.in-Stops.call walk.wanted c.add-in-Stops.new.self c.in_ok-add-in-Stops.ensures.ok)

pub returns-in_ok-add-in-Stops-2-clause-visited : goal.returns-in_ok-add-in-Stops-2-clause-visited
returns-in_ok-add-in-Stops-2-clause-visited g c =
    let w : World = world_in g.K.Known.keeps c.args.setting.now in
    let walk = c.args.walk.now in
    visited_with_waiting w walk c.args.node c.requires.last c.args.height c.add-in-Stops-2.new.self c.in_ok-add-in-Stops-2.ensures.ok c.add-in-Stops.new.self

pub returns-in_ok-add-in-Stops-2-clause-formed : goal.returns-in_ok-add-in-Stops-2-clause-formed
returns-in_ok-add-in-Stops-2-clause-formed g c =
    let w : World = world_in g.K.Known.keeps c.args.setting.now in
    let walk = c.args.walk.now in
    let stop = subst (NodeIsClosed w c.args.node (results_of walk.done)) c.in-Stops.is c.requires.closed.is in
    stopped_formed w c.requires.set walk c.args.node c.args.height c.requires.last c.requires.closed.closing c.in-Stops.call stop c.add-in-Stops.new.self
    c.in_ok-add-in-Stops.ensures.ok c.add-in-Stops-2.new.self c.in_ok-add-in-Stops-2.ensures.ok

pub returns-in_ok-add-in-Stops-2-clause-holds : goal.returns-in_ok-add-in-Stops-2-clause-holds
returns-in_ok-add-in-Stops-2-clause-holds g c =
    let w : World = world_in g.K.Known.keeps c.args.setting.now in
    let walk = c.args.walk.now in
    let stop = subst (NodeIsClosed w c.args.node (results_of walk.done)) c.in-Stops.is c.requires.closed.is in
    λ led. stopped_holds w walk led c.args.node c.args.height c.requires.last c.requires.closed.closing c.in-Stops.call stop c.add-in-Stops.new.self
    c.in_ok-add-in-Stops.ensures.ok c.add-in-Stops-2.new.self c.in_ok-add-in-Stops-2.ensures.ok

pub returns-in_ok-add-in-Stops-2-clause-alone : goal.returns-in_ok-add-in-Stops-2-clause-alone
returns-in_ok-add-in-Stops-2-clause-alone g c =
    let walk = c.args.walk.now in
    subst (λ z. ClosesAlone walk (record walk { wanted = c.add-in-Stops.new.self; waiting = c.add-in-Stops-2.new.self }) c.args.node z (Ok tt)) (sym c.in-Stops.is)
    (stopped_alone walk c.args.node tt c.in-Stops.call c.add-in-Stops.new.self c.add-in-Stops-2.new.self c.in_ok-add-in-Stops.ensures.ok)
