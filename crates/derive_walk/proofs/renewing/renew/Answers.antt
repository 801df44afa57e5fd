use Rattle.std.proofs.Common.{◌≡◌, [], ◌∷◌, ◌++◌, sym, ap, subst}
use Rattle.derive_walk.specs.Paths.{IsByRecord}
use Rattle.derive_walk.specs.Settings.{world_in}
use Rattle.derive_walk.specs.States.{HoldsIn}
use Rattle.derive_walk.specs.Told.{TakesRenewed}
use Rattle.derive_walk.specs.Trials.{renewed_by}
use Rattle.derive_walk.proofs.Tables.{not_done}
use Rattle.derive_walk.proofs.ClosingLemmas.{last_is_new}
use Rattle.derive_walk.proofs.CloseLooks.{renews_alone, same_alone}
use Rattle.derive_walk.proofs.GoingLemmas.{goes_with_done, visited_with_done}
use Rattle.derive_walk.proofs.RenewLemmas.{checked_formed, checked_holds, renewed_formed, renewed_holds}
use Rattle.derive_walk.proofs.renewing.renew.Goals as goal

pub add-requires : goal.add-requires
add-requires g c =
    let w = world_in g.K.Known.keeps c.args.setting.now in
    let walk = c.args.walk.now in
    not_done walk.done walk.waiting c.args.node (last_is_new w walk c.args.node c.requires.last)

pub take_renewed-requires : goal.take_renewed-requires
take_renewed-requires g c =
    let w = world_in g.K.Known.keeps c.args.setting.now in
    let walk = c.args.walk.now in
    not_done walk.done walk.waiting c.args.node (last_is_new w walk c.args.node c.requires.last)

-- ---- as its record stands

pub returns-in_ok-add-in-Checked-clause-on : goal.returns-in_ok-add-in-Checked-clause-on
returns-in_ok-add-in-Checked-clause-on g c =
    let w = world_in g.K.Known.keeps c.args.setting.now in
    let walk = c.args.walk.now in
    goes_with_done w walk c.args.node c.requires.last c.in-Checked.done walk.fresh walk.renewed _ (ap (λ z. record walk { done = z }) c.in_ok-add-in-Checked.ensures.ok)

pub returns-in_ok-add-in-Checked-clause-visited : goal.returns-in_ok-add-in-Checked-clause-visited
returns-in_ok-add-in-Checked-clause-visited g c =
    let w = world_in g.K.Known.keeps c.args.setting.now in
    let walk = c.args.walk.now in
    visited_with_done w walk c.args.node c.requires.last c.in-Checked.done walk.fresh walk.renewed _ (ap (λ z. record walk { done = z }) c.in_ok-add-in-Checked.ensures.ok)

pub returns-in_ok-add-in-Checked-clause-formed : goal.returns-in_ok-add-in-Checked-clause-formed
returns-in_ok-add-in-Checked-clause-formed g c =
    let w = world_in g.K.Known.keeps c.args.setting.now in
    let walk = c.args.walk.now in
    let checked = subst (IsByRecord w walk c.args.node) c.in-Checked.is c.requires.recorded in
    checked_formed w walk c.args.node c.requires.last c.in-Checked.done checked c.add.new.self c.in_ok-add-in-Checked.ensures.ok c.requires.set

pub returns-in_ok-add-in-Checked-clause-holds : goal.returns-in_ok-add-in-Checked-clause-holds
returns-in_ok-add-in-Checked-clause-holds g c =
    let w = world_in g.K.Known.keeps c.args.setting.now in
    let walk = c.args.walk.now in
    let checked = subst (IsByRecord w walk c.args.node) c.in-Checked.is c.requires.recorded in
    checked_holds w walk c.args.node c.requires.last c.in-Checked.done checked c.add.new.self c.in_ok-add-in-Checked.ensures.ok

pub returns-in_err-add-in-Checked-clause-holds : goal.returns-in_err-add-in-Checked-clause-holds
returns-in_err-add-in-Checked-clause-holds g c =
    let w = world_in g.K.Known.keeps c.args.setting.now in
    let walk = c.args.walk.now in
    λ led. subst (λ z. HoldsIn w (record walk { done = z })) (sym c.in_err-add-in-Checked.ensures.err) led.holds

-- ---- as its record was tried

pub returns-in_ok-take_renewed-in-Current-clause-on : goal.returns-in_ok-take_renewed-in-Current-clause-on
returns-in_ok-take_renewed-in-Current-clause-on g c =
    let w = world_in g.K.Known.keeps c.args.setting.now in
    let walk = c.args.walk.now in
    let takes : TakesRenewed walk c.take_renewed.new.self c.args.node c.in-Current.current.done (renewed_by c.args.node c.in-Current.current) =
    subst (TakesRenewed walk c.take_renewed.new.self c.args.node c.in-Current.current.done) c.in_ok-renewed-in-Current.ensures c.in_ok-take_renewed-in-Current.ensures.ok in
    goes_with_done w walk c.args.node c.requires.last c.in-Current.current.done walk.fresh (walk.renewed ++ renewed_by c.args.node c.in-Current.current ∷ []) c.take_renewed.new.self takes.is

pub returns-in_ok-take_renewed-in-Current-clause-visited : goal.returns-in_ok-take_renewed-in-Current-clause-visited
returns-in_ok-take_renewed-in-Current-clause-visited g c =
    let w = world_in g.K.Known.keeps c.args.setting.now in
    let walk = c.args.walk.now in
    let takes : TakesRenewed walk c.take_renewed.new.self c.args.node c.in-Current.current.done (renewed_by c.args.node c.in-Current.current) =
    subst (TakesRenewed walk c.take_renewed.new.self c.args.node c.in-Current.current.done) c.in_ok-renewed-in-Current.ensures c.in_ok-take_renewed-in-Current.ensures.ok in
    visited_with_done w walk c.args.node c.requires.last c.in-Current.current.done walk.fresh (walk.renewed ++ renewed_by c.args.node c.in-Current.current ∷ []) c.take_renewed.new.self takes.is

pub returns-in_ok-take_renewed-in-Current-clause-formed : goal.returns-in_ok-take_renewed-in-Current-clause-formed
returns-in_ok-take_renewed-in-Current-clause-formed g c =
    let w = world_in g.K.Known.keeps c.args.setting.now in
    let walk = c.args.walk.now in
    let takes : TakesRenewed walk c.take_renewed.new.self c.args.node c.in-Current.current.done (renewed_by c.args.node c.in-Current.current) =
    subst (TakesRenewed walk c.take_renewed.new.self c.args.node c.in-Current.current.done) c.in_ok-renewed-in-Current.ensures c.in_ok-take_renewed-in-Current.ensures.ok in
    let current = subst (IsByRecord w walk c.args.node) c.in-Current.is c.requires.recorded in
    renewed_formed w walk c.args.node c.requires.last c.in-Current.current current c.take_renewed.new.self takes c.requires.set

pub returns-in_ok-take_renewed-in-Current-clause-holds : goal.returns-in_ok-take_renewed-in-Current-clause-holds
returns-in_ok-take_renewed-in-Current-clause-holds g c =
    let w = world_in g.K.Known.keeps c.args.setting.now in
    let walk = c.args.walk.now in
    let takes : TakesRenewed walk c.take_renewed.new.self c.args.node c.in-Current.current.done (renewed_by c.args.node c.in-Current.current) =
    subst (TakesRenewed walk c.take_renewed.new.self c.args.node c.in-Current.current.done) c.in_ok-renewed-in-Current.ensures c.in_ok-take_renewed-in-Current.ensures.ok in
    let current = subst (IsByRecord w walk c.args.node) c.in-Current.is c.requires.recorded in
    renewed_holds w walk c.args.node c.requires.last c.in-Current.current current c.take_renewed.new.self takes

pub returns-in_ok-take_renewed-in-Current-clause-same : goal.returns-in_ok-take_renewed-in-Current-clause-same
returns-in_ok-take_renewed-in-Current-clause-same g c = renews_alone c.args.walk.now c.take_renewed.new.self _ _ _ c.in_ok-take_renewed-in-Current.ensures.ok

pub returns-in_err-take_renewed-in-Current-clause-same : goal.returns-in_err-take_renewed-in-Current-clause-same
returns-in_err-take_renewed-in-Current-clause-same g c = same_alone c.args.walk.now c.take_renewed.new.self c.in_err-take_renewed-in-Current.ensures.err
