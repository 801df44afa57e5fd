use Rattle.std.proofs.Common.{subst, arith}
use Rattle.std.proofs.lemmas.Result.{err_from_is_err_and}
use Rattle.derive_walk.specs.declared.found.Found.TheVariants.{Answer}
use Rattle.derive_walk.specs.Founds.{IsFound}
use Rattle.derive_walk.specs.Settings.{world_in}
use Rattle.derive_walk.specs.Looks.{GoesByLooks, spare_for}
use Rattle.derive_walk.specs.States.{AfterVisit, HoldsIn}
use Rattle.derive_walk.specs.Paths.{LeadsTo}
use Rattle.derive_walk.proofs.Formed.{found_fits}
use Rattle.derive_walk.proofs.LooksLemmas.{goes_from, goes_lost, goes_still, goes_wider}
use Rattle.derive_walk.proofs.RootLemmas.{root_leads, chain_there, trusted}
use Rattle.derive_walk.proofs.SourceSettles.{source_found}
use Rattle.derive_walk.proofs.walker.walk_from_root.Goals as goal

pub returns-then-is_empty-clause-after : goal.returns-then-is_empty-clause-after
returns-then-is_empty-clause-after g c =
    let w = world_in g.K.Known.keeps c.args.setting.now in
    let found : IsFound w.graph w.sources w.outcomes c.args.walk.now.root (Answer c.in_ok-view.view) = source_found w c.args.walk.now.root
    (c.is_empty.ensures.0 c.if-is_empty.true) c.in_ok-view.view (rw c.graph.ensures at c.in_ok-view.ensures) in
    record { fit = found_fits w c.requires.set c.args.walk.now.root c.requires.formed.root (Answer c.in_ok-view.view) found; placed = λ view is stepped. absurd (stepped (c.is_empty.ensures.0 c.if-is_empty.true)); right = λ holds. found }

pub returns-then-is_some-clause-after : goal.returns-then-is_some-clause-after
returns-then-is_some-clause-after g c = c.visited_root.ensures (world_in g.K.Known.keeps c.args.setting.now) c.requires.set c.requires.formed

pub returns-in_err-found-clause-holds : goal.returns-in_err-found-clause-holds
returns-in_err-found-clause-holds g c = λ holds. c.visit.ensures.holds
    (root_leads (world_in g.K.Known.keeps c.args.setting.now) c.args.walk.now c.requires.start c.in_ok-root.root c.in_ok-root.ensures holds)

pub returns-in-Some-clause-holds : goal.returns-in-Some-clause-holds
returns-in-Some-clause-holds g c = λ holds. c.visit.ensures.holds
    (root_leads (world_in g.K.Known.keeps c.args.setting.now) c.args.walk.now c.requires.start c.in_ok-root.root c.in_ok-root.ensures holds)

pub returns-clause-holds : goal.returns-clause-holds
returns-clause-holds g c = λ holds. c.visit.ensures.holds
    (root_leads (world_in g.K.Known.keeps c.args.setting.now) c.args.walk.now c.requires.start c.in_ok-root.root c.in_ok-root.ensures holds)

pub returns-in-Some-clause-after : goal.returns-in-Some-clause-after
returns-in-Some-clause-after g c =
    let w = world_in g.K.Known.keeps c.args.setting.now in
    chain_there w c.args.walk.now c.requires.start c.in_ok-root.root c.in_ok-root.ensures c.visit.new.walk c.visit.ensures.on c.in-Some.found
    (subst (λ o. AfterVisit w (LeadsTo w c.args.walk.now c.in_ok-root.root) c.args.walk.now c.visit.new.walk c.in_ok-root.root o) c.in-Some.is c.in_ok-found.ensures.after)

pub returns-clause-after : goal.returns-clause-after
returns-clause-after g c =
    let w = world_in g.K.Known.keeps c.args.setting.now in
    trusted w c.visit.new.walk (λ holds. c.visit.ensures.holds
    (root_leads w c.args.walk.now c.requires.start c.in_ok-root.root c.in_ok-root.ensures holds)) c.visited_root-2.result
    (c.visited_root-2.ensures w c.requires.set c.visit.ensures.formed)

-- ---- looks

pub returns-in_err-view-clause-counted : goal.returns-in_err-view-clause-counted
returns-in_err-view-clause-counted g c = goes_still (world_in g.K.Known.keeps c.args.setting.now) c.args.setting.now.given.now c.args.walk.now _ _

pub returns-then-is_empty-clause-counted : goal.returns-then-is_empty-clause-counted
returns-then-is_empty-clause-counted g c = goes_still (world_in g.K.Known.keeps c.args.setting.now) c.args.setting.now.given.now c.args.walk.now _ _

pub returns-then-is_some-clause-counted : goal.returns-then-is_some-clause-counted
returns-then-is_some-clause-counted g c = goes_still (world_in g.K.Known.keeps c.args.setting.now) c.args.setting.now.given.now c.args.walk.now _ _

pub returns-in_err-root-clause-counted : goal.returns-in_err-root-clause-counted
returns-in_err-root-clause-counted g c = goes_still (world_in g.K.Known.keeps c.args.setting.now) c.args.setting.now.given.now c.args.walk.now _ _

pub returns-in_err-found-clause-counted : goal.returns-in_err-found-clause-counted
returns-in_err-found-clause-counted g c =
    let w = world_in g.K.Known.keeps c.args.setting.now in
    let given = err_from_is_err_and _ c.from_residual-in_err-found.ensures.1 in
    goes_lost w c.args.setting.now.given.now c.args.walk.now _ _ _ _ _ given.1
    (goes_from w c.args.setting.now.given.now c.args.walk.now c.visit.new.walk _ _ _
    (root_leads w c.args.walk.now c.requires.start c.in_ok-root.root c.in_ok-root.ensures) c.in_err-found.ensures.counted)

pub returns-in-Some-clause-counted : goal.returns-in-Some-clause-counted
returns-in-Some-clause-counted g c =
    let w = world_in g.K.Known.keeps c.args.setting.now in
    subst (λ o. GoesByLooks w c.args.setting.now.given.now (HoldsIn w c.args.walk.now) c.args.walk.now c.visit.new.walk c.args.steps.now c.visit.new.steps
    (spare_for c.visit.new.walk.looked o)) c.in-Some.is
    (goes_from w c.args.setting.now.given.now c.args.walk.now c.visit.new.walk _ _ _
    (root_leads w c.args.walk.now c.requires.start c.in_ok-root.root c.in_ok-root.ensures) c.in_ok-found.ensures.counted)

pub returns-clause-counted : goal.returns-clause-counted
returns-clause-counted g c =
    let w = world_in g.K.Known.keeps c.args.setting.now in
    goes_wider w c.args.setting.now.given.now c.args.walk.now c.visit.new.walk _ _ 0 _ (omega arith)
    (subst (λ o. GoesByLooks w c.args.setting.now.given.now (HoldsIn w c.args.walk.now) c.args.walk.now c.visit.new.walk c.args.steps.now c.visit.new.steps
    (spare_for c.visit.new.walk.looked o)) c.in_default.is
    (goes_from w c.args.setting.now.given.now c.args.walk.now c.visit.new.walk _ _ _
    (root_leads w c.args.walk.now c.requires.start c.in_ok-root.root c.in_ok-root.ensures) c.in_ok-found.ensures.counted))
