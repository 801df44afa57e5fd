use Rattle.std.proofs.Common.{◌∙◌, ap}
use Rattle.std.specs.Prelude.{Err}
use Rattle.std.proofs.lemmas.Result.{err_from_is_err_and}
use Rattle.derive_walk.specs.Walks.{Walked}
use Rattle.kept_derive.specs.declared.fault.KeptFault.TheVariants.{Memory}
use Rattle.kept_derive.specs.Looked.{most_lost}
use Rattle.kept_derive.specs.Runs.{at}
use Rattle.kept_derive.proofs.LookLemmas.{none_looked}
use Rattle.kept_derive.proofs.TurnLemmas.{none_begun}
use Rattle.kept_derive.proofs.FinishLemmas.{over_of, cut_of, cut_looks, may_tell, told_found, told_stops, told_looks, told_rests, stopped_at, looks_at, rests_at}
use Rattle.kept_derive.proofs.derivation.derive_kept.Goals as goal

-- ---- memory was wanting before anything was done

pub returns-in_err-copy-clause-stopped : goal.returns-in_err-copy-clause-stopped
returns-in_err-copy-clause-stopped g c =
    let given = err_from_is_err_and _ c.from_residual.ensures.1 in
    stopped_at _ _ _ _ _ _ _ Memory (given.1 ∙ ap (λ f. Err f) given.2) (none_begun g.D.Disk.told c.args.planned.now c.args.node.now _ c.changes_follow.ensures c.args.limit)

pub returns-in_err-copy-clause-counted : goal.returns-in_err-copy-clause-counted
returns-in_err-copy-clause-counted g c = λ knows.
    let given = err_from_is_err_and _ c.from_residual.ensures.1 in
    looks_at _ _ _ _ _ _ _ Memory (given.1 ∙ ap (λ f. Err f) given.2) _ _ (none_looked c.args.planned.now c.args.node.now c.args.store.now _ most_lost)

pub returns-in_err-fly_out-clause-rest : goal.returns-in_err-fly_out-clause-rest
returns-in_err-fly_out-clause-rest g c =
    let first = at c.args.store.now c.args.disk.now (g.S.Spawner.told c.args.tools.now) in
    let now = at c.fly_out.new.store c.fly_out.new.disk (g.S.Spawner.told c.fly_out.new.tools) in
    let given = err_from_is_err_and _ c.from_residual-in_err-fly_out.ensures.1 in
    rests_at _ g.D.Disk.told c.args.planned.now c.args.node.now c.args.limit first now _ (given.1 ∙ ap (λ f. Err f) given.2) c.in_err-fly_out.ensures.halted.rest

-- ---- a tool failed

pub returns-in-Cut-clause-counted : goal.returns-in-Cut-clause-counted
returns-in-Cut-clause-counted g c =
    let first = at c.args.store.now c.args.disk.now (g.S.Spawner.told c.args.tools.now) in
    let now = at c.fly_out.new.store c.fly_out.new.disk (g.S.Spawner.told c.fly_out.new.tools) in
    let same = ap (λ (z : Walked). z.root) c.new-core.ensures.is ∙ c.in_ok-copy.ensures in
    let cut = cut_of g.D.Disk.told c.args.planned.now c.new-core.result.root c.args.node.now same c.args.limit first c.fly_out.new.core now _ _ _ c.in_ok-fly_out.ensures.out c.in-Cut.is in
    cut_looks g.D.Disk.told c.args.planned.now c.args.node.now c.args.limit first c.fly_out.new.core now cut _ _ c.in_ok-fly_out.ensures.out.counted

-- ---- something is found

pub keep_told-requires : goal.keep_told-requires
keep_told-requires g c =
    let first = at c.args.store.now c.args.disk.now (g.S.Spawner.told c.args.tools.now) in
    let now = at c.fly_out.new.store c.fly_out.new.disk (g.S.Spawner.told c.fly_out.new.tools) in
    let same = ap (λ (z : Walked). z.root) c.new-core.ensures.is ∙ c.in_ok-copy.ensures in
    let over = over_of g.D.Disk.told c.args.planned.now c.new-core.result.root c.args.node.now same c.args.limit first c.fly_out.new.core now _ _ _ c.in_ok-fly_out.ensures.out c.in-Found.is in
    may_tell g.D.Disk.told c.changes_follow.ensures c.args.planned.now c.args.node.now c.args.limit first c.fly_out.new.core now over _ c.in_ok-fly_out.ensures.left.ready c.requires.may.spelled

pub returns-in-Found-clause-found : goal.returns-in-Found-clause-found
returns-in-Found-clause-found g c =
    let first = at c.args.store.now c.args.disk.now (g.S.Spawner.told c.args.tools.now) in
    let now = at c.fly_out.new.store c.fly_out.new.disk (g.S.Spawner.told c.fly_out.new.tools) in
    let same = ap (λ (z : Walked). z.root) c.new-core.ensures.is ∙ c.in_ok-copy.ensures in
    let over = over_of g.D.Disk.told c.args.planned.now c.new-core.result.root c.args.node.now same c.args.limit first c.fly_out.new.core now _ _ _ c.in_ok-fly_out.ensures.out c.in-Found.is in
    told_found g.D.Disk.told c.changes_follow.ensures c.args.planned.now c.args.node.now c.args.limit first c.fly_out.new.core now over _ _ c.keep_told.result c.keep_told.ensures.told

pub returns-in-Found-clause-stopped : goal.returns-in-Found-clause-stopped
returns-in-Found-clause-stopped g c =
    let first = at c.args.store.now c.args.disk.now (g.S.Spawner.told c.args.tools.now) in
    let now = at c.fly_out.new.store c.fly_out.new.disk (g.S.Spawner.told c.fly_out.new.tools) in
    let same = ap (λ (z : Walked). z.root) c.new-core.ensures.is ∙ c.in_ok-copy.ensures in
    let over = over_of g.D.Disk.told c.args.planned.now c.new-core.result.root c.args.node.now same c.args.limit first c.fly_out.new.core now _ _ _ c.in_ok-fly_out.ensures.out c.in-Found.is in
    told_stops g.D.Disk.told c.changes_follow.ensures c.args.planned.now c.args.node.now c.args.limit first c.fly_out.new.core now over _ _ c.keep_told.result c.keep_told.ensures.fails

pub returns-in-Found-clause-rest : goal.returns-in-Found-clause-rest
returns-in-Found-clause-rest g c =
    let first = at c.args.store.now c.args.disk.now (g.S.Spawner.told c.args.tools.now) in
    let now = at c.fly_out.new.store c.fly_out.new.disk (g.S.Spawner.told c.fly_out.new.tools) in
    let same = ap (λ (z : Walked). z.root) c.new-core.ensures.is ∙ c.in_ok-copy.ensures in
    let over = over_of g.D.Disk.told c.args.planned.now c.new-core.result.root c.args.node.now same c.args.limit first c.fly_out.new.core now _ _ _ c.in_ok-fly_out.ensures.out c.in-Found.is in
    told_rests g.D.Disk.told c.changes_follow.ensures c.args.planned.now c.args.node.now c.args.limit first c.fly_out.new.core now over c.keep_told.result

pub returns-in-Found-clause-counted : goal.returns-in-Found-clause-counted
returns-in-Found-clause-counted g c =
    let first = at c.args.store.now c.args.disk.now (g.S.Spawner.told c.args.tools.now) in
    let now = at c.fly_out.new.store c.fly_out.new.disk (g.S.Spawner.told c.fly_out.new.tools) in
    let same = ap (λ (z : Walked). z.root) c.new-core.ensures.is ∙ c.in_ok-copy.ensures in
    let over = over_of g.D.Disk.told c.args.planned.now c.new-core.result.root c.args.node.now same c.args.limit first c.fly_out.new.core now _ _ _ c.in_ok-fly_out.ensures.out c.in-Found.is in
    told_looks g.D.Disk.told c.changes_follow.ensures c.args.planned.now c.args.node.now c.args.limit first c.fly_out.new.core now over _ _ c.keep_told.result c.keep_told.ensures.told c.keep_told.ensures.fails _ _ c.in_ok-fly_out.ensures.out.counted
