use Rattle.std.proofs.Common.{arith, ◌≡◌, ◌<◌, ◌∙◌, [], length, sym, ap, subst}
use Rattle.std.specs.Prelude.{Err}
use Rattle.std.proofs.lemmas.Result.{err_from_is_err_and}
use Rattle.derive_walk.specs.Looks.{spare_for}
use Rattle.derive_walk.specs.Walks.{Walked}
use Rattle.job_runner.specs.Flights.{InFlight}
use Rattle.kept_derive.specs.Looked.{AreCounted}
use Rattle.kept_derive.specs.Runs.{at}
use Rattle.kept_derive.specs.Ways.{IsUnbegun}
use Rattle.kept_derive.proofs.CallLemmas.{ready_by}
use Rattle.kept_derive.proofs.KnowLemmas.{SaysFacts, says_facts}
use Rattle.kept_derive.proofs.WayLemmas.{may_drain}
use Rattle.kept_derive.proofs.LookLemmas.{drained_counted, halted_at}
use Rattle.kept_derive.proofs.EndLemmas.{on_some_way, drained_for, none_runs, ends_now, ends_drained, ends_move}
use Rattle.kept_derive.proofs.flight.fly_out.Goals.{then-running-gt0+in_ok-drain, else-running-gt0}
use Rattle.kept_derive.proofs.flight.fly_out.Goals as goal

pub fly-requires-clause-unbegun : goal.fly-requires-clause-unbegun
fly-requires-clause-unbegun g c = subst (λ (z : InFlight). IsUnbegun c.args.core.now z) (sym c.new-jobs.ensures) c.requires.unbegun

pub returns-in_err-flown-clause-halted : goal.returns-in_err-flown-clause-halted
returns-in_err-flown-clause-halted g c =
    let given = err_from_is_err_and _ c.from_residual.ensures.1 in
    halted_at _ _ _ _ _ _ _ _ _ _ _ (given.1 ∙ ap (λ f. Err f) given.2) (ap (λ (z : InFlight). z.limit) c.new-jobs.ensures) c.in_err-flown.ensures.halted

-- ---- what runs is drained

pub drain-requires : goal.drain-requires
drain-requires g c =
    let first = at c.args.store.now c.args.disk.now (g.S.Spawner.told c.args.tools.now) in
    let now = at c.fly.new.store c.fly.new.disk (g.S.Spawner.told c.fly.new.tools) in
    let way = on_some_way g.D.Disk.told c.args.planned.now c.args.core.now.root first c.fly.new.core c.fly.new.jobs now c.in_ok-flown.flown c.in_ok-flown.ensures.flown.comes in
    may_drain g.D.Disk.told c.args.planned.now c.args.core.now.root first way.0 c.fly.new.core c.fly.new.jobs now way.1 _ c.in_ok-flown.ensures.left.ready

pub returns-in_err-drain-clause-halted : goal.returns-in_err-drain-clause-halted
returns-in_err-drain-clause-halted g c =
    let first = at c.args.store.now c.args.disk.now (g.S.Spawner.told c.args.tools.now) in
    let now = at c.fly.new.store c.fly.new.disk (g.S.Spawner.told c.fly.new.tools) in
    let some : 0 < length c.fly.new.jobs.running = omega (arith, c.if-running-gt0.true, c.running.ensures) in
    let for = drained_for g.D.Disk.told c.args.planned.now c.args.core.now.root first c.fly.new.core c.fly.new.jobs now c.in_ok-flown.flown c.in_ok-flown.ensures.flown.comes some in
    let given = err_from_is_err_and _ c.from_residual-in_err-drain.ensures.1 in
    halted_at _ _ _ _ _ c.fly.new.jobs.limit _ _ _ _ _ (given.1 ∙ ap (λ f. Err f) given.2) (c.in_ok-flown.ensures.flown.limit ∙ ap (λ (z : InFlight). z.limit) c.new-jobs.ensures)
    (c.in_err-drain.ensures.stops c.args.planned.now c.args.core.now.root for.0 first _ _ for.1 c.in_ok-flown.ensures.flown.counted)

-- ---- none runs any more

pub returns-clause-out : goal.returns-clause-out
returns-clause-out g c =
    let first = at c.args.store.now c.args.disk.now (g.S.Spawner.told c.args.tools.now) in
    let now = at c.fly.new.store c.fly.new.disk (g.S.Spawner.told c.fly.new.tools) in
    let end = at c.if-running-gt0.store c.if-running-gt0.disk (g.S.Spawner.told c.if-running-gt0.tools) in
    let flown = c.in_ok-flown.ensures.flown in
    let limit = flown.limit ∙ ap (λ (z : InFlight). z.limit) c.new-jobs.ensures in
    let before : SaysFacts c.args.store.now = says_facts c.args.store.now c.kept.result.now c.kept.ensures c.records_fit.ensures.says in
    let later : SaysFacts c.if-running-gt0.store = says_facts c.if-running-gt0.store c.kept-2.result.now c.kept-2.ensures c.records_fit-2.ensures.says in
    elim c.if-running-gt0.branch [
      | then-running-gt0+in_ok-drain w ↦
          let some : 0 < length c.fly.new.jobs.running = omega (arith, w.if-running-gt0.true, c.running.ensures) in
          let drains = w.in_ok-drain.ensures.drains in
          record {
            ends = ends_move g.D.Disk.told c.args.planned.now c.args.core.now.root c.args.limit first c.in_ok-flown.flown w.core-is w.store-is w.disk-is (ap g.S.Spawner.told w.tools-is)
                (ends_drained g.D.Disk.told c.args.planned.now c.args.core.now.root first c.fly.new.core c.fly.new.jobs now c.in_ok-flown.flown flown.comes some _ _ _ drains c.args.limit before (subst SaysFacts w.store-is later) limit);
            counted = subst (λ (z : Walked). AreCounted c.args.steps.now c.fly.new.steps (spare_for z.looked z.result) z) (sym w.core-is)
                (drained_counted c.fly.new.core w.drain.new.core drains.looked drains.taken drains.result _ _ flown.counted);
          }
      | else-running-gt0 w ↦
          let none : c.fly.new.jobs.running ≡ [] = none_runs c.fly.new.jobs.running (omega (arith, w.if-running-gt0.false, c.running.ensures)) in
          record {
            ends = ends_move g.D.Disk.told c.args.planned.now c.args.core.now.root c.args.limit first c.in_ok-flown.flown w.core-is w.store-is w.disk-is (ap g.S.Spawner.told w.tools-is)
                (ends_now g.D.Disk.told c.args.planned.now c.args.core.now.root first c.fly.new.core c.fly.new.jobs now c.in_ok-flown.flown flown.comes c.args.limit before (subst SaysFacts w.store-is later) limit none);
            counted = subst (λ (z : Walked). AreCounted c.args.steps.now c.fly.new.steps (spare_for z.looked z.result) z) (sym w.core-is) flown.counted;
          }
    ]

pub returns-clause-left : goal.returns-clause-left
returns-clause-left g c = elim c.if-running-gt0.branch [
  | then-running-gt0+in_ok-drain w ↦ ready_by c.in_ok-flown.flown c.if-running-gt0.store w.drain.new.store _ _ w.store-is (ap g.D.Disk.size_of w.disk-is) w.in_ok-drain.ensures.left.ready
  | else-running-gt0 w ↦ ready_by c.in_ok-flown.flown c.if-running-gt0.store c.fly.new.store _ _ w.store-is (ap g.D.Disk.size_of w.disk-is) c.in_ok-flown.ensures.left.ready
]
