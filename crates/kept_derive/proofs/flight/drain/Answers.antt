use Rattle.std.proofs.Common.{ap, ◌∙◌, arith}
use Rattle.std.specs.Prelude.{Err}
use Rattle.std.proofs.lemmas.Result.{err_from_is_err_and}
use Rattle.kept_derive.proofs.CallLemmas.{drains_more, same_found, one_fewer}
use Rattle.kept_derive.proofs.LookLemmas.{drained_counted, same_looked, same_taken, halts, drain_stops_at}
use Rattle.kept_derive.proofs.TurnLemmas.{stays_off}
use Rattle.kept_derive.proofs.flight.drain.Goals as goal

pub returns-in_err-land-clause-stops : goal.returns-in_err-land-clause-stops
returns-in_err-land-clause-stops g c =
    let given = err_from_is_err_and _ c.from_residual.ensures.1 in
    drain_stops_at _ _ _ _ _ _ _ (given.1 ∙ ap (λ f. Err f) given.2) (λ g' n why first before last way counted.
    halts g.D.Disk.told g' n first _ _ _ _ (c.loop.invariant.on g' n why first way) c.changes_follow.ensures (λ knows. tt) _ _ _ _ c.in_err-land.ensures.fails _ c.loop.invariant.limit before last
    (drained_counted c.args.core.now c.loop.core c.loop.invariant.looked c.loop.invariant.taken c.loop.invariant.result before last counted))

pub loop-preserved : goal.loop-preserved
loop-preserved g c = record {
  on = λ g' n why first way.
      stays_off g.D.Disk.told c.changes_follow.ensures _ _ _ _ _ _ _ c.in_ok-land.ensures.lands c.in_ok-land.ensures.formed c.in_ok-land.ensures.right g' n why first (c.loop.invariant.on g' n why first way);
  may = drains_more g.D.Disk.told _ _ _ _ _ _ _ _ c.loop.invariant.may _ c.in_ok-land.ensures.lands c.in_ok-land.ensures.left.ready;
  limit = c.in_ok-land.ensures.limit ∙ c.loop.invariant.limit;
  result = same_found g.D.Disk.told _ _ _ _ _ _ _ 0 c.loop.invariant.may _ c.in_ok-land.ensures.lands ∙ c.loop.invariant.result;
  looked = same_looked g.D.Disk.told _ _ _ _ _ _ _ c.in_ok-land.ensures.lands ∙ c.loop.invariant.looked;
  taken = same_taken g.D.Disk.told _ _ _ _ _ _ _ c.in_ok-land.ensures.lands ∙ c.loop.invariant.taken;
  cause = c.in_ok-land.ensures.cause.ok ∙ c.loop.invariant.cause;
  left = omega (arith, one_fewer g.D.Disk.told _ _ _ _ _ _ _ 0 c.loop.invariant.may _ c.in_ok-land.ensures.lands, c.loop.invariant.left);
}
