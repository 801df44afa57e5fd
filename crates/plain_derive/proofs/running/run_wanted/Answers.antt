use Rattle.std.proofs.Common.{◌∙◌, ap}
use Rattle.std.specs.Prelude.{Err}
use Rattle.std.proofs.lemmas.Result.{err_from_is_err_and}
use Rattle.plain_derive.proofs.OnLemmas.{stopped_at}
use Rattle.plain_derive.proofs.running.run_wanted.Goals as goal

pub returns-in_err-run_first-clause-stops : goal.returns-in_err-run_first-clause-stops
returns-in_err-run_first-clause-stops g c =
    let given = err_from_is_err_and _ c.from_residual.ensures.1 in
    stopped_at _ _ _ _ _ (given.1 ∙ ap (λ f. Err f) given.2)
    (λ g' s n first calm so. c.in_err-run_first.ensures.stops g' s n first calm (c.loop.invariant.on g' s n first so))

pub loop-preserved : goal.loop-preserved
loop-preserved g c = record {
  on = λ g' s n first so. c.in_ok-run_first.ensures.on g' s n first (c.loop.invariant.on g' s n first so);
  none = c.in_ok-run_first.ensures.none;
  idle = c.in_ok-run_first.ensures.idle;
}
