use Rattle.std.proofs.Common.{sym, subst}
use Rattle.std.proofs.lemmas.Result.{IfOk-weaker}
use Rattle.object_values.specs.declared.calls.Outcome.{Outcome}
use Rattle.meaning_calls.specs.Outcomes.{outcome_of, OutcomeFits}
use Rattle.meaning_calls.proofs.Lemmas.{fits}
use Rattle.tool_calls.proofs.outcomes.outcome_of.Goals as goal

pub returns-in-Exit-clause-is : goal.returns-in-Exit-clause-is
unfolding outcome_of
returns-in-Exit-clause-is c = rw c.in-Exit.is (rw c.in_ok-left.ensures at c.exit_outcome.ensures)

pub returns-in-Exit-clause-fits : goal.returns-in-Exit-clause-fits
returns-in-Exit-clause-fits c =
    let call = c.args.call.now in
    IfOk-weaker c.exit_outcome.result _ (OutcomeFits call) (λ outcome is. subst (λ (o : Outcome). OutcomeFits call o) (sym is) (fits call c.args.raw.now)) (returns-in-Exit-clause-is c)

pub returns-clause-is : goal.returns-clause-is
unfolding outcome_of
returns-clause-is c = rw c.in-Signal.is (rw (c.in_ok-left.ensures, c.in_ok-signal_text-in-Signal.ensures) at c.ended_badly.ensures)
