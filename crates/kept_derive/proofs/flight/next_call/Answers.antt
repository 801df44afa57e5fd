use Rattle.std.proofs.Common.{rules, arith, ◌≡◌, true, inr}
use Rattle.std.specs.Prelude.{IsTrue}
use Rattle.object_values.specs.declared.calls.Call.{Call}
use Rattle.meaning_texts.specs.Lists.{IsIn}
use Rattle.job_runner.specs.Flights.{calls_in}
use Rattle.kept_derive.proofs.CallLemmas.{room_left, item_in, all_on, in_taken}
use Rattle.kept_derive.proofs.flight.next_call.Goals as goal

pub returns-then-not-has : goal.returns-then-not-has
returns-then-not-has c = record {
  wanted = item_in _ c.loop-call.call-index _ (search rules) (search rules);
  new = λ i. let yes : c.has.result ≡ true = c.has.ensures.1 i in first_of (search (rules, yes), grind (arith, yes));
  room = room_left c.is_full.result _ _ c.requires c.is_full.ensures (search rules);
}

pub loop-call-preserved : goal.loop-call-preserved
loop-call-preserved c =
    let runs : IsTrue c.has.result = first_of (search rules, grind arith) in
    all_on (λ (call : Call). IsIn call (calls_in c.args.jobs.now.running)) c.args.wanted.now c.loop-call.call-index c.call-item.result (search rules) (search rules) (c.has.ensures.0 runs) c.loop-call.invariant

pub returns : goal.returns
returns c = inr (λ call i. c.loop-call.invariant call (in_taken c.args.wanted.now c.loop-call.call-index (search rules) call i))
