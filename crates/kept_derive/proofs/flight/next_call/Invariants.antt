use Rattle.std.specs.Prelude.{take}
use Rattle.object_values.specs.declared.calls.Call.{Call}
use Rattle.meaning_texts.specs.Lists.{IsIn}
use Rattle.job_runner.specs.Flights.{calls_in}
use Rattle.kept_derive.proofs.flight.next_call.Given as goal

abbrev pub invariant-loop-call : goal.invariant-loop-call
invariant-loop-call l = (call : Call) → IsIn call (take l.call-index l.wanted) → IsIn call (calls_in l.jobs.running)
