use Rattle.std.proofs.Common.{rules}
use Rattle.odin_real.proofs.AskedLemmas.{all_same, all_twice}
use Rattle.odin_real.proofs.waits.wait_any.Goals as goal

pub returns-then-len-eq1-clause-asked : goal.returns-then-len-eq1-clause-asked
returns-then-len-eq1-clause-asked g c = all_same _

pub loop-init : goal.loop-init
loop-init g c = record { asked = all_same _; some = search rules }

pub returns-in-Some-clause-asked : goal.returns-in-Some-clause-asked
returns-in-Some-clause-asked g c = all_twice _ _ _ c.loop.invariant.asked c.ended_now.ensures.asked

pub loop-preserved : goal.loop-preserved
loop-preserved g c = record { asked = all_twice _ _ _ c.loop.invariant.asked c.ended_now.ensures.asked; some = search rules }
