use Rattle.std.proofs.Common.{rules}
use Rattle.odin_real.specs.Seen.{seen_of}
use Rattle.odin_real.proofs.AskedLemmas.{asked_there, all_same, none_next, none_still}
use Rattle.odin_real.proofs.waits.ended_now.Goals as goal

pub loop-place-init : goal.loop-place-init
loop-place-init g c = record { asked = all_same _; oldest = tt; long = search rules }

pub returns-then-has_ended-clause-asked : goal.returns-then-has_ended-clause-asked
returns-then-has_ended-clause-asked g c = asked_there seen_of _ c.loop-place.started.items c.loop-place.place c.index_mut.result.now c.has_ended.new.tool (search rules) c.loop-place.invariant.asked (search rules)

pub loop-place-preserved : goal.loop-place-preserved
loop-place-preserved g c = record {
  asked = asked_there seen_of _ c.loop-place.started.items c.loop-place.place c.index_mut.result.now c.has_ended.new.tool (search rules) c.loop-place.invariant.asked (search rules);
  oldest = none_next seen_of c.loop-place.started.items c.loop-place.place c.has_ended.new.tool c.loop-place.invariant.oldest (c.has_ended.ensures.running (search rules));
  long = search rules;
}

pub returns-then-has_ended-clause-oldest : goal.returns-then-has_ended-clause-oldest
returns-then-has_ended-clause-oldest g c = none_still seen_of c.loop-place.started.items c.loop-place.place c.has_ended.new.tool c.loop-place.invariant.oldest
