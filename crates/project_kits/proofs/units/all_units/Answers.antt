use Rattle.std.proofs.Common.{map}
use Rattle.project_kits.proofs.ReadLemmas.{units_read}
use Rattle.project_kits.proofs.units.all_units.Goals as goal

pub loop-key-preserved-then-not-is_taken : goal.loop-key-preserved-then-not-is_taken
loop-key-preserved-then-not-is_taken c =
    units_read (map (λ kit. kit.now) c.args.kits.now) c.loop-key.read c.in_ok-read.read _ c.next.new.self c.in-Some.key.now c.in-Some.value.now c.as_bytes.result.now
    c.as_str.result.now c.is_taken.result _
    c.in-Some.ensures.steps c.as_bytes.ensures.value c.as_str.ensures.value c.is_taken.ensures c.if-not-is_taken.true c.in_ok-read.ensures c.loop-key.invariant
