use Rattle.project_file.proofs.ReadLemmas.{other_found, other_on}
use Rattle.project_file.proofs.texts.other_key.Goals as goal

pub returns-then-not-is_known : goal.returns-then-not-is_known
returns-then-not-is_known c =
    other_found c.args.known.now _ c.next.new.self c.in-Some.key.now c.in-Some._value.now c.as_str.result.now c.as_str-then-not-is_known.result.now _
    c.is_known.result c.in-Some.ensures.steps
    c.as_str.ensures.value c.is_known.ensures c.if-not-is_known.true c.as_str-then-not-is_known.ensures.value c.loop-key.invariant

pub loop-key-preserved : goal.loop-key-preserved
loop-key-preserved c =
    other_on c.args.known.now _ c.next.new.self c.in-Some.key.now c.in-Some._value.now c.as_str.result.now _ c.is_known.result c.in-Some.ensures.steps
    c.as_str.ensures.value c.is_known.ensures c.if-not-is_known.false c.loop-key.invariant
