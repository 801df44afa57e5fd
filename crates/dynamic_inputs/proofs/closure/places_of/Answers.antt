use Rattle.std.proofs.Common.{[], ◌∷◌, ◌++◌, take, ap, ◌∙◌}
use Rattle.dynamic_inputs.specs.Closures.{with_name}
use Rattle.dynamic_inputs.proofs.Found.{kept_front, one_more}
use Rattle.dynamic_inputs.proofs.Kept.{added_step, places_step}
use Rattle.dynamic_inputs.proofs.closure.places_of.Goals as goal

pub returns-in_err-add-clause-kept : goal.returns-in_err-add-clause-kept
returns-in_err-add-clause-kept c = kept_front c.args.names.now (take c.loop-line.line-index c.args.lines.now) c.add.new.self (c.in_err-add.ensures.err ∙ c.loop-line.invariant.added)

pub returns-in_err-push-clause-kept : goal.returns-in_err-push-clause-kept
returns-in_err-push-clause-kept c = kept_front c.args.names.now (take c.loop-line.line-index c.args.lines.now ++ c.line-item.result ∷ []) c.add.new.self (c.in_ok-add.ensures.names ∙ (ap (λ names. with_name names c.line-item.result) c.loop-line.invariant.added ∙ one_more c.args.names.now (take c.loop-line.line-index c.args.lines.now) c.line-item.result))

pub loop-line-preserved : goal.loop-line-preserved
loop-line-preserved c = record {
  added = added_step c.args.names.now c.loop-line.names c.add.new.self c.args.lines.now c.loop-line.line-index c.line-item.result c.loop-line-test.true c.line-item.is c.loop-line.invariant.added c.in_ok-add.ensures.names;
  at = places_step c.loop-line.names c.add.new.self c.args.lines.now c.loop-line.line-index c.line-item.result c.loop-line.places c.push.new.self c.in_ok-add.field-0 c.loop-line-test.true c.line-item.is c.loop-line.invariant.at c.in_ok-add.ensures.names c.in_ok-add.ensures.place c.in_ok-push.ensures.ok;
}

pub returns-clause-kept : goal.returns-clause-kept
returns-clause-kept c = kept_front c.args.names.now (take c.loop-line.line-index c.args.lines.now) c.loop-line.names c.loop-line.invariant.added
