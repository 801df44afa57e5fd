use Rattle.std.proofs.Common.{◌<◌, length, sym, subst, arith}
use Rattle.object_values.specs.declared.items.StoredOutput.{StoredOutput}
use Rattle.meaning_records.specs.Tables.{IsOutputOf}
use Rattle.kept_contents.proofs.Resolved.{outputs_more, no_outputs}
use Rattle.kept_contents.proofs.resolving.outputs_of.Goals as goal

pub loop-output-preserved : goal.loop-output-preserved
loop-output-preserved c =
    let contents = c.args.table.now.contents in
    let here = c.output-item.result in
    let within : c.loop-output.output-index < length c.args.stored.now = omega arith in
    let is : IsOutputOf contents here c.in-Some.made = rw c.in-Some.is at c.in_ok-made.ensures.some in
    let at = subst (λ (s : StoredOutput). IsOutputOf contents s c.in-Some.made) c.output-item.is is in
    rw c.in_ok-push-in-Some.ensures.ok (outputs_more contents c.args.stored.now c.loop-output.outputs c.loop-output.output-index here c.in-Some.made within c.loop-output.invariant at)

pub returns-in-None-clause-none : goal.returns-in-None-clause-none
returns-in-None-clause-none c =
    let contents = c.args.table.now.contents in
    let here = c.output-item.result in
    let within : c.loop-output.output-index < length c.args.stored.now = omega arith in
    let none = rw c.in-None.is at c.in_ok-made.ensures.none in
    no_outputs contents c.args.stored.now c.loop-output.output-index here within (λ x h. none x (subst (λ (s : StoredOutput). IsOutputOf contents s x) (sym c.output-item.is) h))
