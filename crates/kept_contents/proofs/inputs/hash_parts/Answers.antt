use Rattle.std.proofs.Common.{◌<◌, ◌∙◌, length, arith, ap}
use Rattle.std.specs.Hash.FoldHasher as folding
use Rattle.kept_contents.specs.Inputs.{hash_of_parts}
use Rattle.kept_contents.proofs.InputLemmas.{fed_all, fed_step, held_step}
use Rattle.kept_contents.proofs.inputs.hash_parts.Goals as goal

pub loop-part-preserved : goal.loop-part-preserved
loop-part-preserved c =
    let texts = c.args.table.now.texts in
    let parts = c.args.parts.now in
    let i = c.loop-part.part-index in
    let here = c.part-item.result in
    let within : i < length parts = omega arith in (
      held_step texts parts i here within c.part-item.is c.loop-part.invariant.0 c.in-Some.ensures.held,
      fed_step texts parts i here within c.part-item.is folding.write folding.initial c.loop-part.state c.feed_part.new.state c.in-Some.text c.in-Some.ensures.some c.loop-part.invariant.1 c.feed_part.ensures,
    )

pub returns-clause-hash : goal.returns-clause-hash
unfolding hash_of_parts
returns-clause-hash c = c.finish.ensures ∙ ap folding.finish (fed_all folding.write folding.initial c.loop-part.state c.args.table.now.texts c.args.parts.now c.loop-part.part-index (omega arith) c.loop-part.invariant.1)
