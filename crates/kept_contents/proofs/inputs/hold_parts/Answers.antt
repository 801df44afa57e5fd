use Rattle.std.proofs.Common.{◌<◌, ◌∙◌, length, arith, take, ap}
use Rattle.std.specs.Hash.FoldHasher as folding
use Rattle.kept_contents.specs.Inputs.{hash_of_parts}
use Rattle.kept_contents.proofs.Contents.{grown_twice}
use Rattle.kept_contents.proofs.InputLemmas.{fed_grown_state, fed_all, fed_step, held_step, parts_grown}
use Rattle.kept_contents.proofs.inputs.hold_parts.Goals as goal

pub loop-part-preserved : goal.loop-part-preserved
loop-part-preserved c =
    let before = c.loop-part.table.texts in
    let texts = c.hold_text.new.table.texts in
    let parts = c.args.parts.now in
    let i = c.loop-part.part-index in
    let here = c.part-item.result in
    let within : i < length parts = omega arith in
    let made = c.in_ok-text.ensures in
    let held = parts_grown before texts made.texts (take i parts) c.loop-part.invariant.0 in
    let fed = fed_grown_state before texts made.texts folding.write folding.initial c.loop-part.state (take i parts) c.loop-part.invariant.0 c.loop-part.invariant.1 in (
      held_step texts parts i here within c.part-item.is held made.held,
      fed_step texts parts i here within c.part-item.is folding.write folding.initial c.loop-part.state c.feed_part.new.state c.in_ok-text.text made.id fed c.feed_part.ensures,
      made.contents ∙ c.loop-part.invariant.2,
      grown_twice c.args.table.now.texts before texts c.loop-part.invariant.3 made.texts,
    )

pub returns-clause-hash : goal.returns-clause-hash
unfolding hash_of_parts
returns-clause-hash c = c.finish.ensures ∙ ap folding.finish (fed_all folding.write folding.initial c.loop-part.state c.loop-part.table.texts c.args.parts.now c.loop-part.part-index (omega arith) c.loop-part.invariant.1)
