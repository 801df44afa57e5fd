use Rattle.std.proofs.Common.{◌<◌, length, ap, sym, ◌∙◌, subst, arith}
use Rattle.std.specs.Hash.FoldHasher as folding
use Rattle.object_values.specs.declared.items.StoredPart.{StoredPart}
use Rattle.meaning_records.specs.Tables.{IsPartOf}
use Rattle.kept_contents.specs.Inputs.{hash_of_parts}
use Rattle.kept_contents.proofs.InputLemmas.{fed_next, held_more}
use Rattle.kept_contents.proofs.Resolved.{parts_more, no_parts}
use Rattle.kept_contents.proofs.resolving.parts_of.Goals as goal

pub returns-in_default-clause-none : goal.returns-in_default-clause-none
returns-in_default-clause-none c =
    let contents = c.args.table.now.contents in
    let here = c.part-item.result in
    let within : c.loop-part.part-index < length c.args.stored.now = omega arith in
    let none = rw c.in_default.is at c.in_ok-made.ensures.none in
    no_parts contents c.args.stored.now c.loop-part.part-index here within (λ x h. none x (subst (λ (s : StoredPart). IsPartOf contents s x) (sym c.part-item.is) h))

pub loop-part-preserved : goal.loop-part-preserved
loop-part-preserved c =
    let contents = c.args.table.now.contents in
    let texts = c.args.table.now.texts in
    let here = c.part-item.result in
    let made = c.in-Some.made in
    let within : c.loop-part.part-index < length c.args.stored.now = omega arith in
    let is : IsPartOf contents here made = rw c.in-Some.is at c.in_ok-made.ensures.some in
    let at = subst (λ (s : StoredPart). IsPartOf contents s made) c.part-item.is is in
    let held = rw c.in-Some.is at c.in_ok-made.ensures.held in
    let id = rw c.in-Some.is at c.in_ok-made.ensures.id in (
      rw c.in_ok-push.ensures.ok (parts_more contents c.args.stored.now c.loop-part.parts c.loop-part.part-index here made within c.loop-part.invariant.0 at),
      held_more texts c.loop-part.parts c.push.new.self made c.loop-part.invariant.1 held c.in_ok-push.ensures.ok,
      fed_next folding.write folding.initial c.loop-part.state c.feed_part.new.state texts c.loop-part.parts c.push.new.self made c.in-Some.text id c.loop-part.invariant.2 c.feed_part.ensures c.in_ok-push.ensures.ok,
    )

pub returns-clause-hash : goal.returns-clause-hash
unfolding hash_of_parts
returns-clause-hash c = c.finish.ensures ∙ ap folding.finish c.loop-part.invariant.2
