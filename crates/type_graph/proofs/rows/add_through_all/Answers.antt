-- Type by type.
use Rattle.std.proofs.Common.{arith}
use Rattle.type_graph.proofs.BitLemmas.{stays, through_grows, through_more}
use Rattle.type_graph.proofs.rows.add_through_all.Goals as goal

pub loop-through-init : goal.loop-through-init
loop-through-init c = (stays c.args.supers.now c.args.width c.args.words.now, λ a e b h. absurd (omega (arith, h)))

pub loop-through-preserved : goal.loop-through-preserved
loop-through-preserved c =
    let so_far = c.loop-through.invariant in (
      through_grows c.args.supers.now c.args.width c.loop-through.through c.args.words.now c.loop-through.words c.add_through.new.words c.loop-through-test.true so_far.0 so_far.1 c.add_through.ensures,
      through_more c.args.supers.now c.args.width c.loop-through.through c.args.words.now c.loop-through.words c.add_through.new.words c.loop-through-test.true so_far.0 so_far.1 c.add_through.ensures,
    )

pub returns-clause-passes : goal.returns-clause-passes
returns-clause-passes c = λ a e b h i k x y. c.loop-through.invariant.1 a e b (omega (arith, h, c.loop-through-test.false)) i k x y
