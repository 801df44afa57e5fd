-- Type by type.
use Rattle.std.proofs.Common.{arith}
use Rattle.type_graph.proofs.BitLemmas.{none_own, one_own, all_own}
use Rattle.type_graph.proofs.rows.mark_own.Goals as goal

pub loop-number-init : goal.loop-number-init
loop-number-init c = none_own c.args.count c.args.width c.args.words.now c.requires.fits c.requires.none

pub loop-number-preserved : goal.loop-number-preserved
loop-number-preserved c = one_own c.args.count c.args.width c.loop-number.number c.loop-number.words c.loop-number.invariant c.loop-number-test.true

pub returns : goal.returns
returns c = all_own c.args.count c.args.width c.loop-number.number c.loop-number.words c.loop-number.invariant (omega (arith, c.loop-number-test.false, c.loop-number.auto.number-end))
