-- Round by round.
use Rattle.std.proofs.Common.{arith}
use Rattle.type_graph.proofs.ClosingLemmas.{first_rows, next_round, no_more, passed_on}
use Rattle.type_graph.proofs.rows.close.Goals as goal

pub loop-round-init : goal.loop-round-init
loop-round-init c = first_rows c.args.supers.now c.args.width c.args.words.now c.requires.own

pub loop-round-preserved : goal.loop-round-preserved
loop-round-preserved c =
    next_round c.args.supers.now c.args.width c.loop-round._round c.loop-round.words c.go_round.new.words c.requires.supers c.loop-round.invariant c.go_round.ensures.grows c.go_round.ensures.adds

pub returns-then-not-go_round : goal.returns-then-not-go_round
returns-then-not-go_round c =
    no_more c.args.supers.now c.args.width c.loop-round._round c.loop-round.words c.go_round.new.words c.requires.supers c.loop-round.invariant c.go_round.ensures.grows c.go_round.ensures.adds
    (c.go_round.ensures.same c.if-not-go_round.true)

pub returns : goal.returns
returns c =
    passed_on c.args.supers.now c.args.width c.loop-round._round c.loop-round.words c.add_through_all.new.words c.requires.supers c.loop-round.invariant
    (omega (arith, c.loop-round-test.false)) c.add_through_all.ensures.grows c.add_through_all.ensures.passes
