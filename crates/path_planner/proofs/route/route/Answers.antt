-- Maker by maker, each one nearer.
use Rattle.std.proofs.Common.{◌≡◌, ◌∙◌, ◌-◌, ◌+◌, length, sym, ap, subst, arith}
use Rattle.std.specs.Prelude.{Some}
use Rattle.meaning_graph.proofs.Lemmas.{named_below}
use Rattle.meaning_graph.specs.Graphs.{types}
use Rattle.path_planner.specs.Ends.{takers_of}
use Rattle.path_planner.specs.Near.{near_at}
use Rattle.path_planner.proofs.NearLemmas.{none_by_all}
use Rattle.path_planner.proofs.RouteLemmas.{IsOnWay, none_is, far_away, one_leads, goes_on, arrives}
use Rattle.path_planner.proofs.TableLemmas.{length_rows, read_row}
use Rattle.path_planner.proofs.route.route.Goals as goal

pub bounds-takers-at : goal.bounds-takers-at
bounds-takers-at c = omega (arith, c.loop-left.invariant.0, ap length c.requires.takers, length_rows (takers_of c.args.graph.now) (length (types c.args.graph.now)))

pub nearer-requires-clause-takers : goal.nearer-requires-clause-takers
nearer-requires-clause-takers c =
    c.as_slice-takers.ensures ∙ read_row (takers_of c.args.graph.now) (length (types c.args.graph.now)) c.loop-left.at c.args.takers.now _ c.requires.takers c.loop-left.invariant.0 c.index-takers-at.is

pub returns-in_default : goal.returns-in_default
returns-in_default c = λ to all. none_is c.args.graph.now c.args.from to (far_away c.args.graph.now to c.args.near.now all c.args.from c.requires.from (none_by_all (near_at c.args.near.now c.args.from) c.in_default.not-Some))

pub returns-in_default-nearer : goal.returns-in_default-nearer
returns-in_default-nearer c = λ to all.
    let w = c.loop-left.invariant.1 to all in
    let left : c.loop-left.left ≡ (c.loop-left.left - 1) + 1 = omega (arith, c.loop-left-test.true) in
    absurd (one_leads c.args.graph.now to c.args.near.now all c.loop-left.at (c.loop-left.left - 1) (w.distance ∙ ap Some left) c.in_default-nearer.ensures)

pub loop-left-preserved : goal.loop-left-preserved
loop-left-preserved c =
    let leads = c.in-Some-nearer.ensures in (
      named_below c.args.graph.now leads.0.0.maker.to c.in-Some-nearer.next leads.0.0.makes,
      λ to all.
          let left : c.loop-left.left ≡ (c.loop-left.left - 1) + 1 = omega (arith, c.loop-left-test.true) in
          subst (IsOnWay c.args.graph.now to c.args.near.now c.args.from c.in-Some-nearer.next (c.loop-left.left - 1)) (sym c.in_ok-push.ensures.ok)
          (goes_on c.args.graph.now to c.args.near.now all c.args.from c.loop-left.at (c.loop-left.left - 1) c.loop-left.path
          (subst (λ n. IsOnWay c.args.graph.now to c.args.near.now c.args.from c.loop-left.at n c.loop-left.path) left (c.loop-left.invariant.1 to all)) c.in-Some-nearer.number c.in-Some-nearer.next leads.0 leads.1),
    )

pub returns : goal.returns
returns c = λ to all.
    let none : c.loop-left.left ≡ 0 = omega (arith, c.loop-left-test.false) in
    arrives c.args.graph.now to c.args.near.now all c.args.from c.loop-left.at c.loop-left.left c.loop-left.path (subst (λ n. IsOnWay c.args.graph.now to c.args.near.now c.args.from c.loop-left.at n c.loop-left.path) none (c.loop-left.invariant.1 to all))
