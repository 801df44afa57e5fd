use Rattle.std.proofs.Common.{◌≡◌, ◌<◌, ◌≤◌, [], length, drop, ap, ◌∙◌, sym, arith}
use Rattle.std.proofs.lemmas.List.{drop_all, length-drop}
use Rattle.std.specs.Prelude.{Some}
use Rattle.validator.proofs.Places.{places_on, one_more}
use Rattle.validator.proofs.comparing.difference.Goals as goal

pub returns-then-now-deps-clause-first : goal.returns-then-now-deps-clause-first
returns-then-now-deps-clause-first c =
    let i = c.loop-dep.dep-index in
    let past : length c.args.deps.now ≤ i = omega (arith, c.loop-dep-test.false) in
    let none : drop i c.args.deps.now ≡ [] = drop_all i c.args.deps.now past in
    let more : 0 < length (drop i c.args.now.now) = omega (arith, length-drop i c.args.now.now, c.if-now-deps.true, c.loop-dep.auto.dep-index-end, past) in
    sym (c.loop-dep.invariant.2 ∙ ap (places_on i) (one_more (drop i c.args.deps.now) (drop i c.args.now.now) none more) ∙ ap Some (omega (arith, c.loop-dep.invariant.0)))
