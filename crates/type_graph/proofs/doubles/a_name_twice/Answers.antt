-- Name by name.
use Rattle.std.proofs.Common.{◌∙◌, sym, ap, subst, [], ◌+◌}
use Rattle.std.specs.Prelude.{is_some}
use Rattle.type_graph.specs.Places.{place_of, with_place}
use Rattle.type_graph.proofs.TwiceLemmas.{AreApart, found_twice, found_new}
use Rattle.type_graph.proofs.WalkLemmas.{read_default}
use Rattle.type_graph.proofs.doubles.a_name_twice.Goals as goal

pub returns-then-is_some : goal.returns-then-is_some
returns-then-is_some c =
    found_twice c.args.uses.now c.loop-place.place c.loop-place.names c.loop-place.invariant c.loop-place-test.true c.index-uses-place.result (read_default c.args.uses.now c.loop-place.place c.index-uses-place.result [] c.loop-place-test.true c.index-uses-place.is)
    (ap (λ n. is_some (place_of c.loop-place.names n)) (sym c.as_slice.ensures) ∙ ap is_some (sym c.place.ensures) ∙ sym c.is_some.ensures ∙ c.if-is_some.true)

pub loop-place-preserved : goal.loop-place-preserved
loop-place-preserved c =
    subst (AreApart c.args.uses.now (c.loop-place.place + 1)) (ap (λ n. with_place c.loop-place.names n c.loop-place.place) (sym c.as_slice-in-loop-place.ensures) ∙ sym c.in_ok-add.ensures)
    (found_new c.args.uses.now c.loop-place.place c.loop-place.names c.loop-place.invariant c.loop-place-test.true c.index-uses-place.result (read_default c.args.uses.now c.loop-place.place c.index-uses-place.result [] c.loop-place-test.true c.index-uses-place.is)
    (ap (λ n. is_some (place_of c.loop-place.names n)) (sym c.as_slice.ensures) ∙ ap is_some (sym c.place.ensures) ∙ sym c.is_some.ensures ∙ c.if-is_some.false))
