-- Part by part.
use Rattle.std.proofs.Common.{◌∙◌, ◌<◌, sym, ap, subst, ◌+◌, map, length}
use Rattle.std.specs.Prelude.{is_some}
use Rattle.std.proofs.lemmas.List.{length-map}
use Rattle.object_values.specs.declared.graph.PartDecl.{PartDecl}
use Rattle.type_graph.specs.Places.{place_of, with_place}
use Rattle.type_graph.proofs.TwiceLemmas.{AreApart, found_twice, found_new, part_name_at}
use Rattle.type_graph.proofs.doubles.a_part_twice.Goals as goal

pub returns-then-is_some : goal.returns-then-is_some
returns-then-is_some c =
    let names = map (λ (part : PartDecl). part.name) c.args.parts.now in
    let below : c.loop-place.place < length names = subst (λ n. c.loop-place.place < n) (sym (length-map c.args.parts.now (λ (part : PartDecl). part.name))) c.loop-place-test.true in
    found_twice names c.loop-place.place c.loop-place.names c.loop-place.invariant below c.index-parts-place.result.name (part_name_at c.args.parts.now c.loop-place.place c.index-parts-place.result c.loop-place-test.true c.index-parts-place.is)
    (ap (λ n. is_some (place_of c.loop-place.names n)) (sym c.as_slice.ensures) ∙ ap is_some (sym c.place.ensures) ∙ sym c.is_some.ensures ∙ c.if-is_some.true)

pub loop-place-preserved : goal.loop-place-preserved
loop-place-preserved c =
    let names = map (λ (part : PartDecl). part.name) c.args.parts.now in
    let below : c.loop-place.place < length names = subst (λ n. c.loop-place.place < n) (sym (length-map c.args.parts.now (λ (part : PartDecl). part.name))) c.loop-place-test.true in
    subst (AreApart names (c.loop-place.place + 1)) (ap (λ n. with_place c.loop-place.names n c.loop-place.place) (sym c.as_slice-in-loop-place.ensures) ∙ sym c.in_ok-add.ensures)
    (found_new names c.loop-place.place c.loop-place.names c.loop-place.invariant below c.index-parts-place.result.name (part_name_at c.args.parts.now c.loop-place.place c.index-parts-place.result c.loop-place-test.true c.index-parts-place.is)
    (ap (λ n. is_some (place_of c.loop-place.names n)) (sym c.as_slice.ensures) ∙ ap is_some (sym c.place.ensures) ∙ sym c.is_some.ensures ∙ c.if-is_some.false))
