-- Name by name.
use Rattle.std.proofs.Common.{◌∙◌, ◌++◌, ◌∷◌, [], sym, ap, append-nil, take}
use Rattle.std.specs.Prelude.{filter_map}
use Rattle.std.specs.Option.{option_to_list}
use Rattle.type_graph.specs.Places.{place_of}
use Rattle.type_graph.proofs.ContextLemmas.{chosen_push}
use Rattle.type_graph.proofs.context.numbers_of.Goals as goal
use Rattle.type_graph.proofs.context.numbers_of.Goals.{in-Some+in_ok-push, in_default}

pub loop-name-preserved : goal.loop-name-preserved
loop-name-preserved c =
    let more = chosen_push (place_of c.args.types.now) c.args.names.now c.loop-name.name-index c.name-item.result c.loop-name-test.true c.name-item.is in
    let front = filter_map (place_of c.args.types.now) (take c.loop-name.name-index c.args.names.now) in
    elim c.match-place.branch [
      | in-Some+in_ok-push w ↦ w.numbers-is ∙ w.in_ok-push.ensures.ok ∙ ap (λ l. l ++ w.in-Some.number ∷ []) c.loop-name.invariant
          ∙ ap (λ o. front ++ option_to_list o) (w.in-Some.ensures ∙ ap (place_of c.args.types.now) c.as_slice.ensures) ∙ sym more
      | in_default w ↦ w.numbers-is ∙ c.loop-name.invariant ∙ sym (append-nil front)
          ∙ ap (λ o. front ++ option_to_list o) (w.in_default.ensures ∙ ap (place_of c.args.types.now) c.as_slice.ensures) ∙ sym more
    ]
