use Rattle.std.proofs.Common.{ap, ◌∙◌, ◌++◌}
use Rattle.std.specs.List.{flat_map}
use Rattle.build_view.specs.Boxes.{box_of, column_name, drawing_front, drawing_of, edge_of, light}
use Rattle.build_view.proofs.Added.{then, on_ok}
use Rattle.build_view.proofs.boxes.write_drawing.Goals as goal

pub returns : goal.returns
unfolding drawing_of
returns c =
    on_ok c.extend_from_slice-5.result (λ last.
    then c.args.out.now _ _ (then c.args.out.now _ _ (then c.args.out.now _ _ (then c.args.out.now _ _ (then c.args.out.now _ _ (then c.args.out.now _ _ (then c.args.out.now _ _ (then c.args.out.now _ _ (then c.args.out.now _ _ c.in_ok-extend_from_slice.ensures.ok
    (c.in_ok-write_drawing_front.ensures ∙ ap (λ x. c.extend_from_slice.new.self ++ drawing_front x) c.as_slice.ensures))
    c.in_ok-extend_from_slice-2.ensures.ok)
    (c.in_ok-write_lights.ensures ∙ ap (λ x. c.extend_from_slice-2.new.self ++ flat_map light x) c.as_slice-2.ensures))
    c.in_ok-extend_from_slice-3.ensures.ok)
    (c.in_ok-write_columns.ensures ∙ ap (λ x. c.extend_from_slice-3.new.self ++ flat_map column_name x) c.as_slice-3.ensures))
    (c.in_ok-write_edges.ensures ∙ ap (λ x. c.write_columns.new.out ++ flat_map edge_of x) c.as_slice-4.ensures))
    (c.in_ok-write_boxes.ensures ∙ ap (λ x. c.write_edges.new.out ++ flat_map box_of x) c.as_slice-5.ensures))
    c.in_ok-extend_from_slice-4.ensures.ok)
    last) (on_ok c.extend_from_slice-5.result (λ added. added ∙ ap (λ x. c.extend_from_slice-4.new.self ++ x) c.rest_words.ensures) c.extend_from_slice-5.ensures.ok)
