use Rattle.std.proofs.Common.{ap, ◌∙◌, ◌++◌, decimal, ◌*◌, ◌+◌}
use Rattle.build_view.specs.Boxes.{drawing_front}
use Rattle.build_view.proofs.Added.{then, on_ok}
use Rattle.build_view.proofs.boxes.write_drawing_front.Goals as goal

pub returns : goal.returns
unfolding drawing_front
returns c =
    on_ok c.extend_from_slice-3.result (λ last.
    then c.args.out.now _ _ (then c.args.out.now _ _ (then c.args.out.now _ _ (then c.args.out.now _ _ c.in_ok-extend_from_slice.ensures.ok
    (c.in_ok-write_number.ensures.ok ∙ ap (λ x. c.extend_from_slice.new.self ++ decimal (180 * x)) c.column_count.ensures.count))
    c.in_ok-extend_from_slice-2.ensures.ok)
    (c.in_ok-write_number-2.ensures.ok ∙ ap (λ x. c.extend_from_slice-2.new.self ++ decimal (24 * x + 24)) c.row_count.ensures.count))
    last) c.extend_from_slice-3.ensures.ok
