use Rattle.std.proofs.Common.{ap, ◌∙◌, ◌++◌}
use Rattle.build_view.specs.Escaped.{words}
use Rattle.build_view.specs.Boxes.{box_of}
use Rattle.build_view.proofs.Added.{then, on_ok}
use Rattle.build_view.proofs.boxes.write_box.Goals as goal

pub returns : goal.returns
unfolding box_of
returns c =
    on_ok c.extend_from_slice.result (λ last.
    then c.args.out.now _ _ (then c.args.out.now _ _ (then c.args.out.now _ _ (then c.args.out.now _ _ c.in_ok-write_box_front.ensures
    c.in_ok-write_box_title.ensures)
    c.in_ok-write_frame.ensures)
    (c.in_ok-write_words.ensures ∙ ap (λ x. c.write_frame.new.out ++ words x) c.as_slice.ensures))
    last) c.extend_from_slice.ensures.ok
