use Rattle.std.proofs.Common.{ap, ◌∙◌, ◌++◌, decimal, ◌*◌, ◌+◌}
use Rattle.build_view.specs.Boxes.{box_frame}
use Rattle.build_view.proofs.Added.{then, on_ok}
use Rattle.build_view.proofs.boxes.write_frame.Goals as goal

pub returns : goal.returns
unfolding box_frame
returns c =
    on_ok c.extend_from_slice-3.result (λ last.
    then c.args.out.now _ _ (then c.args.out.now _ _ (then c.args.out.now _ _ (then c.args.out.now _ _ c.in_ok-extend_from_slice.ensures.ok
    (c.in_ok-write_number.ensures.ok ∙ ap (λ x. c.extend_from_slice.new.self ++ decimal (180 * x)) c.from.ensures))
    c.in_ok-extend_from_slice-2.ensures.ok)
    (c.in_ok-write_number-2.ensures.ok ∙ ap (λ x. c.extend_from_slice-2.new.self ++ decimal (24 * x + 24)) c.from-2.ensures))
    last) c.extend_from_slice-3.ensures.ok
