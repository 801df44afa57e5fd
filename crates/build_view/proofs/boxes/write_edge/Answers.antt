use Rattle.std.proofs.Common.{ap, ◌∙◌, ◌++◌, decimal, ◌*◌, ◌+◌}
use Rattle.build_view.specs.Boxes.{edge_of}
use Rattle.build_view.proofs.Added.{then, on_ok}
use Rattle.build_view.proofs.boxes.write_edge.Goals as goal

pub returns : goal.returns
unfolding edge_of
returns c =
    on_ok c.extend_from_slice-5.result (λ last.
    then c.args.out.now _ _ (then c.args.out.now _ _ (then c.args.out.now _ _ (then c.args.out.now _ _ (then c.args.out.now _ _ (then c.args.out.now _ _ (then c.args.out.now _ _ (then c.args.out.now _ _ c.in_ok-extend_from_slice.ensures.ok
    (c.in_ok-write_number.ensures.ok ∙ ap (λ x. c.extend_from_slice.new.self ++ decimal (180 * x + 150)) c.from.ensures))
    c.in_ok-extend_from_slice-2.ensures.ok)
    (c.in_ok-write_number-2.ensures.ok ∙ ap (λ x. c.extend_from_slice-2.new.self ++ decimal (24 * x + 24 + 9)) c.from-2.ensures))
    c.in_ok-extend_from_slice-3.ensures.ok)
    (c.in_ok-write_number-3.ensures.ok ∙ ap (λ x. c.extend_from_slice-3.new.self ++ decimal (180 * x)) c.from-3.ensures))
    c.in_ok-extend_from_slice-4.ensures.ok)
    (c.in_ok-write_number-4.ensures.ok ∙ ap (λ x. c.extend_from_slice-4.new.self ++ decimal (24 * x + 24 + 9)) c.from-4.ensures))
    last) c.extend_from_slice-5.ensures.ok
