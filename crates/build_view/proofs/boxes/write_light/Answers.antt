use Rattle.std.proofs.Common.{ap, ◌∙◌, ◌++◌, decimal}
use Rattle.build_view.specs.Boxes.{light}
use Rattle.build_view.proofs.Added.{then, on_ok}
use Rattle.build_view.proofs.boxes.write_light.Goals as goal

pub returns : goal.returns
unfolding light
returns c =
    on_ok c.extend_from_slice-3.result (λ last.
    then c.args.out.now _ _ (then c.args.out.now _ _ (then c.args.out.now _ _ (then c.args.out.now _ _ c.in_ok-extend_from_slice.ensures.ok
    (c.in_ok-write_number.ensures.ok ∙ ap (λ x. c.extend_from_slice.new.self ++ decimal (x)) c.from.ensures))
    c.in_ok-extend_from_slice-2.ensures.ok)
    (c.in_ok-write_number-2.ensures.ok ∙ ap (λ x. c.extend_from_slice-2.new.self ++ decimal (x)) c.from-2.ensures))
    last) c.extend_from_slice-3.ensures.ok
