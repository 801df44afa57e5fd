use Rattle.std.proofs.Common.{ap, ◌∙◌, ◌++◌, decimal}
use Rattle.std.specs.List.{flat_map}
use Rattle.build_view.specs.Boxes.{box_front, use_class}
use Rattle.build_view.proofs.Added.{then, on_ok}
use Rattle.build_view.proofs.boxes.write_box_front.Goals as goal

pub returns : goal.returns
unfolding box_front
returns c =
    on_ok c.extend_from_slice-5.result (λ last.
    then c.args.out.now _ _ (then c.args.out.now _ _ (then c.args.out.now _ _ (then c.args.out.now _ _ (then c.args.out.now _ _ (then c.args.out.now _ _ (then c.args.out.now _ _ c.in_ok-extend_from_slice.ensures.ok
    (c.in_ok-write_number.ensures.ok ∙ ap (λ x. c.extend_from_slice.new.self ++ decimal (x)) c.from.ensures))
    c.in_ok-extend_from_slice-2.ensures.ok)
    (c.in_ok-extend_from_slice-3.ensures.ok ∙ ap (λ x. c.extend_from_slice-2.new.self ++ x) c.made_word.ensures))
    (c.in_ok-write_uses.ensures ∙ ap (λ x. c.extend_from_slice-3.new.self ++ flat_map use_class x) c.as_slice.ensures))
    c.in_ok-extend_from_slice-4.ensures.ok)
    (c.in_ok-write_number-2.ensures.ok ∙ ap (λ x. c.extend_from_slice-4.new.self ++ decimal (x)) c.from-2.ensures))
    last) c.extend_from_slice-5.ensures.ok
